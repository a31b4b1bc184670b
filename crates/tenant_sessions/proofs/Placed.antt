-- The elements of a list at places of it: for the calls of `CallBatch`, `PendingSet` and `Waiting`.
use Rattle.std.proofs.Common.{◌≡◌, ◌≢◌, ℕ, zero, suc, ◌<◌, ◌≤◌, List, [], ◌∷◌, ◌++◌, Bool, true, false, ◌&&◌, ◌||◌, not, filter, map, ap, sym, ◌∙◌, refl, cond, subst, arith, length, take, drop, get_or, Option, Some, None, slice_get, length-append, inl, inr}
use Rattle.std.specs.Prelude.{nat_lt, min, AllPairs}
use Rattle.std.specs.List.{list_all, filter_map, cons_option}
use Rattle.std.specs.Option.{option_map, option_map_or}
use Rattle.std.proofs.lemmas.Bool.{and_parts, eqb-true, ltb-true, lt-ltb, le-ltb, cases_lt, cases_Bool}
use Rattle.std.proofs.lemmas.List.{take_all, length-map}
use Rattle.std.proofs.lemmas.List.Elements.{filter_map-append}
use Rattle.std.proofs.lemmas.Option.{slice_get-get_or, slice_get_past, slice_get-map, slice_get_cases, get_or_from_slice_get}
use Rattle.std.proofs.lemmas.Slice.Eq.{bytes_eq-Decides}
use Rattle.std.proofs.Math.Seq.{take-suc}
use Rattle.stamps.specs.Key.{home_of}
use Rattle.plain_store.specs.declared.calls.Call.{Call}
use Rattle.plain_store.specs.declared.calls.Call.TheVariants.{Prepare, Commit, Get, Found}
use Rattle.plain_store.specs.declared.message.Message.{Message}
use Rattle.plain_store.specs.Words.{Key, Stamp, Item, Record, Tag}
use Rattle.plain_store.specs.Finding.{below}
use Rattle.plain_store.specs.Moves.{same_place}
use Rattle.plain_store.specs.Writing.{Outgoing, keys_written, record_for}
use Rattle.tenant_sessions.specs.Parts.{Prepares, Commits, First, Founds, AreApart, AnswersOne, batch_calls, is_search_at, searches, is_replaced_by, is_answered_at}
use Rattle.plain_store.proofs.ListTests.{all_push, all-filter}
use Rattle.plain_store.proofs.Members.{all_more}
use Rattle.std.proofs.Math.Bool.{or-true}
use Rattle.stamps.specs.Limits.{max_parts}

-- ---- the numbers below another

pub length-below : (n : ℕ) → length (below n) ≡ n
length-below zero = refl
length-below (suc n) = omega (arith, length-append (below n) (n ∷ []), length-below n)

get_front : {X : Type 0} (xs ys : List X) (i : ℕ) → i < length xs → slice_get (xs ++ ys) i ≡ slice_get xs i
get_front [] ys i within = absurd (omega arith)
get_front (x ∷ xs) ys zero within = refl
get_front (x ∷ xs) ys (suc i) within = get_front xs ys i (omega arith)

get_end : {X : Type 0} (xs : List X) (x : X) → slice_get (xs ++ x ∷ []) (length xs) ≡ Some x
get_end [] x = refl
get_end (y ∷ xs) x = get_end xs x

pub below_at : (n i : ℕ) → i < n → slice_get (below n) i ≡ Some i
below_at zero i within = absurd (omega arith)
below_at (suc n) i within =
    elim (cases_lt i n) [
      | inl low ↦ get_front (below n) (n ∷ []) i (omega (arith, length-below n)) ∙ below_at n i low
      | inr high ↦
          let last : i ≡ length (below n) = omega (arith, length-below n) in
          let same : n ≡ i = omega arith in
          ap (slice_get (below n ++ n ∷ [])) last ∙ get_end (below n) n ∙ ap Some same
    ]

pub below_once : (n : ℕ) → AllPairs (λ i j. i ≢ j) (below n)
below_once n i j d before within =
    let at : (k : ℕ) → k < n → get_or (below n) k d ≡ k = λ k low. get_or_from_slice_get (below n) k k d (below_at n k low) in
    let fewer : j < n = omega (arith, within, length-below n) in
    λ same. omega (arith, before, sym (at i (omega (arith, before, fewer))) ∙ same ∙ at j fewer)

pub below_past : (n i : ℕ) → n ≤ i → slice_get (below n) i ≡ None
below_past n i past = slice_get_past (below n) i (omega (arith, length-below n))

pub below_within : (m n : ℕ) → n ≤ m → list_all (λ i. nat_lt i m) (below n) ≡ true
below_within m zero small = refl
below_within m (suc n) small =
    all_push (λ i. nat_lt i m) (below n) n ∙ ap (λ b. b && nat_lt n m) (below_within m n (omega arith)) ∙ lt-ltb n m (omega arith)

-- ---- what stands at places

first_places : {X : Type 0} (xs : List X) (n : ℕ) → n ≤ length xs → filter_map (slice_get xs) (below n) ≡ take n xs
first_places xs zero within = refl
first_places [] (suc n) within = absurd (omega arith)
first_places (x ∷ xs) (suc n) within =
    filter_map-append (slice_get (x ∷ xs)) (below n) (n ∷ [])
    ∙ ap (λ o. filter_map (slice_get (x ∷ xs)) (below n) ++ cons_option o []) (slice_get-get_or (x ∷ xs) n x (omega arith))
    ∙ ap (λ ys. ys ++ get_or (x ∷ xs) n x ∷ []) (first_places (x ∷ xs) n (omega arith))
    ∙ sym (take-suc (x ∷ xs) n x (omega arith))

-- at all places of a list all its elements stand
pub every_place : {X : Type 0} (xs : List X) (n : ℕ) → n ≡ length xs → filter_map (slice_get xs) (below n) ≡ xs
every_place xs n is = first_places xs n (omega arith) ∙ take_all n xs (omega arith)

pub forgotten : {X : Type 0} (f : ℕ → Option X) (p : X → Bool) (places : List ℕ)
    → filter_map f (filter (λ i. not (option_map_or p (f i) false)) places) ≡ filter (λ x. not (p x)) (filter_map f places)
forgotten f p [] = refl
forgotten {X} f p (i ∷ is) =
    kept (not (option_map_or p (f i) false)) (filter (λ j. not (option_map_or p (f j) false)) is)
    ∙ ap (λ xs. cond (not (option_map_or p (f i) false)) (cons_option (f i) xs) xs) (forgotten f p is) ∙ left (f i) (filter_map f is)
  where
    kept : (b : Bool) (js : List ℕ) → filter_map f (cond b (i ∷ js) js) ≡ cond b (cons_option (f i) (filter_map f js)) (filter_map f js)
    kept true js = refl
    kept false js = refl

    left : (o : Option X) (xs : List X) → cond (not (option_map_or p o false)) (cons_option o (filter (λ x. not (p x)) xs)) (filter (λ x. not (p x)) xs) ≡ filter (λ x. not (p x)) (cons_option o xs)
    left None xs = refl
    left (Some x) xs = refl

pub still_all : {X : Type 0} (q p : X → Bool) (xs : List X) → list_all q xs ≡ true → list_all q (filter p xs) ≡ true
still_all q p xs all = all-filter q p xs ∙ all_more q (λ x. not (p x) || q x) xs (λ x h. ap (λ b. not (p x) || b) h ∙ or-true (not (p x))) all

there : {X : Type 0} (xs : List X) (i : ℕ) → i < length xs → (x : X) × (slice_get xs i ≡ Some x)
there [] i within = absurd (omega arith)
there (x ∷ xs) zero within = (x, refl)
there (x ∷ xs) (suc i) within = there xs i (omega arith)

module _ {X : Type 0} (xs : List X) where
  pub length-placed : (places : List ℕ) → list_all (λ i. nat_lt i (length xs)) places ≡ true → length (filter_map (slice_get xs) places) ≡ length places
  length-placed [] all = refl
  length-placed (i ∷ is) all =
      let parts = and_parts (nat_lt i (length xs)) (list_all (λ j. nat_lt j (length xs)) is) all in
      let at = there xs i (ltb-true i (length xs) parts.0) in
      ap (λ o. length (cons_option o (filter_map (slice_get xs) is))) at.1 ∙ ap suc (length-placed is parts.1)

  -- the element at a place, if there is one
  abbrev pub element_at : Option ℕ → Option X
  element_at None = None
  element_at (Some i) = slice_get xs i

  pub placed_at : (places : List ℕ) (n : ℕ) → list_all (λ j. nat_lt j (length xs)) places ≡ true → slice_get (filter_map (slice_get xs) places) n ≡ element_at (slice_get places n)
  placed_at [] n all = refl
  placed_at (j ∷ js) n all =
      let parts = and_parts (nat_lt j (length xs)) (list_all (λ k. nat_lt k (length xs)) js) all in
      let at = there xs j (ltb-true j (length xs) parts.0) in
      ap (λ o. slice_get (cons_option o (filter_map (slice_get xs) js)) n) at.1 ∙ go n at.0 at.1 (λ k. placed_at js k parts.1)
    where
      go : (k : ℕ) (x : X) → slice_get xs j ≡ Some x → ((i : ℕ) → slice_get (filter_map (slice_get xs) js) i ≡ element_at (slice_get js i)) → slice_get (x ∷ filter_map (slice_get xs) js) k ≡ element_at (slice_get (j ∷ js) k)
      go zero x at rest = sym at
      go (suc k) x at rest = rest k

-- ---- the calls of a part whose place a message's reply takes

map_or_alike : {X Y : Type 0} (f : X → Y) (p : Y → Bool) (q : X → Bool) → ((x : X) → p (f x) ≡ q x) → (o : Option X) → option_map_or p (option_map f o) false ≡ option_map_or q o false
map_or_alike f p q alike None = refl
map_or_alike f p q alike (Some x) = alike x

answered_by : {X : Type 0} (f : X → Outgoing) (q : X → Bool) (xs : List X) (message : Message) (place : ℕ) → ((x : X) → is_replaced_by message (f x) ≡ q x) → is_answered_at (map f xs) message place ≡ option_map_or q (slice_get xs place) false
answered_by f q xs message place alike =
    ap (λ o. option_map_or (is_replaced_by message) o false) (slice_get-map f xs place) ∙ map_or_alike f (is_replaced_by message) q alike (slice_get xs place)

search_place : (g : Tag) (p : ℕ) (message : Message) → same_place p (Found g) message.partition message.call ≡ searches p message
search_place g p message = go message.call
  where
    go : (call : Call) → same_place p (Found g) message.partition call ≡ is_search_at p message.partition call
    go (Get key None) = refl
    go (Get key (Some stamp)) = refl
    go _ = refl

pub searches_at : (parts : ℕ) (tag : Tag) (message : Message) (place : ℕ) → is_answered_at (batch_calls parts (Founds tag)) message place ≡ option_map_or (λ p. searches p message) (slice_get (below parts) place) false
searches_at parts tag message place = answered_by _ (λ p. searches p message) (below parts) message place (λ p. search_place tag p message)

-- ---- calls of which a message answers one at most

found_at : {X : Type 0} (q : X → Bool) (xs : List X) (i : ℕ) → option_map_or q (slice_get xs i) false ≡ true → (x : X) × (i < length xs) × (slice_get xs i ≡ Some x) × (q x ≡ true)
found_at q xs i h =
    elim ((slice_get_cases xs i).1) [
      | inl f ↦ (f.0, f.1, f.2, sym (ap (λ o. option_map_or q o false) f.2) ∙ h)
      | inr none ↦ let no : false ≡ true = sym (ap (λ o. option_map_or q o false) none.1) ∙ h in cc
    ]

-- calls of keys of which none stands twice, where a message answers only calls of its key
module _ {X K : Type 0} (key : X → K) (call : X → Outgoing) (own : (message : Message) (x y : X) → is_replaced_by message (call x) ≡ true → is_replaced_by message (call y) ≡ true → key x ≡ key y)
    (xs : List X) (once : AllPairs (λ j k. j ≢ k) (map key xs)) where
  key_at : (i : ℕ) (x : X) (d : K) → slice_get xs i ≡ Some x → get_or (map key xs) i d ≡ key x
  key_at i x d at = get_or_from_slice_get (map key xs) i (key x) d (slice_get-map key xs i ∙ ap (option_map key) at)

  not_below : (i j : ℕ) (x y : X) → slice_get xs i ≡ Some x → slice_get xs j ≡ Some y → key x ≡ key y → j < length xs → i < j → ⊥
  not_below i j x y at there same within low =
      once i j (key x) low (omega (arith, within, length-map xs key)) (key_at i x (key x) at ∙ same ∙ sym (key_at j y (key x) there))

  pub keyed_apart : AreApart (map call xs)
  keyed_apart message i j first second =
      let q = λ (x : X). is_replaced_by message (call x) in
      let a = found_at q xs i (sym (answered_by call q xs message i (λ x. refl)) ∙ first) in
      let b = found_at q xs j (sym (answered_by call q xs message j (λ x. refl)) ∙ second) in
      let same = own message a.0 b.0 a.3 b.3 in
      elim (cases_lt i j) [
        | inl low ↦ absurd (not_below i j a.0 b.0 a.2 b.2 same b.1 low)
        | inr high ↦
            elim (cases_lt j i) [
              | inl low ↦ absurd (not_below j i b.0 a.0 b.2 a.2 (sym same) a.1 low)
              | inr low ↦ omega (arith, high, low)
            ]
      ]

same_first : (p q r : ℕ) (call : Call) (a b : Key) → same_place p (Get a None) r call ≡ true → same_place q (Get b None) r call ≡ true → a ≡ b
same_first p q r (Get k None) a b first second = (bytes_eq-Decides a k).0 first ∙ sym ((bytes_eq-Decides b k).0 second)
same_first p q r (Get k (Some s)) a b first second = cc
same_first p q r _ a b first second = cc

same_prepare : (p q r : ℕ) (call : Call) (a b : Record) → same_place p (Prepare a) r call ≡ true → same_place q (Prepare b) r call ≡ true → a.key ≡ b.key
same_prepare p q r (Prepare v) a b first second = (bytes_eq-Decides a.key v.key).0 first ∙ sym ((bytes_eq-Decides b.key v.key).0 second)
same_prepare p q r (Get k None) a b first second = cc
same_prepare p q r _ a b first second = cc

as_they_are : {K : Type 0} (keys : List K) → map (λ (key : K). key) keys ≡ keys
as_they_are [] = refl
as_they_are (key ∷ keys) = ap (λ ks. key ∷ ks) (as_they_are keys)

pub first_apart : (parts : ℕ) (keys : List Key) → AllPairs (λ j k. j ≢ k) keys → AreApart (batch_calls parts (First keys))
first_apart parts keys once =
    keyed_apart (λ (key : Key). key) _ (λ message a b. same_first (home_of a parts) (home_of b parts) message.partition message.call a b) keys (subst (AllPairs (λ j k. j ≢ k)) (sym (as_they_are keys)) once)

same_commit : (s : Stamp) (a b r : ℕ) (call : Call) → same_place a (Commit s) r call ≡ true → same_place b (Commit s) r call ≡ true → a ≡ b
same_commit s a b r (Commit t) first second = eqb-true a r first ∙ sym (eqb-true b r second)
same_commit s a b r (Get k None) first second = cc
same_commit s a b r _ first second = cc

pub commits_apart : (parts : ℕ) (stamp : Stamp) (partitions : List ℕ) → AllPairs (λ i j. i < j) partitions → AreApart (batch_calls parts (Commits stamp partitions))
commits_apart parts stamp partitions ascending =
    let once : AllPairs (λ i j. i ≢ j) partitions = λ i j d before within same. omega (arith, ascending i j d before within, same) in
    keyed_apart (λ (p : ℕ). p) _ (λ message a b. same_commit stamp a b message.partition message.call) partitions (subst (AllPairs (λ i j. i ≢ j)) (sym (as_they_are partitions)) once)

recorded_keys : (stamp : Stamp) (all items : List Item) → map (λ (v : Record). v.key) (map (record_for stamp all) items) ≡ keys_written items
recorded_keys stamp all [] = refl
recorded_keys stamp all (item ∷ items) = ap (λ ks. item.key ∷ ks) (recorded_keys stamp all items)

pub prepares_apart : (parts : ℕ) (stamp : Stamp) (items : List Item) → AllPairs (λ j k. j ≢ k) (keys_written items) → AreApart (batch_calls parts (Prepares (map (record_for stamp items) items)))
prepares_apart parts stamp items once =
    keyed_apart (λ (v : Record). v.key) _ (λ message a b. same_prepare (home_of a.key parts) (home_of b.key parts) message.partition message.call a b) (map (record_for stamp items) items)
    (subst (AllPairs (λ j k. j ≢ k)) (sym (recorded_keys stamp items items)) once)

-- of calls that are apart, a message answers one of those at places of which none stands twice
pub answers_one : (calls : List Outgoing) (message : Message) (places : List ℕ) → AreApart calls → AllPairs (λ i j. i ≢ j) places → AnswersOne calls message places
answers_one calls message places apart once i j d before within first =
    elim (cases_Bool (is_answered_at calls message (get_or places j d))) [
      | inl second ↦ absurd (once i j d before within (apart message (get_or places i d) (get_or places j d) first second))
      | inr other ↦ other
    ]

-- there is a first place where the call at it is answered
pub has_first : (p : ℕ → Bool) (places : List ℕ) → option_map_or p (slice_get places 0) false ≡ true → 0 < length places
has_first p [] first = cc
has_first p (place ∷ places) first = omega arith

none_left_out : (p : ℕ → Bool) (places : List ℕ) → ((j d : ℕ) → j < length places → p (get_or places j d) ≡ false) → filter (λ place. not (p place)) places ≡ places
none_left_out p [] none = refl
none_left_out p (place ∷ places) none =
    let rest = filter (λ one. not (p one)) places in
    ap (λ b. cond (not b) (place ∷ rest) rest) (none 0 place (omega arith)) ∙ ap (λ ones. place ∷ ones) (none_left_out p places (λ j d within. none (suc j) d (omega (arith, within))))

-- where a message answers one at most, and that is at the first place, the others are left
pub first_left_out : (calls : List Outgoing) (message : Message) (places : List ℕ) → AnswersOne calls message places → option_map_or (is_answered_at calls message) (slice_get places 0) false ≡ true
    → drop 1 places ≡ filter (λ place. not (is_answered_at calls message place)) places
first_left_out calls message [] once first = cc
first_left_out calls message (place ∷ places) once first =
    let rest = filter (λ one. not (is_answered_at calls message one)) places in
    sym (ap (λ b. cond (not b) (place ∷ rest) rest) first
    ∙ none_left_out (is_answered_at calls message) places (λ j d within. once 0 (suc j) d (omega arith) (omega (arith, within)) first))

-- a mapped element at its place
pub made_at : {X Y : Type 0} (f : X → Y) (xs : List X) (all : List Y) (place : ℕ) (x : X) (y : Y) → all ≡ map f xs → slice_get xs place ≡ Some x → y ≡ f x
    → Some y ≡ slice_get all place
made_at f xs all place x y is at same = ap Some same ∙ sym (slice_get-map f xs place ∙ ap (option_map f) at) ∙ ap (λ ys. slice_get ys place) (sym is)

-- ---- what a part that begins waits for

-- the first `max_parts` places, or all, are within it
pub first_within : (calls : List Outgoing) (count : ℕ) (places : List ℕ) → places ≡ below (min count max_parts) → count ≡ length calls → list_all (λ place. nat_lt place (length calls)) places ≡ true
first_within calls count places is all = ap (list_all (λ place. nat_lt place (length calls))) is ∙ below_within (length calls) (min count max_parts) (omega (arith, all))

-- and they are all of its calls
pub first_all : (calls : List Outgoing) (count : ℕ) (places : List ℕ) → places ≡ below (min count max_parts) → count ≡ length calls → length calls ≤ max_parts → filter_map (slice_get calls) places ≡ calls
first_all calls count places is all few = ap (filter_map (slice_get calls)) is ∙ every_place calls (min count max_parts) (omega (arith, all, few))

-- and no more
pub first_few : (calls : List Outgoing) (count : ℕ) (places : List ℕ) → places ≡ below (min count max_parts) → count ≡ length calls → length (filter_map (slice_get calls) places) ≤ length calls
first_few calls count places is all =
    omega (arith, length-placed calls places (first_within calls count places is all), ap length is, length-below (min count max_parts), all)

-- there is an element at a place where it lies within the list
pub made_so : {X : Type 0} (xs : List X) (place : ℕ) (made : Bool) (x : X) → cond made (Some x) None ≡ slice_get xs place → made ≡ nat_lt place (length xs)
made_so {X} xs place made x is =
    elim (cases_lt place (length xs)) [
      | inl low ↦ let at = there xs place low in within made is at.0 at.1 ∙ sym (lt-ltb place (length xs) low)
      | inr high ↦ past made is (slice_get_past xs place high) ∙ sym (le-ltb place (length xs) high)
    ]
  where
    within : (b : Bool) → cond b (Some x) None ≡ slice_get xs place → (y : X) → slice_get xs place ≡ Some y → b ≡ true
    within true e y at = refl
    within false e y at = cc

    past : (b : Bool) → cond b (Some x) None ≡ slice_get xs place → slice_get xs place ≡ None → b ≡ false
    past true e none = cc
    past false e none = refl
