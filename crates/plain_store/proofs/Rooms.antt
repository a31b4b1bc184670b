-- A cell never keeps more versions, nor has more items, than it has room for; what is found under a tag is reported in order.
use Rattle.std.proofs.Common.{◌≡◌, ◌≢◌, ℕ, ◌+◌, ◌<◌, ◌≤◌, Bool, true, false, cond, not, ◌&&◌, ◌||◌, ◌==◌, nat_le, nat_lt, List, [], ◌∷◌, map, find, length, length-take, take, reverse, get_or, All, AllPairs, count_by, max, Option, Some, None, bytes_eq, refl, sym, ap, ◌∙◌, ◌⊎◌, inl, inr, arith}
use Rattle.std.specs.List.{list_any}
use Rattle.std.proofs.lemmas.Bool.{both_ways, le-ltb, and_parts, and_from, or_cases, or_left, or_right, or_parts, leb-true, le-leb, ltb-true}
use Rattle.std.proofs.lemmas.Bool.Decides.{nat_tests}
use Rattle.std.proofs.lemmas.List.{get_or-take, reverse-append, take_more}
use Rattle.std.proofs.lemmas.List.Elements.{All-cons, All-nil}
use Rattle.std.proofs.lemmas.List.Kept.{AllPairs-cons, AllPairs-filter}
use Rattle.std.proofs.lemmas.List.Sorted.{length_permutation}
use Rattle.std.proofs.lemmas.List.Sums.{length-filter, count_by-le-length}
use Rattle.std.proofs.lemmas.Slice.Eq.{bytes_eq-Decides}
use Rattle.stamps.specs.Key.{IsKeyBelow, sorted_keys}
use Rattle.stamps.specs.Limits.{max_found}
use Rattle.stamps.proofs.SortLemmas.{sorted_keys-IsAscending, sorted_keys-IsPermutation}
use Rattle.plain_store.specs.Words.{Key, Tag, Record, Room, Call, Prepare, Commit, Get, Found, Collect, Discard, PrepareReply, Prepared, FullSlots, FullItems, Discarded, Reply, ToPrepare}
use Rattle.plain_store.specs.Stamps.{kth_greatest}
use Rattle.plain_store.specs.FoundKeys.{IsFound}
use Rattle.plain_store.specs.Log.{Exchange, Log, is_version, is_prepared, discards, is_live, is_committed, versions, committed, floor, is_kept, kept, distinct, items}
use Rattle.plain_store.specs.Marks.{mark}
use Rattle.stamps.specs.Stamp.{client_of}
use Rattle.plain_store.specs.Tags.{is_under, under, findings}
use Rattle.plain_store.specs.Replies.{known_or, prepare_reply, reply_after, log_of, IsSound}
use Rattle.plain_store.proofs.Counting.{In, find_is, any_is, In-filter, map-In, count_by-cons, count_by-le, none_found}
use Rattle.plain_store.proofs.Logs.{is_version-parts, is_version-from, live_prepared, committed_prepared, any_distinct, IsUnknown, floor_none}
use Rattle.plain_store.proofs.Different.{IsApart, versions_apart}

-- ---- distinct keys

all_apart : (key : Key) (keys : List Key) → list_any (bytes_eq key) keys ≡ false → All (λ k. key ≢ k) keys
all_apart key [] none = All-nil (λ k. key ≢ k)
all_apart key (k ∷ ks) none = by (bytes_eq key k) refl none (all_apart key ks)
  where
    by : (b : Bool) → bytes_eq key k ≡ b → (b || list_any (bytes_eq key) ks) ≡ false → (list_any (bytes_eq key) ks ≡ false → All (λ k. key ≢ k) ks) → All (λ k. key ≢ k) (k ∷ ks)
    by true e rest more = cc
    by false e rest more = All-cons (λ k. key ≢ k) k ks (λ same. both_ways _ e ((bytes_eq-Decides key k).1 same)) (more rest)

distinct-apart : (keys : List Key) → AllPairs (λ j k. j ≢ k) (distinct keys)
distinct-apart [] = λ i j d below within. absurd (omega (arith, within))
distinct-apart (key ∷ keys) = by (list_any (bytes_eq key) keys) refl (distinct-apart keys)
  where
    by : (b : Bool) → list_any (bytes_eq key) keys ≡ b → AllPairs (λ j k. j ≢ k) (distinct keys) → AllPairs (λ j k. j ≢ k) (cond b (distinct keys) (key ∷ distinct keys))
    by true e more = more
    by false e more = AllPairs-cons (λ j k. j ≢ k) key (distinct keys) (all_apart key (distinct keys) (any_distinct key keys ∙ e)) more

-- the items of a log are different
pub items-apart : (log : Log) → AllPairs (λ j k. j ≢ k) (items log)
items-apart log = distinct-apart (map (λ (v : Record). v.key) (versions log))

AllPairs-take : {X : Type 0} (R : X → X → Type 0) (n : ℕ) (xs : List X) → AllPairs R xs → AllPairs R (take n xs)
AllPairs-take R n xs all i j d below within =
    let short : length (take n xs) ≤ n = omega (arith, length-take n xs) in
    rw (get_or-take n xs i d (omega arith), get_or-take n xs j d (omega arith)) (all i j d below (omega (arith, length-take n xs)))

pub findings-IsFound : (log : Log) (tag : Tag) → IsFound (findings log tag)
unfolding under
findings-IsFound log tag =
    let keys = under log tag in
    let apart : AllPairs (λ j k. j ≢ k) keys = AllPairs-filter (λ j k. j ≢ k) (is_under log tag) (items log) (items-apart log) in
    record {
      ascending = AllPairs-take IsKeyBelow max_found (sorted_keys keys) (sorted_keys-IsAscending keys apart);
      as_many = omega (arith, length-take max_found (sorted_keys keys), length_permutation keys (sorted_keys keys) (sorted_keys-IsPermutation keys));
    }

-- ---- slots

-- where there is no refusal, there is room
room_from : (marked full : Bool) (n slots : ℕ) → cond marked Discarded (cond full FullItems (cond (n == slots) FullSlots Prepared)) ≡ Prepared → n ≤ slots → n + 1 ≤ slots
room_from true full n slots accepted within = cc
room_from false true n slots accepted within = cc
room_from false false n slots accepted within = by (n == slots) refl accepted
  where
    by : (b : Bool) → (n == slots) ≡ b → cond b FullSlots Prepared ≡ Prepared → n + 1 ≤ slots
    by true e same = cc
    by false e same = grind (arith, nat_tests)

not_kept : (log : Log) (v : Record) → list_any (is_version v.key v.stamp) (versions log) ≡ false → find (is_version v.key v.stamp) (kept log) ≡ None
not_kept log v new =
    let p = is_version v.key v.stamp in
    none_found p (kept log) (λ x i. by x i (p x) refl)
  where
    by : (x : Record) → In x (kept log) → (b : Bool) → is_version v.key v.stamp x ≡ b → is_version v.key v.stamp x ≡ false
    by x i false e = e
    by x i true e = absurd (both_ways _ new (any_is (is_version v.key v.stamp) (versions log) x (In-filter (is_kept log) x (versions log) i).0 e))

-- what passes one test passes one of two others
count_either : {X : Type 0} (p q r : X → Bool) (xs : List X) → ((x : X) → p x ≡ true → (q x || r x) ≡ true) → count_by p xs ≤ count_by q xs + count_by r xs
count_either p q r [] h = omega arith
count_either p q r (x ∷ xs) h =
    let head = first (p x) (q x) (r x) (h x) in
    omega (arith, count_by-cons p x xs, count_by-cons q x xs, count_by-cons r x xs, head, count_either p q r xs h)
  where
    first : (a b c : Bool) → (a ≡ true → (b || c) ≡ true) → cond a 1 0 ≤ cond b 1 0 + cond c 1 0
    first false b c k = omega arith
    first true true c k = omega arith
    first true false true k = omega arith
    first true false false k = let never = k refl in cc

count_nothing : {X : Type 0} (p : X → Bool) (xs : List X) → list_any p xs ≡ false → count_by p xs ≡ 0
count_nothing p [] h = refl
count_nothing p (x ∷ xs) h =
    let o = or_parts (p x) (list_any p xs) h in
    let here = ap {B = ℕ} (λ b. cond b 1 0) o.0 in
    omega (arith, count_by-cons p x xs, here, count_nothing p xs o.1)

-- of records of different versions one is of a version
count_version : (key : Key) (stamp : ℕ) (vs : List Record) → IsApart vs → count_by (is_version key stamp) vs ≤ 1
count_version key stamp [] apart = omega arith
count_version key stamp (v ∷ vs) apart = go (is_version key stamp v) refl (count_version key stamp vs apart.1)
  where
    go : (b : Bool) → is_version key stamp v ≡ b → count_by (is_version key stamp) vs ≤ 1 → count_by (is_version key stamp) (v ∷ vs) ≤ 1
    go true e rest =
        let p = is_version-parts key stamp v e in
        let none : list_any (is_version key stamp) vs ≡ false = (λ i. list_any (is_version (sym p.0 i) (sym p.1 i)) vs) ∙ apart.0 in
        let here = ap {B = ℕ} (λ b. cond b 1 0) e in
        omega (arith, count_by-cons (is_version key stamp) v vs, here, count_nothing (is_version key stamp) vs none)
    go false e rest =
        let here = ap {B = ℕ} (λ b. cond b 1 0) e in
        omega (arith, count_by-cons (is_version key stamp) v vs, here, rest)

-- what was never accepted is not kept
unknown_unkept : (log : Log) (v : Record) → list_any (is_version v.key v.stamp) (versions log) ≡ false → is_kept log v ≡ false
unknown_unkept log v new = go (is_kept log v) refl
  where
    go : (b : Bool) → is_kept log v ≡ b → is_kept log v ≡ false
    go false e = e
    go true e =
        let p = and_parts (nat_le (floor log v.key) v.stamp) (is_committed log v.key v.stamp || is_live log v.key v.stamp) e in
        absurd (both_ways _ new (known (or_cases (is_committed log v.key v.stamp) (is_live log v.key v.stamp) p.1)))
      where
        known : (is_committed log v.key v.stamp ≡ true) ⊎ (is_live log v.key v.stamp ≡ true) → is_prepared log v.key v.stamp ≡ true
        known (inl c) = committed_prepared log v.key v.stamp c
        known (inr l) = live_prepared log v.key v.stamp l

-- a collection gives up and adds none
kept_falls : (k : ℕ) (reply : Reply) (before : Log) → length (kept (record { call = Collect k; reply = reply } ∷ before)) ≤ length (kept before)
kept_falls k reply before =
    let now = is_kept (record { call = Collect k; reply = reply } ∷ before) in
    omega (arith, length-filter now (versions before), length-filter (is_kept before) (versions before), count_by-le now (is_kept before) (versions before) less)
  where
    less : (r : Record) → is_kept (record { call = Collect k; reply = reply } ∷ before) r ≡ true → is_kept before r ≡ true
    less r h =
        let above = nat_le (max (floor before r.key) (kth_greatest k (committed before r.key))) r.stamp in
        let p = and_parts above (is_committed before r.key r.stamp || is_live before r.key r.stamp) h in
        and_from (nat_le (floor before r.key) r.stamp) (is_committed before r.key r.stamp || is_live before r.key r.stamp) (lower (leb-true _ _ p.0)) p.1
      where
        lower : max (floor before r.key) (kth_greatest k (committed before r.key)) ≤ r.stamp → nat_le (floor before r.key) r.stamp ≡ true
        lower l = le-leb (floor before r.key) r.stamp (omega (arith, l))

-- a COMMIT keeps nothing anew, and neither does a DISCARD
commit_keeps : (s : ℕ) (reply : Reply) (before : Log) → length (kept (record { call = Commit s; reply = reply } ∷ before)) ≤ length (kept before)
commit_keeps s reply before =
    let now = is_kept (record { call = Commit s; reply = reply } ∷ before) in
    omega (arith, length-filter now (versions before), length-filter (is_kept before) (versions before), count_by-le now (is_kept before) (versions before) less)
  where
    less : (r : Record) → is_kept (record { call = Commit s; reply = reply } ∷ before) r ≡ true → is_kept before r ≡ true
    less r h =
        let by = (r.stamp == s) && is_live before r.key r.stamp in
        let p = and_parts (nat_le (floor before r.key) r.stamp) ((by || is_committed before r.key r.stamp) || is_live before r.key r.stamp) h in
        and_from (nat_le (floor before r.key) r.stamp) (is_committed before r.key r.stamp || is_live before r.key r.stamp) p.0
        (either (r.stamp == s) (is_live before r.key r.stamp) (is_committed before r.key r.stamp) p.1)
      where
        either : (a l c : Bool) → (((a && l) || c) || l) ≡ true → (c || l) ≡ true
        either true true true t = refl
        either true true false t = refl
        either true false true t = refl
        either true false false t = t
        either false l c t = t

discard_keeps : (s : ℕ) (reply : Reply) (before : Log) → length (kept (record { call = Discard s; reply = reply } ∷ before)) ≤ length (kept before)
discard_keeps s reply before =
    let e : Exchange = record { call = Discard s; reply = reply } in
    omega (arith, length-filter (is_kept (e ∷ before)) (versions before), length-filter (is_kept before) (versions before), count_by-le (is_kept (e ∷ before)) (is_kept before) (versions before) less)
  where
    less : (r : Record) → is_kept (record { call = Discard s; reply = reply } ∷ before) r ≡ true → is_kept before r ≡ true
    less r h =
        let e : Exchange = record { call = Discard s; reply = reply } in
        let p = and_parts (nat_le (floor before r.key) r.stamp) (is_committed before r.key r.stamp || (not (discards e r.stamp) && is_live before r.key r.stamp)) h in
        and_from (nat_le (floor before r.key) r.stamp) (is_committed before r.key r.stamp || is_live before r.key r.stamp) p.0
        (either (is_committed before r.key r.stamp) (not (discards e r.stamp)) (is_live before r.key r.stamp) p.1)
      where
        either : (c d l : Bool) → (c || (d && l)) ≡ true → (c || l) ≡ true
        either true d l t = refl
        either false true l t = t
        either false false l t = cc

-- ---- a version that is accepted

module _ (room : Room) (v : Record) (before : Log) (accepted : prepare_reply room before v ≡ Prepared) (within : length (kept before) ≤ room.slots) where
  abbrev accepting : Log
  accepting = record { call = Prepare v; reply = ToPrepare Prepared } ∷ before

  -- what is kept then was kept, or is this version
  kept_or : (w : Record) → is_kept accepting w ≡ true → (nat_le (floor before w.key) w.stamp ≡ true) × ((is_kept before w ≡ true) ⊎ (is_version w.key w.stamp v ≡ true))
  kept_or w h =
      let p = and_parts (nat_le (floor before w.key) w.stamp) (is_committed before w.key w.stamp || (is_version w.key w.stamp v || is_live before w.key w.stamp)) h in
      (p.0, go p.0 (or_cases (is_committed before w.key w.stamp) (is_version w.key w.stamp v || is_live before w.key w.stamp) p.1))
    where
      old : nat_le (floor before w.key) w.stamp ≡ true → (is_committed before w.key w.stamp || is_live before w.key w.stamp) ≡ true → is_kept before w ≡ true
      old a b = and_from (nat_le (floor before w.key) w.stamp) (is_committed before w.key w.stamp || is_live before w.key w.stamp) a b

      new : nat_le (floor before w.key) w.stamp ≡ true → (is_version w.key w.stamp v ≡ true) ⊎ (is_live before w.key w.stamp ≡ true) → (is_kept before w ≡ true) ⊎ (is_version w.key w.stamp v ≡ true)
      new a (inl t) = inr t
      new a (inr l) = inl (old a (or_right (is_committed before w.key w.stamp) (is_live before w.key w.stamp) l))

      go : nat_le (floor before w.key) w.stamp ≡ true → (is_committed before w.key w.stamp ≡ true) ⊎ ((is_version w.key w.stamp v || is_live before w.key w.stamp) ≡ true) → (is_kept before w ≡ true) ⊎ (is_version w.key w.stamp v ≡ true)
      go a (inl c) = inl (old a (or_left (is_committed before w.key w.stamp) (is_live before w.key w.stamp) c))
      go a (inr t) = new a (or_cases (is_version w.key w.stamp v) (is_live before w.key w.stamp) t)

  -- none more of the versions were kept
  old_count : count_by (is_kept before) (versions accepting) ≤ count_by (is_kept before) (versions before)
  old_count = by (list_any (is_version v.key v.stamp) (versions before)) refl
    where
      by : (b : Bool) → list_any (is_version v.key v.stamp) (versions before) ≡ b → count_by (is_kept before) (cond b (versions before) (v ∷ versions before)) ≤ count_by (is_kept before) (versions before)
      by true e = omega arith
      by false e =
          let here = ap {B = ℕ} (λ b. cond b 1 0) (unknown_unkept before v e) in
          omega (arith, count_by-cons (is_kept before) v (versions before), here)

  one_more : length (kept accepting) ≤ length (kept before) + 1
  one_more =
      let each = count_either (is_kept accepting) (is_kept before) (is_version v.key v.stamp) (versions accepting) (λ w h. go w (kept_or w h).1) in
      let one = count_version v.key v.stamp (versions accepting) (versions_apart accepting) in
      omega (arith, each, one, old_count, length-filter (is_kept accepting) (versions accepting), length-filter (is_kept before) (versions before))
    where
      go : (w : Record) → (is_kept before w ≡ true) ⊎ (is_version w.key w.stamp v ≡ true) → (is_kept before w || is_version v.key v.stamp w) ≡ true
      go w (inl k) = or_left (is_kept before w) (is_version v.key v.stamp w) k
      go w (inr t) = let p = is_version-parts w.key w.stamp v t in or_right (is_kept before w) (is_version v.key v.stamp w) (is_version-from v.key v.stamp w (sym p.0) (sym p.1))

  no_more : ((w : Record) → nat_le (floor before w.key) w.stamp ≡ true → is_version w.key w.stamp v ≡ true → is_kept before w ≡ true) → length (kept accepting) ≤ length (kept before)
  no_more kept_then =
      let each = count_by-le (is_kept accepting) (is_kept before) (versions accepting) (λ w h. let k = kept_or w h in go w k.0 k.1) in
      omega (arith, each, old_count, length-filter (is_kept accepting) (versions accepting), length-filter (is_kept before) (versions before))
    where
      go : (w : Record) → nat_le (floor before w.key) w.stamp ≡ true → (is_kept before w ≡ true) ⊎ (is_version w.key w.stamp v ≡ true) → is_kept before w ≡ true
      go w a (inl k) = k
      go w a (inr t) = kept_then w a t

  pub accepting_within : length (kept accepting) ≤ room.slots
  unfolding prepare_reply
  accepting_within = floored (nat_lt v.stamp (floor before v.key)) refl accepted
    where
      missing : PrepareReply
      missing = cond (nat_le v.stamp (mark before (client_of v.stamp))) Discarded
          (cond (not (list_any (bytes_eq v.key) (items before)) && (length (items before) == room.items)) FullItems (cond (length (kept before) == room.slots) FullSlots Prepared))

      under_floor : nat_lt v.stamp (floor before v.key) ≡ true → (w : Record) → nat_le (floor before w.key) w.stamp ≡ true → is_version w.key w.stamp v ≡ true → is_kept before w ≡ true
      under_floor f w a t =
          let p = is_version-parts w.key w.stamp v t in
          let low : w.stamp < floor before w.key = ltb-true w.stamp (floor before w.key) ((λ i. nat_lt (sym p.1 i) (floor before (sym p.0 i))) ∙ f) in
          let high = leb-true (floor before w.key) w.stamp a in
          absurd (omega (arith, low, high))

      was_kept : (u : Record) → find (is_version v.key v.stamp) (kept before) ≡ Some u → (w : Record) → nat_le (floor before w.key) w.stamp ≡ true → is_version w.key w.stamp v ≡ true → is_kept before w ≡ true
      was_kept u at w a t =
          let f = find_is (is_version v.key v.stamp) (kept before) u at in
          let q = is_version-parts v.key v.stamp u f.1 in
          let p = is_version-parts w.key w.stamp v t in
          let k : w.key ≡ u.key = sym p.0 ∙ sym q.0 in
          let s : w.stamp ≡ u.stamp = sym p.1 ∙ sym q.1 in
          (λ i. nat_le (floor before (k i)) (s i) && (is_committed before (k i) (s i) || is_live before (k i) (s i))) ∙ (In-filter (is_kept before) u (versions before) f.0).1

      found : (o : Option Record) → find (is_version v.key v.stamp) (kept before) ≡ o → known_or v missing o ≡ Prepared → length (kept accepting) ≤ room.slots
      found None e a =
          omega (arith, one_more, room_from (nat_le v.stamp (mark before (client_of v.stamp))) (not (list_any (bytes_eq v.key) (items before)) && (length (items before) == room.items)) (length (kept before)) room.slots a within)
      found (Some u) e a = omega (arith, no_more (was_kept u e), within)

      floored : (b : Bool) → nat_lt v.stamp (floor before v.key) ≡ b → cond b Prepared (known_or v missing (find (is_version v.key v.stamp) (kept before))) ≡ Prepared → length (kept accepting) ≤ room.slots
      floored true f a = omega (arith, no_more (under_floor f), within)
      floored false f a = found (find (is_version v.key v.stamp) (kept before)) refl a

kept_step : (room : Room) (call : Call) (reply : Reply) (before : Log) → reply ≡ reply_after room before call → length (kept before) ≤ room.slots
    → length (kept (record { call = call; reply = reply } ∷ before)) ≤ room.slots
unfolding reply_after
kept_step room (Prepare v) reply before is within = rw is (replied (prepare_reply room before v) refl)
  where
    replied : (o : PrepareReply) → prepare_reply room before v ≡ o → length (kept (record { call = Prepare v; reply = ToPrepare o } ∷ before)) ≤ room.slots
    replied Prepared e = accepting_within room v before e within
    replied _ e = within
kept_step room (Commit s) reply before is within = omega (arith, commit_keeps s reply before, within)
kept_step room (Get key s) reply before is within = within
kept_step room (Found tag) reply before is within = within
kept_step room (Collect k) reply before is within = omega (arith, kept_falls k reply before, within)
kept_step room (Discard s) reply before is within = omega (arith, discard_keeps s reply before, within)

pub kept_within : (room : Room) (log : Log) → IsSound room log → length (kept log) ≤ room.slots
kept_within room [] sound = omega arith
kept_within room (e ∷ before) sound = kept_step room e.call e.reply before sound.0 (kept_within room before sound.1)

-- ---- items

unknown_item : (log : Log) (key : Key) → list_any (bytes_eq key) (map (λ (v : Record). v.key) (versions log)) ≡ false → IsUnknown log key
unknown_item log key none w i = by (bytes_eq w.key key) refl
  where
    by : (b : Bool) → bytes_eq w.key key ≡ b → bytes_eq w.key key ≡ false
    by false e = e
    by true e =
        let same : bytes_eq key w.key ≡ true = (bytes_eq-Decides key w.key).1 (sym ((bytes_eq-Decides w.key key).0 e)) in
        absurd (both_ways _ none (any_is (bytes_eq key) (map (λ (v : Record). v.key) (versions log)) w.key (map-In (λ (v : Record). v.key) w (versions log) i) same))

entry_from : (marked : Bool) (n items : ℕ) (full : Bool) → cond marked Discarded (cond (n == items) FullItems (cond full FullSlots Prepared)) ≡ Prepared → n ≤ items → n + 1 ≤ items
entry_from true n items full accepted within = cc
entry_from false n items full accepted within = by (n == items) refl accepted
  where
    by : (b : Bool) → (n == items) ≡ b → cond b FullItems (cond full FullSlots Prepared) ≡ Prepared → n + 1 ≤ items
    by true e same = cc
    by false e same = grind (arith, nat_tests)

-- an item of which nothing was accepted gets a version only where there is room for an entry
entry_left : (room : Room) (log : Log) (v : Record) → list_any (is_version v.key v.stamp) (versions log) ≡ false
    → list_any (bytes_eq v.key) (map (λ (w : Record). w.key) (versions log)) ≡ false
    → prepare_reply room log v ≡ Prepared → length (items log) ≤ room.items → length (items log) + 1 ≤ room.items
unfolding prepare_reply
entry_left room log v new unknown accepted within =
    let none : list_any (bytes_eq v.key) (items log) ≡ false = any_distinct v.key (map (λ (w : Record). w.key) (versions log)) ∙ unknown in
    let above : nat_lt v.stamp (floor log v.key) ≡ false = le-ltb _ _ (omega (arith, floor_none log v.key (unknown_item log v.key unknown))) in
    entry_from (nat_le v.stamp (mark log (client_of v.stamp))) (length (items log)) room.items (length (kept log) == room.slots) (rw (above, not_kept log v new, none) at accepted) within

items_step : (room : Room) (call : Call) (reply : Reply) (before : Log) → reply ≡ reply_after room before call → length (items before) ≤ room.items
    → length (items (record { call = call; reply = reply } ∷ before)) ≤ room.items
unfolding reply_after
items_step room (Prepare v) reply before is within = rw is (replied (prepare_reply room before v) refl)
  where
    entered : (b : Bool) → list_any (bytes_eq v.key) (map (λ (w : Record). w.key) (versions before)) ≡ b → list_any (is_version v.key v.stamp) (versions before) ≡ false
        → prepare_reply room before v ≡ Prepared → length (cond b (items before) (v.key ∷ items before)) ≤ room.items
    entered true e new accepted = within
    entered false e new accepted = omega (arith, entry_left room before v new e accepted within)

    stored : (b : Bool) → list_any (is_version v.key v.stamp) (versions before) ≡ b → prepare_reply room before v ≡ Prepared
        → length (distinct (map (λ (w : Record). w.key) (cond b (versions before) (v ∷ versions before)))) ≤ room.items
    stored true e accepted = within
    stored false e accepted = entered (list_any (bytes_eq v.key) (map (λ (w : Record). w.key) (versions before))) refl e accepted

    replied : (o : PrepareReply) → prepare_reply room before v ≡ o → length (items (record { call = Prepare v; reply = ToPrepare o } ∷ before)) ≤ room.items
    replied Prepared e = stored (list_any (is_version v.key v.stamp) (versions before)) refl e
    replied _ e = within
items_step room _ reply before is within = within

pub items_within : (room : Room) (log : Log) → IsSound room log → length (items log) ≤ room.items
items_within room [] sound = omega arith
items_within room (e ∷ before) sound = items_step room e.call e.reply before sound.0 (items_within room before sound.1)

-- so their numbers are those of a count
pub under_within : (room : Room) (log : Log) (tag : Tag) → IsSound room log → length (under log tag) ≤ room.items
unfolding under
under_within room log tag sound =
    omega (arith, items_within room log sound, length-filter (is_under log tag) (items log), count_by-le-length (is_under log tag) (items log))

pub counted_within : (room : Room) (log : Log) (p : Record → Bool) → IsSound room log → count_by p (kept log) ≤ room.slots
counted_within room log p sound = omega (arith, kept_within room log sound, count_by-le-length p (kept log))

-- ---- the log of a list of calls

pub log_of-IsSound : (room : Room) (calls : List Call) → IsSound room (log_of room calls)
unfolding log_of
log_of-IsSound room [] = tt
log_of-IsSound room (call ∷ before) = (refl, log_of-IsSound room before)

-- one more call in turn
pub log_of-more : (room : Room) (calls : List Call) (i : ℕ) (call : Call) (reply : Reply) (log : Log) {seen listed new : Log} → log ≡ log_of room (reverse (take i calls)) → i < length calls
    → call ≡ get_or calls i call → seen ≡ log → reply ≡ reply_after room seen call → listed ≡ log → new ≡ record { call = call; reply = reply } ∷ listed
    → new ≡ log_of room (reverse (take (i + 1) calls))
unfolding log_of
log_of-more room calls i call reply log so within is as_seen answer as_listed made =
    made ∙ rw (take_more calls i call within, reverse-append, ← is, ← so, as_listed, answer, as_seen) refl
