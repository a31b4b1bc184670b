-- Rows of journals, of each of which there is the joined one.
use Rattle.std.proofs.Common.{◌≡◌, ◌⊎◌, inl, inr, ℕ, zero, suc, ◌<◌, ◌≤◌, List, [], ◌∷◌, ◌++◌, length, Option, Some, None, Result, Ok, Err, refl, sym, ap, ◌∙◌, subst, arith}
use Rattle.std.specs.Prelude.{slice_get, IsErrAnd, IsErrOf}
use Rattle.std.specs.Global.{Vec}
use Rattle.std.proofs.lemmas.List.{append-nil, append_assoc, length-append}
use Rattle.std.proofs.lemmas.Option.{same_Some, slice_get_within}
use Rattle.stamps.specs.declared.bounds.Limits.{Limits}
use Rattle.partition.specs.Events.{Event}
use Rattle.partition.specs.declared.journal.Epoch.{Epoch}
use Rattle.partition.specs.declared.journal.Journal.{Journal}
use Rattle.partition.specs.Journals.{IsSoundUnder, room_for}
use Rattle.partition.specs.Accounts.{epoch_start_of, new_account}
use Rattle.closed_store.specs.Joins.{IsJoined, IsRowJoined, RowFits, AllFit, AreKnown, AreJoined, AllRise, AllSound, DoRise, Fit, journal_in, journal_at, given_for, left_in, events_of}
use Rattle.closed_store.proofs.Ordered.{get_left, same_order}
use Rattle.closed_store.proofs.Sounded.{sound_joined}

-- ---- lists

-- an element of a list that grew by one is one of the earlier ones, or the new one
get_grown : {X : Type 0} (xs : List X) (y : X) (k : ℕ) (x : X) → slice_get (xs ++ y ∷ []) k ≡ Some x
    → (slice_get xs k ≡ Some x) ⊎ ((length xs ≡ k) × (y ≡ x))
get_grown [] y zero x at = inr (refl, same_Some y x at)
get_grown [] y (suc k) x at = absurd (cc)
get_grown (z ∷ zs) y zero x at = inl at
get_grown (z ∷ zs) y (suc k) x at = later (get_grown zs y k x at)
  where
    later : (slice_get zs k ≡ Some x) ⊎ ((length zs ≡ k) × (y ≡ x)) → (slice_get zs k ≡ Some x) ⊎ ((length (z ∷ zs) ≡ suc k) × (y ≡ x))
    later (inl before) = inl before
    later (inr here) = inr (ap suc here.0, here.1)

get_seam : {X : Type 0} (xs : List X) (y : X) (ys : List X) → slice_get (xs ++ y ∷ ys) (length xs) ≡ Some y
get_seam [] y ys = refl
get_seam (x ∷ xs) y ys = get_seam xs y ys

pub get_within : {X : Type 0} (xs : List X) (k : ℕ) → k < length xs → (x : X) × (slice_get xs k ≡ Some x)
get_within [] k lt = absurd (omega (arith, lt))
get_within (x ∷ xs) zero lt = (x, refl)
get_within (x ∷ xs) (suc k) lt = get_within xs k (omega (arith, lt))

one_longer : {X Y : Type 0} (xs : List X) (ys : List Y) (x : X) (y : Y) → length ys ≡ length xs → length (ys ++ y ∷ []) ≡ length (xs ++ x ∷ [])
one_longer xs ys x y same = omega (arith, same, length-append xs (x ∷ []), length-append ys (y ∷ []))

-- the next element of a list of which some were taken
pub at_next : {X : Type 0} (all taken rest later : List X) (x : X) (place : ℕ) → all ≡ taken ++ rest → rest ≡ x ∷ later → length taken ≡ place
    → slice_get all place ≡ Some x
at_next all taken rest later x place split is here =
    ap (λ xs. slice_get xs place) (split ∙ ap (λ xs. taken ++ xs) is) ∙ ap (slice_get (taken ++ x ∷ later)) (sym here) ∙ get_seam taken x later

pub one_taken : {X : Type 0} (all taken rest later : List X) (x : X) → all ≡ taken ++ rest → rest ≡ x ∷ later → all ≡ (taken ++ x ∷ []) ++ later
one_taken all taken rest later x split is = split ∙ ap (λ xs. taken ++ xs) is ∙ sym (append_assoc taken (x ∷ []) later)

pub all_taken : {X : Type 0} (all taken rest : List X) → all ≡ taken ++ rest → length rest ≡ 0 → all ≡ taken
all_taken all taken [] split none = split ∙ append-nil taken
all_taken all taken (x ∷ rest) split none = absurd (omega (arith, none))

-- what `?` passes on is the error that it got
pub same_fault : {A B E : Type 0} (r : Result A E) (e f : E) → IsErrAnd r (λ x. x ≡ e) → IsErrOf r f → IsErrOf {T = B} (Err e) f
same_fault (Ok x) e f is same = absurd is
same_fault (Err x) e f is same = ap Err (sym is ∙ (let both : x ≡ f = cc in both))

-- ---- journals by partition and tenant

pub journal_is : (rows : List (Vec Journal)) (partition tenant : ℕ) (row : Vec Journal) → slice_get rows partition ≡ Some row
    → journal_at rows partition tenant ≡ slice_get row.items tenant
journal_is rows partition tenant row is = ap (λ (o : Option (Vec Journal)). journal_in o tenant) is

-- a journal that is there stands in some row
in_row : (rows : List (Vec Journal)) (partition tenant : ℕ) (journal : Journal) → journal_at rows partition tenant ≡ Some journal
    → (row : Vec Journal) × (slice_get rows partition ≡ Some row) × (slice_get row.items tenant ≡ Some journal)
in_row rows partition tenant journal at = go (slice_get rows partition) refl at
  where
    go : (o : Option (Vec Journal)) → slice_get rows partition ≡ o → journal_in o tenant ≡ Some journal
        → (row : Vec Journal) × (slice_get rows partition ≡ Some row) × (slice_get row.items tenant ≡ Some journal)
    go None is none = absurd (cc)
    go (Some row) is there = (row, is, there)

-- ---- one row

module _ (limits : List Limits) (given : List (ℕ × ℕ × Epoch)) (partition : ℕ) where
  pub row_none : IsRowJoined limits given partition [] []
  row_none = record { each = λ tenant journal at. absurd (cc); as_many = refl }

  pub row_more : (row joined : List Journal) (journal answer : Journal) (its : Limits)
      → IsRowJoined limits given partition row joined → slice_get limits (length joined) ≡ Some its
      → IsJoined its (given_for given partition (length joined)) (left_in journal) answer
      → IsRowJoined limits given partition (row ++ journal ∷ []) (joined ++ answer ∷ [])
  row_more row joined journal answer its before its_is is = record {
    each = λ tenant other at. go tenant other (get_grown row journal tenant other at);
    as_many = one_longer row joined journal answer before.as_many;
  }
    where
      keep : (tenant : ℕ) (other : Journal) (l : Limits) (a : Journal) → slice_get limits tenant ≡ Some l → slice_get joined tenant ≡ Some a
          → IsJoined l (given_for given partition tenant) (left_in other) a
          → (l : Limits) × (a : Journal) × (slice_get limits tenant ≡ Some l) × (slice_get (joined ++ answer ∷ []) tenant ≡ Some a)
          × IsJoined l (given_for given partition tenant) (left_in other) a
      keep tenant other l a l_is a_is joins = (l, a, l_is, get_left joined (answer ∷ []) tenant a a_is, joins)

      again : (tenant : ℕ) (other : Journal) → (l : Limits) × (a : Journal) × (slice_get limits tenant ≡ Some l) × (slice_get joined tenant ≡ Some a)
          × IsJoined l (given_for given partition tenant) (left_in other) a
          → (l : Limits) × (a : Journal) × (slice_get limits tenant ≡ Some l) × (slice_get (joined ++ answer ∷ []) tenant ≡ Some a)
          × IsJoined l (given_for given partition tenant) (left_in other) a
      again tenant other (l, a, l_is, a_is, joins) = keep tenant other l a l_is a_is joins

      go : (tenant : ℕ) (other : Journal) → (slice_get row tenant ≡ Some other) ⊎ ((length row ≡ tenant) × (journal ≡ other))
          → (l : Limits) × (a : Journal) × (slice_get limits tenant ≡ Some l) × (slice_get (joined ++ answer ∷ []) tenant ≡ Some a)
          × IsJoined l (given_for given partition tenant) (left_in other) a
      go tenant other (inl earlier) = again tenant other (before.each tenant other earlier)
      go tenant other (inr here) =
          let place : length joined ≡ tenant = before.as_many ∙ here.0 in
          let Own : ℕ → Type 0 = λ n. IsJoined its (given_for given partition n) (left_in journal) answer in
          let Of : Journal → Type 0 = λ j. IsJoined its (given_for given partition tenant) (left_in j) answer in (
            its,
            answer,
            subst (λ (n : ℕ). slice_get limits n ≡ Some its) place its_is,
            subst (λ (n : ℕ). slice_get (joined ++ answer ∷ []) n ≡ Some answer) place (get_seam joined answer []),
            subst Of here.1 (subst Own place is),
          )

  -- where there is the joined row, the row fits
  pub row_fits : (row joined : List Journal) → IsRowJoined limits given partition row joined → RowFits limits given partition row
  row_fits row joined is tenant journal at = fit (is.each tenant journal at)
    where
      fit : (its : Limits) × (answer : Journal) × (slice_get limits tenant ≡ Some its) × (slice_get joined tenant ≡ Some answer)
          × IsJoined its (given_for given partition tenant) (left_in journal) answer
          → (its : Limits) × (slice_get limits tenant ≡ Some its) × Fit (room_for its) (given_for given partition tenant) (left_in journal)
      fit (its, answer, its_is, there, (ordered, same, start, account)) = (its, its_is, (ordered, same, start))

module _ (limits : List Limits) (given : List (ℕ × ℕ × Epoch)) (partition : ℕ) (row : List Journal) (fits : RowFits limits given partition row)
    (place : ℕ) (journal : Journal) (at : slice_get row place ≡ Some journal) where
  -- a row in which a tenant has no limits does not fit
  pub no_limits : length limits ≤ place → ⊥
  no_limits past = let own = fits place journal at in let within = slice_get_within limits place own.0 own.1 in absurd (omega (arith, within, past))

  pub fit_at : (its : Limits) → slice_get limits place ≡ Some its → Fit (room_for its) (given_for given partition place) (left_in journal)
  fit_at its its_is = go (fits place journal at)
    where
      go : (l : Limits) × (slice_get limits place ≡ Some l) × Fit (room_for l) (given_for given partition place) (left_in journal)
          → Fit (room_for its) (given_for given partition place) (left_in journal)
      go (l, l_is, fit) =
          subst (λ (x : Limits). Fit (room_for x) (given_for given partition place) (left_in journal)) (same_Some l its (sym l_is ∙ its_is)) fit

-- ---- all rows

-- of each row there is the joined one
pub record RowsJoined (limits : List Limits) (given : List (ℕ × ℕ × Epoch)) (rows joined : List (Vec Journal)) : Type 0 where
  pub each : (partition : ℕ) (row : Vec Journal) → slice_get rows partition ≡ Some row
      → (answer : Vec Journal) × (slice_get joined partition ≡ Some answer) × IsRowJoined limits given partition row.items answer.items
  pub as_many : length joined ≡ length rows

module _ (limits : List Limits) (given : List (ℕ × ℕ × Epoch)) where
  pub rows_none : RowsJoined limits given [] []
  rows_none = record { each = λ partition row at. absurd (cc); as_many = refl }

  pub rows_more : (rows joined : List (Vec Journal)) (row answer : Vec Journal) → RowsJoined limits given rows joined
      → IsRowJoined limits given (length joined) row.items answer.items → RowsJoined limits given (rows ++ row ∷ []) (joined ++ answer ∷ [])
  rows_more rows joined row answer before is = record {
    each = λ partition other at. go partition other (get_grown rows row partition other at);
    as_many = one_longer rows joined row answer before.as_many;
  }
    where
      go : (partition : ℕ) (other : Vec Journal) → (slice_get rows partition ≡ Some other) ⊎ ((length rows ≡ partition) × (row ≡ other))
          → (a : Vec Journal) × (slice_get (joined ++ answer ∷ []) partition ≡ Some a) × IsRowJoined limits given partition other.items a.items
      go partition other (inl earlier) =
          let old = before.each partition other earlier in (old.0, get_left joined (answer ∷ []) partition old.0 old.1, old.2)
      go partition other (inr here) =
          let place : length joined ≡ partition = before.as_many ∙ here.0 in
          let Own : ℕ → Type 0 = λ n. IsRowJoined limits given n row.items answer.items in
          let Of : Vec Journal → Type 0 = λ r. IsRowJoined limits given partition r.items answer.items in (
            answer,
            subst (λ (n : ℕ). slice_get (joined ++ answer ∷ []) n ≡ Some answer) place (get_seam joined answer []),
            subst Of here.1 (subst Own place is),
          )

  pub all_joined : (rows joined : List (Vec Journal)) → AreKnown given rows → RowsJoined limits given rows joined → AreJoined limits given rows joined
  all_joined rows joined known is = record { known = known; each = is.each; as_many = is.as_many }

  -- where there are the joined rows, all fit
  pub all_fit : (rows joined : List (Vec Journal)) → AreJoined limits given rows joined → AllFit limits given rows
  all_fit rows joined is = record {
    known = is.known;
    each = λ partition row at. let answer = is.each partition row at in row_fits limits given partition row.items answer.0.items answer.2;
  }

  -- what a joined journal was made of
  record MadeOf (rows : List (Vec Journal)) (partition tenant : ℕ) (answer : Journal) : Type 0 where
    its : Limits
    journal : Journal
    there : journal_at rows partition tenant ≡ Some journal
    its_is : slice_get limits tenant ≡ Some its
    joins : IsJoined its (given_for given partition tenant) (left_in journal) answer

  -- a journal of the row has its joined one
  onward : (partition tenant : ℕ) (row joined : List Journal) (journal : Journal) → IsRowJoined limits given partition row joined → slice_get row tenant ≡ Some journal
      → (answer : Journal) × (its : Limits) × (slice_get joined tenant ≡ Some answer) × (slice_get limits tenant ≡ Some its)
      × IsJoined its (given_for given partition tenant) (left_in journal) answer
  onward partition tenant row joined journal is at = turned (is.each tenant journal at)
    where
      turned : (its : Limits) × (answer : Journal) × (slice_get limits tenant ≡ Some its) × (slice_get joined tenant ≡ Some answer)
          × IsJoined its (given_for given partition tenant) (left_in journal) answer
          → (answer : Journal) × (its : Limits) × (slice_get joined tenant ≡ Some answer) × (slice_get limits tenant ≡ Some its)
          × IsJoined its (given_for given partition tenant) (left_in journal) answer
      turned (its, answer, its_is, there, joins) = (answer, its, there, its_is, joins)

  made_of : (rows joined : List (Vec Journal)) (partition tenant : ℕ) (answer : Journal) → AreJoined limits given rows joined
      → journal_at joined partition tenant ≡ Some answer → MadeOf rows partition tenant answer
  made_of rows joined partition tenant answer is at =
      let found = in_row joined partition tenant answer at in
      let below : partition < length rows = let within = slice_get_within joined partition found.0 found.1 in omega (arith, within, is.as_many) in
      let row = get_within rows partition below in
      let own = is.each partition row.0 row.1 in
      let same : own.0 ≡ found.0 = same_Some own.0 found.0 (sym own.1 ∙ found.1) in
      in_one row.0 row.1 found.0.items (subst (λ (r : Vec Journal). IsRowJoined limits given partition row.0.items r.items) same own.2) found.2
    where
      made : (journal : Journal) → journal_at rows partition tenant ≡ Some journal
          → (a : Journal) × (its : Limits) × (Some a ≡ Some answer) × (slice_get limits tenant ≡ Some its) × IsJoined its (given_for given partition tenant) (left_in journal) a
          → MadeOf rows partition tenant answer
      made journal there (a, its, a_is, its_is, joins) = record {
        its = its;
        journal = journal;
        there = there;
        its_is = its_is;
        joins = subst (λ (b : Journal). IsJoined its (given_for given partition tenant) (left_in journal) b) (same_Some a answer a_is) joins;
      }

      at_answer : (journal : Journal) (answers : List Journal) → slice_get answers tenant ≡ Some answer
          → (a : Journal) × (its : Limits) × (slice_get answers tenant ≡ Some a) × (slice_get limits tenant ≡ Some its) × IsJoined its (given_for given partition tenant) (left_in journal) a
          → (a : Journal) × (its : Limits) × (Some a ≡ Some answer) × (slice_get limits tenant ≡ Some its) × IsJoined its (given_for given partition tenant) (left_in journal) a
      at_answer journal answers there (a, its, a_is, its_is, joins) = (a, its, sym a_is ∙ there, its_is, joins)

      in_one : (row : Vec Journal) → slice_get rows partition ≡ Some row → (answers : List Journal) → IsRowJoined limits given partition row.items answers → slice_get answers tenant ≡ Some answer
          → MadeOf rows partition tenant answer
      in_one row row_is answers row_joined there =
          let below : tenant < length row.items = let within = slice_get_within answers tenant answer there in omega (arith, within, row_joined.as_many) in
          let journal = get_within row.items tenant below in
          made journal.0 (journal_is rows partition tenant row row_is ∙ journal.1)
          (at_answer journal.0 answers there (onward partition tenant row.items answers journal.0 row_joined journal.1))

  -- what a journal is made of reports its events
  same_events : (its : Limits) (own : List Epoch) (left : Epoch) (one two : Journal) → IsJoined its own left one → IsJoined its own left two → one.events.items ≡ two.events.items
  same_events its own left one two (ordered, same, start, account) (ordered', same', start', account') =
      let order = same_order (room_for its) own ordered ordered' left same same' start start' in
      (λ i. (account i).events) ∙ ap (λ (es : List Epoch). events_of (es ++ left ∷ [])) order ∙ (λ i. (sym account' i).events)

  -- the numbers rise in all joined rows or in none
  pub same_rise : (rows one two : List (Vec Journal)) → AreJoined limits given rows one → AreJoined limits given rows two → AllRise two → AllRise one
  same_rise rows one two first second rise partition tenant journal at =
      from (made_of rows one partition tenant journal first at)
    where
      twin : (its : Limits) (own : Journal) → slice_get limits tenant ≡ Some its → IsJoined its (given_for given partition tenant) (left_in own) journal
          → (answers : List Journal) → ((other : Journal) → slice_get answers tenant ≡ Some other → DoRise other.events.items)
          → (a : Journal) × (l : Limits) × (slice_get answers tenant ≡ Some a) × (slice_get limits tenant ≡ Some l) × IsJoined l (given_for given partition tenant) (left_in own) a
          → DoRise journal.events.items
      twin its own its_is joins answers rises (a, l, a_is, l_is, joins') =
          let limits_same : l ≡ its = same_Some l its (sym l_is ∙ its_is) in
          let joins'' = subst (λ (x : Limits). IsJoined x (given_for given partition tenant) (left_in own) a) limits_same joins' in
          subst (λ (es : List Event). DoRise es) (same_events its (given_for given partition tenant) (left_in own) a journal joins'' joins) (rises a a_is)

      from : MadeOf rows partition tenant journal → DoRise journal.events.items
      from m =
          let found = in_row rows partition tenant m.journal m.there in
          let own = second.each partition found.0 found.1 in
          twin m.its m.journal m.its_is m.joins own.0.items (λ other there. rise partition tenant other (journal_is two partition tenant own.0 own.1 ∙ there))
          (onward partition tenant found.0.items own.0.items m.journal own.2 found.2)

  -- where the numbers rise, the joined journals are sound
  pub all_sound : (rows joined : List (Vec Journal)) → AreJoined limits given rows joined → AllRise joined → AllSound limits joined
  all_sound rows joined is rise partition tenant journal at = from (made_of rows joined partition tenant journal is at)
    where
      sound : (its : Limits) (left : Epoch) → slice_get limits tenant ≡ Some its → IsJoined its (given_for given partition tenant) left journal
          → (slice_get limits tenant ≡ Some journal.limits) × (epoch_start_of journal ≡ (new_account journal.limits).start) × IsSoundUnder journal.limits journal.events.items
      sound its left its_is (ordered, same, start, account) =
          let limits_is : journal.limits ≡ its = λ i. (account i).limits in
          let turn_is : epoch_start_of journal ≡ (new_account its).start = λ i. (account i).start in
          let events_is : journal.events.items ≡ events_of (ordered ++ left ∷ []) = λ i. (account i).events in
          let rises : DoRise (events_of (ordered ++ left ∷ [])) = subst (λ (es : List Event). DoRise es) events_is (rise partition tenant journal at) in
          let done : IsSoundUnder its (events_of (ordered ++ left ∷ [])) = sound_joined its (ordered ++ left ∷ []) start rises in (
            its_is ∙ ap Some (sym limits_is),
            turn_is ∙ ap (λ (l : Limits). (new_account l).start) (sym limits_is),
            subst (λ (l : Limits). IsSoundUnder l journal.events.items) (sym limits_is) (subst (λ (es : List Event). IsSoundUnder its es) (sym events_is) done),
          )

      from : MadeOf rows partition tenant journal → (slice_get limits tenant ≡ Some journal.limits) × (epoch_start_of journal ≡ (new_account journal.limits).start) × IsSoundUnder journal.limits journal.events.items
      from m = sound m.its (left_in m.journal) m.its_is m.joins
