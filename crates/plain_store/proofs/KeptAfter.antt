-- What is kept and marked after one call more, by what was before it. For a cell, which keeps just these versions and marks.
use Rattle.std.proofs.Common.{◌≡◌, ℕ, ◌+◌, ◌<◌, ◌≤◌, max, Bool, true, false, cond, ◌&&◌, ◌||◌, ◌==◌, ◌⊎◌, inl, inr, not, nat_le, nat_lt, nat_eq, List, [], ◌∷◌, map, filter, find, length, Some, None, refl, sym, ap, ◌∙◌, subst, arith, eqb-true, eq-eqb}
use Rattle.std.specs.List.{list_any}
use Rattle.std.proofs.lemmas.Bool.{or_parts, both_ways, leb-false, ltb-true, lt-ltb, eqb-false}
use Rattle.std.proofs.lemmas.Cmp.{nat_eq_equiv}
use Rattle.stamps.specs.Stamp.{client_of, greatest}
use Rattle.plain_store.specs.Words.{◌∈◌, Stamp, Record, Prepare, Prepared, Commit, Discard, Dropped, ToPrepare, ToCommit, ToDiscard}
use Rattle.plain_store.specs.Log.{Log, is_version, versions, is_live, is_committed, floor, is_kept, kept}
use Rattle.plain_store.specs.Marks.{discarded, is_of_client, mark, once_each, marked}
use Rattle.plain_store.specs.Replies.{is_droppable}
use Rattle.plain_store.proofs.Stamps.{≤_greatest, greatest_cases}
use Rattle.plain_store.proofs.Logs.{is_version-parts, is_version-from}
use Rattle.plain_store.proofs.Members.{in_map, map_in, in_filter, filter_in, any_witness, any_from, any_none, found_some}
use Rattle.plain_store.proofs.Dropped.{dropped_marked}

-- two tests that agree on the members pass the same ones
filter_on : {X : Type 0} (p q : X → Bool) (xs : List X) → ((x : X) → x ∈ xs → p x ≡ q x) → filter p xs ≡ filter q xs
filter_on p q [] same = refl
filter_on p q (x ∷ xs) same =
    ap (λ b. cond b (x ∷ filter p xs) (filter p xs)) (same x (inl refl))
    ∙ ap (λ rest. cond (q x) (x ∷ rest) rest) (filter_on p q xs (λ y h. same y (inr h)))

filter_twice : {X : Type 0} (p q : X → Bool) (xs : List X) → filter q (filter p xs) ≡ filter (λ x. p x && q x) xs
filter_twice p q [] = refl
filter_twice p q (x ∷ xs) = go (p x) (filter_twice p q xs)
  where
    go : (b : Bool) → filter q (filter p xs) ≡ filter (λ y. p y && q y) xs
        → filter q (cond b (x ∷ filter p xs) (filter p xs)) ≡ cond (b && q x) (x ∷ filter (λ y. p y && q y) xs) (filter (λ y. p y && q y) xs)
    go true rest = ap (λ ys. cond (q x) (x ∷ ys) ys) rest
    go false rest = rest

-- ---- after a PREPARE that was answered Prepared

abbrev pub after_accepted : Record → Log → Log
after_accepted v log = record { call = Prepare v; reply = ToPrepare Prepared } ∷ log

-- the version is committed or live
abbrev pub is_held : Log → Record → Bool
is_held log v = is_committed log v.key v.stamp || is_live log v.key v.stamp

other_kept : (v w : Record) (log : Log) → is_version w.key w.stamp v ≡ false → is_kept (after_accepted v log) w ≡ is_kept log w
other_kept v w log f = ap (λ b. nat_le (floor log w.key) w.stamp && (is_committed log w.key w.stamp || (b || is_live log w.key w.stamp))) f

own_kept : (v w : Record) (log : Log) → is_version w.key w.stamp v ≡ true → is_kept (after_accepted v log) w ≡ nat_le (floor log w.key) w.stamp
own_kept v w log t = ap (λ b. nat_le (floor log w.key) w.stamp && (is_committed log w.key w.stamp || (b || is_live log w.key w.stamp))) t ∙ held (nat_le (floor log w.key) w.stamp) (is_committed log w.key w.stamp)
  where
    held : (n c : Bool) → (n && (c || true)) ≡ n
    held true true = refl
    held true false = refl
    held false c = refl

-- where the version was listed, and is below its floor or is held, nothing changes
pub kept_again : (v : Record) (log : Log) → list_any (is_version v.key v.stamp) (versions log) ≡ true → (nat_le (floor log v.key) v.stamp ≡ false) ⊎ (is_held log v ≡ true) → kept (after_accepted v log) ≡ kept log
kept_again v log known why =
    ap (λ b. filter (is_kept (after_accepted v log)) (cond b (versions log) (v ∷ versions log))) known
    ∙ filter_on (is_kept (after_accepted v log)) (is_kept log) (versions log) (λ w h. same w (is_version w.key w.stamp v) refl)
  where
    low : (n x : Bool) → n ≡ false → n ≡ (n && x)
    low true x e = cc
    low false x e = refl

    high : (n x : Bool) → x ≡ true → n ≡ (n && x)
    high true true e = refl
    high true false e = cc
    high false x e = refl

    same : (w : Record) (b : Bool) → is_version w.key w.stamp v ≡ b → is_kept (after_accepted v log) w ≡ is_kept log w
    same w false f = other_kept v w log f
    same w true t = own_kept v w log t ∙ go why
      where
        go : (nat_le (floor log v.key) v.stamp ≡ false) ⊎ (is_held log v ≡ true) → nat_le (floor log w.key) w.stamp ≡ (nat_le (floor log w.key) w.stamp && is_held log w)
        go (inl e) = let p = is_version-parts w.key w.stamp v t in low (nat_le (floor log w.key) w.stamp) (is_held log w) (sym (λ i. nat_le (floor log (p.0 i)) (p.1 i)) ∙ e)
        go (inr e) =
            let p = is_version-parts w.key w.stamp v t in
            high (nat_le (floor log w.key) w.stamp) (is_held log w) (sym (λ i. is_committed log (p.0 i) (p.1 i) || is_live log (p.0 i) (p.1 i)) ∙ e)

-- where it was not, it is kept unless it is below its floor
pub kept_first : (v : Record) (log : Log) → list_any (is_version v.key v.stamp) (versions log) ≡ false → kept (after_accepted v log) ≡ cond (nat_le (floor log v.key) v.stamp) (v ∷ kept log) (kept log)
kept_first v log new =
    ap (λ b. filter (is_kept (after_accepted v log)) (cond b (versions log) (v ∷ versions log))) new
    ∙ ap (λ b. cond b (v ∷ filter (is_kept (after_accepted v log)) (versions log)) (filter (is_kept (after_accepted v log)) (versions log))) (own_kept v v log (is_version-from v.key v.stamp v refl refl))
    ∙ ap (λ vs. cond (nat_le (floor log v.key) v.stamp) (v ∷ vs) vs) (filter_on (is_kept (after_accepted v log)) (is_kept log) (versions log) (λ w h. other_kept v w log (apart w h (is_version w.key w.stamp v) refl)))
  where
    apart : (w : Record) → w ∈ versions log → (b : Bool) → is_version w.key w.stamp v ≡ b → is_version w.key w.stamp v ≡ false
    apart w h false f = f
    apart w h true t =
        let p = is_version-parts w.key w.stamp v t in
        absurd (both_ways _ (any_none (is_version v.key v.stamp) (versions log) w new h) (is_version-from v.key v.stamp w (sym p.0) (sym p.1)))

-- a version that is neither kept nor below its floor, and is above its client's mark, is not listed
pub not_listed : (v : Record) (log : Log) → find (is_version v.key v.stamp) (kept log) ≡ None → nat_le (floor log v.key) v.stamp ≡ true → nat_le v.stamp (mark log (client_of v.stamp)) ≡ false
    → list_any (is_version v.key v.stamp) (versions log) ≡ false
not_listed v log none above marks = go (list_any (is_version v.key v.stamp) (versions log)) refl
  where
    here : (w : Record) → w ∈ versions log → is_version v.key v.stamp w ≡ true → (b : Bool) → is_kept log w ≡ b → ⊥
    here w h t true k =
        let found = found_some (is_version v.key v.stamp) (kept log) w (filter_in (is_kept log) (versions log) w h k) t in
        let one : None ≡ Some found.0 = sym none ∙ found.1 in cc
    here w h t false k =
        let p = is_version-parts v.key v.stamp w t in
        let high : nat_le (floor log w.key) w.stamp ≡ true = (λ i. nat_le (floor log (p.0 i)) (p.1 i)) ∙ above in
        let held : is_held log w ≡ false = sym (ap (λ b. b && is_held log w) high) ∙ k in
        let dead = (or_parts (is_committed log w.key w.stamp) (is_live log w.key w.stamp) held).1 in
        let low : v.stamp ≤ mark log (client_of v.stamp) = subst (λ s. s ≤ mark log (client_of s)) p.1 (dropped_marked log w h dead) in
        let over = leb-false v.stamp (mark log (client_of v.stamp)) marks in
        omega (arith, low, over)

    go : (b : Bool) → list_any (is_version v.key v.stamp) (versions log) ≡ b → list_any (is_version v.key v.stamp) (versions log) ≡ false
    go false f = f
    go true t = let w = any_witness (is_version v.key v.stamp) (versions log) t in absurd (here w.0 w.1 w.2 (is_kept log w.0) refl)

-- ---- after a COMMIT

abbrev pub after_commit : Stamp → ℕ → Log → Log
after_commit stamp count log = record { call = Commit stamp; reply = ToCommit count } ∷ log

pub kept_committed : (stamp : Stamp) (count : ℕ) (log : Log) → kept (after_commit stamp count log) ≡ kept log
kept_committed stamp count log =
    filter_on (is_kept (after_commit stamp count log)) (is_kept log) (versions log)
    (λ w h. ap (λ b. nat_le (floor log w.key) w.stamp && b) (same (w.stamp == stamp) (is_committed log w.key w.stamp) (is_live log w.key w.stamp)))
  where
    same : (a c l : Bool) → (((a && l) || c) || l) ≡ (c || l)
    same false c l = refl
    same true c false = refl
    same true true true = refl
    same true false true = refl

-- and the kept versions of the stamp are then committed
pub committed_after : (stamp : Stamp) (count : ℕ) (log : Log) (w : Record) → is_held log w ≡ true → is_committed (after_commit stamp count log) w.key w.stamp ≡ ((w.stamp == stamp) || is_committed log w.key w.stamp)
committed_after stamp count log w h = same (w.stamp == stamp) (is_committed log w.key w.stamp) (is_live log w.key w.stamp) h
  where
    same : (a c l : Bool) → (c || l) ≡ true → ((a && l) || c) ≡ (a || c)
    same false c l h = refl
    same true c true h = refl
    same true true false h = refl
    same true false false h = cc

-- ---- after a DISCARD that counts

abbrev pub after_dropped : Stamp → ℕ → Log → Log
after_dropped stamp count log = record { call = Discard stamp; reply = ToDiscard (Dropped count) } ∷ log

-- the droppable versions go, and no others
pub kept_dropped : (stamp : Stamp) (count : ℕ) (log : Log) → kept (after_dropped stamp count log) ≡ filter (λ w. not (is_droppable log stamp w)) (kept log)
kept_dropped stamp count log =
    filter_on (is_kept (after_dropped stamp count log)) (λ w. is_kept log w && not (is_droppable log stamp w)) (versions log)
    (λ w h. ap (λ b. nat_le (floor log w.key) w.stamp && (is_committed log w.key w.stamp || (not b && is_live log w.key w.stamp))) (nat_eq_equiv.symm stamp w.stamp)
    ∙ same (nat_le (floor log w.key) w.stamp) (is_committed log w.key w.stamp) (w.stamp == stamp) (is_live log w.key w.stamp))
    ∙ sym (filter_twice (is_kept log) (λ w. not (is_droppable log stamp w)) (versions log))
  where
    same : (n c d l : Bool) → (n && (c || (not d && l))) ≡ ((n && (c || l)) && not (d && not c))
    same false c d l = refl
    same true true true l = refl
    same true true false l = refl
    same true false true true = refl
    same true false true false = refl
    same true false false true = refl
    same true false false false = refl

-- the mark of the stamp's client is raised to it
pub mark_dropped : (stamp : Stamp) (count : ℕ) (log : Log) (client : ℕ) → mark (after_dropped stamp count log) client ≡ cond (client_of stamp == client) (max stamp (mark log client)) (mark log client)
mark_dropped stamp count log client = go (client_of stamp == client)
  where
    go : (b : Bool) → greatest (cond b (stamp ∷ filter (is_of_client client) (discarded log)) (filter (is_of_client client) (discarded log))) ≡ cond b (max stamp (mark log client)) (mark log client)
    go true = refl
    go false = refl

-- a client is marked where its mark is not `0.0`
is_marked : (log : Log) (client : ℕ) → list_any (nat_eq client) (map client_of (filter (nat_lt 0) (discarded log))) ≡ not (mark log client == 0)
is_marked log client = go (list_any (nat_eq client) (map client_of (filter (nat_lt 0) (discarded log)))) refl (mark log client == 0) refl
  where
    clients : List ℕ
    clients = map client_of (filter (nat_lt 0) (discarded log))

    -- a discarded stamp above 0 leaves a mark
    marks : (stamp : Stamp) → stamp ∈ filter (nat_lt 0) (discarded log) → client_of stamp ≡ client → 0 < mark log client
    marks stamp h own =
        let f = in_filter (nat_lt 0) (discarded log) stamp h in
        let above = ltb-true 0 stamp f.1 in
        let least = ≤_greatest (filter (is_of_client client) (discarded log)) stamp (filter_in (is_of_client client) (discarded log) stamp f.0 (eq-eqb (client_of stamp) client own)) in
        omega (arith, above, least)

    marked_by : (greatest (filter (is_of_client client) (discarded log)) ≡ 0) ⊎ (greatest (filter (is_of_client client) (discarded log)) ∈ filter (is_of_client client) (discarded log)) → 0 < mark log client → list_any (nat_eq client) clients ≡ true
    marked_by (inl zero_is) above = absurd (omega (arith, zero_is, above))
    marked_by (inr h) above =
        let f = in_filter (is_of_client client) (discarded log) (mark log client) h in
        let own = eqb-true (client_of (mark log client)) client f.1 in
        any_from (nat_eq client) clients (client_of (mark log client))
        (map_in client_of (filter (nat_lt 0) (discarded log)) (mark log client) (filter_in (nat_lt 0) (discarded log) (mark log client) f.0 (lt-ltb 0 (mark log client) above)))
        (eq-eqb client (client_of (mark log client)) (sym own))

    positive : (mark log client == 0) ≡ false → 0 < mark log client
    positive f = let ne = eqb-false (mark log client) 0 f in omega (arith, ne)

    go : (b : Bool) → list_any (nat_eq client) clients ≡ b → (z : Bool) → (mark log client == 0) ≡ z → b ≡ not z
    go true t false z = refl
    go true t true z =
        let w = any_witness (nat_eq client) clients t in
        let s = in_map client_of (filter (nat_lt 0) (discarded log)) w.0 w.1 in
        let above = marks s.0 s.1 (sym s.2 ∙ sym (eqb-true client w.0 w.2)) in
        absurd (omega (arith, above, eqb-true (mark log client) 0 z))
    go false f true z = refl
    go false f false z = absurd (both_ways _ f (marked_by (greatest_cases (filter (is_of_client client) (discarded log))) (positive z)))

-- one client more is marked where the stamp's had no mark
pub marked_dropped : (stamp : Stamp) (count : ℕ) (log : Log) → 0 < stamp
    → length (marked (after_dropped stamp count log)) ≡ cond (mark log (client_of stamp) == 0) (length (marked log) + 1) (length (marked log))
marked_dropped stamp count log some =
    ap (λ b. length (once_each (map client_of (cond b (stamp ∷ filter (nat_lt 0) (discarded log)) (filter (nat_lt 0) (discarded log)))))) (lt-ltb 0 stamp some)
    ∙ ap (λ b. length (cond b (marked log) (client_of stamp ∷ marked log))) (is_marked log (client_of stamp))
    ∙ go (mark log (client_of stamp) == 0)
  where
    go : (b : Bool) → length (cond (not b) (marked log) (client_of stamp ∷ marked log)) ≡ cond b (length (marked log) + 1) (length (marked log))
    go true = omega arith
    go false = refl
