-- Each step keeps the rule between a history and its words.
use Rattle.std.proofs.Common.{◌≡◌, ◌≢◌, ◌∙◌, ℕ, zero, suc, ◌+◌, ◌<◌, ◌≤◌, ◌-◌, ◌==◌, Bool, true, false, List, [], ◌∷◌, ◌++◌, length, slice_set, refl, ap, sym, subst, arith, inl, inr, None, length-append, append_assoc, MatchBool}
use Rattle.std.specs.Prelude.{replicate}
use Rattle.std.proofs.lemmas.List.{append-nil, length-set, set-get_or, get_or-set_other, get_or_append_left, get_or-replicate, length-replicate}
use Rattle.std.proofs.lemmas.Grind.{get_or-set_at}
use Rattle.std.proofs.Math.Logic.{∥∥₁_map}
use mathlib.Core.List.{IsPrefix}
use prog.Atomic.{either}
use Rattle.logbook.specs.Pages.{Cell, cell, keeps, gives, adds, nib, no_nib, may_make, may_write, step, Moves, Goes}
use Rattle.history.specs.declared.entry.HistoryEntry.{HistoryEntry}
use Rattle.history.specs.declared.entry.HistoryEntry.TheVariants.{Opened, Joined, Arrived, Passed}
use Rattle.history.specs.declared.entry.JoinedClient.{JoinedClient}
use Rattle.history.specs.declared.entry.StoreOpening.{StoreOpening}
use Rattle.history.specs.Entries.{but_last, clock_of, is_of, own, count}
use Rattle.history.specs.Legal.{MayFollow, MayJoin, IsLegal, first_client}
use Rattle.history.specs.Rules.{IsHome, IsRuleKept, IsAdded, IsOvertaken, Adds, Looks, Raises, Joins, Arrives}
use Rattle.history.proofs.Lists.{prefix_join, last_in, none_of_none}
use Rattle.history.proofs.Counts.{test_equal, equal_test, of_no_other, own_append, own_one, count_more, count_still, some_later, own_same}
use Rattle.history.proofs.Following.{may_later, legal_more, opening_legal}

-- no client sees or changes anything but by the history
abbrev pub shown : List HistoryEntry → List HistoryEntry
shown log = []

abbrev pub moved : List HistoryEntry → List HistoryEntry → ℕ → Type 0
moved before after answer = Unit {0}

apart_of : (k p : ℕ) → (k == p) ≡ false → k ≢ p
apart_of k p other = λ e. cc (sym other ∙ equal_test k p e)

home_later : (k : ℕ) (v log : List HistoryEntry) → IsPrefix v log → IsHome k v → IsHome k log
home_later k v log pre (inl low) = inl low
home_later k v log pre (inr some) = inr (some_later k v log pre some)

home_before : (k : ℕ) (log : List HistoryEntry) (e : HistoryEntry) → count k (log ++ e ∷ []) ≡ count k log → IsHome k (log ++ e ∷ []) → IsHome k log
home_before k log e same (inl low) = inl low
home_before k log e same (inr some) = inr (subst (λ n. 0 < n) same some)

abbrev Counts : List Cell → List HistoryEntry → ℕ → Type 0
Counts cells log k = (k < length cells) × (cell cells k ≡ (count k log, true))

-- each word counts its entries once the word p has one more
counts_added : (cells : List Cell) (log : List HistoryEntry) (p : ℕ) (e : HistoryEntry) (n : ℕ) → IsRuleKept cells log → p < length cells → is_of p e ≡ true
    → n ≡ count p log + 1 → (k : ℕ) (b : Bool) → (k == p) ≡ b → IsHome k (log ++ e ∷ []) → Counts (slice_set cells p (n, true)) (log ++ e ∷ []) k
counts_added cells log p e n kept less its is k true same home =
    let k_is : k ≡ p = test_equal k p same in
    let n_is : n ≡ count k (log ++ e ∷ []) = is ∙ sym (count_more p log e its) ∙ ap (λ (q : ℕ). count q (log ++ e ∷ [])) (sym k_is) in (
      omega (arith, length-set cells p (n, true), less, k_is),
      get_or-set_at cells p k (n, true) (0, false) k_is less ∙ ap (λ (m : ℕ). (m, true)) n_is,
    )
counts_added cells log p e n kept less its is k false same home =
    let apart : k ≢ p = apart_of k p same in
    let still : count k (log ++ e ∷ []) ≡ count k log = count_still k log e (of_no_other k p e its apart) in
    let w = kept.words k (home_before k log e still home) in (
      omega (arith, length-set cells p (n, true), w.0),
      get_or-set_other cells p k (n, true) (0, false) apart ∙ w.1 ∙ ap (λ (m : ℕ). (m, true)) (sym still),
    )

-- an entry of another word than the register's
kept_added : (cells : List Cell) (log : List HistoryEntry) (p : ℕ) (e : HistoryEntry) (n : ℕ) → IsRuleKept cells log → p < length cells → p ≢ 0 → is_of p e ≡ true
    → n ≡ count p log + 1 → IsLegal (log ++ e ∷ []) → IsRuleKept (slice_set cells p (n, true)) (log ++ e ∷ [])
kept_added cells log p e n kept less apart its is legal = record {
  size = omega (arith, length-set cells p (n, true), kept.size, count_still 0 log e (of_no_other 0 p e its (λ q. apart (sym q))));
  words = λ k home. counts_added cells log p e n kept less its is k (k == p) refl home;
  legal = legal;
}

counts_joined : (cells : List Cell) (log : List HistoryEntry) (k : ℕ) → Counts cells log k → Counts (cells ++ (0, false) ∷ []) log k
counts_joined cells log k w = (
  omega (arith, w.0, length-append cells ((0, false) ∷ [])),
  get_or_append_left cells ((0, false) ∷ []) (0, false) k w.0 ∙ w.1,
)

-- an entry of the register's, and one more cell
kept_joined : (cells : List Cell) (log : List HistoryEntry) (e : HistoryEntry) (n : ℕ) → IsRuleKept cells log → is_of 0 e ≡ true → n ≡ count 0 log + 1
    → IsLegal (log ++ e ∷ []) → IsRuleKept (slice_set cells 0 (n, true) ++ (0, false) ∷ []) (log ++ e ∷ [])
kept_joined cells log e n kept its is legal = record {
  size = omega (arith, length-append (slice_set cells 0 (n, true)) ((0, false) ∷ []), length-set cells 0 (n, true), kept.size, count_more 0 log e its);
  words = λ k home. counts_joined (slice_set cells 0 (n, true)) (log ++ e ∷ []) k
      (counts_added cells log 0 e n kept (omega (arith, kept.size)) its is k (k == 0) refl home);
  legal = legal;
}

set_same : (cells : List Cell) (log : List HistoryEntry) (p n : ℕ) → IsRuleKept cells log → IsHome p log → n ≡ count p log → slice_set cells p (n, true) ≡ cells
set_same cells log p n kept home is =
    let at : cell cells p ≡ (n, true) = (kept.words p home).1 ∙ ap (λ (m : ℕ). (m, true)) (sym is) in
    subst (λ (c : Cell). slice_set cells p c ≡ cells) at (set-get_or cells p (0, false))

kept_still : (cells : List Cell) (log : List HistoryEntry) (p n : ℕ) → IsRuleKept cells log → IsHome p log → n ≡ count p log
    → IsRuleKept (slice_set cells p (n, true)) (log ++ [])
kept_still cells log p n kept home is =
    subst (λ (l : List HistoryEntry). IsRuleKept (slice_set cells p (n, true)) l) (sym (append-nil log))
    (subst (λ (c : List Cell). IsRuleKept c log) (sym (set_same cells log p n kept home is)) kept)

legal_still : (log : List HistoryEntry) → IsLegal log → IsLegal (log ++ [])
legal_still log legal = subst IsLegal (sym (append-nil log)) legal

-- the entries of the word that were counted are all that there are
mine_is_all : (k : ℕ) (mine v log : List HistoryEntry) (old : ℕ) → IsPrefix mine v → IsPrefix v log → count k mine ≡ old → count k log ≡ old
    → own k mine ≡ own k log
mine_is_all k mine v log old first second counted here =
    own_same k mine log (prefix_join mine v log first second) (counted ∙ sym here)

goes_adds : (cells : List Cell) (log v mine seen : List HistoryEntry) (p : ℕ) (e : HistoryEntry) (old : ℕ) → IsRuleKept cells log → IsPrefix v log → IsPrefix mine v
    → IsPrefix seen v → IsLegal seen → IsHome p log → p ≢ 0 → is_of p e ≡ true → count p mine ≡ old → ∥ MayFollow mine seen e ∥₁
    → (cell cells p).0 ≡ count p log → (b : Bool) → ((cell cells p).0 == old) ≡ b
    → Goes IsRuleKept shown moved p (v, (no_nib, None)) (λ n. either (n == old) (old + 1) n) (Adds (step p old (old + 1) e) (v, (no_nib, None))) cells log
goes_adds cells log v mine seen p e old kept pre first second legal home apart its counted may at true is =
    let found : (cell cells p).0 ≡ old = test_equal (cell cells p).0 old is in
    let here : count p log ≡ old = sym at ∙ found in
    let same : own p mine ≡ own p log = mine_is_all p mine v log old first pre counted here in
    let may' : ∥ MayFollow log log e ∥₁ = ∥∥₁_map may (may_later p mine seen log e its same legal (prefix_join seen v log second pre)) in
    let legal' : IsLegal (log ++ e ∷ []) = legal_more log e kept.legal may' in
    let n : old + 1 ≡ either ((cell cells p).0 == old) (old + 1) (cell cells p).0 = rw is refl in
    let k = kept_added cells log p e (old + 1) kept (kept.words p home).0 apart its (omega (arith, here)) legal' in (
      keeps,
      e ∷ [],
      None,
      tt,
      subst (λ (m : ℕ). IsRuleKept (slice_set cells p (m, true)) (log ++ e ∷ [])) n k,
      inl (refl, refl),
      rw is (pre.0, ap (λ w. w ++ e ∷ []) (sym pre.1), ap (count p) pre.1 ∙ here, legal'),
    )
goes_adds cells log v mine seen p e old kept pre first second legal home apart its counted may at false is =
    let n : (cell cells p).0 ≡ either ((cell cells p).0 == old) (old + 1) (cell cells p).0 = rw is refl in
    let more : count p (log ++ []) ≢ old = λ q. apart_of (cell cells p).0 old is (at ∙ ap (count p) (sym (append-nil log)) ∙ q) in (
      keeps,
      [],
      None,
      tt,
      subst (λ (m : ℕ). IsRuleKept (slice_set cells p (m, true)) (log ++ [])) n (kept_still cells log p (cell cells p).0 kept home at),
      inl (refl, refl),
      rw is (more, legal_still log kept.legal),
    )

-- whatever the history is, the exchange adds the entry, or finds other entries of the word than were counted
pub adds_moves : (p : ℕ) (v mine seen : List HistoryEntry) (e : HistoryEntry) (old : ℕ) → IsPrefix mine v → IsPrefix seen v → IsLegal seen → IsHome p mine → p ≢ 0
    → is_of p e ≡ true → count p mine ≡ old → ∥ MayFollow mine seen e ∥₁
    → Moves IsRuleKept shown moved p (v, (no_nib, None)) (λ n. either (n == old) (old + 1) n) (Adds (step p old (old + 1) e) (v, (no_nib, None)))
adds_moves p v mine seen e old first second legal home apart its counted may cells log kept pre away =
    let home' = home_later p v log pre (home_later p mine v first home) in
    let w = kept.words p home' in (
      w.0,
      ap (λ c. c.1) w.1,
      goes_adds cells log v mine seen p e old kept pre first second legal home' apart its counted may (ap (λ c. c.0) w.1) ((cell cells p).0 == old) refl,
    )

-- ---- a clock is raised

set_twice : (cells : List Cell) (p : ℕ) (x y : Cell) → slice_set (slice_set cells p x) p y ≡ slice_set cells p y
set_twice [] p x y = refl
set_twice (c ∷ cells) zero x y = refl
set_twice (c ∷ cells) (suc p) x y = ap (λ (l : List Cell). c ∷ l) (set_twice cells p x y)

kept_passed : (cells : List Cell) (log : List HistoryEntry) (p tenant d : ℕ) → IsRuleKept cells log → IsHome p log → p ≢ 0 → p ≡ clock_of tenant
    → IsRuleKept (slice_set cells p (count p log + d, true)) (log ++ replicate d (Passed tenant)) × (count p (log ++ replicate d (Passed tenant)) ≡ count p log + d)
kept_passed cells log p tenant zero kept home apart is =
    (kept_still cells log p (count p log + 0) kept home (omega arith), ap (count p) (append-nil log) ∙ omega arith)
kept_passed cells log p tenant (suc d) kept home apart is =
    let e : HistoryEntry = Passed tenant in
    let its : is_of p e ≡ true = equal_test (clock_of tenant) p (sym is) in
    let w = kept.words p home in
    let n : ℕ = count p log + 1 in
    let here : count p (log ++ e ∷ []) ≡ n = count_more p log e its in
    let k = kept_added cells log p e n kept w.0 apart its refl (legal_more log e kept.legal ∣ tt ∣₁) in
    let home' : IsHome p (log ++ e ∷ []) = home_later p log (log ++ e ∷ []) (e ∷ [], refl) home in
    let rest = kept_passed (slice_set cells p (n, true)) (log ++ e ∷ []) p tenant d k home' apart is in
    let m : count p (log ++ e ∷ []) + d ≡ count p log + suc d = omega (arith, here) in
    let l : (log ++ e ∷ []) ++ replicate d e ≡ log ++ replicate (suc d) e = append_assoc log (e ∷ []) (replicate d e) in
    let c : slice_set (slice_set cells p (n, true)) p (count p (log ++ e ∷ []) + d, true) ≡ slice_set cells p (count p log + suc d, true) =
    set_twice cells p (n, true) (count p (log ++ e ∷ []) + d, true) ∙ ap (λ (x : ℕ). slice_set cells p (x, true)) m in
    let P : List HistoryEntry → Type 0 = λ x. IsRuleKept (slice_set cells p (count p log + suc d, true)) x in
    let Q : List Cell → Type 0 = λ x. IsRuleKept x ((log ++ e ∷ []) ++ replicate d e) in
    (subst P l (subst Q c rest.0), ap (count p) (sym l) ∙ rest.1 ∙ m)

goes_raises : (cells : List Cell) (log v : List HistoryEntry) (p tenant old to : ℕ) → IsRuleKept cells log → IsHome p log → p ≢ 0 → p ≡ clock_of tenant → old ≤ to
    → (cell cells p).0 ≡ count p log → (b : Bool) → ((cell cells p).0 == old) ≡ b
    → Goes IsRuleKept shown moved p (v, (no_nib, None)) (λ n. either (n == old) to n) (Raises (step p old to (Passed tenant)) (v, (no_nib, None))) cells log
goes_raises cells log v p tenant old to kept home apart is up at true found =
    let e : HistoryEntry = Passed tenant in
    let f : (cell cells p).0 ≡ old = test_equal (cell cells p).0 old found in
    let d : ℕ = to - old in
    let here : count p log + d ≡ to = omega (arith, sym at ∙ f, up) in
    let k = kept_passed cells log p tenant d kept home apart is in
    let n : to ≡ either ((cell cells p).0 == old) to (cell cells p).0 = rw found refl in (
      keeps,
      replicate d e,
      None,
      tt,
      subst (λ (m : ℕ). IsRuleKept (slice_set cells p (m, true)) (log ++ replicate d e)) (here ∙ n) k.0,
      inl (refl, refl),
      rw found (k.1 ∙ here, k.0.legal),
    )
goes_raises cells log v p tenant old to kept home apart is up at false found =
    let n : (cell cells p).0 ≡ either ((cell cells p).0 == old) to (cell cells p).0 = rw found refl in
    let more : count p (log ++ []) ≢ old = λ q. apart_of (cell cells p).0 old found (at ∙ ap (count p) (sym (append-nil log)) ∙ q) in (
      keeps,
      [],
      None,
      tt,
      subst (λ (m : ℕ). IsRuleKept (slice_set cells p (m, true)) (log ++ [])) n (kept_still cells log p (cell cells p).0 kept home at),
      inl (refl, refl),
      rw found (more, legal_still log kept.legal),
    )

pub raises_moves : (p : ℕ) (v : List HistoryEntry) (tenant old to : ℕ) → IsHome p v → p ≢ 0 → p ≡ clock_of tenant → old ≤ to
    → Moves IsRuleKept shown moved p (v, (no_nib, None)) (λ n. either (n == old) to n) (Raises (step p old to (Passed tenant)) (v, (no_nib, None)))
raises_moves p v tenant old to home apart is up cells log kept pre away =
    let home' = home_later p v log pre home in
    let w = kept.words p home' in (
      w.0,
      ap (λ c. c.1) w.1,
      goes_raises cells log v p tenant old to kept home' apart is up (ap (λ c. c.0) w.1) ((cell cells p).0 == old) refl,
    )

-- a look finds how many entries the word has
pub looks_moves : (p : ℕ) (v : List HistoryEntry) (e : HistoryEntry) → IsHome p v
    → Moves IsRuleKept shown moved p (v, (no_nib, None)) (λ n. n) (Looks (step p 0 0 e) (v, (no_nib, None)))
looks_moves p v e home cells log kept pre away =
    let home' = home_later p v log pre home in
    let w = kept.words p home' in
    let at = ap (λ c. c.0) w.1 in (
      w.0,
      ap (λ c. c.1) w.1,
      (
        keeps,
        [],
        None,
        tt,
        kept_still cells log p (cell cells p).0 kept home' at,
        inl (refl, refl),
        (ap (count p) (append-nil log) ∙ sym at, legal_still log kept.legal),
      ),
    )

goes_joins : (cells : List Cell) (log v : List HistoryEntry) (member : JoinedClient) (old : ℕ) → IsRuleKept cells log → IsPrefix v log → count 0 v ≡ old
    → ∥ MayJoin (own 0 v) member ∥₁ → IsLegal v → (cell cells 0).0 ≡ count 0 log → (b : Bool) → ((cell cells 0).0 == old) ≡ b
    → Goes IsRuleKept shown moved 0 (v, (no_nib, None)) (λ n. either (n == old) (old + 1) n) (Joins (step 0 old (old + 1) (Joined member)) (v, (no_nib, None))) cells log
goes_joins cells log v member old kept pre counted may legal at true is =
    let e : HistoryEntry = Joined member in
    let found : (cell cells 0).0 ≡ old = test_equal (cell cells 0).0 old is in
    let here : count 0 log ≡ old = sym at ∙ found in
    let same : own 0 v ≡ own 0 log = own_same 0 v log pre (counted ∙ sym here) in
    let may' : ∥ MayFollow log log e ∥₁ = ∥∥₁_map may (may_later 0 v v log (Joined member) refl same legal pre) in
    let legal' : IsLegal (log ++ e ∷ []) = legal_more log e kept.legal may' in
    let n : old + 1 ≡ either ((cell cells 0).0 == old) (old + 1) (cell cells 0).0 = rw is refl in
    let size : length cells ≡ first_client + old = omega (arith, kept.size, here) in (
      adds,
      e ∷ [],
      None,
      tt,
      subst (λ (m : ℕ). IsRuleKept (slice_set cells 0 (m, true) ++ (0, false) ∷ []) (log ++ e ∷ [])) n
          (kept_joined cells log e (old + 1) kept refl (omega (arith, here)) legal'),
      inl (refl, refl),
      rw is (ap (λ (m : ℕ). nib may_make m 0) size, last_in log e, legal'),
    )
goes_joins cells log v member old kept pre counted may legal at false is =
    let n : (cell cells 0).0 ≡ either ((cell cells 0).0 == old) (old + 1) (cell cells 0).0 = rw is refl in (
      keeps,
      [],
      None,
      tt,
      subst (λ (m : ℕ). IsRuleKept (slice_set cells 0 (m, true)) (log ++ [])) n (kept_still cells log 0 (cell cells 0).0 kept (inl (omega arith)) at),
      inl (refl, refl),
      rw is (legal_still log kept.legal),
    )

-- a client joins: the step adds a cell for its word
pub joins_moves : (v : List HistoryEntry) (member : JoinedClient) (old : ℕ) → count 0 v ≡ old → ∥ MayJoin (own 0 v) member ∥₁ → IsLegal v
    → Moves IsRuleKept shown moved 0 (v, (no_nib, None)) (λ n. either (n == old) (old + 1) n) (Joins (step 0 old (old + 1) (Joined member)) (v, (no_nib, None)))
joins_moves v member old counted may legal cells log kept pre away =
    let w = kept.words 0 (inl (omega arith)) in (
      w.0,
      ap (λ c. c.1) w.1,
      goes_joins cells log v member old kept pre counted may legal (ap (λ c. c.0) w.1) ((cell cells 0).0 == old) refl,
    )

no_count : (n : ℕ) → (0 < n → ⊥) → n ≡ 0
no_count zero f = refl
no_count (suc n) f = absurd (f (omega arith))

same_either : (n old : ℕ) (b : Bool) → (n == old) ≡ b → n ≡ either (n == old) old n
same_either n old true is = let z : n ≡ old = test_equal n old is in rw is z
same_either n old false is = rw is refl

-- the word that was made for a client comes home, with the client's arrival
pub arrives_moves : (v : List HistoryEntry) (k old : ℕ)
    → Moves IsRuleKept shown moved 0 (v, (nib may_write k 1, None)) (λ n. either (n == old) old n)
    (Arrives (step 0 old old (Arrived k)) (v, (nib may_write k 1, None)))
arrives_moves v k old cells log kept pre away =
    let e : HistoryEntry = Arrived k in
    let w = kept.words 0 (inl (omega arith)) in
    let at = ap (λ c. c.0) w.1 in
    let aw : (k < length cells) × ((cell cells k).1 ≡ false) = away refl in
    let no : IsHome k log → ⊥ = λ home. cc (sym aw.1 ∙ ap (λ c. c.1) (kept.words k home).1) in
    let none : count k log ≡ 0 = no_count (count k log) (λ some. no (inr some)) in
    let apart : k ≢ 0 = λ q. no (inl (omega (arith, q))) in
    let its : is_of k e ≡ true = equal_test k k refl in
    let legal' : IsLegal (log ++ e ∷ []) = legal_more log e kept.legal ∣ tt ∣₁ in
    let n : (cell cells 0).0 ≡ either ((cell cells 0).0 == old) old (cell cells 0).0 = same_either (cell cells 0).0 old ((cell cells 0).0 == old) refl in
    let inner : slice_set cells 0 (either ((cell cells 0).0 == old) old (cell cells 0).0, true) ≡ cells =
    set_same cells log 0 _ kept (inl (omega arith)) (sym n ∙ at) in
    let k' = kept_added cells log k e 1 kept aw.0 apart its (omega (arith, none)) legal' in
    let one : own k (log ++ e ∷ []) ≡ e ∷ [] =
    own_append k log (e ∷ []) ∙ ap (λ l. l ++ own k (e ∷ [])) (none_of_none (own k log) none) ∙ own_one k e its in
    let still : count 0 (log ++ e ∷ []) ≡ (cell cells 0).0 = count_still 0 log e (of_no_other 0 k e its (λ q. apart (sym q))) ∙ sym at in (
      w.0,
      ap (λ c. c.1) w.1,
      (
        gives,
        e ∷ [],
        None,
        refl,
        subst (λ (c : List Cell). IsRuleKept (slice_set c k (1, true)) (log ++ e ∷ [])) (sym inner) k',
        inl (refl, refl),
        (one, still, legal'),
      ),
    )

opened_word : (setting : StoreOpening) (k : ℕ) → IsHome k (Opened setting ∷ []) → Counts (replicate first_client (0, true)) (Opened setting ∷ []) k
opened_word setting k (inl low) =
    let c : Cell = (0, true) in
    let size : length (replicate first_client c) ≡ first_client = length-replicate first_client c in
    (omega (arith, low, size), get_or-replicate first_client k c (0, false) low)
opened_word setting k (inr some) = absurd (omega (arith, some))

-- a book that was opened for a store keeps the rule
pub opened_kept : (setting : StoreOpening) → IsRuleKept (replicate first_client (0, true)) (Opened setting ∷ [])
opened_kept setting =
    let c : Cell = (0, true) in
    record {
      size = length-replicate first_client c;
      words = opened_word setting;
      legal = opening_legal (Opened setting ∷ []) refl;
    }

-- what was added to what was learned was added to what was seen before
widened : (k entries : ℕ) (e : HistoryEntry) (mine v now : List HistoryEntry) → IsPrefix mine v → IsAdded k entries e v now → IsAdded k entries e mine now
widened k entries e mine v now pre a =
    let same : v ++ a.0 ≡ mine ++ (pre.0 ++ a.0) = ap (λ l. l ++ a.0) (sym pre.1) ∙ append_assoc mine pre.0 a.0 in
    (pre.0 ++ a.0, a.1 ∙ ap (λ l. l ++ e ∷ []) same, ap (count k) (sym same) ∙ a.2, a.3)

pub told : (k entries : ℕ) (e : HistoryEntry) (mine v now : List HistoryEntry) → IsPrefix mine v → (b : Bool) → MatchBool b (IsAdded k entries e v now) (IsOvertaken k entries now)
    → MatchBool b (IsAdded k entries e mine now) (IsOvertaken k entries now)
told k entries e mine v now pre true a = widened k entries e mine v now pre a
told k entries e mine v now pre false other = other

but_last_push : (log : List HistoryEntry) (e : HistoryEntry) → but_last (log ++ e ∷ []) ≡ log
but_last_push [] e = refl
but_last_push (d ∷ []) e = refl
but_last_push (d ∷ c ∷ log) e = ap (λ l. d ∷ l) (but_last_push (c ∷ log) e)

-- what stands before the entry is what was seen, and what came between
pub before_added : (k entries : ℕ) (e : HistoryEntry) (seen now : List HistoryEntry) (a : IsAdded k entries e seen now) → but_last now ≡ seen ++ a.0
before_added k entries e seen now a = ap but_last a.1 ∙ but_last_push (seen ++ a.0) e

pub behind : (k entries : ℕ) (e : HistoryEntry) (evidence v now : List HistoryEntry) → IsPrefix evidence v → (b : Bool) → b ≡ true → MatchBool b (IsAdded k entries e v now) (IsOvertaken k entries now) → IsPrefix evidence (but_last now)
behind k entries e evidence v now pre true is a =
    let P : List HistoryEntry → Type 0 = λ l. IsPrefix evidence l in
    subst P (sym (before_added k entries e v now a)) (prefix_join evidence v (v ++ a.0) pre (a.0, refl))
behind k entries e evidence v now pre false is a = cc
