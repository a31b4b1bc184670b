-- For `make_room` and `Cell::tidy`. How many chains of each part are kept, and that of many parts one has few.
use Rattle.std.proofs.Common.{◌≡◌, ◌≢◌, ℕ, zero, suc, ◌+◌, ◌*◌, ◌<◌, ◌≤◌, ◌==◌, Bool, true, false, cond, max, not, ◌&&◌, List, [], ◌∷◌, Option, None, Some, IfSome, unwrap_or, length, map, get_or, set, count_by, inl, inr, refl, sym, ap, ◌∙◌, arith}
use Rattle.std.specs.List.{range_with_len, sum_by}
use Rattle.std.proofs.lemmas.Bool.{cases_lt, eq-eqb, ne_eqb}
use Rattle.std.proofs.lemmas.List.{get_or-set_same, get_or-set_other}
use Rattle.std.proofs.lemmas.List.FromFn.{length-range_with_len, sum_by-map-range_with_len_more, take-map-range_with_len}
use Rattle.std.proofs.lemmas.List.Sums.{count_by-le-length, sum_by-cons, sum_by-take-le}
use Rattle.plain_store.proofs.Counting.{count_by-le, count_by-map}
use Rattle.version_chain.proofs.Replacing.{same_or_not}
use Rattle.prepare_commit.specs.declared.parts.EntryPosition.{EntryPosition}
use Rattle.prepare_commit.specs.Begun.{Holding, NotesMore, is_kept_in, kept_in, no_place, put_at}

-- ---- which chains are kept in a part

module _ (spots : List EntryPosition) (since : List Bool) (part chain : ℕ) where
  kept_yes : get_or since chain false ≡ false → (get_or spots chain no_place).part ≡ part → is_kept_in spots since part chain ≡ true
  kept_yes free lies = ap (λ b. not b && ((get_or spots chain no_place).part == part)) free ∙ eq-eqb _ _ lies

  kept_no : (get_or since chain false ≡ false → (get_or spots chain no_place).part ≢ part) → is_kept_in spots since part chain ≡ false
  kept_no elsewhere = by (get_or since chain false) refl
    where
      by : (b : Bool) → get_or since chain false ≡ b → (not b && ((get_or spots chain no_place).part == part)) ≡ false
      by true noted = refl
      by false free = ne_eqb _ _ (elsewhere free)

  -- one chain more
  kept_next : kept_in spots since (chain + 1) part ≡ kept_in spots since chain part + cond (is_kept_in spots since part chain) 1 0
  kept_next =
      let is = is_kept_in spots since part in
      omega (arith, count_by-map (λ b. b) is (range_with_len 0 chain), count_by-map (λ b. b) is (range_with_len 0 (chain + 1)), sum_by-map-range_with_len_more (λ b. cond b 1 0) is 0 chain chain (omega arith))

  -- no more than there are, and no more than later
  pub kept_within : kept_in spots since chain part ≤ chain
  kept_within = omega (arith, count_by-le-length (is_kept_in spots since part) (range_with_len 0 chain), length-range_with_len 0 chain)

  pub kept_all : (chains : ℕ) → chain ≤ chains → kept_in spots since chain part ≤ kept_in spots since chains part
  kept_all chains less =
      let is = is_kept_in spots since part in
      let front = ap (λ bs. count_by (λ b. b) bs) (take-map-range_with_len is 0 chains chain less) in
      omega (arith, front, sum_by-take-le (λ b. cond b 1 0) (map is (range_with_len 0 chains)) chain, count_by-map (λ b. b) is (range_with_len 0 chain), count_by-map (λ b. b) is (range_with_len 0 chains))

  -- one that is not noted and lies there, and any other
  pub kept_one : get_or since chain false ≡ false → (get_or spots chain no_place).part ≡ part → kept_in spots since (chain + 1) part ≡ kept_in spots since chain part + 1
  kept_one free lies = omega (arith, kept_next, ap {B = ℕ} (λ b. cond b 1 0) (kept_yes free lies))

  pub kept_none : (get_or since chain false ≡ false → (get_or spots chain no_place).part ≢ part) → kept_in spots since (chain + 1) part ≡ kept_in spots since chain part
  kept_none elsewhere = omega (arith, kept_next, ap {B = ℕ} (λ b. cond b 1 0) (kept_no elsewhere))

-- where more chains are noted, no more are kept
pub kept_fewer : (spots : List EntryPosition) (old new : List Bool) (chains part : ℕ) → NotesMore old new → kept_in spots new chains part ≤ kept_in spots old chains part
kept_fewer spots old new chains part more = count_by-le (is_kept_in spots new part) (is_kept_in spots old part) (range_with_len 0 chains) each
  where
    both : (a b : Bool) → (not a && b) ≡ true → (a ≡ false) × (b ≡ true)
    both false b e = (refl, e)
    both true b e = cc

    each : (chain : ℕ) → is_kept_in spots new part chain ≡ true → is_kept_in spots old part chain ≡ true
    each chain is =
        let b = both (get_or new chain false) ((get_or spots chain no_place).part == part) is in
        ap (λ a. not a && ((get_or spots chain no_place).part == part)) (more.1 chain b.0) ∙ b.1

-- ---- the counts of all parts

-- how many of the first so many chains are kept in each part
abbrev pub AreCounts : List EntryPosition → List Bool → ℕ → List ℕ → Type 0
AreCounts spots since chain counts = (part : ℕ) → part < length counts → get_or counts part 0 ≡ kept_in spots since chain part

-- with one chain more, which lies in one of them or in none
module _ (spots : List EntryPosition) (since : List Bool) (chain : ℕ) (counts : List ℕ) (each : AreCounts spots since chain counts) where
  pub count_one : (at more : ℕ) → at < length counts → get_or since chain false ≡ false → (get_or spots chain no_place).part ≡ at → more ≡ get_or counts at 0 + 1 → (part : ℕ) → part < length counts → get_or (set counts at more) part 0 ≡ kept_in spots since (chain + 1) part
  count_one at more within free lies is part less = elim (same_or_not part at) [
    | inl same ↦
        let set_there = ap (λ k. get_or (set counts at more) k 0) same ∙ get_or-set_same counts at more 0 within in
        omega (arith, set_there, is, ap (λ k. get_or counts k 0) same, each part less, kept_one spots since part chain free (lies ∙ sym same))
    | inr other ↦ omega (arith, get_or-set_other counts at part more 0 other, each part less, kept_none spots since part chain (λ _ there. other (sym there ∙ lies)))
  ]

  pub count_none : (get_or since chain false ≡ false → length counts ≤ (get_or spots chain no_place).part) → AreCounts spots since (chain + 1) counts
  count_none outside part less = omega (arith, each part less, kept_none spots since part chain (λ free there. (let out = outside free in omega (arith, out, there, less))))

-- ---- many parts cannot all have many

all_many : (counts : List ℕ) → ((k : ℕ) → k < length counts → 256 ≤ get_or counts k 0) → 256 * length counts ≤ sum_by (λ n. n) counts
all_many [] many = omega arith
all_many (n ∷ ns) many =
    let rest = all_many ns (λ k less. many (suc k) (omega (arith, less))) in
    omega (arith, rest, many 0 (omega arith), sum_by-cons (λ k. k) n ns)

pub few_in_one : (counts : List ℕ) (best : ℕ) → 256 < length counts → sum_by (λ n. n) counts ≤ 65536 → ((k : ℕ) → k < length counts → get_or counts best 0 ≤ get_or counts k 0) → get_or counts best 0 ≤ 512
few_in_one counts best long all least = elim (cases_lt (get_or counts best 0) 256) [
  | inl less ↦ omega (arith, less)
  | inr more ↦ absurd (let many = all_many counts (λ k less. (let l = least k less in omega (arith, more, l))) in omega (arith, many, long, all))
]

-- ---- how many parts there are then

put_long : (parts : List (List Holding)) (at : ℕ) (part : List Holding) → length (put_at parts at part) ≤ length parts + 1
put_long [] at part = omega arith
put_long (p ∷ parts) zero part = omega arith
put_long (p ∷ parts) (suc at) part = let rest = put_long parts at part in omega (arith, rest)

-- in the place of another, as many as before
put_over : (parts : List (List Holding)) (at : ℕ) (part : List Holding) → at < length parts → length (put_at parts at part) ≡ length parts
put_over [] at part less = absurd (omega (arith, less))
put_over (p ∷ parts) zero part less = refl
put_over (p ∷ parts) (suc at) part less = ap suc (put_over parts at part (omega (arith, less)))

-- no more than before, where there were more than most
pub put_few : (parts : List (List Holding)) (at : ℕ) (part : List Holding) (most : ℕ) → (most < length parts → at < length parts) → length (put_at parts at part) ≤ max (most + 1) (length parts)
put_few parts at part most over = elim (cases_lt most (length parts)) [
  | inl many ↦ let long = put_over parts at part (over many) in omega (arith, long)
  | inr few ↦ let long = put_long parts at part in omega (arith, long, few)
]

-- where there is a part, it is one of these
pub some_within : (room : Option ℕ) (end long : ℕ) → room ≢ None → IfSome room (λ part. part < long) → unwrap_or room end < long
some_within None end long some within = absurd (some refl)
some_within (Some part) end long some within = within
