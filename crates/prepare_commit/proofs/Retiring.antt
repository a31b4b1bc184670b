-- For `Cell::tidy`, and the bases of a cell. Where a part can be put.
use Rattle.std.proofs.Common.{◌≡◌, ◌≢◌, ℕ, zero, suc, ◌+◌, ◌<◌, Bool, true, false, cond, List, [], ◌∷◌, ◌++◌, length, get_or, set, count_by, All, inl, inr, refl, sym, ap, ◌∙◌, arith}
use Rattle.std.specs.Arc.{arc_value}
use Rattle.std.specs.declared.sync.Arc.{Arc}
use Rattle.std.specs.declared.alloc.Global.{Global}
use Rattle.std.proofs.lemmas.Bool.{both_ways}
use Rattle.std.proofs.lemmas.List.{length-set, get_or-set_same, get_or-set_other}
use Rattle.std.proofs.lemmas.List.Sums.{sum_by-set}
use Rattle.version_chain.proofs.Replacing.{same_or_not}
use Rattle.version_chain.specs.declared.version.Version.{Version}
use Rattle.prepare_commit.specs.declared.items.ChainedItem.{ChainedItem}
use Rattle.prepare_commit.specs.declared.parts.BasePart.{BasePart}
use Rattle.prepare_commit.specs.declared.parts.EntryPosition.{EntryPosition}
use Rattle.prepare_commit.specs.Begun.{BegunBase, HasRoomAt, IsKeptSince, IsLeft, NotesMore, holding_of, no_place, put_at}
use Rattle.prepare_commit.specs.Sharing.{shared_parts}
use Rattle.prepare_commit.proofs.Places.{in_parts}

-- ---- a part in the place of another

pub put_set : (blocks : List (Arc BasePart Global)) (at : ℕ) (block : Arc BasePart Global) → at < length blocks → shared_parts (set blocks at block) ≡ put_at (shared_parts blocks) at (arc_value block)
put_set [] at block within = absurd (omega (arith, within))
put_set (b ∷ blocks) zero block within = refl
put_set (b ∷ blocks) (suc at) block within = ap (λ ps. arc_value b ∷ ps) (put_set blocks at block (omega (arith, within)))

pub put_push : (blocks : List (Arc BasePart Global)) (at : ℕ) (block : Arc BasePart Global) → at ≡ length blocks → shared_parts (blocks ++ block ∷ []) ≡ put_at (shared_parts blocks) at (arc_value block)
put_push [] at block end = refl
put_push (b ∷ blocks) zero block end = absurd (omega (arith, end))
put_push (b ∷ blocks) (suc at) block end = ap (λ ps. arc_value b ∷ ps) (put_push blocks at block (omega (arith, end)))

-- ---- where there is room

module _ (begun : BegunBase) (since : List Bool) (items : List ChainedItem) (chains : List (List Version)) (kept : IsKeptSince begun since items chains) where
  -- behind all parts
  pub room_at_end : (free : ℕ) → free ≡ length begun.parts → HasRoomAt begun since items free
  room_at_end free end = (
    λ k d within still same.
        let inside = in_parts begun.parts (get_or begun.spots (get_or items k d).chain no_place) (holding_of chains (get_or items k d)) (kept k d within still) in
        absurd (omega (arith, inside, same, end)),
    omega (arith, end),
  )

  -- and what was kept still is where more chains are noted
  pub kept_more : (new : List Bool) → NotesMore since new → IsKeptSince begun new items chains
  kept_more new more k d within still = kept k d within (more.1 (get_or items k d).chain still)

-- in the place of a part in which no chain of an item lies
pub room_in : (begun : BegunBase) (since : List Bool) (items : List ChainedItem) (chains part : ℕ) → All (λ (i : ChainedItem). i.chain < chains) items → IsLeft begun.spots since chains part → part < length begun.parts → HasRoomAt begun since items part
room_in begun since items chains part given left less = (λ k d within still. left (get_or items k d).chain (given k d within) still, omega (arith, less))

-- where all chains are noted
pub room_noted : (begun : BegunBase) (since : List Bool) (items : List ChainedItem) → ((chain : ℕ) → chain < length since → get_or since chain false ≡ true) → All (λ (i : ChainedItem). i.chain < length since) items → HasRoomAt begun since items 0
room_noted begun since items noted known = (
  λ k d within still. absurd (both_ways (get_or since (get_or items k d).chain false) still (noted (get_or items k d).chain (known k d within))),
  omega arith,
)

-- ---- more chains are noted

pub notes_none : (since : List Bool) → NotesMore since since
notes_none since = (refl, λ n free. free)

pub notes_both : (old new later : List Bool) → NotesMore old new → NotesMore new later → NotesMore old later
notes_both old new later first second = (second.0 ∙ first.0, λ n free. first.1 n (second.1 n free))

module _ (since : List Bool) (chain : ℕ) (within : chain < length since) where
  not_noted : (n : ℕ) → get_or (set since chain true) n false ≡ false → (n ≢ chain) × (get_or since n false ≡ false)
  not_noted n free =
      let other = λ (same : n ≡ chain). both_ways (get_or (set since chain true) n false) free (ap (λ k. get_or (set since chain true) k false) same ∙ get_or-set_same since chain true false within) in
      (other, sym (get_or-set_other since chain n true false other) ∙ free)

  pub notes_one : NotesMore since (set since chain true)
  notes_one = (length-set since chain true, λ n free. (not_noted n free).1)

  -- which is one more
  pub one_more : get_or since chain false ≡ false → count_by (λ b. b) (set since chain true) ≡ count_by (λ b. b) since + 1
  one_more free = omega (arith, sum_by-set (λ b. cond b 1 0) since chain true false within, ap {B = ℕ} (λ b. cond b 1 0) free)

  -- of one chain more
  pub left_noted : (spots : List EntryPosition) (part : ℕ) → IsLeft spots since chain part → IsLeft spots (set since chain true) (chain + 1) part
  left_noted spots part left n less free =
      let both = not_noted n free in
      left n (omega (arith, less, both.0)) both.1

pub left_elsewhere : (spots : List EntryPosition) (since : List Bool) (chain part : ℕ) → ((get_or since chain false ≡ false) × ((get_or spots chain no_place).part ≡ part) → ⊥) → IsLeft spots since chain part → IsLeft spots since (chain + 1) part
left_elsewhere spots since chain part elsewhere left n less free lies = elim (same_or_not n chain) [
  | inl same ↦ elsewhere (sym (ap (λ k. get_or since k false) same) ∙ free, sym (ap (λ k. (get_or spots k no_place).part) same) ∙ lies)
  | inr other ↦ left n (omega (arith, less, other)) free lies
]
