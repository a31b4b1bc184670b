-- For `pack_noted` and `pack_one`. Items are packed one after another.
use Rattle.std.proofs.Common.{◌≡◌, ℕ, zero, suc, ◌<◌, ◌≤◌, Bool, false, List, [], ◌∷◌, ◌++◌, length, get_or, set, Some, inl, inr, refl, sym, ap, ◌∙◌, arith}
use Rattle.std.proofs.lemmas.List.{get_or-set_same, get_or-set_other}
use Rattle.std.specs.Prelude.{slice_get}
use Rattle.version_chain.proofs.Replacing.{same_or_not}
use Rattle.version_chain.specs.declared.version.Version.{Version}
use Rattle.prepare_commit.specs.declared.items.ChainedItem.{ChainedItem}
use Rattle.prepare_commit.specs.declared.parts.EntryPosition.{EntryPosition}
use Rattle.prepare_commit.specs.Ahead.{StandsIn}
use Rattle.prepare_commit.specs.Begun.{BegunBase, Holding, IsFree, IsKeptSince, NotesMore, held_at, holding_of, no_place, put_at}
use Rattle.prepare_commit.specs.Layout.{HaveOwnChains}
use Rattle.prepare_commit.proofs.Places.{more_put, last_put, put_other}

module _ (parts : List (List Holding)) (free : ℕ) (within : free ≤ length parts) (spots : List EntryPosition) (since : List Bool) (items : List ChainedItem) (chains : List (List Version)) where
  -- nothing is packed as yet
  pub packs_none : IsFree spots since items free → IsKeptSince (record { parts = parts; spots = spots }) since items chains → IsKeptSince (record { parts = put_at parts free []; spots = spots }) since items chains
  packs_none is_free kept k d less still =
      let place = get_or spots (get_or items k d).chain no_place in
      ap (λ (p : List Holding). slice_get p place.at) (put_other parts free place.part [] within (is_free k d less still)) ∙ kept k d less still

  -- one item more
  module _ (part : List Holding) (i : ChainedItem) (stands : StandsIn items i) (own : HaveOwnChains items) (spot : i.chain < length spots) (kept : IsKeptSince (record { parts = put_at parts free part; spots = spots }) since items chains) where
    pub packs_more : IsKeptSince (record { parts = put_at parts free (part ++ holding_of chains i ∷ []); spots = set spots i.chain (record { part = free; at = length part }) }) (set since i.chain false) items chains
    packs_more k d less still =
        let place : EntryPosition = record { part = free; at = length part } in
        let after = put_at parts free (part ++ holding_of chains i ∷ []) in
        let other = get_or items k d in
        elim (same_or_not other.chain i.chain) [
          | inl same ↦
              let k_is : k ≡ stands.0 = own k stands.0 d less stands.1 (same ∙ ap (λ (x : ChainedItem). x.chain) (stands.2 ∙ default stands.0 i d stands.1)) in
              let is : other ≡ i = ap (λ n. get_or items n d) k_is ∙ sym (stands.2 ∙ default stands.0 i d stands.1) in
              ap (λ n. held_at after (get_or (set spots i.chain place) n no_place)) same
              ∙ ap (held_at after) (get_or-set_same spots i.chain place no_place spot)
              ∙ last_put parts free part (holding_of chains i) within
              ∙ ap (λ (x : ChainedItem). Some (holding_of chains x)) (sym is)
          | inr differs ↦
              let was = kept k d less (sym (get_or-set_other since i.chain other.chain false false differs) ∙ still) in
              ap (held_at after) (get_or-set_other spots i.chain other.chain place no_place differs)
              ∙ more_put parts free part (holding_of chains i ∷ []) (get_or spots other.chain no_place) (holding_of chains other) within was
        ]
      where
        default : (n : ℕ) (c e : ChainedItem) → n < length items → get_or items n c ≡ get_or items n e
        default n c e less = same_at items n c e less
          where
            same_at : (xs : List ChainedItem) (n : ℕ) (c e : ChainedItem) → n < length xs → get_or xs n c ≡ get_or xs n e
            same_at [] n c e less = absurd (omega (arith, less))
            same_at (x ∷ xs) zero c e less = refl
            same_at (x ∷ xs) (suc n) c e less = same_at xs n c e (omega (arith, less))

-- and where no item was taken out, no fewer chains are noted
pub packs_same : (begun : BegunBase) (since new : List Bool) (items : List ChainedItem) (chains : List (List Version)) → NotesMore since new → IsKeptSince begun since items chains → IsKeptSince begun new items chains
packs_same begun since new items chains more kept k d less still = kept k d less (more.1 (get_or items k d).chain still)
