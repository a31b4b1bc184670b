use Rattle.std.proofs.Common.{◌≡◌, false, List, [], ◌∷◌, length, Option, Some, None, IfSome, bytes_eq, refl, sym, subst, arith}
use Rattle.std.proofs.lemmas.Bool.{both_ways}
use Rattle.std.proofs.lemmas.Slice.Eq.{bytes_eq-Decides}
use Rattle.std.specs.FinMap as fin
use Rattle.plain_store.specs.Words.{Key, Tag}
use Rattle.secondary_index.specs.Index.{Index, carries_tag}
use Rattle.secondary_index.specs.Layout.{tags_of, Holds}
use Rattle.secondary_index.specs.declared.entries.TaggedKey.{TaggedKey}
use Rattle.secondary_index.specs.declared.pairs.Pair.{Pair}
use Rattle.secondary_index.proofs.tag_index.TagIndex.has_tags.Goals as goal

-- what carries no tag has the empty one
own_none : (own : Option Tag) → ((tag : Tag) → carries_tag tag own ≡ false) → IfSome own (λ tag. tag ≡ [])
own_none None none = tt
own_none (Some []) none = refl
own_none (Some (x ∷ xs)) none = absurd (both_ways (bytes_eq (x ∷ xs) (x ∷ xs)) (none (x ∷ xs)) ((bytes_eq-Decides (x ∷ xs) (x ∷ xs)).1 refl))

no_pairs : (entries : List TaggedKey) (pairs : List Pair) → Holds entries pairs → length pairs ≡ 0 → (key : Key) → IfSome (fin.get (tags_of entries) key) (λ tag. tag ≡ [])
no_pairs entries [] holds none key = own_none (fin.get (tags_of entries) key) (λ tag. sym (holds.members (record { tag = tag; key = key })))
no_pairs entries (p ∷ pairs) holds none key = absurd (omega (arith, none))

pub returns : goal.returns
returns c none key =
    subst (λ (index : Index). IfSome (fin.get index.tags key) (λ tag. tag ≡ [])) c.self.view_is
    (no_pairs c.self.inside.entries.items c.self.inside.pairs.items c.self.invariant.0 (grind (arith, none, c.len.ensures)) key)
