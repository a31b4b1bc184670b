use Rattle.std.proofs.Common.{◌≡◌, [], ap, ◌∙◌, arith}
use Rattle.std.specs.FinMap as map
use Rattle.lists.specs.Listing.{Listing}
use Rattle.stamps.specs.Key.{key_cmp}
use Rattle.secondary_index.specs.declared.entries.TaggedKey.{TaggedKey}
use Rattle.secondary_index.specs.declared.pairs.Pair.{Pair}
use Rattle.secondary_index.specs.Layout.{tags_of}
use Rattle.secondary_index.proofs.Setting.{tags_of-nil, nothing_holds}
use Rattle.secondary_index.proofs.tag_index.TagIndex.open.Goals as goal

pub invariant_of-result : goal.invariant_of-result
invariant_of-result c = (
  rw (c.in_ok-open.ensures, c.in_ok-open-2.ensures) nothing_holds,
  rw c.in_ok-open.ensures (omega arith),
  ap (λ (l : Listing TaggedKey). l.room) c.in_ok-open.ensures,
  ap (λ (l : Listing Pair). l.room) c.in_ok-open-2.ensures,
  omega arith,
)

no_entry : (l : Listing TaggedKey) (room : _) → l ≡ record { room = room; items = [] } → tags_of l.items ≡ map.empty
no_entry l room is = ap (λ (l : Listing TaggedKey). tags_of l.items) is ∙ tags_of-nil

pub returns-clause-value : goal.returns-clause-value
returns-clause-value c i = record { room = c.args.items; tags = no_entry _ _ c.in_ok-open.ensures i }

pub returns-clause-law : goal.returns-clause-law
returns-clause-law c key = ap (λ t. map.get t key) (no_entry _ _ c.in_ok-open.ensures) ∙ map.get-empty key_cmp key
