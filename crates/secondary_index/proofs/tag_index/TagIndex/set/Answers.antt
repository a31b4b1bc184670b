use Rattle.std.proofs.Common.{◌≡◌, Some, ◌∷◌, ◌≤◌, length, inl, inr, arith, sym, subst, ◌∙◌}
use Rattle.std.proofs.lemmas.Slice.Eq.{bytes_eq-Decides}
use Rattle.secondary_index.specs.Index.{Tags, IsIndexOf}
use Rattle.secondary_index.proofs.Findings.{IsIndexOf-set}
use Rattle.secondary_index.proofs.Setting.{absent, set_members, set_count, pair_fits, place_is, entries_fit, set_tags, kept_members, kept_count, same_tag}
use Rattle.secondary_index.proofs.tag_index.TagIndex.set.Goals as goal
use Rattle.secondary_index.proofs.tag_index.TagIndex.set.Goals.{After-put-old, After-take_out, Then-eq}

-- the entries with the new one have room
fits : (c : After-put-old) → length c.put-old.new.entries.items ≤ c.self.inside.room
fits c =
    let entries = c.self.inside.entries in
    entries_fit c.args.self.now c.self.inside.room entries.items c.self.invariant.0.in_order c.self.view_is c.args.key.now c.put-old.result (length c.put-old.new.entries.items) c.requires c.put-old.ensures.old
    c.self.invariant.1 c.put-old.ensures.len

pub put-old-requires-clause-room : goal.put-old-requires-clause-room
put-old-requires-clause-room c =
    let entries = c.self.inside.entries in
    elim (place_is c.args.self.now c.self.inside.room entries.items c.self.invariant.0.in_order c.self.view_is c.args.key.now c.requires) [
      | inl known ↦ inl known
      | inr left ↦ inr (omega (arith, left, c.self.invariant.2))
    ]

pub put_in-requires-clause-new : goal.put_in-requires-clause-new
put_in-requires-clause-new c =
    absent c.self.inside.entries.items c.self.inside.pairs.items c.self.invariant.0 c.args.key.now c.args.tag c.put-old.new.entries.items c.put-old.result c.put-old.ensures.tags c.put-old.ensures.old
    c.take_out.new.pairs.items c.take_out.ensures.members

pub put_in-requires-clause-room : goal.put_in-requires-clause-room
put_in-requires-clause-room c some =
    let pairs = c.self.inside.pairs in
    let taken = c.take_out.new.pairs in
    let less = pair_fits c.self.inside.entries.items pairs.items c.self.invariant.0 c.args.key.now c.args.tag c.put-old.new.entries.items c.put-old.result c.put-old.ensures.tags c.put-old.ensures.old
    taken.items c.take_out.ensures.members c.take_out.ensures.len c.put-old.ensures.tagged some in
    omega (arith, less, fits (goal.at.put_in-requires-clause-room c).After-put-old, c.take_out.ensures.room, c.self.invariant.3)

-- the key had the tag already
same : (c : Then-eq) → c.put-old.result ≡ Some c.args.tag
same c = same_tag _ (λ x y h. (bytes_eq-Decides x y).0 h) c.put-old.result c.args.tag (sym c.eq.ensures ∙ c.if-eq.true)

pub invariant_of-self : goal.invariant_of-self
invariant_of-self c =
    let entries = c.self.inside.entries in
    let pairs = c.self.inside.pairs in
    let was = same (goal.at.invariant_of-self c).Then-eq in (
      record {
        in_order = c.put-old.ensures.order;
        pairs_in_order = c.self.invariant.0.pairs_in_order;
        members = kept_members entries.items pairs.items c.self.invariant.0 c.args.key.now c.args.tag c.put-old.new.entries.items c.put-old.result c.put-old.ensures.tags c.put-old.ensures.old was;
        as_many = kept_count entries.items pairs.items c.self.invariant.0 c.args.key.now c.args.tag c.put-old.new.entries.items c.put-old.result c.put-old.ensures.tags c.put-old.ensures.old was c.put-old.ensures.tagged;
      },
      fits (goal.at.invariant_of-self c).After-put-old,
      omega (arith, c.put-old.ensures.room, c.self.invariant.2),
      c.self.invariant.3,
      c.self.invariant.4,
    )

pub returns-then-eq-clause-law : goal.returns-then-eq-clause-law
returns-then-eq-clause-law c settings was =
    let tags = set_tags c.args.self.now c.self.inside.room c.self.inside.entries.items c.self.invariant.0.in_order c.self.view_is c.put-old.new.entries.items c.args.key.now c.args.tag c.put-old.ensures.tags in
    let P : Tags → Type 0 = λ t. IsIndexOf t (record { key = c.args.key.now; tag = c.args.tag } ∷ settings) in
    subst P (sym tags) (IsIndexOf-set c.args.self.now.tags c.args.key.now c.args.tag settings was)

pub invariant_of-self-2 : goal.invariant_of-self-2
invariant_of-self-2 c =
    let pairs = c.self.inside.pairs in
    let taken = c.take_out.new.pairs in
    let final = c.put_in.new.pairs in (
      record {
        in_order = c.put-old.ensures.order;
        pairs_in_order = c.put_in.ensures.order;
        members = set_members c.self.inside.entries.items pairs.items c.self.invariant.0 c.args.key.now c.args.tag c.put-old.new.entries.items c.put-old.result c.put-old.ensures.tags c.put-old.ensures.old
            taken.items c.take_out.ensures.members final.items c.put_in.ensures.members;
        as_many = set_count c.self.inside.entries.items pairs.items c.self.invariant.0 c.args.key.now c.args.tag c.put-old.new.entries.items c.put-old.result c.put-old.ensures.tags c.put-old.ensures.old
            taken.items c.take_out.ensures.members c.take_out.ensures.len c.put-old.ensures.tagged final.items c.put_in.ensures.len;
      },
      fits (goal.at.invariant_of-self-2 c).After-put-old,
      omega (arith, c.put-old.ensures.room, c.self.invariant.2),
      omega (arith, c.take_out.ensures.room, c.put_in.ensures.room, c.self.invariant.3),
      c.self.invariant.4,
    )

pub returns-clause-law : goal.returns-clause-law
returns-clause-law c settings was =
    let tags = set_tags c.args.self.now c.self.inside.room c.self.inside.entries.items c.self.invariant.0.in_order c.self.view_is c.put-old.new.entries.items c.args.key.now c.args.tag c.put-old.ensures.tags in
    let P : Tags → Type 0 = λ t. IsIndexOf t (record { key = c.args.key.now; tag = c.args.tag } ∷ settings) in
    subst P (sym tags) (IsIndexOf-set c.args.self.now.tags c.args.key.now c.args.tag settings was)
