use Rattle.std.proofs.Common.{◌≡◌, ◌∷◌, ap, sym, subst, ◌∙◌}
use Rattle.std.specs.FinMap as fin
use Rattle.secondary_index.specs.Index.{Index, Tags, IsIndexOf}
use Rattle.secondary_index.proofs.Findings.{IsIndexOf-set, insert-same}
use Rattle.secondary_index.proofs.tag_index.TagIndex.set_numbered.Goals as goal
use Rattle.secondary_index.proofs.tag_index.TagIndex.set_numbered.Goals.{Then-has_at}

-- the key had the tag already
same : (c : Then-has_at) → fin.insert c.args.self.now.tags c.args.key.now c.args.tag ≡ c.args.self.now.tags
same c = insert-same c.args.self.now.tags c.args.key.now c.args.tag (ap (λ (x : Index). fin.get x.tags c.args.key.now) (sym c.self.view_is) ∙ c.has_at.ensures c.if-has_at.true)

pub returns-then-has_at-clause-value : goal.returns-then-has_at-clause-value
returns-then-has_at-clause-value c i = record { room = c.args.self.now.room; tags = sym (same (goal.at.returns-then-has_at-clause-value c).Then-has_at) i }

pub returns-then-has_at-clause-law : goal.returns-then-has_at-clause-law
returns-then-has_at-clause-law c settings was =
    let P : Tags → Type 0 = λ t. IsIndexOf t (record { key = c.args.key.now; tag = c.args.tag } ∷ settings) in
    subst P (same (goal.at.returns-then-has_at-clause-law c).Then-has_at) (IsIndexOf-set c.args.self.now.tags c.args.key.now c.args.tag settings was)
