use Rattle.std.proofs.Common.{◌≡◌, List, sym, ap, subst, ◌∙◌, arith}
use Rattle.prepare_commit.specs.Bases.{HasStood, base_of}
use Rattle.prepare_commit.specs.Begun.{Holding, AreOwn, holdings, entries_in, lists_in}
use Rattle.prepare_commit.specs.InBlock.{Parts}
use Rattle.prepare_commit.specs.Layout.{chain_lists, together}
use Rattle.prepare_commit.proofs.Freezing.{frozen}
use Rattle.prepare_commit.proofs.Holding.{holdings_entries, holdings_own, lists_together}
use Rattle.prepare_commit.proofs.Lying.{lies_at}
use Rattle.prepare_commit.proofs.Since.{all_fall}
use Rattle.prepare_commit.proofs.cell.Cell.base_at.Goals as goal
use Rattle.prepare_commit.proofs.cell.Cell.base_at.Goals.{In_ok-marks}

-- what is held is what the items have
whole : (c : In_ok-marks) → c.in_ok-held.held ≡ holdings c.self.inside.entries.items (chain_lists c.args.block.now c.self.inside.versions.chains)
whole c = c.in_ok-held.ensures ∙ ap (λ (p : Parts). holdings p.items (chain_lists c.args.block.now p.chains)) (sym c.self.view_is)

versions : (c : In_ok-marks) → together (lists_in c.in_ok-held.held) ≡ (base_of c.args.block.now c.args.self.now).versions
versions c =
    ap (λ (all : List Holding). together (lists_in all)) (whole c) ∙ lists_together c.self.inside.entries.items (chain_lists c.args.block.now c.self.inside.versions.chains)
    ∙ ap (λ (p : Parts). (base_of c.args.block.now p).versions) c.self.view_is

entries : (c : In_ok-marks) → entries_in c.in_ok-held.held ≡ (base_of c.args.block.now c.args.self.now).entries
entries c =
    ap entries_in (whole c) ∙ holdings_entries c.self.inside.entries.items (chain_lists c.args.block.now c.self.inside.versions.chains) ∙ ap (λ (p : Parts). (base_of c.args.block.now p).entries) c.self.view_is

is_base : (c : In_ok-marks) → record { room = record { slots = c.self.inside.slots; items = c.self.inside.items; clients = c.self.inside.clients }; versions = together (lists_in c.in_ok-held.held); entries = entries_in c.in_ok-held.held; marks = c.in_ok-marks.marks.items } ≡ base_of c.args.block.now c.args.self.now
is_base c =
    let room = ap (λ (p : Parts). p.room) c.self.view_is in
    let marks = c.in_ok-marks.ensures.items ∙ c.deref.ensures.value ∙ ap (λ (p : Parts). p.marks) c.self.view_is in
    λ j. record { room = room j; versions = versions c j; entries = entries c j; marks = marks j }

pub invariant_of-result : goal.invariant_of-result
invariant_of-result c =
    let at = (goal.at.invariant_of-result c).In_ok-marks in
    let lies = lies_at c.args.block.now _ _ c.self.view_is c.requires.lies in
    let items = c.self.inside.entries.items in
    let lists = chain_lists c.args.block.now c.self.inside.versions.chains in (
      subst AreOwn (sym (whole at)) (holdings_own items lists lies.holds.laid),
      frozen c.args.block.now _ _ (is_base at ∙ ap (base_of c.args.block.now) (sym c.self.view_is)) lies c.self.invariant.0
          (all_fall c.args.block.now c.self.inside.versions.chains lies.versions.stands items (λ k d l. (let given = lies.holds.laid.given k d l in omega (arith, given, c.self.invariant.0, lies.holds.chains))))
          c.self.invariant.4 (omega (arith, c.self.invariant.5, c.self.inside.marks.ok.0)) (subst (HasStood c.args.block.now) (sym c.self.view_is) c.requires.log),
    )

pub returns : goal.returns
returns c = is_base (goal.at.returns c).In_ok-marks
