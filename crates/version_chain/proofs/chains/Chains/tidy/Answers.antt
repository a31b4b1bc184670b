use Rattle.std.proofs.Common.{◌≡◌, true, false, length, sym, subst, ap, ◌∙◌, arith}
use Rattle.version_chain.specs.Heads.{Heads}
use Rattle.version_chain.specs.Chain.{HoldsChains}
use Rattle.version_chain.specs.Listed.{with_kept, Lists}
use Rattle.version_chain.specs.Sweeping.{IsShort}
use Rattle.version_chain.proofs.Listing.{is_swept, lists_swept, no_more_listed, stands_with}
use Rattle.version_chain.proofs.chains.Chains.tidy.Goals as goal

pub returns-then-is_due-clause-list : goal.returns-then-is_due-clause-list
returns-then-is_due-clause-list c =
    let before : Heads = record { tenant = c.self.inside.tenant; share = c.self.inside.share; used = c.self.inside.used; heads = c.self.inside.slots.heads; latest = c.self.inside.slots.latest; kept = c.self.inside.kept.kept } in
    lists_swept c.args.block.now before c.sweep.new.self.kept c.sweep.ensures.swept (subst (λ (h : Heads). Lists c.args.block.now h) (sym c.self.view_is) c.requires.list)

pub returns-then-is_due-clause-room : goal.returns-then-is_due-clause-room
returns-then-is_due-clause-room c =
    let before : Heads = record { tenant = c.self.inside.tenant; share = c.self.inside.share; used = c.self.inside.used; heads = c.self.inside.slots.heads; latest = c.self.inside.slots.latest; kept = c.self.inside.kept.kept } in
    let block = c.args.block.now in
    let kept = c.sweep.new.self.kept in
    let lists = lists_swept block before kept c.sweep.ensures.swept (subst (λ (h : Heads). Lists block h) (sym c.self.view_is) c.requires.list) in
    let stands = stands_with block before kept (subst (λ (h : Heads). HoldsChains block h) (sym c.self.view_is) c.requires.stands) in
    let few = no_more_listed block (with_kept before kept) lists stands (is_swept block before kept c.sweep.ensures.swept) in
    omega (arith, few, c.requires.room, ap (λ (h : Heads). h.used) c.self.view_is)

pub returns-then-is_due-clause-unswept : goal.returns-then-is_due-clause-unswept
returns-then-is_due-clause-unswept c short =
    let inside = subst (λ (h : Heads). IsShort h.used h.share h.kept) (sym c.self.view_is) short in
    absurd (let g : true ≡ false = sym c.if-is_due.true ∙ c.is_due.ensures.1 inside in cc)

pub returns-else-is_due-clause-room : goal.returns-else-is_due-clause-room
returns-else-is_due-clause-room c =
    let short = c.is_due.ensures.0 c.if-is_due.false in
    omega (arith, short.0, ap (λ (h : Heads). length h.kept) c.self.view_is, ap (λ (h : Heads). h.share) c.self.view_is)
