use Rattle.std.proofs.Common.{◌≡◌, ◌<◌, false, get_or, length, List, Bool, sym, subst, arith}
use Rattle.prepare_commit.proofs.Noting.{room_left}
use Rattle.prepare_commit.proofs.changed.ChangedChains.note.Goals as goal
use Rattle.prepare_commit.proofs.changed.ChangedChains.note.Goals.{After-index-is_noted}

within : (c : After-index-is_noted) → c.args.chain < length c.self.inside.flags.items
within c = subst (λ (flags : List Bool). c.args.chain < length flags) (sym c.self.view_is) c.requires

-- where it was not noted before
was : (c : After-index-is_noted) → c.index-is_noted.result.now ≡ false → get_or c.self.inside.flags.items c.args.chain false ≡ false
was c free = sym (subst (λ b. b ≡ get_or c.self.inside.flags.items c.args.chain b) free c.index-is_noted.ensures)

pub push_reserved-requires : goal.push_reserved-requires
push_reserved-requires c =
    let at = (goal.at.push_reserved-requires c).After-index-is_noted in
    let cell = c.self.inside in
    omega (arith, room_left cell.flags.items cell.numbers.items c.self.invariant.0 c.args.chain (within at) (was at c.if-is_noted.false), c.self.invariant.1, cell.numbers.ok.0)
