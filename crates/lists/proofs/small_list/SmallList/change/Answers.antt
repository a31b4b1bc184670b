use Rattle.std.proofs.Common.{◌≡◌, ◌≤◌, ◌++◌, length, take, drop, sym, ap, ◌∙◌, arith}
use Rattle.std.proofs.Math.Seq.{take-append_seam}
use Rattle.std.proofs.lemmas.List.{length-take-le}
use Rattle.lists.proofs.small_list.SmallList.change.Goals as goal

pub returns-clause-changed : goal.returns-clause-changed
returns-clause-changed g c =
    let items = c.self.inside.items in
    let rest = drop c.self.inside.len items in
    let within : c.self.inside.len ≤ length items = omega (arith, c.self.invariant.0, c.self.invariant.1) in
    let as_long : length c.f.new.arg2 ≡ c.self.inside.len = c.f.auto.arg2 ∙ length-take-le c.self.inside.len items within in
    let written : take c.self.inside.len (c.f.new.arg2 ++ rest) ≡ c.f.new.arg2 =
    ap (λ n. take n (c.f.new.arg2 ++ rest)) (sym as_long) ∙ take-append_seam c.f.new.arg2 rest in
    record { shown = _; shows = c.self.view_is; left = _; met = c.f.ensures; leaves = sym written }
