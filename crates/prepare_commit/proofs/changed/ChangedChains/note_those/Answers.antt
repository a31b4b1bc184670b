use Rattle.std.proofs.Common.{◌<◌, ◌==◌, ◌||◌, ℕ, false, List, Bool, All, length, get_or, sym, ap, subst, ◌∙◌, arith}
use Rattle.std.specs.List.{list_any}
use Rattle.prepare_commit.proofs.Noting.{each_within, among}
use Rattle.prepare_commit.proofs.changed.ChangedChains.note_those.Goals as goal

pub note_each-requires : goal.note_each-requires
note_each-requires c =
    let o = c.others.inside in
    let within = each_within o.flags.items o.numbers.items c.others.invariant.0 in
    subst (λ (ns : List ℕ). All (λ (n : ℕ). n < length c.args.self.now) ns) (sym c.deref.ensures.value)
    (λ k d w. let less = within k d w in omega (arith, less, c.requires, ap (λ (bs : List Bool). length bs) c.others.view_is))

pub returns-clause-noted : goal.returns-clause-noted
returns-clause-noted c chain =
    let o = c.others.inside in
    c.note_each.ensures.noted chain
    ∙ ap (λ (b : Bool). get_or c.args.self.now chain false || b)
    (ap (λ (ns : List ℕ). list_any (λ n. n == chain) ns) c.deref.ensures.value
    ∙ among o.flags.items o.numbers.items chain c.others.invariant.0
    ∙ ap (λ (bs : List Bool). get_or bs chain false) c.others.view_is)
