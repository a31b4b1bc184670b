use Rattle.std.proofs.Common.{List, length, sym, ap, ◌∙◌}
use Rattle.packed.specs.Cuts.{pieces}
use Rattle.packed.proofs.Pieces.{as_many}
use Rattle.version_chain.specs.declared.version.Version.{Version}
use Rattle.prepare_commit.specs.declared.items.KnownItem.{KnownItem}
use Rattle.prepare_commit.proofs.ahead.NewPart.packed.Goals as goal

pub of-requires-2 : goal.of-requires-2
of-requires-2 c =
    let part = c.args.self in
    ap (λ (cs : List (List Version)). length cs) c.of-chains.ensures
    ∙ ap (λ (vs : List Version). length (pieces vs 0 part.ends.items)) c.in_ok-fitted.ensures
    ∙ as_many part.found 0 part.ends.items
    ∙ c.requires.many
    ∙ sym (ap (λ (es : List KnownItem). length es) (c.in_ok-of.ensures ∙ c.deref.ensures.value))
