use Rattle.std.proofs.Common.{◌∙◌, ap, false, subst, sym, true}
use Rattle.std.specs.Prelude.{not}
use Rattle.hub.specs.Hubs.{view_with}
use Rattle.workload.specs.Serving.{HasServedOf, IsLeftIn}
use Rattle.workload.proofs.serve.StoreServer.serve.Goals as goal

pub returns-then-self : goal.returns-then-self
returns-then-self g c =
    let config = c.args.self.store.config in
    let counts = c.args.self.options.counts in
    let names = c.args.self.names.now in
    let old = g.W.Write.contents c.args.writer.now in
    let new = g.W.Write.contents c.serve_unrecorded.new.writer in
    let ended = c.serve_unrecorded.result in
    record {
      served =
          subst (λ unrecorded. HasServedOf (IsLeftIn c.serve_unrecorded.new.its) unrecorded counts (view_with config c.args.self.store.journals) names old new ended) (sym c.if-self.true)
          (subst (λ journals. HasServedOf (IsLeftIn c.serve_unrecorded.new.its) true counts (view_with config journals) names old new ended) (sym (c.args.self.journals ∙ ap not c.if-self.true))
          c.serve_unrecorded.ensures.served);
      port = c.serve_unrecorded.ensures.port;
    }

pub returns-then-self-eq0-clause-served : goal.returns-then-self-eq0-clause-served
returns-then-self-eq0-clause-served g c =
    let config = c.args.self.store.config in
    let counts = c.args.self.options.counts in
    let names = c.args.self.names.now in
    let old = g.W.Write.contents c.args.writer.now in
    let new = g.W.Write.contents c.serve_and_settle.new.writer in
    let ended = c.serve_and_settle.result in
    let left = c.serve_and_settle.new.its in
    subst (λ unrecorded. HasServedOf (IsLeftIn left) unrecorded counts (view_with config c.args.self.store.journals) names old new ended) (sym c.if-self.false)
    (subst (λ journals. HasServedOf (IsLeftIn left) false counts (view_with config journals) names old new ended) (sym (c.args.self.journals ∙ ap not c.if-self.false))
    c.serve_and_settle.ensures.served)

pub returns-clause-served : goal.returns-clause-served
returns-clause-served g c =
    let config = c.args.self.store.config in
    let counts = c.args.self.options.counts in
    let names = c.args.self.names.now in
    let old = g.W.Write.contents c.args.writer.now in
    let new = g.W.Write.contents c.serve_and_check.new.writer in
    let ended = c.serve_and_check.result in
    let left = c.serve_and_check.new.its in
    subst (λ unrecorded. HasServedOf (IsLeftIn left) unrecorded counts (view_with config c.args.self.store.journals) names old new ended) (sym c.if-self.false)
    (subst (λ journals. HasServedOf (IsLeftIn left) false counts (view_with config journals) names old new ended) (sym (c.args.self.journals ∙ ap not c.if-self.false))
    c.serve_and_check.ensures.served)
