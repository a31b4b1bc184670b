use Rattle.std.proofs.Common.{◌≡◌, ◌∙◌, true, false, sym, arith}
use Rattle.hub.proofs.Staging.{first_replied, if_first}
use Rattle.hub.proofs.dispatcher.Dispatcher.next_reply.Goals as goal

-- a reply to a call of the operation is not turned away
pub returns-else-is_own-clause-first : goal.returns-else-is_own-clause-first
returns-else-is_own-clause-first g c served =
    if_first c.args.self.now.calls.items _ _
    (λ staged is tenant seat behind up_to marked.
    let own : c.is_own.result ≡ true = c.is_own.ensures.1 (is.tenant ∙ tenant, is.seat ∙ seat, omega (arith, is.number, behind), omega (arith, is.number, up_to), is.mark ∙ marked) in
    let no : true ≡ false = sym own ∙ c.if-is_own.false in
    cc)
    (first_replied c.args.self.now.calls.items c.receive.result c.in-Ok.reply c.in-Ok.is (c.receive.ensures.first served))
