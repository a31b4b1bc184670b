use Rattle.tenant_sessions.proofs.running_search.offer.Goals as goal

pub returns-in-Some : goal.returns-in-Some
returns-in-Some c = c.offer_reply.ensures c.in-Some.is
