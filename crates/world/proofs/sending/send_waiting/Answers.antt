use Rattle.std.proofs.Common.{◌≡◌, ◌++◌, [], ◌∷◌, take, append_assoc, append-nil, sym, ap, ◌∙◌, subst, arith}
use Rattle.message_table.specs.Content.{StandsFor as TableStandsFor}
use Rattle.tenant_sessions.specs.Sessions.{waiting}
use Rattle.world.proofs.Results.{none_of, take_got, take_ended}
use Rattle.world.proofs.sending.send_waiting.Goals as goal

pub loop-nth-init : goal.loop-nth-init
loop-nth-init c = record {
  rows = omega arith;
  room = omega (arith, c.requires.room);
  stands = λ setup history messages lost is sessions table. subst (λ ms. TableStandsFor c.args.table.now ms lost) (sym (append-nil messages)) table;
}

pub loop-nth-preserved : goal.loop-nth-preserved
loop-nth-preserved c = record {
  rows = omega (arith, c.loop-nth.invariant.rows, c.send_reserved.ensures.sent);
  room = omega (arith, c.loop-nth.invariant.room, c.send_reserved.ensures.reserved);
  stands = λ setup history messages lost is sessions table.
      let all = waiting setup history c.args.client in
      let n = c.loop-nth.nth in
      let more = c.send_reserved.ensures.stands (messages ++ take n all) lost (c.loop-nth.invariant.stands setup history messages lost is sessions table) in
      let next = take_got all n c.in-Some.message (sym (c.call.ensures setup history is sessions) ∙ c.in-Some.is) in
      subst (λ ms. TableStandsFor c.send_reserved.new.table ms lost) (append_assoc messages (take n all) (c.in-Some.message ∷ []) ∙ ap (λ ms. messages ++ ms) (sym next)) more;
}

-- no more calls wait
pub returns-in_default : goal.returns-in_default
returns-in_default c setup history messages lost is sessions table =
    let all = waiting setup history c.args.client in
    let n = c.loop-nth.nth in
    let ended = take_ended all n c.args.limit (sym (c.call.ensures setup history is sessions) ∙ none_of c.call.result c.in_default.not-Some) (omega arith) in
    subst (λ ms. TableStandsFor c.loop-nth.table (messages ++ ms) lost) (sym ended) (c.loop-nth.invariant.stands setup history messages lost is sessions table)

pub returns : goal.returns
returns c setup history messages lost is sessions table =
    let done : c.loop-nth.nth ≡ c.args.limit = omega (arith, c.loop-nth-test.false, c.loop-nth.auto.nth-end) in
    subst (λ n. TableStandsFor c.loop-nth.table (messages ++ take n (waiting setup history c.args.client)) lost) done
    (c.loop-nth.invariant.stands setup history messages lost is sessions table)
