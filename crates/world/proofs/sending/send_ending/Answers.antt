use Rattle.std.proofs.Common.{◌≡◌, ◌++◌, [], ◌∷◌, map, take, append_assoc, append-nil, sym, ap, ◌∙◌, subst, arith}
use Rattle.plain_store.specs.Run.{call_message}
use Rattle.message_table.specs.Content.{StandsFor as TableStandsFor}
use Rattle.tenant_sessions.specs.Sessions.{ending}
use Rattle.tenant_sessions.specs.Moves.{moved}
use Rattle.world.proofs.Results.{none_of, take_got, take_ended}
use Rattle.world.proofs.sending.send_ending.Goals as goal

pub loop-nth-init : goal.loop-nth-init
loop-nth-init c = record {
  rows = omega arith;
  room = omega (arith, c.requires.room);
  stands = λ messages lost readings table. subst (λ ms. TableStandsFor c.args.table.now ms lost) (sym (append-nil messages)) table;
}

pub loop-nth-preserved : goal.loop-nth-preserved
loop-nth-preserved c = record {
  rows = omega (arith, c.loop-nth.invariant.rows, c.send_reserved.ensures.sent);
  room = omega (arith, c.loop-nth.invariant.room, c.send_reserved.ensures.reserved);
  stands = λ messages lost readings table.
      let all = map (call_message c.args.client c.args.ticket) (ending (moved c.args.taken.now readings)) in
      let n = c.loop-nth.nth in
      let more = c.send_reserved.ensures.stands (messages ++ take n all) lost (c.loop-nth.invariant.stands messages lost readings table) in
      let next = take_got all n c.in-Some.message (sym (c.ending.ensures readings) ∙ c.in-Some.is) in
      subst (λ ms. TableStandsFor c.send_reserved.new.table ms lost) (append_assoc messages (take n all) (c.in-Some.message ∷ []) ∙ ap (λ ms. messages ++ ms) (sym next)) more;
}

-- no more calls are sent
pub returns-in_default : goal.returns-in_default
returns-in_default c messages lost readings table =
    let all = map (call_message c.args.client c.args.ticket) (ending (moved c.args.taken.now readings)) in
    let n = c.loop-nth.nth in
    let ended = take_ended all n c.args.limit (sym (c.ending.ensures readings) ∙ none_of c.ending.result c.in_default.not-Some) (omega arith) in
    subst (λ ms. TableStandsFor c.loop-nth.table (messages ++ ms) lost) (sym ended) (c.loop-nth.invariant.stands messages lost readings table)

pub returns : goal.returns
returns c messages lost readings table =
    let done : c.loop-nth.nth ≡ c.args.limit = omega (arith, c.loop-nth-test.false, c.loop-nth.auto.nth-end) in
    subst (λ n. TableStandsFor c.loop-nth.table (messages ++ take n (map (call_message c.args.client c.args.ticket) (ending (moved c.args.taken.now readings)))) lost) done
    (c.loop-nth.invariant.stands messages lost readings table)
