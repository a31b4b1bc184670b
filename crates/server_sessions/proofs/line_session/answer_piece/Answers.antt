use Rattle.std.proofs.Common.{◌∙◌, rules, ◌≡◌, ◌++◌, [], List, ℕ, Some, None, length, drop, refl, sym, ap}
use Rattle.std.proofs.lemmas.Bool.{eqb-true}
use Rattle.std.proofs.lemmas.List.{append-nil, nil_from_length, take_rest}
use Rattle.line_protocol.specs.Held.{HandsOut}
use Rattle.line_runs.proofs.Faults.{at_any}
use Rattle.line_runs.proofs.Fronts.{fed_whole}
use Rattle.line_runs.proofs.Gathering.{Gathers-none}
use Rattle.server_sessions.specs.Answered.{BreaksOffIn}
use Rattle.server_sessions.specs.Said.{said_line}
use Rattle.server_sessions.specs.Telling.{BreaksTelling}
use Rattle.server_sessions.specs.declared.line_session.SessionEnd.TheVariants.{Silent}
use Rattle.server_sessions.proofs.InTurn.{breaks_after as breaks_behind, breaks_at_line, breaks_before, breaks_waiting, ends_before, ends_without_memory, gathers_line, goes_after, goes_on, takes_after, takes_so_far, takes_too_long, takes_waiting, up_to_none}
use Rattle.server_sessions.proofs.ToldOf.{breaks_after, breaks_here, breaks_line, told_kept, told_line, told_none, told_on}
use Rattle.server_sessions.proofs.line_session.answer_piece.Goals as goal

-- ---- a line that is answered, and is the last one, since an allocation failed

pub returns-then-ends-clause-keeps : goal.returns-then-ends-clause-keeps
returns-then-ends-clause-keeps g c = record {
  ready = search rules;
  tenant = search rules;
  told =
      let newest = c.loop-rest.connection.terms.options.newest in
      let epoch = c.args.hub.now.epoch in
      let first = c.loop-rest.connection.seat in
      let last = c.answer.new.self.seat in
      let before = g.W.Write.contents c.args.writer.now in
      let old = g.W.Write.contents c.loop-rest.writer in
      let mid = g.W.Write.contents c.find_peer.new.writer in
      let new = g.W.Write.contents c.make_room.new.writer in
      let out = c.loop-rest.out.items in
      let made = c.make_room.new.out.items in
      told_on c.args.connection.now.terms.options.newest epoch before old new c.args.out.now.items out made c.args.connection.now.seat first last c.loop-rest.invariant.told
      (rw c.loop-rest.invariant.terms at
      (told_on newest epoch old mid new out out made first first last (told_kept newest epoch old mid out first c.find_peer.ensures.kept)
      (told_line newest epoch mid new out c.put_answer.new.out.items made (said_line c.answer.new.self.answer) first last c.put_answer.ensures.text c.in_default-answer.ensures.answered.told c.in_ok-make_room.ensures.gathered)));
  begun = search rules;
}

pub returns-then-ends-clause-answered : goal.returns-then-ends-clause-answered
returns-then-ends-clause-answered g c =
    let options = c.loop-rest.connection.terms.options in
    let hub = c.args.hub.now in
    let names = c.loop-rest.connection.terms.names.now in
    let first = c.loop-rest.connection.seat in
    let last = c.answer.new.self.seat in
    let line = c.in-Some.line.now in
    let said = c.answer.new.self.answer in
    let old = g.W.Write.contents c.loop-rest.writer in
    let mid = g.W.Write.contents c.find_peer.new.writer in
    let new = g.W.Write.contents c.make_room.new.writer in
    let out = c.loop-rest.out.items in
    let put = c.put_answer.new.out.items in
    let made = c.make_room.new.out.items in
    let held = c.next_line.follows.lender-at-none in
    let emptied : HandsOut c.feed.new.self (Some c.in-Some.line) held = rw c.in-Some.is at c.next_line.follows.holds-at-none in
    takes_after c.args.connection.now.terms.options hub c.args.connection.now.terms.names.now Silent c.args.connection.now.seat first last (c.args.lines.now ++ c.args.piece.now) c.feed.new.self (drop c.in-Ok.taken c.loop-rest.rest.now) held held
    (g.W.Write.contents c.args.writer.now) old new c.args.out.now.items out made
    (rw (fed_whole c.loop-rest.lines c.feed.new.self c.loop-rest.rest.now c.in-Ok.taken c.in-Ok.ensures.ok) at c.loop-rest.invariant.answered)
    (rw c.loop-rest.invariant.terms at
    (takes_waiting options hub names (Some Silent) first last line c.feed.new.self held old mid new out made c.find_peer.ensures.kept c.in-Some.ensures.waiting.0 emptied
    (ends_without_memory options hub names first last line said c.ends-ends.result mid new out made c.if-ends.true c.in-Some.ensures.waiting.1
    c.in_default-answer.ensures.answered.line c.in_default-answer.ensures.answered.goes_on c.ends-ends.ensures
    (gathers_line mid new out put made (said_line said) c.put_answer.ensures.text c.in_ok-make_room.ensures.gathered))))

-- ---- a line that is answered, and others may follow

pub loop-rest-preserved : goal.loop-rest-preserved
loop-rest-preserved g c =
    let options = c.loop-rest.connection.terms.options in
    let hub = c.args.hub.now in
    let names = c.loop-rest.connection.terms.names.now in
    let first = c.loop-rest.connection.seat in
    let last = c.answer.new.self.seat in
    let line = c.in-Some.line.now in
    let said = c.answer.new.self.answer in
    let before = g.W.Write.contents c.args.writer.now in
    let old = g.W.Write.contents c.loop-rest.writer in
    let mid = g.W.Write.contents c.find_peer.new.writer in
    let new = g.W.Write.contents c.make_room.new.writer in
    let out = c.loop-rest.out.items in
    let put = c.put_answer.new.out.items in
    let made = c.make_room.new.out.items in
    let held = c.next_line.follows.lender-at-none in
    let emptied : HandsOut c.feed.new.self (Some c.in-Some.line) held = rw c.in-Some.is at c.next_line.follows.holds-at-none in
    record {
      ready = search rules;
      waits = search rules;
      terms = c.answer.ensures.terms ∙ c.loop-rest.invariant.terms;
      tenant = search rules;
      told =
          told_on c.args.connection.now.terms.options.newest hub.epoch before old new c.args.out.now.items out made c.args.connection.now.seat first last c.loop-rest.invariant.told
          (rw c.loop-rest.invariant.terms at
          (told_on options.newest hub.epoch old mid new out out made first first last (told_kept options.newest hub.epoch old mid out first c.find_peer.ensures.kept)
          (told_line options.newest hub.epoch mid new out put made (said_line said) first last c.put_answer.ensures.text c.in_default-answer.ensures.answered.told c.in_ok-make_room.ensures.gathered)));
      answered =
          rw take_rest (goes_after c.args.connection.now.terms.options hub c.args.connection.now.terms.names.now c.args.connection.now.seat first last (c.args.lines.now ++ c.args.piece.now) c.feed.new.self (drop c.in-Ok.taken c.loop-rest.rest.now) held
          before old new c.args.out.now.items out made
          (rw (fed_whole c.loop-rest.lines c.feed.new.self c.loop-rest.rest.now c.in-Ok.taken c.in-Ok.ensures.ok) at c.loop-rest.invariant.answered)
          (rw c.loop-rest.invariant.terms at
          (takes_waiting options hub names None first last line c.feed.new.self held old mid new out made c.find_peer.ensures.kept c.in-Some.ensures.waiting.0 emptied
          (goes_on options hub names first last line said c.ends-ends.result mid new out made c.if-ends.false c.in-Some.ensures.waiting.1
          c.in_default-answer.ensures.answered.line c.in_default-answer.ensures.answered.goes_on c.ends-ends.ensures
          (gathers_line mid new out put made (said_line said) c.put_answer.ensures.text c.in_ok-make_room.ensures.gathered)))));
    }

-- no line waits
pub loop-rest-preserved-in_default : goal.loop-rest-preserved-in_default
loop-rest-preserved-in_default g c =
    let kept : HandsOut c.feed.new.self None c.next_line.follows.lender-at-none = rw c.in_default.is at c.next_line.follows.holds-at-none in
    record {
      ready = c.loop-rest.invariant.ready;
      waits = rw kept c.in_default.ensures.none_waits;
      terms = c.loop-rest.invariant.terms;
      tenant = c.loop-rest.invariant.tenant;
      told = c.loop-rest.invariant.told;
      answered = rw kept (rw take_rest (rw (fed_whole c.loop-rest.lines c.feed.new.self c.loop-rest.rest.now c.in-Ok.taken c.in-Ok.ensures.ok) at c.loop-rest.invariant.answered));
    }

-- ---- a line that ends the session before it is answered

-- nothing is reported
pub returns-in-Some-answer-clause-keeps : goal.returns-in-Some-answer-clause-keeps
returns-in-Some-answer-clause-keeps g c = record {
  ready = search rules;
  tenant = search rules;
  told =
      let newest = c.loop-rest.connection.terms.options.newest in
      let epoch = c.args.hub.now.epoch in
      let first = c.loop-rest.connection.seat in
      let last = c.answer.new.self.seat in
      let old = g.W.Write.contents c.loop-rest.writer in
      let mid = g.W.Write.contents c.find_peer.new.writer in
      let out = c.loop-rest.out.items in
      told_on c.args.connection.now.terms.options.newest epoch (g.W.Write.contents c.args.writer.now) old mid c.args.out.now.items out out c.args.connection.now.seat first last c.loop-rest.invariant.told
      (rw c.loop-rest.invariant.terms at
      (told_on newest epoch old mid mid out out out first first last (told_kept newest epoch old mid out first c.find_peer.ensures.kept) ([], Gathers-none mid out, c.in-Some-answer.ensures.ended.untold)));
  begun = search rules;
}

pub returns-in-Some-answer-clause-answered : goal.returns-in-Some-answer-clause-answered
returns-in-Some-answer-clause-answered g c =
    let options = c.loop-rest.connection.terms.options in
    let hub = c.args.hub.now in
    let names = c.loop-rest.connection.terms.names.now in
    let first = c.loop-rest.connection.seat in
    let last = c.answer.new.self.seat in
    let line = c.in-Some.line.now in
    let old = g.W.Write.contents c.loop-rest.writer in
    let mid = g.W.Write.contents c.find_peer.new.writer in
    let out = c.loop-rest.out.items in
    let held = c.next_line.follows.lender-at-none in
    let emptied : HandsOut c.feed.new.self (Some c.in-Some.line) held = rw c.in-Some.is at c.next_line.follows.holds-at-none in
    takes_after c.args.connection.now.terms.options hub c.args.connection.now.terms.names.now c.in-Some-answer.ending c.args.connection.now.seat first last (c.args.lines.now ++ c.args.piece.now) c.feed.new.self (drop c.in-Ok.taken c.loop-rest.rest.now) held held
    (g.W.Write.contents c.args.writer.now) old mid c.args.out.now.items out out
    (rw (fed_whole c.loop-rest.lines c.feed.new.self c.loop-rest.rest.now c.in-Ok.taken c.in-Ok.ensures.ok) at c.loop-rest.invariant.answered)
    (rw c.loop-rest.invariant.terms at
    (takes_waiting options hub names (Some c.in-Some-answer.ending) first last line c.feed.new.self held old mid mid out out c.find_peer.ensures.kept c.in-Some.ensures.waiting.0 emptied
    (ends_before options hub names first last c.in-Some-answer.ending line mid out c.in-Some-answer.ensures.ended.ends c.in-Some-answer.ensures.ended.left)))

-- ---- the answer's line can't be written

pub returns-in_err-make_room-clause-keeps : goal.returns-in_err-make_room-clause-keeps
returns-in_err-make_room-clause-keeps g c = record {
  ready = search rules;
  tenant = search rules;
  told = search rules;
  begun =
      let newest = c.loop-rest.connection.terms.options.newest in
      let epoch = c.args.hub.now.epoch in
      let first = c.loop-rest.connection.seat in
      let last = c.answer.new.self.seat in
      let before = g.W.Write.contents c.args.writer.now in
      let old = g.W.Write.contents c.loop-rest.writer in
      let mid = g.W.Write.contents c.find_peer.new.writer in
      let new = g.W.Write.contents c.make_room.new.writer in
      let out = c.loop-rest.out.items in
      let begun = c.in_err-make_room.ensures.begun in
      let start = c.args.connection.now in
      at_any c.from_residual-in_err-make_room.result (λ fault. BreaksTelling start.terms.options.newest epoch start.seat last before new c.args.out.now.items)
      (λ fault. breaks_after start.terms.options.newest epoch before old new c.args.out.now.items out start.seat first last c.loop-rest.invariant.told
      (rw c.loop-rest.invariant.terms at
      (breaks_after newest epoch old mid new out out first first last (told_kept newest epoch old mid out first c.find_peer.ensures.kept)
      (breaks_line newest epoch mid new out c.put_answer.new.out.items (said_line c.answer.new.self.answer) first last begun.1 c.put_answer.ensures.text c.in_default-answer.ensures.answered.told begun.2))));
}

pub returns-in_err-make_room-clause-broke : goal.returns-in_err-make_room-clause-broke
returns-in_err-make_room-clause-broke g c =
    let options = c.loop-rest.connection.terms.options in
    let hub = c.args.hub.now in
    let names = c.loop-rest.connection.terms.names.now in
    let first = c.loop-rest.connection.seat in
    let last = c.answer.new.self.seat in
    let line = c.in-Some.line.now in
    let old = g.W.Write.contents c.loop-rest.writer in
    let mid = g.W.Write.contents c.find_peer.new.writer in
    let new = g.W.Write.contents c.make_room.new.writer in
    let out = c.loop-rest.out.items in
    let begun = c.in_err-make_room.ensures.begun in
    let start = c.args.connection.now in
    let stream = c.args.lines.now ++ c.args.piece.now in
    let before = g.W.Write.contents c.args.writer.now in
    at_any c.from_residual-in_err-make_room.result (λ fault. BreaksOffIn start.terms.options hub start.terms.names.now start.seat last stream before new c.args.out.now.items)
    (λ fault. breaks_behind start.terms.options hub start.terms.names.now start.seat first last stream c.feed.new.self (drop c.in-Ok.taken c.loop-rest.rest.now) before old new c.args.out.now.items out
    (rw (fed_whole c.loop-rest.lines c.feed.new.self c.loop-rest.rest.now c.in-Ok.taken c.in-Ok.ensures.ok) at c.loop-rest.invariant.answered)
    (rw c.loop-rest.invariant.terms at
    (breaks_waiting options hub names first last line c.feed.new.self old mid new out c.find_peer.ensures.kept c.in-Some.ensures.waiting.0
    (breaks_at_line options hub names first last line c.answer.new.self.answer c.ends-ends.result mid new out c.put_answer.new.out.items begun.1 c.in-Some.ensures.waiting.1
    c.in_default-answer.ensures.answered.line c.in_default-answer.ensures.answered.goes_on c.ends-ends.ensures c.put_answer.ensures.text begun.2))))

-- ---- the peer is gone

pub returns-in_err-find_peer-clause-keeps : goal.returns-in_err-find_peer-clause-keeps
returns-in_err-find_peer-clause-keeps g c = record {
  ready = search rules;
  tenant = search rules;
  told = search rules;
  begun =
      let newest = c.loop-rest.connection.terms.options.newest in
      let epoch = c.args.hub.now.epoch in
      let seat = c.loop-rest.connection.seat in
      let before = g.W.Write.contents c.args.writer.now in
      let old = g.W.Write.contents c.loop-rest.writer in
      let new = g.W.Write.contents c.find_peer.new.writer in
      let out = c.loop-rest.out.items in
      let start = c.args.connection.now in
      at_any c.from_residual.result (λ fault. BreaksTelling start.terms.options.newest epoch start.seat seat before new c.args.out.now.items)
      (λ fault. breaks_after start.terms.options.newest epoch before old new c.args.out.now.items out start.seat seat seat c.loop-rest.invariant.told
      (rw c.loop-rest.invariant.terms at
      (breaks_after newest epoch old new new out out seat seat seat (told_kept newest epoch old new out seat c.find_peer.ensures.kept) (breaks_here newest epoch new out seat))));
}

pub returns-in_err-find_peer-clause-broke : goal.returns-in_err-find_peer-clause-broke
returns-in_err-find_peer-clause-broke g c =
    let options = c.loop-rest.connection.terms.options in
    let hub = c.args.hub.now in
    let names = c.loop-rest.connection.terms.names.now in
    let seat = c.loop-rest.connection.seat in
    let old = g.W.Write.contents c.loop-rest.writer in
    let new = g.W.Write.contents c.find_peer.new.writer in
    let out = c.loop-rest.out.items in
    let start = c.args.connection.now in
    let stream = c.args.lines.now ++ c.args.piece.now in
    let before = g.W.Write.contents c.args.writer.now in
    at_any c.from_residual.result (λ fault. BreaksOffIn start.terms.options hub start.terms.names.now start.seat seat stream before new c.args.out.now.items)
    (λ fault. breaks_behind start.terms.options hub start.terms.names.now start.seat seat seat stream c.feed.new.self (drop c.in-Ok.taken c.loop-rest.rest.now) before old new c.args.out.now.items out
    (rw (fed_whole c.loop-rest.lines c.feed.new.self c.loop-rest.rest.now c.in-Ok.taken c.in-Ok.ensures.ok) at c.loop-rest.invariant.answered)
    (rw c.loop-rest.invariant.terms at
    (breaks_before options hub names seat c.feed.new.self old new out c.find_peer.ensures.kept)))

-- ---- a line that is too long, the end of the piece, its beginning

pub returns-in-Err-clause-answered : goal.returns-in-Err-clause-answered
returns-in-Err-clause-answered g c =
    takes_too_long c.args.connection.now.terms.options c.args.hub.now c.args.connection.now.terms.names.now c.args.connection.now.seat c.loop-rest.connection.seat (c.args.lines.now ++ c.args.piece.now) (c.loop-rest.lines ++ c.loop-rest.rest.now) c.feed.new.self
    c.in-Err.refusal (g.W.Write.contents c.args.writer.now) (g.W.Write.contents c.loop-rest.writer) c.args.out.now.items c.loop-rest.out.items c.loop-rest.invariant.answered c.in-Err.ensures.too_long c.in-Err.ensures.error

pub returns-clause-answered : goal.returns-clause-answered
returns-clause-answered g c =
    let size : length c.loop-rest.rest.now ≡ 0 = eqb-true (length c.loop-rest.rest.now) 0 (sym c.is_empty.ensures ∙ c.loop-rest-test.false) in
    let none : c.loop-rest.rest.now ≡ [] = nil_from_length c.loop-rest.rest.now size in
    let whole : c.loop-rest.lines ++ c.loop-rest.rest.now ≡ c.loop-rest.lines = ap (λ (r : List ℕ). c.loop-rest.lines ++ r) none ∙ append-nil c.loop-rest.lines in
    takes_so_far c.args.connection.now.terms.options c.args.hub.now c.args.connection.now.terms.names.now c.args.connection.now.seat c.loop-rest.connection.seat (c.args.lines.now ++ c.args.piece.now) c.loop-rest.lines
    (g.W.Write.contents c.args.writer.now) (g.W.Write.contents c.loop-rest.writer) c.args.out.now.items c.loop-rest.out.items (rw whole at c.loop-rest.invariant.answered)

-- nothing was answered yet
pub loop-rest-init : goal.loop-rest-init
loop-rest-init g c =
    let terms = c.args.connection.now.terms in
    let seat = c.args.connection.now.seat in
    let writer = g.W.Write.contents c.args.writer.now in
    let out = c.args.out.now.items in
    record {
      ready = c.requires.may.ready;
      waits = c.requires.waits;
      terms = refl;
      tenant = c.requires.may.tenant;
      told = told_none terms.options.newest c.args.hub.now.epoch writer out seat;
      answered = record { text = []; gathers = Gathers-none writer out; answers = up_to_none terms.options c.args.hub.now terms.names.now seat (c.args.lines.now ++ c.args.piece.now) };
    }
