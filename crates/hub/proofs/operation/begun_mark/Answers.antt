use Rattle.std.proofs.Common.{◌≡◌, ℕ, sym, subst, Option, Result, Ok, Err}
use Rattle.std.specs.Prelude.{IfOk, IfSome}
use Rattle.std.specs.Result.{result_ok}
use Rattle.history.specs.Entries.{HasMark}
use Rattle.history.specs.declared.entry.Mark.{Mark}
use Rattle.hub.specs.Evidence.{HasBegunIn, IsMarkedSince}
use Rattle.hub.specs.Requests.{intent_of}
use Rattle.hub.specs.declared.seat_request.SeatRequest.{SeatRequest}
use Rattle.hub.proofs.Replies.{marked_read}
use Rattle.hub.proofs.operation.begun_mark.Goals as goal

-- the client's word has the put
pub returns-clause-began : goal.returns-clause-began
returns-clause-began g c =
    let its = c.args.its.now in
    let R : SeatRequest → Type 0 = λ r. HasBegunIn c.begin.new.self.seen its.tenant (intent_of c.args.own r) in
    let S : ℕ → Type 0 = λ t. HasBegunIn c.begin.new.self.seen t (intent_of c.args.own c.args.request.now) in
    subst S c.requires.0 (subst R (sym c.in-Put.is) (its.word, c.in-Ok.ensures.began))

pub returns-clause-since : goal.returns-clause-since
returns-clause-since g c =
    let R : SeatRequest → Type 0 = λ r. IsMarkedSince c.args.name.now r _ c.begin.new.self.seen c.args.seen.now in
    subst R (sym c.in-Put.is) tt

-- what is answered of a value is answered where nothing else is told
some_of_ok : {M E : Type 0} (r : Result M E) (o : Option M) (P : M → Type 0) → o ≡ result_ok r → IfOk r P → IfSome o P
some_of_ok {M = M} (Ok x) o P is told = subst (λ (p : Option M). IfSome p P) (sym is) told
some_of_ok {M = M} (Err e) o P is none = subst (λ (p : Option M). IfSome p P) (sym is) tt

pub returns-in_default-clause-marked : goal.returns-in_default-clause-marked
returns-in_default-clause-marked g c =
    some_of_ok c.begin_read.result c.ok.result (λ (mark : Mark). HasMark c.begin_read.new.self.seen mark) c.ok.ensures.value c.begin_read.ensures.marked

pub returns-in_default-clause-since : goal.returns-in_default-clause-since
returns-in_default-clause-since g c =
    some_of_ok c.begin_read.result c.ok.result (λ (mark : Mark). IsMarkedSince c.args.name.now c.args.request.now mark c.begin_read.new.self.seen c.args.seen.now) c.ok.ensures.value
    (marked_read c.args.name.now c.args.request.now c.begin_read.result c.args.its.now c.begin_read.new.self c.args.seen.now c.requires c.begin_read.ensures.whose.later c.begin_read.ensures.joined c.begin_read.ensures.since)
