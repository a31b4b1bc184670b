-- Lines are answered in their turn: for `answer_waiting`, `answer_piece`, `answer_lines` and `run_session`.
use Rattle.std.proofs.Common.{◌≡◌, ℕ, ◌+◌, zero, suc, List, [], ◌∷◌, ◌++◌, length, take, Option, Some, None, Result, Ok, Err, refl, sym, ap, subst, ◌∙◌, append_assoc, inl, inr, arith}
use Rattle.std.specs.Prelude.{Bool, IfErr, IfOk, IfSome, OnOk, is_some, true, false}
use Rattle.std.specs.Io.KnownBytes.{Appends, Consumes, IsAtEnd, Keeps}
use Rattle.std.proofs.KnownBytes.{Appends-kept, Appends-nil, Appends-trans}
use Rattle.std.proofs.lemmas.List.{append-nil}
use Rattle.plain_store.specs.declared.refusal.Refusal.{Refusal}
use Rattle.plain_store.specs.declared.refusal.Refusal.TheVariants.{LineTooLong, OutOfMemory}
use Rattle.plain_store.specs.declared.answer.Answer.{Answer}
use Rattle.hub.specs.Hubs.{ConfigView}
use Rattle.hub.specs.Seats.{IsNamed, SeatView}
use Rattle.line_protocol.specs.Held.{EndsAs}
use Rattle.line_protocol.specs.declared.request.Request.{Request}
use Rattle.line_protocol.specs.Stream.{HasNoLineFeed, IsLine, IsTooLong, lines_of, terminated}
use Rattle.line_runs.specs.RunAnswers.{Gathers, end_of}
use Rattle.line_runs.proofs.Fronts.{begins_behind_gathered, AnswersFront-line, AnswersFront-refl, AnswersFront-trans}
use Rattle.line_runs.proofs.Gathering.{Gathers-end, Gathers-none, Gathers-text, Gathers-trans}
use Rattle.line_runs.proofs.Lines.{end_of-nil, lines_of-none}
use Rattle.line_runs.proofs.Steps.{IsTooLong-append}
use Rattle.server_sessions.specs.declared.session_options.SessionOptions.{SessionOptions}
use Rattle.server_sessions.specs.declared.line_session.SessionEnd.{SessionEnd}
use Rattle.server_sessions.specs.declared.line_session.SessionEnd.TheVariants.{Silent, Bye as SaysBye, Unread, Refused as IsRefused}
use Rattle.server_sessions.specs.Answering.{GoesOnBehind, IsAnsweredAlone, IsAnsweredBy, IsAnsweredByStore, IsEndOfInput, IsLineAnswered, last_line, refused_as}
use Rattle.server_sessions.specs.Answered.{AnswersLines, AnswersUpTo, EndsBefore, EndsFor, HasAnswered, IsOfSeat, IsOverBehind, BreaksOffIn, HasAnsweredSome, SessionState, StaysBehind, TakesBytes, TakesInput, state_of}
use Rattle.server_sessions.specs.Said.{Said, Answers, said_line}
use Rattle.server_sessions.specs.SeatAnswers.{IsAnsweredAndDrained, IsDrained}
use Rattle.server_sessions.specs.Telling.{IsLastLine, SessionLeft}
use Rattle.server_sessions.proofs.SeatsGiven.{drained_name}
use Rattle.server_sessions.proofs.ToldOf.{Gathers-emptied}

-- ---- what was done so far

-- so far a prefix of the stream was answered by the text that was gathered or written
pub record SoFar (options : SessionOptions) (hub : ConfigView) (names : List (List ℕ)) (first now : Option SeatView) (stream left : List ℕ)
    (old new : Option (List ℕ)) (before after : List ℕ) : Type 0 where
  pub text : List ℕ
  pub gathers : Gathers old new before after text
  pub answers : AnswersUpTo options hub names first (state_of now false) stream left text

-- so far of an input, where its bytes and those that are left are known
abbrev pub RunsSo : SessionOptions → ConfigView → List (List ℕ) → Option SeatView → Option SeatView → (held : List ℕ)
    → (input left : Option (List ℕ)) → (old new : Option (List ℕ)) → (before after : List ℕ) → Type 0
RunsSo options hub names first now held None left old new before after = Unit {0}
RunsSo options hub names first now held (Some input) None old new before after = ⊥
RunsSo options hub names first now held (Some input) (Some left) old new before after =
    SoFar options hub names first now input (held ++ left) old new before after

-- ---- a line

-- a seat answers what it is asked
pub seat_answers : (options : SessionOptions) (hub : ConfigView) (names : List (List ℕ)) (request : Request) (old : Option SeatView) (seat new : SeatView) (said : Said) (answer : Answer) → old ≡ Some seat → said ≡ Answers answer
    → IsAnsweredAndDrained options.newest hub.epoch (length hub.limits) request seat answer new → IsAnsweredBy options hub names request old said (Some new)
seat_answers options hub names request old seat new said answer is same h =
    inr (subst (λ (s : Option SeatView). IsAnsweredByStore options hub names request s said (Some new)) (sym is) (answer, new, same, refl, h))

-- while there is no seat
pub none_answers : (options : SessionOptions) (hub : ConfigView) (names : List (List ℕ)) (request : Request) (old new : Option SeatView) (said : Said) → old ≡ None → IsAnsweredAlone hub.limits names request said new
    → IsAnsweredBy options hub names request old said new
none_answers options hub names request old new said is h = inr (subst (λ (s : Option SeatView). IsAnsweredByStore options hub names request s said new) (sym is) h)

-- a line that was not read for an allocation failure, or since it asks for nothing
pub refused_same : (seat : Option SeatView) (cause : Refusal) → (cause ≡ OutOfMemory → seat ≡ None → ⊥) → cause ≡ refused_as seat cause
refused_same (Some seat) cause not = refl
refused_same None OutOfMemory not = absurd (not refl refl)
refused_same None cause not = refl

-- ---- a prefix of a stream

pub up_to_none : (options : SessionOptions) (hub : ConfigView) (names : List (List ℕ)) (seat : Option SeatView) (stream : List ℕ) → AnswersUpTo options hub names seat (state_of seat false) stream stream []
up_to_none options hub names seat stream last = AnswersFront-refl (AnswersLines options hub names last) (state_of seat false) stream

pub up_to_line : (options : SessionOptions) (hub : ConfigView) (names : List (List ℕ)) (old new : Option SeatView) (line : List ℕ) (answer : Said) (over : Bool) → IsLine line → IsLineAnswered options hub names line old answer new
    → GoesOnBehind options old line → IsOverBehind over new answer → AnswersUpTo options hub names old (state_of new over) (terminated line) [] (said_line answer)
up_to_line options hub names old new line answer over is answered goes ends last =
    AnswersFront-line (AnswersLines options hub names last) (state_of old false) (state_of new over) line (said_line answer) is (λ lines others h. (answer, state_of new over, others, refl, answered, ends, goes, refl, h))

pub up_to_trans : (options : SessionOptions) (hub : ConfigView) (names : List (List ℕ)) (a b : Option SeatView) (c : SessionState) (stream mid held kept after w v : List ℕ) → AnswersUpTo options hub names a (state_of b false) stream mid w
    → AnswersUpTo options hub names b c held kept v → mid ≡ held ++ after → AnswersUpTo options hub names a c stream (kept ++ after) (w ++ v)
up_to_trans options hub names a b c stream mid held kept after w v h k is last =
    AnswersFront-trans (AnswersLines options hub names last) (state_of a false) (state_of b false) c stream mid held kept after w v (h last) (k last) is

-- ---- how a session ends

not_terminated : (line : List ℕ) → HasNoLineFeed (terminated line) → ⊥
not_terminated [] h = let e = h.0 in cc
not_terminated (b ∷ line) h = not_terminated line h.1

-- the input is at its end
pub ends_here : (options : SessionOptions) (seat : Option SeatView) (ending : SessionEnd) (held : List ℕ) → HasNoLineFeed held → IsEndOfInput held ending → EndsFor options (state_of seat false) ending held
ends_here options seat Silent held open_ended (inl none) = inl none
ends_here options seat Silent held open_ended (inr waits) = absurd (not_terminated waits.0 (subst HasNoLineFeed waits.2 open_ended))
ends_here options seat SaysBye held open_ended h = absurd h
ends_here options seat Unread held open_ended h = absurd h
ends_here options seat (IsRefused cause) held open_ended h = (refl, h)

-- ---- what is taken of bytes that came

-- a line is answered, and the session goes on
pub goes_on : (options : SessionOptions) (hub : ConfigView) (names : List (List ℕ)) (old new : Option SeatView) (line : List ℕ) (answer : Said) (over : Bool) (a b : Option (List ℕ)) (x y : List ℕ) → over ≡ false → IsLine line
    → IsLineAnswered options hub names line old answer new → GoesOnBehind options old line → IsOverBehind over new answer → Gathers a b x y (said_line answer)
    → TakesBytes options hub names None old new (terminated line) [] a b x y
goes_on options hub names old new line answer over a b x y not is answered goes ends gathers = record {
  text = said_line answer;
  left = [];
  now = state_of new over;
  gathers = gathers;
  answers = up_to_line options hub names old new line answer over is answered goes ends;
  goes = (refl, ap (state_of new) not);
}

-- a line and nothing else is gathered
pub gathers_line : (a b : Option (List ℕ)) (x y z line : List ℕ) → y ≡ x ++ line → Gathers a b y z [] → Gathers a b x z line
gathers_line a b x y z line is h = subst (Gathers a b x z) (append-nil line) (Gathers-trans a a b x y z line [] (Gathers-text a x y line is) h)

-- a line is answered by an allocation failure, and the session ends
pub ends_without_memory : (options : SessionOptions) (hub : ConfigView) (names : List (List ℕ)) (old new : Option SeatView) (line : List ℕ) (answer : Said) (over : Bool) (a b : Option (List ℕ)) (x y : List ℕ) → over ≡ true → IsLine line
    → IsLineAnswered options hub names line old answer new → GoesOnBehind options old line → IsOverBehind over new answer → Gathers a b x y (said_line answer)
    → TakesBytes options hub names (Some Silent) old new (terminated line) [] a b x y
ends_without_memory options hub names old new line answer over a b x y want is answered goes ends gathers = record {
  text = said_line answer;
  left = [];
  now = state_of new over;
  gathers = gathers;
  answers = up_to_line options hub names old new line answer over is answered goes ends;
  goes = (λ more. inr want, inl refl);
}

-- a line that ends the session comes next
comes_next : (options : SessionOptions) (seat : Option SeatView) (ending : SessionEnd) (line more : List ℕ) → EndsBefore options seat ending line → EndsFor options (state_of seat false) ending (terminated line ++ more)
comes_next options seat Silent line more h = absurd h
comes_next options seat SaysBye line more h = (refl, (line, more, refl, h))
comes_next options seat Unread line more h = (refl, (line, more, refl, h))
comes_next options seat (IsRefused cause) line more h = absurd h

-- it is left for the end of the session
pub ends_before : (options : SessionOptions) (hub : ConfigView) (names : List (List ℕ)) (old new : Option SeatView) (ending : SessionEnd) (line : List ℕ) (a : Option (List ℕ)) (x : List ℕ) → EndsBefore options old ending line
    → StaysBehind hub.epoch old new → TakesBytes options hub names (Some ending) old new (terminated line) [] a a x x
ends_before options hub names old new ending line a x h behind = record {
  text = [];
  left = terminated line;
  now = state_of old false;
  gathers = Gathers-none a x;
  answers = up_to_none options hub names old (terminated line);
  goes = (λ more. comes_next options old ending line more h, behind);
}

-- no line waits
pub takes_nothing : (options : SessionOptions) (hub : ConfigView) (names : List (List ℕ)) (seat : Option SeatView) (held : List ℕ) (a : Option (List ℕ)) (x : List ℕ) → TakesBytes options hub names None seat seat held held a a x x
takes_nothing options hub names seat held a x =
    record { text = []; left = held; now = state_of seat false; gathers = Gathers-none a x; answers = up_to_none options hub names seat held; goes = (refl, refl) }

-- what a flush kept before is taken as it was
takes_kept : (options : SessionOptions) (hub : ConfigView) (names : List (List ℕ)) (ending : Option SessionEnd) (old new : Option SeatView) (bytes held : List ℕ) (a b c : Option (List ℕ)) (x z : List ℕ) → Keeps a b
    → TakesBytes options hub names ending old new bytes held b c x z → TakesBytes options hub names ending old new bytes held a c x z
takes_kept options hub names ending old new bytes held a b c x z keeps h = record {
  text = h.text;
  left = h.left;
  now = h.now;
  gathers = Gathers-trans a b c x x z [] h.text (record { written = []; appends = Appends-kept a a b [] (Appends-nil a) keeps; whole = append-nil x }) h.gathers;
  answers = h.answers;
  goes = h.goes;
}

-- the same of the line that waits
pub takes_waiting : (options : SessionOptions) (hub : ConfigView) (names : List (List ℕ)) (ending : Option SessionEnd) (old new : Option SeatView) (line bytes held : List ℕ) (a b c : Option (List ℕ)) (x z : List ℕ) → Keeps a b
    → bytes ≡ terminated line → held ≡ [] → TakesBytes options hub names ending old new (terminated line) [] b c x z → TakesBytes options hub names ending old new bytes held a c x z
takes_waiting options hub names ending old new line bytes held a b c x z keeps waits none h =
    subst (λ (l : List ℕ). TakesBytes options hub names ending old new l held a c x z) (sym waits)
    (subst (λ (l : List ℕ). TakesBytes options hub names ending old new (terminated line) l a c x z) (sym none)
    (takes_kept options hub names ending old new (terminated line) [] a b c x z keeps h))

-- before a front was answered, and then what is taken of what was left
pub takes_after : (options : SessionOptions) (hub : ConfigView) (names : List (List ℕ)) (ending : SessionEnd) (first now last : Option SeatView) (stream bytes after held kept : List ℕ) (a b c : Option (List ℕ)) (x y z : List ℕ)
    → SoFar options hub names first now stream (bytes ++ after) a b x y → TakesBytes options hub names (Some ending) now last bytes held b c y z
    → TakesBytes options hub names (Some ending) first last stream kept a c x z
takes_after options hub names ending first now last stream bytes after held kept a b c x y z h k =
    let goes : ((more : List ℕ) → EndsFor options k.now ending (k.left ++ more)) × StaysBehind hub.epoch k.now.seat last = k.goes in record {
      text = h.text ++ k.text;
      left = k.left ++ after;
      now = k.now;
      gathers = Gathers-trans a b c x y z h.text k.text h.gathers k.gathers;
      answers = up_to_trans options hub names first now k.now stream (bytes ++ after) bytes k.left after h.text k.text h.answers k.answers refl;
      goes = (λ more. subst (λ (l : List ℕ). EndsFor options k.now ending l) (sym (append_assoc k.left after more)) (goes.0 (after ++ more)), goes.1);
    }

pub takes_any_after : (options : SessionOptions) (hub : ConfigView) (names : List (List ℕ)) (ending : Option SessionEnd) (first now last : Option SeatView) (stream bytes after held kept : List ℕ) (a b c : Option (List ℕ)) (x y z : List ℕ)
    → is_some ending ≡ true → SoFar options hub names first now stream (bytes ++ after) a b x y → TakesBytes options hub names ending now last bytes held b c y z
    → TakesBytes options hub names ending first last stream kept a c x z
takes_any_after options hub names None first now last stream bytes after held kept a b c x y z some h k = absurd cc
takes_any_after options hub names (Some ending) first now last stream bytes after held kept a b c x y z some h k =
    takes_after options hub names ending first now last stream bytes after held kept a b c x y z h k

-- the same where the session goes on
pub goes_after : (options : SessionOptions) (hub : ConfigView) (names : List (List ℕ)) (first now last : Option SeatView) (stream bytes after held : List ℕ) (a b c : Option (List ℕ)) (x y z : List ℕ)
    → SoFar options hub names first now stream (bytes ++ after) a b x y → TakesBytes options hub names None now last bytes held b c y z
    → SoFar options hub names first last stream (held ++ after) a c x z
goes_after options hub names first now last stream bytes after held a b c x y z h k =
    let goes : (k.left ≡ held) × (k.now ≡ state_of last false) = k.goes in record {
      text = h.text ++ k.text;
      gathers = Gathers-trans a b c x y z h.text k.text h.gathers k.gathers;
      answers = subst (λ (s : SessionState). AnswersUpTo options hub names first s stream (held ++ after) (h.text ++ k.text)) goes.1
          (subst (λ (l : List ℕ). AnswersUpTo options hub names first k.now stream (l ++ after) (h.text ++ k.text)) goes.0
          (up_to_trans options hub names first now k.now stream (bytes ++ after) bytes k.left after h.text k.text h.answers k.answers refl));
    }

pub goes_any_after : (options : SessionOptions) (hub : ConfigView) (names : List (List ℕ)) (ending : Option SessionEnd) (first now last : Option SeatView) (stream bytes after held : List ℕ) (a b c : Option (List ℕ)) (x y z : List ℕ)
    → is_some ending ≡ false → SoFar options hub names first now stream (bytes ++ after) a b x y → TakesBytes options hub names ending now last bytes held b c y z
    → SoFar options hub names first last stream (held ++ after) a c x z
goes_any_after options hub names (Some ending) first now last stream bytes after held a b c x y z none h k = absurd cc
goes_any_after options hub names None first now last stream bytes after held a b c x y z none h k = goes_after options hub names first now last stream bytes after held a b c x y z h k

-- what was taken in so far, where no more comes of these bytes
pub takes_so_far : (options : SessionOptions) (hub : ConfigView) (names : List (List ℕ)) (first now : Option SeatView) (stream held : List ℕ) (a b : Option (List ℕ)) (x y : List ℕ)
    → SoFar options hub names first now stream held a b x y → TakesBytes options hub names None first now stream held a b x y
takes_so_far options hub names first now stream held a b x y h =
    record { text = h.text; left = held; now = state_of now false; gathers = h.gathers; answers = h.answers; goes = (refl, refl) }

-- a line is too long
pub takes_too_long : (options : SessionOptions) (hub : ConfigView) (names : List (List ℕ)) (first now : Option SeatView) (stream left held : List ℕ) (cause : Refusal) (a b : Option (List ℕ)) (x y : List ℕ)
    → SoFar options hub names first now stream left a b x y → IsTooLong left → cause ≡ LineTooLong
    → TakesBytes options hub names (Some (IsRefused cause)) first now stream held a b x y
takes_too_long options hub names first now stream left held cause a b x y h long is = record {
  text = h.text;
  left = left;
  now = state_of now false;
  gathers = h.gathers;
  answers = h.answers;
  goes = (λ more. (refl, subst (λ (e : Refusal). EndsAs (left ++ more) (Err e)) (sym is) (IsTooLong-append left more long)), inl refl);
}

-- ---- what is taken of an input

pub runs_at_first : (options : SessionOptions) (hub : ConfigView) (names : List (List ℕ)) (seat : Option SeatView) (input writer : Option (List ℕ)) (out held : List ℕ) → held ≡ []
    → RunsSo options hub names seat seat held input input writer writer out out
runs_at_first options hub names seat None writer out held none = tt
runs_at_first options hub names seat (Some input) writer out held none =
    subst (λ (l : List ℕ). SoFar options hub names seat seat input (l ++ input) writer writer out out) (sym none)
    (record { text = []; gathers = Gathers-none writer out; answers = up_to_none options hub names seat input })

joined : (held piece left after : List ℕ) → left ≡ piece ++ after → held ++ left ≡ (held ++ piece) ++ after
joined held piece left after eats = ap (λ (t : List ℕ). held ++ t) eats ∙ sym (append_assoc held piece after)

-- a piece is answered, and what is gathered then is written
pub runs_on : (options : SessionOptions) (hub : ConfigView) (names : List (List ℕ)) (first now next : Option SeatView) (held more piece : List ℕ) (input left after : Option (List ℕ)) (a b c d : Option (List ℕ)) (x y z w : List ℕ)
    → RunsSo options hub names first now held input left a b x y → Consumes left after piece → TakesBytes options hub names None now next (held ++ piece) more b c y z → Appends c d z → w ≡ []
    → RunsSo options hub names first next more input after a d x w
runs_on options hub names first now next held more piece None left after a b c d x y z w run eats takes adds none = tt
runs_on options hub names first now next held more piece (Some input) None after a b c d x y z w run eats takes adds none = absurd run
runs_on options hub names first now next held more piece (Some input) (Some left) None a b c d x y z w run eats takes adds none = absurd eats
runs_on options hub names first now next held more piece (Some input) (Some left) (Some after) a b c d x y z w run eats takes adds none =
    let so_far = goes_after options hub names first now next input (held ++ piece) after more a b c x y z
    (subst (λ (l : List ℕ). SoFar options hub names first now input l a b x y) (joined held piece left after eats) run) takes in
    record { text = so_far.text; gathers = Gathers-emptied a c d x z w so_far.text so_far.gathers adds none; answers = so_far.answers }

-- the session ends in a piece
pub ends_in_piece : (options : SessionOptions) (hub : ConfigView) (names : List (List ℕ)) (ending : SessionEnd) (first now last : Option SeatView) (held more piece : List ℕ) (input left after : Option (List ℕ)) (a b c : Option (List ℕ)) (x y z : List ℕ)
    → RunsSo options hub names first now held input left a b x y → Consumes left after piece → TakesBytes options hub names (Some ending) now last (held ++ piece) more b c y z
    → IfSome input (λ stream. TakesInput options hub names ending first last stream a c x z)
ends_in_piece options hub names ending first now last held more piece None left after a b c x y z run eats takes = tt
ends_in_piece options hub names ending first now last held more piece (Some input) None after a b c x y z run eats takes = absurd run
ends_in_piece options hub names ending first now last held more piece (Some input) (Some left) None a b c x y z run eats takes = absurd eats
ends_in_piece options hub names ending first now last held more piece (Some input) (Some left) (Some after) a b c x y z run eats takes =
    let all = takes_after options hub names ending first now last input (held ++ piece) after more more a b c x y z
    (subst (λ (l : List ℕ). SoFar options hub names first now input l a b x y) (joined held piece left after eats) run) takes in
    let goes : ((more : List ℕ) → EndsFor options all.now ending (all.left ++ more)) × StaysBehind hub.epoch all.now.seat last = all.goes in record {
      text = all.text;
      left = all.left;
      now = all.now;
      gathers = all.gathers;
      answers = all.answers;
      ends = subst (λ (l : List ℕ). EndsFor options all.now ending l) (append-nil all.left) (goes.0 []);
      behind = goes.1;
    }

-- the session ends at the end of the input
pub ends_at_end : (options : SessionOptions) (hub : ConfigView) (names : List (List ℕ)) (ending : SessionEnd) (first now : Option SeatView) (held : List ℕ) (input left after : Option (List ℕ)) (a b : Option (List ℕ)) (x y : List ℕ)
    → RunsSo options hub names first now held input left a b x y → Consumes left after [] → IsAtEnd after → HasNoLineFeed held → IsEndOfInput held ending
    → IfSome input (λ stream. TakesInput options hub names ending first now stream a b x y)
ends_at_end options hub names ending first now held None left after a b x y run eats at open_ended ends = tt
ends_at_end options hub names ending first now held (Some input) None after a b x y run eats at open_ended ends = absurd run
ends_at_end options hub names ending first now held (Some input) (Some left) None a b x y run eats at open_ended ends = absurd eats
ends_at_end options hub names ending first now held (Some input) (Some left) (Some after) a b x y run eats at open_ended ends =
    let all : held ++ left ≡ held = ap (λ (t : List ℕ). held ++ t) (eats ∙ at) ∙ append-nil held in
    let so_far = subst (λ (l : List ℕ). SoFar options hub names first now input l a b x y) all run in
    record { text = so_far.text; left = held; now = state_of now false; gathers = so_far.gathers; answers = so_far.answers; ends = ends_here options now ending held open_ended ends; behind = inl refl }

-- ---- what is left

drained_seen : (epoch : ℕ) (old new : SeatView) → IsDrained epoch old new → new.seen ≡ old.seen
drained_seen zero old new drained = ap (λ (s : SeatView). s.seen) (drained.0 refl)
drained_seen (suc n) old new drained = ap (λ (s : SeatView). s.seen) (drained.1 (omega arith))

-- what is left of a seat from which entries may have been returned
left_in : (epoch : ℕ) (seat : SeatView) (after : SeatView) (left : Option SessionLeft) → IsDrained epoch seat after → IsOfSeat 0 (Some after) left → IsOfSeat epoch (Some seat) left
left_in epoch seat after left drained h = (
  h.0,
  h.1,
  subst (IsNamed h.0.0) (drained_name epoch seat after drained) h.2,
  λ never. h.3 refl ∙ ap (λ (s : SeatView). s.entries) (drained.0 never),
  h.4 ∙ drained_seen epoch seat after drained,
)

kept_in : (epoch : ℕ) (seat : Option SeatView) (its : Option SessionLeft) → IsOfSeat 0 seat its → IsOfSeat epoch seat its
kept_in epoch None its h = h
kept_in epoch (Some seat) its h = (h.0, h.1, h.2, λ never. h.3 refl, h.4)

pub of_seat : (epoch : ℕ) (seat last : Option SeatView) (its : Option SessionLeft) → StaysBehind epoch seat last → IsOfSeat 0 last its → IsOfSeat epoch seat its
of_seat epoch seat last its (inl same) h = kept_in epoch seat its (subst (λ (s : Option SeatView). IsOfSeat 0 s its) same h)
of_seat epoch seat last its (inr (old, after, is, then, drained)) h =
    subst (λ (s : Option SeatView). IsOfSeat epoch s its) (sym is)
    (left_in epoch old after its drained (subst (λ (s : Option SeatView). IsOfSeat 0 s its) then h))

-- ---- the whole of a session

answered_whole : (options : SessionOptions) (hub : ConfigView) (names : List (List ℕ)) (ending : SessionEnd) (last : Option SeatView) (its : Option SessionLeft) (input : List ℕ) (a b c : Option (List ℕ)) (gathered : List ℕ)
    → TakesInput options hub names ending None last input a b [] gathered → Appends b c (gathered ++ last_line ending) → IsOfSeat 0 last its
    → HasAnswered options hub names input its a c
answered_whole options hub names ending last its input a b c gathered h adds end =
    let f = h.answers h.now in
    let done : AnswersLines options hub names h.now h.now (lines_of []) [] = subst (λ (ls : List (List ℕ)). AnswersLines options hub names h.now h.now ls []) (sym (lines_of-none [] tt)) (refl, refl) in
    let all = (f.passes []).replies_to [] done in record {
      front = f.front;
      left = h.left;
      whole = f.whole;
      lines = ap end_of (sym (append-nil f.front)) ∙ ((f.passes []).ending ∙ end_of-nil);
      now = h.now;
      text = h.text;
      answers = subst (AnswersLines options hub names h.now (state_of None false) (lines_of f.front)) (append-nil h.text)
          (subst (λ (l : List ℕ). AnswersLines options hub names h.now (state_of None false) (lines_of l) (h.text ++ [])) (append-nil f.front) all);
      ending = ending;
      ends = h.ends;
      left_behind = of_seat hub.epoch h.now.seat last its h.behind end;
      written = Gathers-end a b c gathered h.text (last_line ending) h.gathers adds;
    }

pub session_answered : {A E : Type 0} (options : SessionOptions) (hub : ConfigView) (names : List (List ℕ)) (r : Result A E) (ending : SessionEnd) (last : Option SeatView) (its : Option SessionLeft) (input : Option (List ℕ))
    (a b c : Option (List ℕ)) (gathered : List ℕ) → IfSome input (λ stream. TakesInput options hub names ending None last stream a b [] gathered)
    → OnOk r (Appends b c (gathered ++ last_line ending)) → IsOfSeat 0 last its
    → IfOk r (λ done. IfSome input (λ stream. HasAnswered options hub names stream its a c))
session_answered options hub names (Err e) ending last its input a b c gathered h adds end = tt
session_answered options hub names (Ok done) ending last its None a b c gathered h adds end = tt
session_answered options hub names (Ok done) ending last its (Some input) a b c gathered h adds end = answered_whole options hub names ending last its input a b c gathered h adds end

-- ---- where a session breaks off

-- after a line was answered
pub breaks_at_line : (options : SessionOptions) (hub : ConfigView) (names : List (List ℕ)) (old new : Option SeatView) (line : List ℕ) (answer : Said) (over : Bool) (a b : Option (List ℕ)) (x y : List ℕ) (n : ℕ) → IsLine line
    → IsLineAnswered options hub names line old answer new → GoesOnBehind options old line → IsOverBehind over new answer → y ≡ x ++ said_line answer → Appends a b (take n y)
    → BreaksOffIn options hub names old new (terminated line) a b x
breaks_at_line options hub names old new line answer over a b x y n is answered goes ends same adds = record {
  text = said_line answer;
  left = [];
  size = n;
  over = over;
  answers = up_to_line options hub names old new line answer over is answered goes ends;
  written = subst (λ (l : List ℕ). Appends a b (take n l)) same adds;
}

-- before a line is answered
pub breaks_before : (options : SessionOptions) (hub : ConfigView) (names : List (List ℕ)) (seat : Option SeatView) (bytes : List ℕ) (a b : Option (List ℕ)) (x : List ℕ) → Keeps a b
    → BreaksOffIn options hub names seat seat bytes a b x
breaks_before options hub names seat bytes a b x keeps =
    record { text = []; left = bytes; size = 0; over = false; answers = up_to_none options hub names seat bytes; written = Appends-kept a a b [] (Appends-nil a) keeps }

-- what a flush kept before
breaks_kept : (options : SessionOptions) (hub : ConfigView) (names : List (List ℕ)) (old new : Option SeatView) (bytes : List ℕ) (a b c : Option (List ℕ)) (x : List ℕ) → Keeps a b
    → BreaksOffIn options hub names old new bytes b c x → BreaksOffIn options hub names old new bytes a c x
breaks_kept options hub names old new bytes a b c x keeps h =
    record { text = h.text; left = h.left; size = h.size; over = h.over; answers = h.answers; written = Appends-trans a b c [] (take h.size (x ++ h.text)) (Appends-kept a a b [] (Appends-nil a) keeps) h.written }

pub breaks_waiting : (options : SessionOptions) (hub : ConfigView) (names : List (List ℕ)) (old new : Option SeatView) (line bytes : List ℕ) (a b c : Option (List ℕ)) (x : List ℕ) → Keeps a b → bytes ≡ terminated line
    → BreaksOffIn options hub names old new (terminated line) b c x → BreaksOffIn options hub names old new bytes a c x
breaks_waiting options hub names old new line bytes a b c x keeps waits h =
    subst (λ (l : List ℕ). BreaksOffIn options hub names old new l a c x) (sym waits) (breaks_kept options hub names old new (terminated line) a b c x keeps h)

-- after a front was answered
pub breaks_after : (options : SessionOptions) (hub : ConfigView) (names : List (List ℕ)) (first now last : Option SeatView) (stream bytes after : List ℕ) (a b c : Option (List ℕ)) (x y : List ℕ)
    → SoFar options hub names first now stream (bytes ++ after) a b x y → BreaksOffIn options hub names now last bytes b c y → BreaksOffIn options hub names first last stream a c x
breaks_after options hub names first now last stream bytes after a b c x y h k = record {
  text = h.text ++ k.text;
  left = k.left ++ after;
  size = length h.gathers.written + k.size;
  over = k.over;
  answers = up_to_trans options hub names first now (state_of last k.over) stream (bytes ++ after) bytes k.left after h.text k.text h.answers k.answers refl;
  written = begins_behind_gathered a b c x y h.text k.text k.size h.gathers k.written;
}

-- where no more was answered, a beginning of what was gathered is written
pub breaks_so_far : (options : SessionOptions) (hub : ConfigView) (names : List (List ℕ)) (first now : Option SeatView) (stream left : List ℕ) (a b c : Option (List ℕ)) (x y : List ℕ) (n : ℕ)
    → SoFar options hub names first now stream left a b x y → Appends b c (take n y) → BreaksOffIn options hub names first now stream a c x
breaks_so_far options hub names first now stream left a b c x y n h adds = record {
  text = h.text;
  left = left;
  size = length h.gathers.written + n;
  over = false;
  answers = h.answers;
  written = subst (λ (l : List ℕ). Appends a c (take (length h.gathers.written + n) (x ++ l))) (append-nil h.text)
      (begins_behind_gathered a b c x y h.text [] n h.gathers (subst (λ (l : List ℕ). Appends b c (take n l)) (sym (append-nil y)) adds));
}

-- of an input: where no more was answered
pub breaks_run : (options : SessionOptions) (hub : ConfigView) (names : List (List ℕ)) (first now : Option SeatView) (held : List ℕ) (input left : Option (List ℕ)) (a b c : Option (List ℕ)) (x y : List ℕ) (n : ℕ)
    → RunsSo options hub names first now held input left a b x y → Appends b c (take n y) → IfSome input (λ stream. BreaksOffIn options hub names first now stream a c x)
breaks_run options hub names first now held None left a b c x y n run adds = tt
breaks_run options hub names first now held (Some input) None a b c x y n run adds = absurd run
breaks_run options hub names first now held (Some input) (Some left) a b c x y n run adds = breaks_so_far options hub names first now input (held ++ left) a b c x y n run adds

-- and where a piece of it breaks off
pub breaks_in_piece : (options : SessionOptions) (hub : ConfigView) (names : List (List ℕ)) (first now last : Option SeatView) (held piece : List ℕ) (input left after : Option (List ℕ)) (a b c : Option (List ℕ)) (x y : List ℕ)
    → RunsSo options hub names first now held input left a b x y → Consumes left after piece → BreaksOffIn options hub names now last (held ++ piece) b c y
    → IfSome input (λ stream. BreaksOffIn options hub names first last stream a c x)
breaks_in_piece options hub names first now last held piece None left after a b c x y run eats breaks = tt
breaks_in_piece options hub names first now last held piece (Some input) None after a b c x y run eats breaks = absurd run
breaks_in_piece options hub names first now last held piece (Some input) (Some left) None a b c x y run eats breaks = absurd eats
breaks_in_piece options hub names first now last held piece (Some input) (Some left) (Some after) a b c x y run eats breaks =
    breaks_after options hub names first now last input (held ++ piece) after a b c x y
    (subst (λ (l : List ℕ). SoFar options hub names first now input l a b x y) (joined held piece left after eats) run) breaks

-- a piece was answered, and what is gathered could not be written
pub breaks_behind_piece : (options : SessionOptions) (hub : ConfigView) (names : List (List ℕ)) (first now next : Option SeatView) (held more piece : List ℕ) (input left after : Option (List ℕ)) (a b c d : Option (List ℕ)) (x y z : List ℕ) (n : ℕ)
    → RunsSo options hub names first now held input left a b x y → Consumes left after piece → TakesBytes options hub names None now next (held ++ piece) more b c y z → Appends c d (take n z)
    → IfSome input (λ stream. BreaksOffIn options hub names first next stream a d x)
breaks_behind_piece options hub names first now next held more piece None left after a b c d x y z n run eats takes adds = tt
breaks_behind_piece options hub names first now next held more piece (Some input) None after a b c d x y z n run eats takes adds = absurd run
breaks_behind_piece options hub names first now next held more piece (Some input) (Some left) None a b c d x y z n run eats takes adds = absurd eats
breaks_behind_piece options hub names first now next held more piece (Some input) (Some left) (Some after) a b c d x y z n run eats takes adds =
    breaks_so_far options hub names first next input (more ++ after) a c d x z n
    (goes_after options hub names first now next input (held ++ piece) after more a b c x y z
    (subst (λ (l : List ℕ). SoFar options hub names first now input l a b x y) (joined held piece left after eats) run) takes) adds

-- the lines of the front that was answered
front_lines : (options : SessionOptions) (hub : ConfigView) (names : List (List ℕ)) (now : SessionState) (input left text : List ℕ) (h : AnswersUpTo options hub names None now input left text)
    → AnswersLines options hub names now (state_of None false) (lines_of (h now).front) text
front_lines options hub names now input left text h =
    let f = h now in
    let start : SessionState = state_of None false in
    let done : AnswersLines options hub names now now (lines_of []) [] = subst (λ (ls : List (List ℕ)). AnswersLines options hub names now now ls []) (sym (lines_of-none [] tt)) (refl, refl) in
    subst (AnswersLines options hub names now start (lines_of f.front)) (append-nil text)
    (subst (λ (l : List ℕ). AnswersLines options hub names now start (lines_of l) (text ++ [])) (append-nil f.front) ((f.passes []).replies_to [] done))

answered_some : (options : SessionOptions) (hub : ConfigView) (names : List (List ℕ)) (now : SessionState) (last : Option SeatView) (its : Option SessionLeft) (input left text : List ℕ) (a b : Option (List ℕ)) (end : List ℕ) (n : ℕ)
    → AnswersUpTo options hub names None now input left text → StaysBehind hub.epoch now.seat last → IsOfSeat 0 last its → IsLastLine end → Appends a b (take n (text ++ end))
    → HasAnsweredSome options hub names input its a b
answered_some options hub names now last its input left text a b end n h behind of is adds = record {
  front = (h now).front;
  left = left;
  whole = (h now).whole;
  now = now;
  text = text;
  answers = front_lines options hub names now input left text h;
  left_behind = of_seat hub.epoch now.seat last its behind of;
  last = end;
  is_last = is;
  size = n;
  written = adds;
}

-- the whole of a session that breaks off
pub session_breaks : (options : SessionOptions) (hub : ConfigView) (names : List (List ℕ)) (last : Option SeatView) (its : Option SessionLeft) (input : Option (List ℕ)) (a b : Option (List ℕ))
    → IfSome input (λ stream. BreaksOffIn options hub names None last stream a b []) → IsOfSeat 0 last its → IfSome input (λ stream. HasAnsweredSome options hub names stream its a b)
session_breaks options hub names last its None a b h of = tt
session_breaks options hub names last its (Some input) a b h of =
    answered_some options hub names (state_of last h.over) last its input h.left h.text a b [] h.size h.answers (inl refl) of (inl refl)
    (subst (λ (l : List ℕ). Appends a b (take h.size l)) (sym (append-nil h.text)) h.written)

-- the same where its last line could not be written
pub session_breaks_last : {A E : Type 0} (options : SessionOptions) (hub : ConfigView) (names : List (List ℕ)) (r : Result A E) (ending : SessionEnd) (last : Option SeatView) (its : Option SessionLeft) (input : Option (List ℕ))
    (a b c : Option (List ℕ)) (gathered : List ℕ) → IfSome input (λ stream. TakesInput options hub names ending None last stream a b [] gathered)
    → IfErr r (λ fault. (end : List ℕ) × (n : ℕ) × IsLastLine end × Appends b c (take n (gathered ++ end))) → IsOfSeat 0 last its
    → IfErr r (λ fault. IfSome input (λ stream. HasAnsweredSome options hub names stream its a c))
session_breaks_last options hub names (Ok done) ending last its input a b c gathered h begun of = tt
session_breaks_last options hub names (Err e) ending last its None a b c gathered h begun of = tt
session_breaks_last options hub names (Err e) ending last its (Some input) a b c gathered h begun of =
    answered_some options hub names h.now last its input h.left h.text a c begun.0 (length h.gathers.written + begun.1) h.answers h.behind of begun.2
    (begins_behind_gathered a b c [] gathered h.text begun.0 begun.1 h.gathers begun.3)
