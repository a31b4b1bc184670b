-- How a transaction takes a reply, whatever it is: for `take_written`, `take_read` and `take_found`.
use Rattle.std.proofs.Common.{◌≡◌, ℕ, ◌≤◌, List, [], ◌∷◌, ◌++◌, Bool, true, false, ◌&&◌, ◌||◌, not, filter, ap, sym, ◌∙◌, refl, subst, cond, length, Option, Some, None, inl, inr}
use Rattle.std.proofs.lemmas.Bool.{both_ways, not-true, not-false}
use Rattle.stamps.specs.Limits.{max_keys}
use Rattle.plain_store.specs.declared.calls.Call.{Call}
use Rattle.plain_store.specs.declared.message.Message.{Message}
use Rattle.plain_store.specs.Words.{◌∈◌, Setup}
use Rattle.plain_store.specs.declared.refusal.Refusal.{Refusal}
use Rattle.plain_store.specs.History.{Intent}
use Rattle.plain_store.specs.Moves.{Move as PlainMove, Fails, move_of, calls_of, same_place, is_answered}
use Rattle.plain_store.specs.Writing.{Outgoing}
use Rattle.plain_store.proofs.ListTests.{any_push, and-false, filter_alike}
use Rattle.tenant_sessions.specs.Moves.{Ended, Ignored, told, calls_out, sends_calls, is_last, ending}
use Rattle.tenant_sessions.specs.Parts.{is_replaced_by}
use Rattle.tenant_sessions.specs.Running.{is_past, waiting_calls, TakesMessage}

-- ---- lists

filter_twice : {X : Type 0} (p q : X → Bool) (xs : List X) → filter p (filter q xs) ≡ filter (λ x. q x && p x) xs
filter_twice p q [] = refl
filter_twice {X} p q (x ∷ xs) = kept (q x) (filter q xs) ∙ ap (λ ys. cond (q x && p x) (x ∷ ys) ys) (filter_twice p q xs)
  where
    kept : (b : Bool) (ys : List X) → filter p (cond b (x ∷ ys) ys) ≡ cond (b && p x) (x ∷ filter p ys) (filter p ys)
    kept true ys = refl
    kept false ys = refl

pub filter_whole : {X : Type 0} (p : X → Bool) (xs : List X) → ((x : X) → x ∈ xs → p x ≡ true) → filter p xs ≡ xs
filter_whole p [] each = refl
filter_whole p (x ∷ xs) each =
    ap (λ b. cond b (x ∷ filter p xs) (filter p xs)) (each x (inl refl)) ∙ ap (λ ys. x ∷ ys) (filter_whole p xs (λ y member. each y (inr member)))

-- ---- what an answer reports

pub not_both : {P : Type 0} (b : Bool) → b ≡ true → b ≡ false → P
not_both b holds fails = absurd (both_ways b fails holds)

-- what a machine's answer, which reports this move or none, says of a reply: none is reported where the reply was taken before, and some move
-- is the plain store's of a new one. Stands: for which replies the machine then stands
abbrev pub Turns : List Message → Message → PlainMove → Option PlainMove → (List Message → Bool) → Bool → (List Message → Type 0) → Type 0
Turns taken message move None ended last Stands = (is_answered taken message.partition message.call ≡ true) × Stands taken
Turns taken message move (Some known) ended last Stands =
    (is_answered taken message.partition message.call ≡ false) × (move ≡ known) × Stands (taken ++ message ∷ []) × (last ≡ false → ended (taken ++ message ∷ []) ≡ false)

turns_by : (taken : List Message) (message : Message) (move : PlainMove) (told : Option PlainMove) (ended : List Message → Bool) (last : Bool) (Stands : List Message → Type 0) (wanted : Bool)
    → wanted ≡ not (is_answered taken message.partition message.call) → ended taken ≡ false → told ≡ cond wanted (Some move) None → Stands (cond wanted (taken ++ message ∷ []) taken)
    → ended (cond wanted (taken ++ message ∷ []) taken) ≡ (ended taken || last) → Turns taken message move told ended last Stands
turns_by taken message move None ended last Stands true is going answered stands lasts = cc
turns_by taken message move None ended last Stands false is going answered stands lasts = (not-false (is_answered taken message.partition message.call) (sym is), stands)
turns_by taken message move (Some known) ended last Stands true is going answered stands lasts =
    (not-true (is_answered taken message.partition message.call) (sym is), let same : move ≡ known = cc in same, stands, λ on. lasts ∙ ap (λ b. b || last) going ∙ on)
turns_by taken message move (Some known) ended last Stands false is going answered stands lasts = cc

-- of: whether the reply is to one of its calls, if it was not taken before
pub turns : (taken : List Message) (message : Message) (move : PlainMove) (told : Option PlainMove) (ended : List Message → Bool) (last : Bool) (Stands : List Message → Type 0) (of : Bool)
    → (is_answered taken message.partition message.call ≡ false → of ≡ true) → ended taken ≡ false → told ≡ cond (not (ended taken) && (of && not (is_answered taken message.partition message.call))) (Some move) None
    → Stands (cond (not (ended taken) && (of && not (is_answered taken message.partition message.call))) (taken ++ message ∷ []) taken)
    → ended (cond (not (ended taken) && (of && not (is_answered taken message.partition message.call))) (taken ++ message ∷ []) taken) ≡ (ended taken || last) → Turns taken message move told ended last Stands
turns taken message move told ended last Stands of is going =
    turns_by taken message move told ended last Stands _ (ap (λ b. not b && (of && not (is_answered taken message.partition message.call))) going ∙ new (is_answered taken message.partition message.call) refl) going
  where
    new : (b : Bool) → is_answered taken message.partition message.call ≡ b → (of && not b) ≡ not b
    new true e = and-false of
    new false e = ap (λ o. o && true) (is e)

module _ (setup : Setup) (request : Intent) (taken : List Message) (message : Message) where
  abbrev more : List Message
  more = taken ++ message ∷ []

  pub answered_more : (p : ℕ) (call : Call) → is_answered more p call ≡ (is_answered taken p call || same_place p call message.partition message.call)
  answered_more p call = any_push (λ (m : Message). same_place p call m.partition m.call) taken message

  pub is_ignored : (Stands : List Message → Type 0) → is_answered taken message.partition message.call ≡ true → Stands taken → TakesMessage setup request taken message Ignored Stands
  is_ignored Stands before stands = record {
    repeated = λ _. (refl, stands);
    answered = λ new. not_both _ before new;
    goes_on = λ new last. not_both _ before new;
    sent = λ new. not_both _ before new;
    few = λ new. not_both _ before new;
  }

  pub moves_on : (Stands : List Message → Type 0) (move : PlainMove) → is_answered taken message.partition message.call ≡ false → move_of setup request more message ≡ move
      → (is_last (told move) ≡ false → Stands more) → calls_out move ≡ cond (sends_calls (told move)) (waiting_calls setup request more) (ending (told move)) → length (calls_out move) ≤ max_keys
      → TakesMessage setup request taken message (told move) Stands
  moves_on Stands move new is goes sent few = record {
    repeated = λ before. not_both _ before new;
    answered = λ _. ap told (sym is);
    goes_on = λ _ last. goes last;
    sent = λ _. ap calls_out is ∙ sent;
    few = λ _. let P : PlainMove → Type 0 = λ m. length (calls_out m) ≤ max_keys in subst P (sym is) few;
  }

  -- an end with calls
  pub ends_so : (Stands : List Message → Type 0) (why : Refusal) (ends calls : List Outgoing) → is_answered taken message.partition message.call ≡ false → move_of setup request more message ≡ Fails why ends
      → calls ≡ ends → length ends ≤ max_keys → TakesMessage setup request taken message (Ended why calls) Stands
  ends_so Stands why ends calls new is same few =
      subst (λ (cs : List Outgoing). TakesMessage setup request taken message (Ended why cs) Stands) (sym same) (moves_on Stands (Fails why ends) new is (λ last. cc) refl few)

  -- it waits for one call less in the same part
  pub waits_less : (left waiting : List Outgoing) → left ≡ filter (λ out. not (is_replaced_by message out)) waiting → waiting ≡ waiting_calls setup request taken
      → calls_of setup (is_past request more) request more ≡ calls_of setup (is_past request taken) request taken → left ≡ waiting_calls setup request more
  waits_less left waiting left_is is same =
      let calls = calls_of setup (is_past request taken) request taken in
      left_is ∙ ap (filter (λ out. not (is_replaced_by message out))) is
      ∙ filter_twice (λ out. not (is_replaced_by message out)) (λ out. not (is_answered taken out.partition out.call)) calls
      ∙ filter_alike (λ out. not (is_answered taken out.partition out.call) && not (is_replaced_by message out)) (λ out. not (is_answered more out.partition out.call))
      (λ out. neither (is_answered taken out.partition out.call) (is_replaced_by message out) ∙ ap not (sym (answered_more out.partition out.call))) calls
      ∙ ap (filter (λ out. not (is_answered more out.partition out.call))) (sym same)
    where
      neither : (x y : Bool) → (not x && not y) ≡ not (x || y)
      neither true y = refl
      neither false y = refl

  -- it waits for all calls of the part that it comes to
  pub waits_all : (calls : List Outgoing) → calls_of setup (is_past request more) request more ≡ calls
      → ((out : Outgoing) → out ∈ calls → is_answered more out.partition out.call ≡ false) → waiting_calls setup request more ≡ calls
  waits_all calls is none =
      ap (filter (λ out. not (is_answered more out.partition out.call))) is
      ∙ filter_whole (λ out. not (is_answered more out.partition out.call)) calls (λ out member. ap not (none out member))
