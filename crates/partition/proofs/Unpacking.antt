-- That a packed event is read again, and lists of packed events.
use Rattle.std.proofs.Common.{◌≡◌, ℕ, zero, suc, List, [], ◌∷◌, ◌++◌, length, Option, Some, None, refl, sym, ap, subst, ◌∙◌, append_assoc}
use Rattle.std.specs.Prelude.{slice_get, IsSome}
use Rattle.std.specs.Option.{option_map}
use Rattle.std.proofs.lemmas.List.{append-nil}
use Rattle.plain_store.specs.declared.calls.Reply.{Reply}
use Rattle.packed.specs.Packing.{packed_number}
use Rattle.packed_steps.specs.PackedCalls.{packed_call, packed_reply, IsStoreReply}
use Rattle.packed.specs.Reading.{number_at}
use Rattle.packed_steps.specs.PackedCalls.{reply_at}
use Rattle.packed.proofs.Texts.{number_again}
use Rattle.packed_steps.proofs.Calls.{call_again}
use Rattle.packed_steps.proofs.Replies.{reply_again}
use Rattle.partition.specs.Events.{Event}
use Rattle.partition.specs.PackedEvents.{packed_event, IsStoreEvent, event_at, event_in, called_at, caller_at, caller_of, reply_in, IsPackedEvent, IsPackedReply, ArePackedEvents, events_in}

-- ---- what is made of an option that is there

pub some_told : {X Y : Type 0} (f : X → Y) (o : Option X) (y : Y) → option_map f o ≡ Some y → IsSome o
some_told f (Some x) y is = refl
some_told f None y is = absurd (cc)

some_is : {X : Type 0} {x y : X} → Some x ≡ Some y → x ≡ y
some_is e = cc

pub told_of : {X Y : Type 0} (f : X → Y) (o : Option X) (x : X) (y : Y) → o ≡ Some x → option_map f o ≡ Some y → f x ≡ y
told_of f o x y is told = some_is (sym (ap (option_map f) is) ∙ told)

-- ---- events

reply_alone : (reply : Reply) → IsStoreReply reply → reply_at (packed_reply reply) ≡ Some (reply, [])
reply_alone reply h = ap reply_at (sym (append-nil (packed_reply reply))) ∙ reply_again reply [] h

parted : (a b c d : List ℕ) → a ++ b ++ c ++ d ≡ a ++ (b ++ (c ++ d))
parted a b c d = simp append_assoc

event_parts : (e : Event) → packed_event e ≡ packed_number e.seat ++ (packed_number e.number ++ (packed_call e.call ++ packed_reply e.reply))
event_parts e = parted (packed_number e.seat) (packed_number e.number) (packed_call e.call) (packed_reply e.reply)

-- what is read of a packed reply is that reply
pub reply_is : (reply : Reply) → IsStoreReply reply → reply_in (packed_reply reply) ≡ reply
reply_is reply h = rw (reply_alone reply h) refl

pub is_packed_reply : (reply : Reply) (bytes : List ℕ) → IsStoreReply reply → bytes ≡ packed_reply reply → IsPackedReply bytes
is_packed_reply reply bytes h is =
    let same : reply_in bytes ≡ reply = ap reply_in is ∙ reply_is reply h in
    (subst IsStoreReply (sym same) h, is ∙ ap packed_reply (sym same))

-- two replies that are packed alike are one
pub packed_apart : (bytes : List ℕ) (reply : Reply) → IsPackedReply bytes → IsStoreReply reply → bytes ≡ packed_reply reply → reply_in bytes ≡ reply
packed_apart bytes reply h stored is = ap reply_in is ∙ reply_is reply stored

pub event_again : (e : Event) → IsStoreEvent e → event_at (packed_event e) ≡ Some e
unfolding event_at
event_again e h =
    ap event_at (event_parts e)
    ∙ rw (
      number_again e.seat (packed_number e.number ++ (packed_call e.call ++ packed_reply e.reply)) h.seat,
      number_again e.number (packed_call e.call ++ packed_reply e.reply) h.number,
      call_again e.call (packed_reply e.reply) h.call,
      reply_alone e.reply h.reply,
      h.fits,
    ) refl

pub event_is : (e : Event) (bytes : List ℕ) → IsStoreEvent e → bytes ≡ packed_event e → event_in bytes ≡ e
event_is e bytes h is = rw (is, event_again e h) refl

pub found_again : (bytes : List ℕ) → IsPackedEvent bytes → event_at bytes ≡ Some (event_in bytes)
found_again bytes h = ap event_at h.1 ∙ event_again (event_in bytes) h.0

pub seat_again : (bytes : List ℕ) → IsPackedEvent bytes → option_map (λ (p : ℕ × List ℕ). p.0) (number_at bytes) ≡ Some (event_in bytes).seat
seat_again bytes h =
    let e = event_in bytes in
    let more = packed_number e.number ++ (packed_call e.call ++ packed_reply e.reply) in
    ap (λ (b : List ℕ). option_map (λ (p : ℕ × List ℕ). p.0) (number_at b)) (h.1 ∙ event_parts e)
    ∙ ap (option_map (λ (p : ℕ × List ℕ). p.0)) (number_again e.seat more h.0.seat)

pub caller_again : (bytes : List ℕ) → IsPackedEvent bytes → caller_at bytes ≡ Some (caller_of (event_in bytes))
caller_again bytes h =
    let e = event_in bytes in
    ap caller_at (h.1 ∙ event_parts e)
    ∙ rw (
      number_again e.seat (packed_number e.number ++ (packed_call e.call ++ packed_reply e.reply)) h.0.seat,
      number_again e.number (packed_call e.call ++ packed_reply e.reply) h.0.number,
    ) refl

-- the call is read, and the reply stays
pub called_again : (bytes : List ℕ) → IsPackedEvent bytes
    → called_at bytes ≡ Some ((event_in bytes).seat, (event_in bytes).number, (event_in bytes).call, packed_reply (event_in bytes).reply)
unfolding called_at
called_again bytes h =
    let e = event_in bytes in
    ap called_at (h.1 ∙ event_parts e)
    ∙ rw (
      number_again e.seat (packed_number e.number ++ (packed_call e.call ++ packed_reply e.reply)) h.0.seat,
      number_again e.number (packed_call e.call ++ packed_reply e.reply) h.0.number,
      call_again e.call (packed_reply e.reply) h.0.call,
    ) refl

pub one_more : (pieces : List (List ℕ)) (e : Event) (bytes : List ℕ) → ArePackedEvents pieces → IsStoreEvent e → bytes ≡ packed_event e → ArePackedEvents (pieces ++ bytes ∷ [])
one_more [] e bytes all h is =
    let same = event_is e bytes h is in
    ((subst IsStoreEvent (sym same) h, is ∙ ap packed_event (sym same)), tt)
one_more (piece ∷ pieces) e bytes all h is = (all.0, one_more pieces e bytes all.1 h is)

pub events_once_more : (pieces : List (List ℕ)) (e : Event) (bytes : List ℕ) → IsStoreEvent e → bytes ≡ packed_event e → events_in (pieces ++ bytes ∷ []) ≡ events_in pieces ++ e ∷ []
events_once_more [] e bytes h is = ap (λ (x : Event). x ∷ []) (event_is e bytes h is)
events_once_more (piece ∷ pieces) e bytes h is = ap (λ (xs : List Event). event_in piece ∷ xs) (events_once_more pieces e bytes h is)

pub as_many : (pieces : List (List ℕ)) → length (events_in pieces) ≡ length pieces
as_many [] = refl
as_many (piece ∷ pieces) = ap suc (as_many pieces)

pub packed_there : (pieces : List (List ℕ)) (at : ℕ) (bytes : List ℕ) → ArePackedEvents pieces → Some bytes ≡ slice_get pieces at → IsPackedEvent bytes
packed_there [] at bytes all is = absurd (cc)
packed_there (piece ∷ pieces) zero bytes all is = let same : piece ≡ bytes = cc in subst IsPackedEvent same all.0
packed_there (piece ∷ pieces) (suc at) bytes all is = packed_there pieces at bytes all.1 is

pub event_there : (pieces : List (List ℕ)) (at : ℕ) → slice_get (events_in pieces) at ≡ option_map event_in (slice_get pieces at)
event_there [] at = refl
event_there (piece ∷ pieces) zero = refl
event_there (piece ∷ pieces) (suc at) = event_there pieces at
