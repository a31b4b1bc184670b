-- What an operation of a seat leaves, in pieces.
use Rattle.std.proofs.Common.{◌≡◌, ◌⊎◌, ◌≤◌, ℕ, List, [], Bool, true, false, cond, inl, inr, Some, refl, sym, ap, ◌∙◌, arith}
use Rattle.std.proofs.lemmas.List.{append-nil}
use Rattle.plain_store.specs.declared.answer.Answer.{Answer}
use Rattle.plain_store.specs.declared.answer.Answer.TheVariants.{Refused}
use Rattle.plain_store.specs.declared.refusal.Refusal.{Refusal}
use Rattle.plain_store.specs.declared.refusal.Refusal.TheVariants.{Stopped, RowsUsed, OutOfMemory}
use Rattle.plain_store.specs.declared.step.Act.{Act}
use Rattle.hub.specs.Operations.{IsLater}
use Rattle.entry_list.specs.declared.kinds.Entry.{Entry}
use Rattle.hub.specs.Seats.{SeatView, Extends, Follows, IsEntered, IsLeftBy, begun_entries, is_unbegun, is_unrecorded, sight}
use Rattle.hub.specs.Taken.{replies_in}
use Rattle.history.proofs.Lists.{prefix_of_itself}
use Rattle.hub.proofs.Entries.{follows-extends}
use Rattle.hub.proofs.Given.{served-start}

-- an answer of a seat that was not stopped
pub entered-as : (act : Act) (answer : Answer) (old new : SeatView) → old.stopped ≡ false → (is_unrecorded answer ≡ false → Follows (begun_entries old act) (Some answer) new.entries)
    → (is_unrecorded answer ≡ true → IsLeftBy act answer old new) → (is_unrecorded answer ≡ false → new.stopped ≡ false) → IsEntered act old answer new
entered-as act answer old new going recorded unrecorded goes_on = go (is_unrecorded answer) refl
  where
    go : (b : Bool) → is_unrecorded answer ≡ b → IsEntered act old answer new
    go true is = inr (is, unrecorded is)
    go false is = inl (is, going, goes_on is, recorded is)

-- why a seat begins nothing, no transcript has
unbegun-outside : (refusal : Refusal) → is_unbegun refusal ≡ true → is_unrecorded (Refused refusal) ≡ true
unbegun-outside Stopped is = refl
unbegun-outside RowsUsed is = refl
unbegun-outside OutOfMemory is = refl
unbegun-outside refusal is = cc

-- the answer of an operation that began nothing, and changed nothing
pub unbegun-entered : (act : Act) (seat : SeatView) (answer : Answer) (refusal : Refusal) → answer ≡ Refused refusal → is_unbegun refusal ≡ true → IsEntered act seat answer seat
unbegun-entered act seat answer refusal is unbegun = inr (ap is_unrecorded is ∙ unbegun-outside refusal unbegun, (refusal, is, inl (unbegun, refl)))

-- an operation entered nothing, or first that its act began
pub entered-began : (act : Act) (old new : SeatView) (answer : Answer) → IsEntered act old answer new → (new.entries ≡ old.entries) ⊎ Extends (begun_entries old act) new.entries
entered-began act old new answer (inl (inside, going, goes, follows)) = inr (follows-extends (begun_entries old act) (Some answer) new.entries follows)
entered-began act old new answer (inr (outside, (refusal, is, inl (unbegun, same)))) = inl (ap (λ (s : SeatView). s.entries) same)
entered-began act old new answer (inr (outside, (refusal, is, inr (worker, stops)))) = inr (follows-extends (begun_entries old act) stops.told new.entries stops.entered)

-- ---- what is recorded of that

pub recorded-extends : (b : Bool) (old new : List Entry) → Extends old new → Extends (cond b old []) (cond b new [])
recorded-extends true old new h = h
recorded-extends false old new h = ([], refl)

pub recorded-begun : (b : Bool) (old began new : List Entry) → (new ≡ old) ⊎ Extends began new
    → (cond b new [] ≡ cond b old []) ⊎ Extends (cond b began []) (cond b new [])
recorded-begun b old began new (inl same) = inl (ap (λ (entries : List Entry). cond b entries []) same)
recorded-begun b old began new (inr more) = inr (recorded-extends b began new more)

pub recorded-few : (b : Bool) (entries : List Entry) → replies_in (cond b entries []) ≤ replies_in entries
recorded-few true entries = omega arith
recorded-few false entries = omega arith

-- nothing was done
pub later-same : (most : ℕ) (seat : SeatView) → IsLater most seat seat
later-same most seat = record {
  name = refl;
  parts = refl;
  kept = ([], sym (append-nil seat.entries));
  seen = prefix_of_itself seat.seen;
  served = served-start (sight seat) seat.sent seat.sent seat.entries;
  sent = (omega arith, omega arith);
  counter = omega arith;
}
