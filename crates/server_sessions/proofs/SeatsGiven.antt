-- The replies among a seat's entries, each at its place in what the seat has seen.
use Rattle.std.proofs.Common.{◌≡◌, ℕ, zero, suc, List, [], refl, sym, ap, subst, arith}
use Rattle.std.proofs.lemmas.List.Elements.{All-nil}
use Rattle.closed_store.specs.declared.transcript.Transcript.{Transcript}
use Rattle.history.specs.declared.entry.HistoryEntry.{HistoryEntry}
use Rattle.shard.specs.declared.seat_name.SeatName.{SeatName}
use Rattle.hub.specs.Operations.{IsLater}
use Rattle.hub.specs.Replies.{IsServedFor}
use Rattle.hub.specs.Seats.{IsNamed, SeatView, sight}
use Rattle.hub.proofs.Given.{IsLaterSight, served-both, served-later, served-same}
use Rattle.server_sessions.specs.Histories.{IsGivenIn, sight_in}
use Rattle.server_sessions.specs.SeatAnswers.{AreGiven, IsDrained}

-- nothing was entered yet
pub given_fresh : (seat : SeatView) → seat.entries ≡ [] → AreGiven seat
given_fresh seat none = record { more = []; is = none; served = All-nil (IsServedFor (sight seat) 0 seat.sent) }

pub drained_name : (epoch : ℕ) (old new : SeatView) → IsDrained epoch old new → new.name ≡ old.name
drained_name zero old new drained = ap (λ (s : SeatView). s.name) (drained.0 refl)
drained_name (suc n) old new drained = ap (λ (s : SeatView). s.name) (drained.1 (omega arith))

pub given_drained : (epoch : ℕ) (old new : SeatView) → IsDrained epoch old new → AreGiven old → AreGiven new
given_drained zero old new drained given = subst AreGiven (sym (drained.0 refl)) given
given_drained (suc n) old new drained given =
    subst AreGiven (sym (drained.1 (omega arith))) (record { more = []; is = refl; served = All-nil (IsServedFor (sight old) 0 old.sent) })

-- the seat has seen more, and each reply that it entered since has its place there
pub given_later : (most : ℕ) (old new : SeatView) → IsLater most old new → AreGiven old → AreGiven new
given_later most old new later given =
    let sees : IsLaterSight (sight old) (sight new) = record { tenant = ap (λ (n : SeatName). n.tenant) later.name; seat = ap (λ (n : SeatName). n.seat) later.name; seen = later.seen } in
    served-both (sight new) (sight new) 0 old.sent new.sent [] old.entries new.entries refl (omega arith) later.sent.0 (served-later (sight old) (sight new) 0 old.sent [] old.entries sees given) later.served

-- what a seat leaves
pub given_at_end : (seat : SeatView) (transcript : Transcript) (seen : List HistoryEntry) → IsNamed transcript seat.name → transcript.entries.items ≡ seat.entries → seen ≡ seat.seen → AreGiven seat → IsGivenIn seen transcript
given_at_end seat transcript seen named entries same given =
    let its : sight_in seen transcript ≡ sight seat = λ i. record { tenant = named.tenant i; seat = named.seat i; seen = same i } in
    (seat.sent, served-same (sight seat) (sight_in seen transcript) 0 0 seat.sent seat.sent [] seat.entries transcript.entries.items its refl (omega arith) entries given)
