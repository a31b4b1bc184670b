-- Events counted by their seats, one after the other.
use Rattle.std.proofs.Common.{◌≡◌, ℕ, zero, suc, ◌+◌, ◌<◌, Bool, true, false, List, [], ◌∷◌, length, get_or, take, Some, ap, ◌∙◌, arith}
use Rattle.std.specs.Prelude.{slice_get, count_by}
use Rattle.std.specs.Option.{option_map}
use Rattle.std.proofs.lemmas.List.Sums.{count_by_more_no, count_by_more_yes}
use Rattle.plain_store.specs.declared.calls.Call.TheVariants.{Commit}
use Rattle.plain_store.specs.declared.calls.Reply.TheVariants.{Committed}
use Rattle.partition.specs.Events.{Event, event}

any : Event
any = event 0 0 (Commit 0) (Committed 0)

seat_there : (xs : List Event) (at seat : ℕ) → at < length xs → Some seat ≡ option_map (λ (e : Event). e.seat) (slice_get xs at) → (get_or xs at any).seat ≡ seat
seat_there [] at seat lt is = absurd (omega (arith, lt))
seat_there (x ∷ xs) zero seat lt is = cc
seat_there (x ∷ xs) (suc at) seat lt is = seat_there xs at seat (omega (arith, lt)) is

pub counted_yes : (is : ℕ → Bool) (xs : List Event) (at seat : ℕ) → at < length xs → Some seat ≡ option_map (λ (e : Event). e.seat) (slice_get xs at) → is seat ≡ true
    → count_by (λ (e : Event). is e.seat) (take (at + 1) xs) ≡ count_by (λ (e : Event). is e.seat) (take at xs) + 1
counted_yes is xs at seat lt there passes = count_by_more_yes (λ (e : Event). is e.seat) xs at any lt (ap is (seat_there xs at seat lt there) ∙ passes)

pub counted_no : (is : ℕ → Bool) (xs : List Event) (at seat : ℕ) → at < length xs → Some seat ≡ option_map (λ (e : Event). e.seat) (slice_get xs at) → is seat ≡ false
    → count_by (λ (e : Event). is e.seat) (take (at + 1) xs) ≡ count_by (λ (e : Event). is e.seat) (take at xs)
counted_no is xs at seat lt there fails = count_by_more_no (λ (e : Event). is e.seat) xs at any lt (ap is (seat_there xs at seat lt there) ∙ fails)
