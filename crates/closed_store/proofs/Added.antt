-- Counts to which the events of one epoch more are added.
use Rattle.std.proofs.Common.{◌≡◌, ℕ, ◌+◌, ◌-◌, ◌^◌, ◌<◌, Bool, true, false, List, [], ◌∷◌, ◌++◌, length, take, get_or, cond, nat_eq, min, add-zero, refl, sym, ap, ◌∙◌, arith}
use Rattle.std.specs.Prelude.{sum_by, count_by}
use Rattle.std.specs.List.{filter}
use Rattle.std.proofs.lemmas.List.{take_more}
use Rattle.std.proofs.lemmas.List.Elements.{filter-append}
use Rattle.std.proofs.lemmas.List.Sums.{sum_by-append}
use Rattle.partition.specs.Events.{Event}
use Rattle.partition.specs.declared.book.Counts.{Counts}
use Rattle.partition.specs.declared.journal.Epoch.{Epoch}
use Rattle.partition.specs.Accounts.{is_of_seat, is_of_collector}
use Rattle.closed_store.specs.Counting.{events_given, counted_with, IsCountedWith}

least_twice : (m a b c : ℕ) → min (min (a + b) m + c) m ≡ min (a + (b + c)) m
least_twice m a b c = omega arith

least_within : (m a n : ℕ) → min (a + min (0 + n) m) m ≡ min (a + n) m
least_within m a n = omega arith

-- what is added twice is added at once
pub counted_twice : (a b c : ℕ) → counted_with (counted_with a b) c ≡ counted_with a (b + c)
counted_twice a b c = least_twice (2 ^ 128 - 1) a b c

pub counted_within : (a n : ℕ) → counted_with a (counted_with 0 n) ≡ counted_with a n
counted_within a n = least_within (2 ^ 128 - 1) a n

module _ (given : List (ℕ × ℕ × Epoch)) (k : ℕ) (g : ℕ × ℕ × Epoch) (within : k < length given) (is : g ≡ get_or given k g) where
  module _ (test : Event → Bool) (partition : ℕ) where
    one : (b : Bool) → sum_by (λ (x : ℕ × ℕ × Epoch). count_by test x.2.events.items) (cond b (g ∷ []) []) ≡ cond b (count_by test g.2.events.items) 0
    one true = omega arith
    one false = refl

    pub events_more : events_given test (take (k + 1) given) partition ≡ events_given test (take k given) partition + cond (nat_eq g.0 partition) (count_by test g.2.events.items) 0
    events_more =
        let passes : ℕ × ℕ × Epoch → Bool = λ x. nat_eq x.0 partition in
        let number : ℕ × ℕ × Epoch → ℕ = λ x. count_by test x.2.events.items in
        ap (λ xs. events_given test xs partition) (take_more given k g within ∙ ap (λ x. take k given ++ x ∷ []) (sym is))
        ∙ ap (sum_by number) (filter-append passes (take k given) (g ∷ []))
        ∙ sum_by-append number (filter passes (take k given)) (filter passes (g ∷ []))
        ∙ ap (λ n. events_given test (take k given) partition + n) (one (passes g))

    pub events_one : nat_eq g.0 partition ≡ true → events_given test (take (k + 1) given) partition ≡ events_given test (take k given) partition + count_by test g.2.events.items
    events_one its = events_more ∙ ap (λ b. events_given test (take k given) partition + cond b (count_by test g.2.events.items) 0) its

    pub events_none : nat_eq g.0 partition ≡ false → events_given test (take (k + 1) given) partition ≡ events_given test (take k given) partition
    events_none apart = events_more ∙ ap (λ b. events_given test (take k given) partition + cond b (count_by test g.2.events.items) 0) apart ∙ add-zero (events_given test (take k given) partition)

    pub counted_one : (count count' : ℕ) → nat_eq g.0 partition ≡ true → count ≡ counted_with 0 (events_given test (take k given) partition)
        → count' ≡ counted_with count (count_by test g.2.events.items) → count' ≡ counted_with 0 (events_given test (take (k + 1) given) partition)
    counted_one count count' its was told =
        told ∙ ap (λ n. counted_with n (count_by test g.2.events.items)) was
        ∙ counted_twice 0 (events_given test (take k given) partition) (count_by test g.2.events.items)
        ∙ ap (counted_with 0) (sym (events_one its))

    pub counted_none : (count : ℕ) → nat_eq g.0 partition ≡ false → count ≡ counted_with 0 (events_given test (take k given) partition)
        → count ≡ counted_with 0 (events_given test (take (k + 1) given) partition)
    counted_none count apart was = was ∙ ap (counted_with 0) (sym (events_none apart))

-- a partition's counts with those of the epochs that were given for it
pub is_counted : (given : List (ℕ × ℕ × Epoch)) (place : ℕ) (old more new : Counts)
    → more.of_seats ≡ counted_with 0 (events_given is_of_seat given place) → more.of_collector ≡ counted_with 0 (events_given is_of_collector given place)
    → new.of_seats ≡ counted_with old.of_seats more.of_seats → new.of_collector ≡ counted_with old.of_collector more.of_collector
    → IsCountedWith given place old new
is_counted given place old more new seats collector seats' collector' = record {
  of_seats = seats' ∙ ap (counted_with old.of_seats) seats ∙ counted_within old.of_seats (events_given is_of_seat given place);
  of_collector = collector' ∙ ap (counted_with old.of_collector) collector ∙ counted_within old.of_collector (events_given is_of_collector given place);
}
