-- Calls of one kind that a transaction waits for: for `Waiting` and `ClientSession`.
use Rattle.std.proofs.Common.{◌≡◌, ◌⊎◌, ◌<◌, ◌≤◌, ℕ, List, [], ◌∷◌, length, filter_map, get_or, slice_get, Option, Some, None, sym, subst, inl, inr, refl}
use Rattle.std.specs.Prelude.{All}
use Rattle.std.specs.List.{cons_option}
use Rattle.std.proofs.lemmas.List.Elements.{All-nil, All-cons, All-get_or}
use Rattle.std.proofs.lemmas.Option.{slice_get_cases}
use Rattle.plain_store.specs.declared.calls.Call.TheVariants.{Commit}
use Rattle.plain_store.specs.Words.{Key, Stamp}
use Rattle.plain_store.specs.Writing.{Outgoing}
use Rattle.get_all.specs.declared.late.Late.{Late}
use Rattle.tenant_sessions.specs.Parts.{Commits, First, Second, batch_calls}
use Rattle.tenant_sessions.specs.Moves.{Move, Wait, Decided, Done, Ask, Begins, Read, Listed, Restart, Ended, Ignored}
use Rattle.tenant_sessions.specs.Sending.{IsGet, SendsSo}

-- what holds of all elements holds of those at places
pub all_placed : {X : Type 0} (P : X → Type 0) (xs : List X) (places : List ℕ) → All P xs → All P (filter_map (slice_get xs) places)
all_placed P xs [] all = All-nil P
all_placed {X} P xs (i ∷ is) all = go (slice_get_cases xs i).1 (all_placed P xs is all)
  where
    go : ((x : X) × (i < length xs) × (slice_get xs i ≡ Some x) × (get_or xs i x ≡ x)) ⊎ ((length xs ≤ i) × (slice_get xs i ≡ None))
        → All P (filter_map (slice_get xs) is) → All P (filter_map (slice_get xs) (i ∷ is))
    go (inl (x, within, at, got)) rest =
        let Q : Option X → Type 0 = λ o. All P (cons_option o (filter_map (slice_get xs) is)) in
        subst Q (sym at) (All-cons P x (filter_map (slice_get xs) is) (subst P got (All-get_or P xs i x within all)) rest)
    go (inr (past, none)) rest =
        let Q : Option X → Type 0 = λ o. All P (cons_option o (filter_map (slice_get xs) is)) in
        subst Q (sym none) rest

pub all_commits : (parts : ℕ) (stamp : Stamp) (partitions : List ℕ) → All (λ (out : Outgoing). out.call ≡ Commit stamp) (batch_calls parts (Commits stamp partitions))
all_commits parts stamp [] = All-nil (λ (out : Outgoing). out.call ≡ Commit stamp)
all_commits parts stamp (p ∷ ps) = All-cons (λ (out : Outgoing). out.call ≡ Commit stamp) _ _ refl (all_commits parts stamp ps)

pub all_first : (parts : ℕ) (keys : List Key) → All (λ (out : Outgoing). IsGet out.call) (batch_calls parts (First keys))
all_first parts [] = All-nil (λ (out : Outgoing). IsGet out.call)
all_first parts (k ∷ ks) = All-cons (λ (out : Outgoing). IsGet out.call) _ _ tt (all_first parts ks)

pub all_second : (parts : ℕ) (late : List Late) → All (λ (out : Outgoing). IsGet out.call) (batch_calls parts (Second late))
all_second parts [] = All-nil (λ (out : Outgoing). IsGet out.call)
all_second parts (k ∷ ks) = All-cons (λ (out : Outgoing). IsGet out.call) _ _ tt (all_second parts ks)

-- where nothing is waited for, nothing is said of it
pub sends_none : (move : Move) → SendsSo move []
sends_none Wait = tt
sends_none (Decided stamp) = All-nil (λ (out : Outgoing). out.call ≡ Commit stamp)
sends_none (Done stamp) = tt
sends_none Ask = All-nil (λ (out : Outgoing). IsGet out.call)
sends_none Begins = All-nil (λ (out : Outgoing). IsGet out.call)
sends_none (Read readings) = tt
sends_none (Listed readings) = tt
sends_none (Restart key floor) = tt
sends_none (Ended refusal calls) = tt
sends_none Ignored = tt
