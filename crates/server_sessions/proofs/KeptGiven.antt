-- Transcripts that are kept: each reply in them has its place in what was seen.
use Rattle.std.proofs.Common.{◌≡◌, List, [], ◌∷◌, ◌++◌, Option, Some, None, Result, Ok, Err, cond, refl, sym, subst}
use Rattle.std.specs.Result.{is_ok}
use Rattle.std.specs.Prelude.{All, IfSome}
use Rattle.std.proofs.Math.Logic.{∥∥₁_map}
use Rattle.std.proofs.lemmas.List.Elements.{All-append, All-cons, All-nil, All-weaker}
use mathlib.Core.List.{IsPrefix}
use Rattle.closed_store.specs.declared.transcript.Transcript.{Transcript}
use Rattle.history.specs.declared.entry.HistoryEntry.{HistoryEntry}
use Rattle.hub.proofs.Given.{IsLaterSight, served-later}
use Rattle.server_sessions.specs.Histories.{AreGivenIn, IsGivenIn, sight_in}

-- of a transcript that is there, more may be seen
pub given_later : (old new : List HistoryEntry) (transcript : Transcript) → IsPrefix old new → IsGivenIn old transcript → IsGivenIn new transcript
given_later old new transcript pre given =
    let later : IsLaterSight (sight_in old transcript) (sight_in new transcript) = record { tenant = refl; seat = refl; seen = pre } in
    (given.0, served-later (sight_in old transcript) (sight_in new transcript) 0 given.0 [] transcript.entries.items later given.1)

pub all_given_later : (old new : List HistoryEntry) (transcripts : List Transcript) → IsPrefix old new → All (IsGivenIn old) transcripts → All (IsGivenIn new) transcripts
all_given_later old new transcripts pre given = All-weaker (IsGivenIn old) (IsGivenIn new) (λ t. given_later old new t pre) transcripts given

-- those of which nothing was seen, or this
pub all_given : (seen : Option (List HistoryEntry)) (new : List HistoryEntry) (transcripts : List Transcript) → IfSome seen (λ s. IsPrefix s new) → AreGivenIn seen transcripts → All (IsGivenIn new) transcripts
all_given None new transcripts pre none = subst (All (IsGivenIn new)) (sym none) (All-nil (IsGivenIn new))
all_given (Some old) new transcripts pre given = all_given_later old new transcripts pre given

-- one more is kept
pub more_given : (seen : Option (List HistoryEntry)) (its new : List HistoryEntry) (transcripts now : List Transcript) (one : Transcript) → IfSome seen (λ s. IsPrefix s new) → IsPrefix its new
    → now ≡ transcripts ++ one ∷ [] → ∥ AreGivenIn seen transcripts ∥₁ → IsGivenIn its one → ∥ AreGivenIn (Some new) now ∥₁
more_given seen its new transcripts now one before other is given of =
    ∥∥₁_map given (λ all. subst (All (IsGivenIn new)) (sym is)
    (All-append (IsGivenIn new) transcripts (one ∷ []) (all_given seen new transcripts before all) (All-cons (IsGivenIn new) one [] (given_later its new one other of) (All-nil (IsGivenIn new)))))

-- no more is kept
pub same_given : (seen : Option (List HistoryEntry)) (new : List HistoryEntry) (transcripts now : List Transcript) → IfSome seen (λ s. IsPrefix s new) → now ≡ transcripts → ∥ AreGivenIn seen transcripts ∥₁
    → ∥ AreGivenIn (Some new) now ∥₁
same_given seen new transcripts now before is given = ∥∥₁_map given (λ all. subst (All (IsGivenIn new)) (sym is) (all_given seen new transcripts before all))

-- whether one more could be kept or not
pub kept_given : {A E : Type 0} (r : Result A E) (seen : Option (List HistoryEntry)) (its new : List HistoryEntry) (transcripts now : List Transcript) (one : Transcript) → IfSome seen (λ s. IsPrefix s new) → IsPrefix its new
    → now ≡ cond (is_ok r) (transcripts ++ one ∷ []) transcripts → ∥ AreGivenIn seen transcripts ∥₁ → IsGivenIn its one → ∥ AreGivenIn (Some new) now ∥₁
kept_given (Ok done) seen its new transcripts now one before other is given of = more_given seen its new transcripts now one before other is given of
kept_given (Err e) seen its new transcripts now one before other is given of = same_given seen new transcripts now before is given
