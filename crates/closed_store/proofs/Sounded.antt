-- The events of epochs that are in turn are sound from nothing, where the numbers of seats rise.
use Rattle.std.proofs.Common.{◌≡◌, ℕ, zero, suc, List, [], ◌∷◌, ◌++◌, take, Some, refl, sym, subst}
use Rattle.std.specs.Prelude.{slice_get}
use Rattle.std.proofs.lemmas.List.{append_assoc, append-nil}
use Rattle.plain_store.specs.Replies.{reply_after}
use Rattle.plain_store.specs.Words.{Room}
use Rattle.stamps.specs.declared.bounds.Limits.{Limits}
use Rattle.partition.specs.Events.{Event}
use Rattle.partition.specs.declared.journal.Epoch.{Epoch}
use Rattle.partition.specs.Journals.{IsSoundUnder, log_after, room_for}
use Rattle.closed_store.specs.Joins.{AreRightReplies, AreInTurn, DoRise, events_of}
use Rattle.closed_store.proofs.Risen.{sound_events}

module _ (room : Room) where
  replies_append : (before xs ys : List Event) → AreRightReplies room before xs → AreRightReplies room (before ++ xs) ys → AreRightReplies room before (xs ++ ys)
  replies_append before [] ys one two place e at = subst (λ (b : List Event). AreRightReplies room b ys) (append-nil before) two place e at
  replies_append before (x ∷ xs) ys one two zero e at = one zero e at
  replies_append before (x ∷ xs) ys one two (suc place) e at = λ log leaves.
      let P : List Event → Type 0 = λ done. e.reply ≡ reply_after room (log_after done ++ log) e.call in
      let first : AreRightReplies room (before ++ x ∷ []) xs = λ n f there older l.
      let Q : List Event → Type 0 = λ done. f.reply ≡ reply_after room (log_after done ++ older) f.call in
      subst Q (sym (append_assoc before (x ∷ []) (take n xs))) (one (suc n) f there older l) in
      let rest : AreRightReplies room ((before ++ x ∷ []) ++ xs) ys =
      subst (λ (b : List Event). AreRightReplies room b ys) (sym (append_assoc before (x ∷ []) xs)) two in
      subst P (append_assoc before (x ∷ []) (take place (xs ++ ys))) (replies_append (before ++ x ∷ []) xs ys first rest place e at log leaves)

  replies_from : (before : List Event) (epochs : List Epoch)
      → ((place : ℕ) (epoch : Epoch) → slice_get epochs place ≡ Some epoch → AreRightReplies room (before ++ events_of (take place epochs)) epoch.events.items)
      → AreRightReplies room before (events_of epochs)
  replies_from before [] each place e at = absurd (cc)
  replies_from before (x ∷ xs) each place e at =
      replies_append before x.events.items (events_of xs)
      (subst (λ (b : List Event). AreRightReplies room b x.events.items) (append-nil before) (each 0 x refl))
      (replies_from (before ++ x.events.items) xs (λ place epoch at.
      subst (λ (b : List Event). AreRightReplies room b epoch.events.items) (sym (append_assoc before x.events.items (events_of (take place xs)))) (each (suc place) epoch at))) place e at

pub sound_joined : (limits : Limits) (epochs : List Epoch) → AreInTurn (room_for limits) epochs → DoRise (events_of epochs) → IsSoundUnder limits (events_of epochs)
sound_joined limits epochs start rise =
    sound_events limits (events_of epochs) (replies_from (room_for limits) [] epochs (λ place epoch at. (start place epoch at).replies)) rise
