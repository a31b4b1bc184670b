-- Replies to DISCARDs: for `World::step`.
use Rattle.std.proofs.Common.{◌≡◌, ℕ, List, [], ◌∷◌, ◌++◌, inl, inr, Bool, true, false, ◌==◌, ◌&&◌, refl, sym, ap, ◌∙◌, subst, cond, take, Option, Some, None, eqb-true}
use Rattle.std.specs.Prelude.{All, IsSome}
use Rattle.std.proofs.lemmas.Bool.{cases_Bool}
use Rattle.std.proofs.lemmas.List.Elements.{All-take}
use Rattle.plain_store.specs.Words.{◌∈◌, Stamp, Setup, IsAct}
use Rattle.plain_store.specs.declared.calls.Call.TheVariants.{Discard}
use Rattle.plain_store.specs.declared.calls.Reply.{Reply}
use Rattle.plain_store.specs.declared.step.Act.{Act}
use Rattle.plain_store.specs.declared.step.Act.TheVariants.{Deliver}
use Rattle.plain_store.specs.declared.answer.Answer.TheVariants.{Ignored}
use Rattle.plain_store.specs.declared.message.Message.{Message}
use Rattle.plain_store.specs.History.{Moment, moment, History, messages, message_at, Intent, Writes, Gets, Finds, Transaction, running, taken_in}
use Rattle.plain_store.specs.Moves.{move_of}
use Rattle.plain_store.specs.Run.{moment_of, answer_to, run, rows_are_used, takes, moves, is_wanted}
use Rattle.plain_store.specs.Laws.{EachStep, IsCallOf, IsAtHome}
use Rattle.plain_store.proofs.StaysTrue.{at_is, running_is, failed}
use Rattle.plain_store.proofs.KeptLogs.{Kept}
use Rattle.plain_store.proofs.EveryStepKeeps.{kept_at_first}
use Rattle.plain_store.proofs.Sound.{SoundCall}
use Rattle.plain_store.proofs.Runs.{kept_run, sends_home}
use Rattle.world.specs.Promises.{IsDiscardIgnored}
use Rattle.world.proofs.Moments.{no_rows, hands_reply}

both_true : (a b : Bool) → a && b ≡ true → a ≡ true
both_true true b h = refl
both_true false b h = h

module _ (setup : Setup) (acts : List Act) (valid : All IsAct acts) where
  abbrev history : History
  history = run setup [] acts

  -- a write whose DISCARD was sent runs no more
  gone : (message : Message) (stamp : Stamp) (transaction : Transaction) → message ∈ messages history → message.call ≡ Discard stamp → running history message.client ≡ Some transaction → message.ticket ≡ transaction.ticket → ⊥
  gone message stamp transaction there call runs ticket = writes home.sender.request refl goes
    where
      kept : Kept setup history
      kept = kept_run setup [] acts valid (kept_at_first setup)

      home : IsAtHome setup history message
      home = sends_home setup acts valid message there

      goes : IsCallOf setup home.sender.request message.partition (Discard stamp)
      goes = subst (IsCallOf setup home.sender.request message.partition) call home.goes

      same : home.sender ≡ transaction
      same =
          let its = running_is history message.client transaction runs in
          kept.single home.sender transaction home.begun its.0 (sym home.client ∙ sym its.1) (sym home.ticket ∙ ticket)

      ended : stamp ∈ failed history
      ended = (subst (SoundCall setup history message) call (kept.sound message there).call).0

      writes : (request : Intent) → home.sender.request ≡ request → IsCallOf setup request message.partition (Discard stamp) → ⊥
      writes (Writes s items) is its = kept.stays_open message.client transaction stamp items runs (ap (λ (t : Transaction). t.request) (sym same) ∙ is ∙ ap (λ t. Writes t items) (sym its.0)) ended
      writes (Gets keys) is its = its
      writes (Finds tag) is its = its

  taken : (row : ℕ) (message : Message) (stamp : Stamp) → message_at history row ≡ Some message → message.call ≡ Discard stamp → (o : Option Transaction) → running history message.client ≡ o
      → (takes setup history (Deliver row) message o).answer ≡ Ignored
  taken row message stamp at call None runs = refl
  taken row message stamp at call (Some transaction) runs = elim (cases_Bool (is_wanted history transaction message)) [
    | inl h ↦ absurd (gone message stamp transaction (at_is history row message at) call runs (eqb-true message.ticket transaction.ticket (both_true (message.ticket == transaction.ticket) _ h)))
    | inr h ↦ ap (λ b. (cond b (moves history (Deliver row) transaction (move_of setup transaction.request (taken_in history transaction ++ message ∷ []) message)) (moment (Deliver row) Ignored [])).answer) h
  ]

  delivered : (row : ℕ) → IsDiscardIgnored history (Deliver row) (answer_to setup history (Deliver row))
  unfolding answer_to
  delivered row message stamp at call some = elim (cases_Bool (rows_are_used history)) [
    | inl h ↦ inr (ap (λ (m : Moment). m.answer) (no_rows setup history (Deliver row) _ refl h))
    | inr h ↦ inl (handed message.reply refl some h)
  ]
    where
      handed : (reply : Option Reply) → message.reply ≡ reply → IsSome reply → rows_are_used history ≡ false → (moment_of setup history (Deliver row)).answer ≡ Ignored
      handed None is there free = absurd (let bad : false ≡ true = there in cc)
      handed (Some reply) is there free =
          ap (λ (m : Moment). m.answer) (hands_reply setup history row message reply free at is)
          ∙ taken row message stamp at call (running history message.client) refl

  pub discard_ignored : (act : Act) → IsDiscardIgnored history act (answer_to setup history act)
  discard_ignored (Deliver row) = delivered row
  discard_ignored act = tt

pub discards_ignored : (setup : Setup) (acts : List Act) → EachStep IsDiscardIgnored setup acts
discards_ignored setup acts valid n act at = discard_ignored setup (take n acts) (All-take IsAct n acts valid) act
