-- What becomes of the tenants' cells: for `Tenant::deliver_call` and `Tenant::collect`.
use Rattle.std.proofs.Common.{◌≡◌, ◌≢◌, ℕ, ◌<◌, List, [], ◌∷◌, ◌++◌, inl, inr, refl, sym, ap, ◌∙◌, subst, cond, slice_get, length, set, Some, None, eq-eqb}
use Rattle.std.proofs.lemmas.Bool.{ne_eqb}
use Rattle.std.proofs.lemmas.List.{length-set}
use Rattle.std.specs.List.{cons_option}
use Rattle.plain_store.specs.Words.{Room, Setup}
use Rattle.plain_store.specs.declared.step.Act.{Act}
use Rattle.plain_store.specs.declared.step.Act.TheVariants.{Deliver, Collect as CollectAt}
use Rattle.plain_store.specs.declared.refusal.Refusal.{Refusal}
use Rattle.plain_store.specs.declared.answer.Answer.TheVariants.{Freed}
use Rattle.plain_store.specs.declared.message.Message.{Message}
use Rattle.plain_store.specs.declared.calls.Call.{Call}
use Rattle.plain_store.specs.declared.calls.Call.TheVariants.{Collect}
use Rattle.plain_store.specs.declared.calls.Reply.{Reply}
use Rattle.plain_store.specs.declared.calls.Reply.TheVariants.{Freed as ToCollect}
use Rattle.plain_store.specs.Log.{Exchange, Log}
use Rattle.plain_store.specs.Replies.{reply_after}
use Rattle.plain_store.specs.History.{Moment, moment, History, keep_in, log_at}
use Rattle.plain_store.specs.Run.{moment_of, serves, count_freed}
use Rattle.partition.specs.Shelf.{StandsFor as CellStandsFor, ServesTenant, OtherCellsKept, room_of, tenants as seats}
use Rattle.partition.specs.declared.shelf.Shelf.{Shelf}
use Rattle.world.specs.Standing.{CellsStandFor, OthersStay}
use Rattle.world.proofs.Results.{after_set}
use Rattle.world.proofs.Moments.{refusal_of}
use Rattle.world.proofs.QuietLogs.{IsSilent, refused_silent}

-- where no log grows, the cells still stand for the logs
pub cells_silent : (setup : Setup) (history : History) (m : Moment) (shelves : List Shelf) (number : ℕ) → ((partition : ℕ) → IsSilent setup history partition m) → CellsStandFor setup history shelves number → CellsStandFor setup (m ∷ history) shelves number
cells_silent setup history m shelves number silent cells partition shelf at =
    let held = cells partition shelf at in (held.0, subst (CellStandsFor shelf number) (sym (silent partition)) held.1)

pub cells_refused : (setup : Setup) (history : History) (act : Act) (why : Refusal) (shelves : List Shelf) (number : ℕ) → moment_of setup history act ≡ refusal_of act why → CellsStandFor setup history shelves number
    → CellsStandFor setup (moment_of setup history act ∷ history) shelves number
cells_refused setup history act why shelves number is cells =
    subst (λ m. CellsStandFor setup (m ∷ history) shelves number) (sym is) (cells_silent setup history (refusal_of act why) shelves number (λ partition. refused_silent setup history partition act why) cells)

-- ---- one cell serves

pub OthersStay-refl : (shelves : List Shelf) (number : ℕ) → OthersStay shelves shelves number
OthersStay-refl shelves number = record {
  parts = refl;
  seats = λ partition before after at at'. let same : before ≡ after = cc in ap seats (sym same);
  others = λ partition before after at at' other apart. let same : before ≡ after = cc in subst (λ shelf. (room_of shelf other ≡ room_of before other) × ((log : Log) → CellStandsFor before other log → CellStandsFor shelf other log)) same (refl, λ log stands. stands);
}

-- a shelf on which other cells stay is put in its place
pub OthersStay-set : (shelves : List Shelf) (number place : ℕ) (before after : Shelf) → place < length shelves → slice_get shelves place ≡ Some before → OtherCellsKept before after number → seats after ≡ seats before → OthersStay shelves (set shelves place after) number
OthersStay-set shelves number place before after within here kept same = record {
  parts = length-set shelves place after;
  seats = λ partition old new at at'. elim (after_set shelves place after partition new within at') [
    | inl h ↦ (let is : old ≡ before = (let e : slice_get shelves place ≡ Some old = ap (slice_get shelves) (sym h.0) ∙ at in cc) in ap seats h.1 ∙ same ∙ ap seats (sym is))
    | inr h ↦ (let is : new ≡ old = (let e = h.1 in cc) in ap seats is)
  ];
  others = λ partition old new at at'. elim (after_set shelves place after partition new within at') [
    | inl h ↦ (let is : before ≡ old = (let e : slice_get shelves place ≡ Some old = ap (slice_get shelves) (sym h.0) ∙ at in cc) in subst (λ o. OtherCellsKept o new number) is (subst (λ n. OtherCellsKept before n number) (sym h.1) kept))
    | inr h ↦ (let is : old ≡ new = (let e = h.1 in cc) in subst (λ n. OtherCellsKept old n number) is (λ other apart. (refl, λ log stands. stands)))
  ];
}

-- the cells after one of them served a call, by which its partition's log grew and no other did
pub cells_set : (setup : Setup) (history : History) (m : Moment) (shelves : List Shelf) (number place : ℕ) (before after : Shelf) (call : Call) (reply : Reply) → place < length shelves → slice_get shelves place ≡ Some before
    → ServesTenant before after number call reply → log_at setup (m ∷ history) place ≡ record { call = call; reply = reply } ∷ log_at setup history place
    → ((partition : ℕ) → partition ≢ place → IsSilent setup history partition m) → CellsStandFor setup history shelves number → CellsStandFor setup (m ∷ history) (set shelves place after) number
cells_set setup history m shelves number place before after call reply within here serves grown silent cells partition shelf at = elim (after_set shelves place after partition shelf within at) [
  | inl h ↦
      (let held = cells place before here in
      let room : room_of after number ≡ setup.room = serves.room ∙ held.0 in
      let stands : CellStandsFor after number (log_at setup (m ∷ history) place) = subst (CellStandsFor after number) (sym grown) (serves.history (log_at setup history place) held.1) in
      (ap (λ s. room_of s number) h.1 ∙ room, subst (λ s. CellStandsFor s number (log_at setup (m ∷ history) partition)) (sym h.1) (subst (λ p. CellStandsFor after number (log_at setup (m ∷ history) p)) (sym h.0) stands)))
  | inr h ↦ (let held = cells partition shelf h.1 in (held.0, subst (CellStandsFor shelf number) (sym (silent partition h.0)) held.1))
]

-- ---- the logs

abbrev exchange : Call → Reply → Exchange
exchange call reply = record { call = call; reply = reply }

module _ (setup : Setup) (history : History) where
  pub exchange_here : (message : Message) (reply : Reply) (row : ℕ) → log_at setup (serves history (Deliver row) message reply ∷ history) message.partition ≡ record { call = message.call; reply = reply } ∷ log_at setup history message.partition
  exchange_here message reply row =
      ap (λ b. cons_option (cond b (Some (exchange message.call reply)) None) [] ++ log_at setup history message.partition) (eq-eqb message.partition message.partition refl)

  pub exchange_elsewhere : (message : Message) (reply : Reply) (row : ℕ) (partition : ℕ) → partition ≢ message.partition → IsSilent setup history partition (serves history (Deliver row) message reply)
  exchange_elsewhere message reply row partition apart =
      ap (λ b. cons_option (cond b (Some (exchange message.call reply)) None) [] ++ log_at setup history partition) (ne_eqb message.partition partition (λ e. apart (sym e)))

  pub collection_here : (partition count : ℕ) (reply : Reply) (keep : ℕ) → keep_in setup history ≡ keep → reply ≡ ToCollect count
      → log_at setup (moment (CollectAt partition) (Freed count) [] ∷ history) partition ≡ record { call = Collect keep; reply = reply } ∷ log_at setup history partition
  collection_here partition count reply keep kept is =
      ap (λ b. cond b (exchange (Collect (keep_in setup history)) (ToCollect count) ∷ []) [] ++ log_at setup history partition) (eq-eqb partition partition refl)
      ∙ (λ i. record { call = Collect (kept i); reply = sym is i } ∷ log_at setup history partition)

  pub collection_elsewhere : (partition count other : ℕ) → other ≢ partition → IsSilent setup history other (moment (CollectAt partition) (Freed count) [])
  collection_elsewhere partition count other apart =
      ap (λ b. cond b (exchange (Collect (keep_in setup history)) (ToCollect count) ∷ []) [] ++ log_at setup history other) (ne_eqb partition other (λ e. apart (sym e)))

-- what a collection is answered after any log
pub collected_is : (room : Room) (log : Log) (keep : ℕ) → reply_after room log (Collect keep) ≡ ToCollect (count_freed (reply_after room log (Collect keep)))
unfolding reply_after
collected_is room log keep = refl
