-- Moments of a run, and what a tenant's messages are after them: for the calls of `Tenant`.
use Rattle.std.proofs.Common.{length, take, ◌≤◌, ◌<◌, is_none, Some, None, ◌≡◌, ℕ, List, [], ◌∷◌, ◌++◌, true, false, refl, sym, ap, ◌∙◌, subst, cond, append-nil, arith}
use Rattle.std.proofs.lemmas.Bool.{le-leb, lt-leb}
use Rattle.plain_store.specs.declared.refusal.Refusal.TheVariants.{NoPartition, NoMessage, RowsUsed}
use Rattle.plain_store.specs.declared.answer.Answer.TheVariants.{Freed, Keeps, Lost, Refused}
use Rattle.plain_store.specs.declared.calls.Call.TheVariants.{Collect}
use Rattle.plain_store.specs.declared.message.Message.{Message}
use Rattle.plain_store.specs.declared.calls.Reply.{Reply}
use Rattle.plain_store.specs.declared.step.Act.{Act}
use Rattle.plain_store.specs.declared.step.Act.TheVariants.{Deliver, Lose, Collect as CollectAt, Keep as SetKeep}
use Rattle.plain_store.specs.declared.answer.Answer.{Answer}
use Rattle.plain_store.specs.declared.refusal.Refusal.{Refusal}
use Rattle.plain_store.specs.Words.{Setup, IsAct}
use Rattle.std.proofs.lemmas.List.Elements.{All-push}
use Rattle.std.proofs.lemmas.List.{take_all}
use Rattle.plain_store.specs.Replies.{reply_after}
use Rattle.plain_store.proofs.Steps.{moment_act}
use Rattle.plain_store.specs.History.{Moment, moment, History, messages, message_at, lost_rows, row_lost, keep_after, keep_in, log_at, running}
use Rattle.plain_store.specs.Run.{count_freed, Test, ◌⇒◌, tests, rows_are_used, effect, moment_of, answer_to, sent_by, run, delivers, delivers_row, serves, takes}
use Rattle.message_table.specs.declared.table.Table.{Table}
use Rattle.message_table.specs.Content.{StandsFor as TableStandsFor}
use Rattle.tenant_sessions.specs.declared.sessions.Sessions.{Sessions}
use Rattle.tenant_sessions.specs.Sessions.{IsRun, is_quiet, StandsFor as SessionsStandFor}
use Rattle.tenant_sessions.proofs.Standing.{quiet}
use Rattle.tenant_sessions.proofs.Refusing.{tested_by, comes_to}
use Rattle.std.specs.Prelude.{Err}
use Rattle.stamps.specs.Limits.{max_parts}
use Rattle.world.specs.declared.tenant.Tenant.{Tenant}
use Rattle.world.specs.Standing.{TenantStandsFor, TenantSteps, IsBeginning}

-- ---- runs

pub run-push : (setup : Setup) (history : History) (acts : List Act) (act : Act) → run setup history (acts ++ act ∷ []) ≡ moment_of setup (run setup history acts) act ∷ run setup history acts
run-push setup history [] act = refl
run-push setup history (first ∷ acts) act = run-push setup (moment_of setup history first ∷ history) acts act

-- a run with one act more
pub run_next : (setup : Setup) (history : History) (act : Act) → IsRun setup history → IsAct act → IsRun setup (moment_of setup history act ∷ history)
run_next setup history act before valid = record {
  acts = before.acts ++ act ∷ [];
  valid = All-push IsAct before.acts act before.valid valid;
  is = ap (λ h. moment_of setup h act ∷ h) before.is ∙ sym (run-push setup [] before.acts act);
}

-- ---- refusals

abbrev pub refusal_of : Act → Refusal → Moment
refusal_of act why = moment act (Refused why) []

-- the acts that take rows are tested of that first
pub no_rows : (setup : Setup) (history : History) (act : Act) (rest : List Test) → tests setup history act ≡ (rows_are_used history ⇒ RowsUsed) ∷ rest → rows_are_used history ≡ true → moment_of setup history act ≡ refusal_of act RowsUsed
no_rows setup history act rest is used = comes_to setup history act (Err RowsUsed) (ap tested_by is ∙ ap (λ b. cond b (Err RowsUsed) (tested_by rest)) used)

pub refusal_loses_none : (act : Act) (why : Refusal) → row_lost act (Refused why) ≡ []
refusal_loses_none (Lose row) why = refl
refusal_loses_none act why = refl

-- ---- messages

-- the table after a moment that loses no row
pub table_next : (m : Moment) (history : History) (table : Table) → row_lost m.act m.answer ≡ [] → TableStandsFor table (messages history ++ m.sent) (lost_rows history) → TableStandsFor table (messages (m ∷ history)) (lost_rows (m ∷ history))
table_next m history table none stands = subst (λ rows. TableStandsFor table (messages history ++ m.sent) (rows ++ lost_rows history)) (sym none) stands

-- the table after a moment that sends nothing
pub table_quiet : (m : Moment) (history : History) (table : Table) → m.sent ≡ [] → row_lost m.act m.answer ≡ [] → TableStandsFor table (messages history) (lost_rows history) → TableStandsFor table (messages (m ∷ history)) (lost_rows (m ∷ history))
table_quiet m history table nothing none stands =
    table_next m history table none (subst (λ ms. TableStandsFor table ms (lost_rows history)) (sym (append-nil (messages history)) ∙ ap (λ sent. messages history ++ sent) (sym nothing)) stands)

-- ---- steps

-- what is known of the moment reports the step
pub takes_by : (setup : Setup) (history : History) (act : Act) (answer : Answer) (new : Tenant) (m : Moment) → moment_of setup history act ≡ m → answer ≡ m.answer → length m.sent ≤ max_parts → TenantStandsFor setup (m ∷ history) new → TenantSteps setup history act answer new
unfolding answer_to sent_by
takes_by setup history act answer new m is told few stands = record {
  told = told ∙ ap (λ (x : Moment). x.answer) (sym is);
  stands = subst (λ x. TenantStandsFor setup (x ∷ history) new) (sym is) stands;
  few = subst (λ (x : Moment). length x.sent ≤ max_parts) (sym is) few;
}

-- every act but the one that sets what collections keep
abbrev pub IsSteady : Act → Type 0
IsSteady (SetKeep keep) = ⊥
IsSteady act = Unit {0}

-- such an act leaves what collections keep
pub steady : (act : Act) (before : ℕ) → IsSteady act → keep_after act before ≡ before
steady (SetKeep keep) before is = absurd is
steady act before is = refl

-- a step that sends nothing and loses nothing, and what it leaves of the sessions
pub answers : (setup : Setup) (history : History) (act : Act) (answer : Answer) (old : Tenant) (sessions : Sessions) → IsSteady act → moment_of setup history act ≡ moment act answer [] → row_lost act answer ≡ []
    → TenantStandsFor setup history old → SessionsStandFor setup (moment act answer [] ∷ history) sessions
    → TenantSteps setup history act answer (record { limits = old.limits; keep = old.keep; table = old.table; sessions = sessions; readings = old.readings })
answers setup history act answer old sessions unset is none stands after =
    takes_by setup history act answer (record { limits = old.limits; keep = old.keep; table = old.table; sessions = sessions; readings = old.readings }) (moment act answer []) is refl (omega arith) (record {
      table = table_quiet (moment act answer []) history old.table refl none stands.table;
      sessions = after;
      keep = stands.keep ∙ sym (steady act (keep_in setup history) unset);
    })

-- a refused step leaves the tenant as it was
pub refuses : (setup : Setup) (history : History) (act : Act) (why : Refusal) (tenant : Tenant) → IsSteady act → moment_of setup history act ≡ refusal_of act why → TenantStandsFor setup history tenant → TenantSteps setup history act (Refused why) tenant
refuses setup history act why tenant unset is stands =
    answers setup history act (Refused why) tenant tenant.sessions unset is (refusal_loses_none act why) stands (quiet setup history tenant.sessions act (Refused why) [] stands.sessions refl)

-- ---- steps that send calls

-- every act but the loss of a message and the one that sets what collections keep
abbrev pub IsKeeping : Act → Type 0
IsKeeping (Lose row) = ⊥
IsKeeping (SetKeep keep) = ⊥
IsKeeping act = Unit {0}

keeps : (act : Act) (answer : Answer) → IsKeeping act → row_lost act answer ≡ []
keeps (Lose row) answer keeping = absurd keeping
keeps (SetKeep keep) answer keeping = absurd keeping
keeps _ answer keeping = refl

keeping_steady : (act : Act) → IsKeeping act → IsSteady act
keeping_steady (Lose row) keeping = tt
keeping_steady (SetKeep keep) keeping = absurd keeping
keeping_steady act keeping = tt

-- what the moment sends is the front of what was sent after the messages before it
pub sends_calls : (setup : Setup) (history : History) (act : Act) (answer : Answer) (new : Tenant) (count : ℕ) (calls : List Message) (m : Moment) → IsKeeping act → count ≤ max_parts → moment_of setup history act ≡ m → answer ≡ m.answer
    → m.sent ≡ calls → length m.sent ≤ count → TableStandsFor new.table (messages history ++ take count calls) (lost_rows history) → SessionsStandFor setup (m ∷ history) new.sessions
    → new.keep ≡ keep_in setup history → TenantSteps setup history act answer new
sends_calls setup history act answer new count calls m keeping most is told sent few table sessions kept =
    let own : m.act ≡ act = ap (λ (x : Moment). x.act) (sym is) ∙ moment_act setup history act in
    let none : row_lost m.act m.answer ≡ [] = ap (λ a. row_lost a m.answer) own ∙ keeps act m.answer keeping in
    let all : take count calls ≡ m.sent = ap (take count) (sym sent) ∙ take_all count m.sent few in
    takes_by setup history act answer new m is told (omega (arith, few, most)) (record {
      table = table_next m history new.table none (subst (λ ms. TableStandsFor new.table (messages history ++ ms) (lost_rows history)) all table);
      sessions = sessions;
      keep = kept ∙ sym (steady act (keep_in setup history) (keeping_steady act keeping)) ∙ ap (λ a. keep_after a (keep_in setup history)) (sym own);
    })

-- the act begins a transaction, and so loses nothing
pub beginning_keeps : (act : Act) → IsBeginning act → IsKeeping act
beginning_keeps (Lose row) begins = absurd begins
beginning_keeps (CollectAt partition) begins = absurd begins
beginning_keeps (SetKeep keep) begins = absurd begins
beginning_keeps _ begins = tt

-- ---- deliveries

pub no_message : (setup : Setup) (history : History) (row : ℕ) → rows_are_used history ≡ false → message_at history row ≡ None → moment_of setup history (Deliver row) ≡ refusal_of (Deliver row) NoMessage
unfolding moment_of
no_message setup history row free at =
    ap (λ b. cond b (refusal_of (Deliver row) RowsUsed) (cond (is_none (message_at history row)) (refusal_of (Deliver row) NoMessage) (effect setup history (Deliver row)))) free
    ∙ ap (λ o. cond (is_none o) (refusal_of (Deliver row) NoMessage) (effect setup history (Deliver row))) at

pub delivers_effect : (setup : Setup) (history : History) (row : ℕ) (message : Message) → rows_are_used history ≡ false → message_at history row ≡ Some message → moment_of setup history (Deliver row) ≡ effect setup history (Deliver row)
unfolding moment_of
delivers_effect setup history row message free at =
    ap (λ b. cond b (refusal_of (Deliver row) RowsUsed) (cond (is_none (message_at history row)) (refusal_of (Deliver row) NoMessage) (effect setup history (Deliver row)))) free
    ∙ ap (λ o. cond (is_none o) (refusal_of (Deliver row) NoMessage) (effect setup history (Deliver row))) at

effect_is : (setup : Setup) (history : History) (row : ℕ) (message : Message) → message_at history row ≡ Some message → effect setup history (Deliver row) ≡ delivers setup history (Deliver row) message message.reply
unfolding effect
effect_is setup history row message at = ap (delivers_row setup history (Deliver row)) at

-- a call is served
pub serves_call : (setup : Setup) (history : History) (row : ℕ) (message : Message) → rows_are_used history ≡ false → message_at history row ≡ Some message → message.reply ≡ None
    → moment_of setup history (Deliver row) ≡ serves history (Deliver row) message (reply_after setup.room (log_at setup history message.partition) message.call)
serves_call setup history row message free at none =
    delivers_effect setup history row message free at ∙ effect_is setup history row message at ∙ ap (delivers setup history (Deliver row) message) none

-- a reply is handed to its client
pub hands_reply : (setup : Setup) (history : History) (row : ℕ) (message : Message) (reply : Reply) → rows_are_used history ≡ false → message_at history row ≡ Some message → message.reply ≡ Some reply
    → moment_of setup history (Deliver row) ≡ takes setup history (Deliver row) message (running history message.client)
hands_reply setup history row message reply free at some =
    delivers_effect setup history row message free at ∙ effect_is setup history row message at ∙ ap (delivers setup history (Deliver row) message) some

-- ---- a message that is lost

pub loses : (setup : Setup) (history : History) (row : ℕ) → is_none (message_at history row) ≡ false → moment_of setup history (Lose row) ≡ moment (Lose row) Lost []
unfolding moment_of effect
loses setup history row there = ap (λ b. cond b (refusal_of (Lose row) NoMessage) (moment (Lose row) Lost [])) there

pub loses_nothing : (setup : Setup) (history : History) (row : ℕ) → is_none (message_at history row) ≡ true → moment_of setup history (Lose row) ≡ refusal_of (Lose row) NoMessage
unfolding moment_of
loses_nothing setup history row absent = ap (λ b. cond b (refusal_of (Lose row) NoMessage) (effect setup history (Lose row))) absent

-- ---- collections

pub no_partition : (setup : Setup) (history : History) (partition : ℕ) → setup.partitions ≤ partition → moment_of setup history (CollectAt partition) ≡ refusal_of (CollectAt partition) NoPartition
unfolding moment_of
no_partition setup history partition past = ap (λ b. cond b (refusal_of (CollectAt partition) NoPartition) (effect setup history (CollectAt partition))) (le-leb setup.partitions partition past)

pub collects : (setup : Setup) (history : History) (partition : ℕ) → partition < setup.partitions
    → moment_of setup history (CollectAt partition) ≡ moment (CollectAt partition) (Freed (count_freed (reply_after setup.room (log_at setup history partition) (Collect (keep_in setup history))))) []
unfolding moment_of effect
collects setup history partition there =
    ap (λ b. cond b (refusal_of (CollectAt partition) NoPartition) (moment (CollectAt partition) (Freed (count_freed (reply_after setup.room (log_at setup history partition) (Collect (keep_in setup history))))) [])) (lt-leb setup.partitions partition there)

-- what collections keep is set
pub sets_keep : (setup : Setup) (history : History) (keep : ℕ) → moment_of setup history (SetKeep keep) ≡ moment (SetKeep keep) (Keeps keep) []
unfolding moment_of effect
sets_keep setup history keep = refl

-- sessions after a moment that leaves them as they were
pub sessions_stay : (setup : Setup) (history : History) (m : Moment) (sessions : Sessions) → SessionsStandFor setup history sessions → is_quiet m.answer ≡ true → SessionsStandFor setup (m ∷ history) sessions
sessions_stay setup history m sessions stands still = quiet setup history sessions m.act m.answer m.sent stands still
