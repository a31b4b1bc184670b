-- What was reported of a load, and what its epochs join to: for the functions of `load` and of `joined`.
use Rattle.std.proofs.Common.{◌≡◌, ◌⊎◌, ℕ, List, [], Option, Result, Ok, Err, refl, sym, subst, inl, inr}
use Rattle.std.specs.Prelude.{IfOk, IsErrOf}
use Rattle.std.specs.Global.{Vec}
use Rattle.std.proofs.KnownBytes.{Keeps-refl}
use Rattle.stamps.specs.declared.bounds.Limits.{Limits}
use Rattle.partition.specs.declared.journal.Epoch.{Epoch}
use Rattle.partition.specs.declared.journal.Journal.{Journal}
use Rattle.hub.specs.Hubs.{ConfigView}
use Rattle.closed_store.specs.Filling.{AreFilled}
use Rattle.closed_store.specs.Joins.{AllFit, AllRise, AreJoined}
use Rattle.entry_list.specs.PackedEntries.{EntriesView}
use Rattle.closed_store.specs.declared.closed.Closed.{Closed}
use Rattle.closed_store.specs.declared.join.joining.JoinFault.{JoinFault}
use Rattle.closed_store.specs.declared.join.joining.JoinFault.TheVariants.{Base, Numbers, OutOfMemory as NoMemory}
use Rattle.line_runs.specs.declared.fault.ProgramFault.{ProgramFault}
use Rattle.line_runs.specs.declared.fault.ProgramFault.TheVariants.{OutOfMemory, Device}
use Rattle.load.specs.Loading.{DoNotJoin, HasLoaded, IsJoinAnswer, IsJoinedTo, IsToldOfKept, IsToldOfLoad, LoadView, TellsJoined}
use Rattle.server_verdicts.specs.Verdicts.{TellsBegun, TellsVerdicts}

-- a load that told its counts, and then what its epochs join to
pub kept_told : (closed : Closed) (epochs : List (ℕ × ℕ × Epoch)) (names : List (List ℕ)) (old between new : Option (List ℕ)) (ended : Result (Unit {0}) ProgramFault)
    → TellsBegun closed names old between (Ok tt) → TellsJoined closed epochs names between new ended → IsToldOfKept closed epochs names old new ended
kept_told closed epochs names old between new (Ok done) counts told = record { between = between; counts = counts; verdicts = told }
kept_told closed epochs names old between new (Err fault) counts told = inr (record { between = between; counts = counts; verdicts = told })

-- a load that found no memory, or no thread, before its store was closed told nothing
pub nothing_loaded : (view : ConfigView) (load : LoadView) (names : List (List ℕ)) (writer : Option (List ℕ)) (fault : ProgramFault) → (fault ≡ OutOfMemory) ⊎ (fault ≡ Device)
    → HasLoaded view load names writer writer (Err fault)
nothing_loaded view load names writer fault (inl same) = subst (λ (f : ProgramFault). HasLoaded view load names writer writer (Err f)) (sym same) (inl (inl refl, Keeps-refl writer))
nothing_loaded view load names writer fault (inr same) = subst (λ (f : ProgramFault). HasLoaded view load names writer writer (Err f)) (sym same) (inl (inr refl, Keeps-refl writer))

-- where epochs join, each journal fits what was given for it
joined_fit : (limits : List Limits) (given : List (ℕ × ℕ × Epoch)) (rows joined : List (Vec Journal)) → AreJoined limits given rows joined → AllFit limits given rows
joined_fit limits given rows joined are = record {
  known = are.known;
  each = λ partition row at tenant journal there.
      let own = (are.each partition row at).2.each tenant journal there in
      (own.0, own.2, (own.4.0, own.4.1, own.4.2));
}

-- where they do not fit, they do not join
pub misfits : (closed : Closed) (epochs : List (ℕ × ℕ × Epoch)) → (AllFit closed.config.limits.items epochs closed.journals.items → ⊥) → DoNotJoin closed epochs
misfits closed epochs none joined are rise = none (joined_fit closed.config.limits.items epochs closed.journals.items joined are)

-- what a join answers, by its clauses: no entries were returned before
pub joined_to : (closed : Closed) (epochs : List (ℕ × ℕ × Epoch)) (drained : List (ℕ × EntriesView)) (answer : Result Closed JoinFault) → drained ≡ []
    → IfOk answer (λ c. c.config ≡ closed.config) → IfOk answer (λ c. AreJoined closed.config.limits.items epochs closed.journals.items c.journals.items)
    → IfOk answer (λ c. AllRise c.journals.items) → IfOk answer (λ c. AreFilled drained closed.transcripts.items c.transcripts.items)
    → IfOk answer (IsJoinedTo closed epochs)
joined_to closed epochs drained (Ok joined) none config journals rise filled = record {
  config = config;
  journals = journals;
  rise = rise;
  transcripts = subst (λ (d : List (ℕ × EntriesView)). AreFilled d closed.transcripts.items joined.transcripts.items) none filled;
}
joined_to closed epochs drained (Err fault) none config journals rise filled = tt

pub join_answer : (closed : Closed) (epochs : List (ℕ × ℕ × Epoch)) (answer : Result Closed JoinFault) → IfOk answer (IsJoinedTo closed epochs)
    → (IsErrOf answer Base → AllFit closed.config.limits.items epochs closed.journals.items → ⊥) → (IsErrOf answer Numbers → DoNotJoin closed epochs)
    → IsJoinAnswer closed epochs answer
join_answer closed epochs (Ok joined) is base numbers = is
join_answer closed epochs (Err Base) is base numbers = misfits closed epochs (base refl)
join_answer closed epochs (Err Numbers) is base numbers = numbers refl
join_answer closed epochs (Err NoMemory) is base numbers = tt

-- ---- what a load told

pub load_told : (closed : Closed) (names : List (List ℕ)) (old between new : Option (List ℕ)) (ended : Result (Unit {0}) ProgramFault)
    → TellsBegun closed names old between (Ok tt) → TellsVerdicts closed names between new ended → IsToldOfLoad closed names old new ended
load_told closed names old between new (Ok done) counts told = record { between = between; counts = counts; verdicts = told }
load_told closed names old between new (Err fault) counts told = inr (record { between = between; counts = counts; verdicts = told })
