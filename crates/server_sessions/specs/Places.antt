-- The places of a server's connections, and how many are still to be begun.
use Rattle.std.specs.Prelude.{◌≡◌, ◌⊎◌, ◌≤◌, ◌+◌, ◌-◌, ◌^◌, ◌++◌, ◌∷◌, [], ℕ, Bool, false, true, List, Option, None, IsSome, All, count_by, is_some, min, vec_capacity, vec_len}
use Rattle.std.specs.Option.{option_map}
use Rattle.std.specs.Global.{Vec}
use Rattle.closed_store.specs.declared.transcript.Transcript.{Transcript}
use Rattle.history.specs.declared.rule.Naming.{Ghosts}
use Rattle.server_sessions.specs.declared.served.Left.{Left}
use Rattle.server_sessions.specs.declared.served.ServedConnections.{ServedConnections}
use Rattle.server_sessions.specs.declared.served.ServerFaults.{ServerFaults}
use Rattle.server_sessions.specs.declared.session_options.SessionOptions.{SessionOptions}

-- each place has a connection
abbrev pub AreTaken : {X : Type 0} → List (Option X) → Type 0
AreTaken places = All (λ place. IsSome place) places

-- no place has one
abbrev pub AreFree : {X : Type 0} → List (Option X) → Type 0
AreFree places = All (λ place. place ≡ None) places

-- how many places have a connection
abbrev pub taken_count : {X : Type 0} → List (Option X) → ℕ
taken_count = count_by is_some

-- how many are to be begun once one more has; they may be not counted
abbrev pub one_less : Option ℕ → Option ℕ
one_less = option_map (λ left. left - 1)

-- how many are once one that had begun could not be served
abbrev pub one_more : Option ℕ → Option ℕ
one_more = option_map (λ left. min (left + 1) (2 ^ 32 - 1))

-- what is reported of a server at its end is the same
pub record LeavesTheSame {G : Type 0} {naming : Ghosts G} (old new : ServedConnections G naming) : Type 0 where
  pub transcripts : new.kept.transcripts ≡ old.kept.transcripts
  pub failed : new.has_failed ≡ old.has_failed
  pub refused : new.has_refused ≡ old.has_refused
  pub lost : new.has_lost ≡ old.has_lost

-- A transcript stands behind those before, or, where the list has no room for it, it is reported that one was lost.
abbrev pub IsKeptOrLost : {G : Type 0} {naming : Ghosts G} → Transcript → ServedConnections G naming
    → ServedConnections G naming → Type 0
IsKeptOrLost transcript old new =
    ((new.kept.transcripts.items ≡ old.kept.transcripts.items ++ transcript ∷ []) × (new.has_lost ≡ old.has_lost))
    ⊎ ((new.kept.transcripts.items ≡ old.kept.transcripts.items) × (new.has_lost ≡ true)
    × (vec_capacity old.kept.transcripts ≤ vec_len old.kept.transcripts))

-- so many places, each free; so many connections are still to be begun; and these transcripts were left before
pub record ServesNone {G : Type 0} {naming : Ghosts G} (count : ℕ) (more : Option ℕ) (before : Vec Transcript)
    (served : ServedConnections G naming) : Type 0 where
  pub places : (vec_len served.places ≡ count) × AreFree served.places.items
  pub left : (served.left ≡ more) × (served.begun ≡ 0)
  pub transcripts : served.kept.transcripts ≡ before
  pub well : (served.has_failed ≡ false) × (served.has_refused ≡ false) × (served.has_lost ≡ false)

-- whether a connection could not be accepted, a thread could not be started, or the input could not be read
abbrev pub failed_in : ServerFaults → Bool
failed_in faults = faults.has_failed

-- whether a connection found no memory for its place
abbrev pub refused_in : ServerFaults → Bool
refused_in faults = faults.has_refused

-- whether a transcript found no memory
abbrev pub lost_in : ServerFaults → Bool
lost_in faults = faults.has_lost

-- what a server left whose connections were these, and whose sessions were answered by these names and with these options
pub record IsLeftOf {G N : Type 0} {naming : Ghosts G} (tenants : N) (options : SessionOptions)
    (served : ServedConnections G naming) (left : Left G N naming) : Type 0 where
  pub names : left.tenants ≡ tenants
  pub manner : left.options ≡ options
  pub transcripts : left.kept.transcripts ≡ served.kept.transcripts
  pub failed : failed_in left.faults ≡ served.has_failed
  pub refused : refused_in left.faults ≡ served.has_refused
  pub lost : lost_in left.faults ≡ served.has_lost

-- the same connections are served, as many are to be begun, and the same transcripts are kept
pub record StaysServed {G : Type 0} {naming : Ghosts G} (old new : ServedConnections G naming) : Type 0 where
  pub places : new.places ≡ old.places
  pub left : new.left ≡ old.left
  pub begun : new.begun ≡ old.begun
  pub transcripts : new.kept.transcripts ≡ old.kept.transcripts
