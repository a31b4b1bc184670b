-- At which port a server listens, how many connections it serves, by which names and options, and what is kept of them.
use Rattle.std.specs.Prelude.{◌≡◌, ◌⊎◌, ℕ, Bool, List}
use Rattle.std.specs.Net.Socket.{socket_port}
use Rattle.history.specs.declared.rule.Naming.{Ghosts}
use Rattle.server_sessions.specs.Answering.{no_options}
use Rattle.server_sessions.specs.declared.answer_counts.AnswerCounts.{AnswerCounts}
use Rattle.closed_store.specs.declared.transcript.Transcript.{Transcript}
use Rattle.server_sessions.specs.declared.kept_transcripts.KeptTranscripts.{KeptTranscripts}
use Rattle.server_sessions.specs.declared.listener.Listener.{Listener}
use Rattle.server_sessions.specs.declared.session_count.SessionCount.{SessionCount}
use Rattle.server_sessions.specs.declared.session_options.SessionOptions.{SessionOptions}
use Rattle.server_sessions.specs.declared.server.Server.{Server}

-- the port at which it listens
abbrev pub port_of : Listener → ℕ
port_of listener = socket_port listener.address

-- the port is the one that was asked for, or any where 0 was
abbrev pub IsPortFor : ℕ → ℕ → Type 0
IsPortFor asked port = (asked ≡ 0) ⊎ (port ≡ asked)

-- where a server's connections come from
abbrev pub listener_of : {L G N : Type 0} {naming : Ghosts G} → Server L G N naming → L
listener_of server = server.listener

-- how the lines of its sessions are answered
abbrev pub options_of : {L G N : Type 0} {naming : Ghosts G} → Server L G N naming → SessionOptions
options_of server = server.options

-- by which names its tenants go
abbrev pub tenants_of : {L G N : Type 0} {naming : Ghosts G} → Server L G N naming → N
tenants_of server = server.tenants

-- how many connections it serves at a time
abbrev pub most_of : {L G N : Type 0} {naming : Ghosts G} → Server L G N naming → ℕ
most_of server = server.sessions

-- its connections are not counted: it stays until it is asked to end
abbrev pub stays_of : {L G N : Type 0} {naming : Ghosts G} → Server L G N naming → Bool
stays_of server = server.stays

-- where the answers of its sessions are counted
abbrev pub answers_of : {L G N : Type 0} {naming : Ghosts G} → Server L G N naming → AnswerCounts
answers_of server = server.answers

-- where its sessions are counted
abbrev pub count_of : {L G N : Type 0} {naming : Ghosts G} → Server L G N naming → SessionCount
count_of server = server.count

-- a server of so many connections at a time that come from there, by these names, and whether it stays; its sessions have no options
pub record IsServerOf {L G N : Type 0} {naming : Ghosts G} (source : L) (names : N) (count : ℕ) (does_stay : Bool)
    (server : Server L G N naming) : Type 0 where
  pub listener : listener_of server ≡ source
  pub tenants : tenants_of server ≡ names
  pub most : most_of server ≡ count
  pub stays : stays_of server ≡ does_stay
  pub plain : options_of server ≡ no_options

-- the transcripts that are kept
abbrev pub transcripts_of : {G : Type 0} {naming : Ghosts G} → KeptTranscripts G naming → List Transcript
transcripts_of kept = kept.transcripts.items
