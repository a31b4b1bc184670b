-- What a client of a status port is answered.
use Rattle.std.specs.Prelude.{◌≡◌, ◌⊎◌, ℕ, List, Option, Bool, false, IsTrue, take}
use Rattle.std.specs.Io.KnownBytes.{Appends, Keeps}
use mathlib.Core.List.{IsPrefix}
use Rattle.server_metrics.specs.Exchanges.{IsHeardOf}
use Rattle.server_metrics.specs.Pages.{health_text_page, metrics_text_page, overview_text_page, text_page}
use Rattle.server_metrics.specs.declared.metrics.ServerReadings.{ServerReadings}
use Rattle.server_metrics.specs.declared.request.PageRequest.{PageRequest}
use Rattle.server_metrics.specs.declared.request.PageRequest.TheVariants.{Overview, Metrics, Health, Refused}
use Rattle.server_status.specs.Reported.{IsReadOf}
use Rattle.server_verdicts.specs.declared.epochs.checked.CheckProgress.{CheckProgress}
use Rattle.history.specs.declared.entry.HistoryEntry.{HistoryEntry}
use Rattle.history.specs.declared.rule.Naming.{Ghosts}
use Rattle.server_status.specs.declared.reading.Watched.{Watched}
use Rattle.server_status.specs.declared.serving.StatusPort.{StatusPort}

-- where a port's requests come from
abbrev pub port_listener : {L : Type 0} → StatusPort L → L
port_listener port = port.listener

-- the page that answers what was asked of a server: the one that shows it, how it stands as it was read behind what was seen of its history, or the
-- words of a refusal
abbrev pub IsAnswerTo : {J C : Type 0} {naming : Ghosts J} → (C → CheckProgress → Type 0) → Watched J C naming → (first last : List HistoryEntry) → PageRequest
    → List ℕ → Type 0
IsAnswerTo HasTold watched first last Overview page = page ≡ overview_text_page
IsAnswerTo HasTold watched first last Metrics page =
    (readings : ServerReadings) × IsReadOf HasTold watched first last readings × (page ≡ metrics_text_page readings)
IsAnswerTo HasTold watched first last Health page =
    (readings : ServerReadings) × IsReadOf HasTold watched first last readings × (page ≡ health_text_page readings)
IsAnswerTo HasTold watched first last (Refused status) page = page ≡ text_page status

-- who reads of a server reads of the same one later, and has seen all of the history that was seen before
abbrev pub IsLaterReader : {A : Type 0} → (before after : A) → (first last : List HistoryEntry) → Type 0
IsLaterReader before after first last = (after ≡ before) × IsPrefix first last

-- a prefix of the page was written, or where that is said the whole of it
abbrev pub IsWritten : List ℕ → Option (List ℕ) → Option (List ℕ) → Bool → Type 0
IsWritten page old new whole = ((n : ℕ) × Appends old new (take n page)) × (IsTrue whole → Appends old new page)

-- a request was read from an input, and a page that answers it was written, whole or not
pub record Answers (IsAnswer : PageRequest → List ℕ → Type 0) (input left old new : Option (List ℕ)) (whole : Bool) : Type 0 where
  pub asked : PageRequest
  pub page : List ℕ
  pub heard : IsHeardOf input left asked
  pub answer : IsAnswer asked page
  pub written : IsWritten page old new whole

-- so, or nothing was written
abbrev pub HasAnswered : (PageRequest → List ℕ → Type 0) → (input left old new : Option (List ℕ)) → Bool → Type 0
HasAnswered IsAnswer input left old new whole = Answers IsAnswer input left old new whole ⊎ ((whole ≡ false) × Keeps old new)
