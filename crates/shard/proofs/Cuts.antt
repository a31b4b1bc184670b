-- What a cut hands out.
use Rattle.std.proofs.Common.{◌≡◌, ◌<◌, ◌≤◌, ◌*◌, ⊎_elim, ℕ, List, length, Result, Ok, Err, ap, sym, ◌∙◌, arith}
use Rattle.std.specs.Prelude.{IfOk}
use Rattle.std.proofs.lemmas.Option.{slice_get_cases}
use Rattle.partition.specs.declared.journal.Epoch.{Epoch}
use Rattle.partition.specs.Accounts.{Account, IsCut, events_at, events_in}
use Rattle.history.specs.declared.rule.Naming.{Ghosts}
use Rattle.shard.specs.Cutting.{IsCutOff}
use Rattle.shard.specs.declared.epoch_cut.CutEpoch.{CutEpoch}
use Rattle.shard.specs.declared.epoch_cut.Uncut.{Uncut}

-- the epoch that is cut has the events of the tenant's account
pub cut_events : (old new : List Account) (tenant : ℕ) (epoch : Epoch) → tenant < length old → IsCut old new tenant epoch
    → epoch.events.items ≡ events_at old tenant
unfolding events_at
cut_events old new tenant epoch there cut =
    ⊎_elim (λ h. (cut.given h.0 h.2).2 ∙ sym (ap events_in h.2)) (λ h. absurd (omega (arith, h.0, there))) (slice_get_cases old tenant).1

-- an epoch that is cut from a full journal is a full one
pub full_cut : {J : Type 0} {naming : Ghosts J} (old new : List Account) (partition tenant epoch : ℕ) (found : Result (CutEpoch J naming) Uncut) → (0 < epoch) × (tenant < length old) × (2 * epoch ≤ length (events_at old tenant))
    → IfOk found (λ cut. IsCutOff old new partition tenant epoch cut.partition cut.tenant cut.epoch)
    → IfOk found (λ cut. (0 < epoch) × IsCutOff old new partition tenant (2 * epoch) cut.partition cut.tenant cut.epoch)
full_cut old new partition tenant epoch (Err why) full none = none
full_cut old new partition tenant epoch (Ok found) (some, there, full) off =
    let events = cut_events old new tenant found.epoch there off.cut in
    (some, record { cut = off.cut; partition = off.partition; tenant = off.tenant; long = omega (arith, ap length events, full) })
