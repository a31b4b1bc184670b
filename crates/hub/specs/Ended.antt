-- Why a seat answers `restart` or `ended`, by the last reply that its operation took.
use Rattle.std.specs.Prelude.{◌≡◌, ◌<◌, Option, None, Some}
use Rattle.stamps.specs.Record.{Record}
use Rattle.plain_store.specs.declared.calls.Call.TheVariants.{Prepare, Get}
use Rattle.plain_store.specs.declared.calls.PrepareReply.{PrepareReply}
use Rattle.plain_store.specs.declared.calls.PrepareReply.TheVariants.{Prepared, FullSlots, FullItems, Clash, Discarded}
use Rattle.plain_store.specs.declared.calls.ReadReply.TheVariants.{Collected}
use Rattle.plain_store.specs.declared.calls.Reply.TheVariants.{Prepare as ToPrepare, Get as ToGet}
use Rattle.plain_store.specs.declared.message.Message.{Message}
use Rattle.plain_store.specs.declared.refusal.Refusal.{Refusal}
use Rattle.plain_store.specs.declared.refusal.Refusal.TheVariants as refuses
use Rattle.plain_store.specs.Words.{Key, Stamp}

-- A GET of an exact version of the key was answered by this floor, which is above that version.
pub record WasCollected (key : Key) (floor : Stamp) (message : Message) : Type 0 where
  pub asked : Stamp
  pub call : message.call ≡ Get key (Some asked)
  pub reply : message.reply ≡ Some (ToGet (Collected floor))
  pub below : asked < floor

-- the refusal that a reply to a PREPARE ends its write with, if it refuses that
abbrev pub refusal_by : PrepareReply → Option Refusal
refusal_by Prepared = None
refusal_by FullSlots = Some refuses.FullSlots
refusal_by FullItems = Some refuses.FullItems
refusal_by Clash = Some refuses.Clash
refusal_by Discarded = Some refuses.Discarded

-- A PREPARE was refused so.
pub record WasRefused (refusal : Refusal) (message : Message) : Type 0 where
  pub version : Record
  pub said : PrepareReply
  pub call : message.call ≡ Prepare version
  pub reply : message.reply ≡ Some (ToPrepare said)
  pub why : refusal_by said ≡ Some refusal
