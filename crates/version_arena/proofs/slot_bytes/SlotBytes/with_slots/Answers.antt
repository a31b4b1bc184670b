use Rattle.version_arena.proofs.Stripes.{slots-length}
use Rattle.version_arena.proofs.slot_bytes.SlotBytes.with_slots.Goals as goal

pub returns : goal.returns
returns c = slots-length _ c.args.cap
