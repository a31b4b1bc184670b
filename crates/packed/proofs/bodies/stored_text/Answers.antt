use Rattle.packed.proofs.BodyParts.{some_before}
use Rattle.packed.proofs.bodies.stored_text.Goals as goal

pub unwrap-requires : goal.unwrap-requires
unwrap-requires c = some_before _ _ _ c.text_at.ensures c.requires
