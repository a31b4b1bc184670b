use Rattle.std.proofs.Common.{take, sym, ◌∙◌}
use Rattle.packed.specs.Bodies.{IsPackedBody}
use Rattle.packed.proofs.BodyParts.{record_is}
use Rattle.version_chain.proofs.stored.StoredNode.record.Goals as goal
use Rattle.version_chain.proofs.stored.StoredNode.record.Goals.{After-read}

-- the bytes that were read are a body
abbrev read : (c : After-read) → IsPackedBody c.stamp-stamp.result (take c.read.result c.read.new.body)
read c = (c.args.self.now.version.prepared, c.read.ensures.stored, sym c.stamp-stamp.ensures.value, c.read.ensures.packed)

pub body_record-requires : goal.body_record-requires
body_record-requires c = let at = (goal.at.body_record-requires c).After-read in (c.read.result, read at)

pub returns : goal.returns
returns c =
    let at = (goal.at.returns c).After-read in
    c.body_record.ensures c.read.result (read at) ∙ record_is _ _ (read at)
