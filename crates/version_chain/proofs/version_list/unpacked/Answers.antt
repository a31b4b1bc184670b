use Rattle.std.proofs.Common.{length}
use Rattle.version_chain.specs.PackedVersions.{version_in}
use Rattle.version_chain.proofs.Unpacking.{has_stamp, has_body, is_version}
use Rattle.version_chain.proofs.version_list.unpacked.Goals as goal

pub front_stamp-stamp-requires : goal.front_stamp-stamp-requires
front_stamp-stamp-requires c =
    has_stamp (version_in c.args.bytes.now) c.requires.0 c.args.bytes.now c.requires.1 c.front_mark-mark.result.0 c.front_mark-mark.result.1.now c.front_mark-mark.ensures

pub body_record-requires : goal.body_record-requires
body_record-requires c = (
  length c.front_stamp-stamp.result.1.now,
  has_body (version_in c.args.bytes.now) c.requires.0 c.args.bytes.now c.requires.1 c.front_mark-mark.result.0 c.front_mark-mark.result.1.now c.front_mark-mark.ensures c.front_stamp-stamp.result.0 c.front_stamp-stamp.result.1.now c.front_stamp-stamp.ensures,
)

pub returns : goal.returns
returns c =
    let v = version_in c.args.bytes.now in
    let body = has_body v c.requires.0 c.args.bytes.now c.requires.1 c.front_mark-mark.result.0 c.front_mark-mark.result.1.now c.front_mark-mark.ensures c.front_stamp-stamp.result.0 c.front_stamp-stamp.result.1.now c.front_stamp-stamp.ensures in
    is_version v c.requires.0 c.args.bytes.now c.requires.1 c.front_mark-mark.result.0 c.front_mark-mark.result.1.now c.front_mark-mark.ensures c.front_stamp-stamp.result.0 c.front_stamp-stamp.result.1.now c.front_stamp-stamp.ensures
    c.body_record.result c.version_from.result (c.body_record.ensures (length c.front_stamp-stamp.result.1.now) body) c.version_from.ensures
