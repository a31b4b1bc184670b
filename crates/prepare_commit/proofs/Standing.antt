-- What stands for one log stands for every log that leaves the same.
use Rattle.std.proofs.Common.{◌≡◌, List, sym, ◌∙◌}
use Rattle.plain_store.specs.Log.{Log}
use Rattle.plain_store.specs.Words.{Key}
use Rattle.version_chain.specs.declared.version.Version.{Version}
use Rattle.prepare_commit.specs.Lists.{SameMembers}
use Rattle.prepare_commit.specs.Content.{Content}
use Rattle.prepare_commit.specs.Serving.{marked_versions, latest_tag, StandsFor}
use Rattle.prepare_commit.specs.Bases.{Frozen, Leaves}
use Rattle.prepare_commit.proofs.Committed.{same_latest_tag}
use Rattle.prepare_commit.proofs.Stamped.{latest_there}

-- the tags are reported by the versions
same_tag : (versions : List Version) (one two : Log) → SameMembers versions (marked_versions one) → SameMembers versions (marked_versions two) → (key : Key) → latest_tag one key ≡ latest_tag two key
same_tag versions one two v1 v2 key =
    let last = latest_there key versions in
    same_latest_tag versions versions one two v1 v2 key last.0 last.1 last.1

-- so a cell that stands for one log stands for every other log that leaves the same
pub one_content : (cell : Content) (base : Frozen) (one two : Log) → StandsFor cell one → Leaves base one → Leaves base two → StandsFor cell two
one_content cell base one two s l m = record {
  versions = λ t. s.versions t ∙ sym (l.versions t) ∙ m.versions t;
  entries = λ t. s.entries t ∙ sym (l.entries t) ∙ m.entries t;
  tags = λ key. s.tags key ∙ same_tag base.versions one two l.versions m.versions key;
  marks = λ client. s.marks client ∙ sym (l.marks client) ∙ m.marks client;
  clients = s.clients ∙ sym l.clients ∙ m.clients;
}
