use Rattle.std.proofs.Common.{◌≡◌, ◌≤◌, length, take}
use Rattle.stamps.specs.Limits.{max_keys}
use Rattle.plain_store.specs.Finding.{carrying}
use Rattle.get_all.proofs.tag_search.carrying.Given as goal

-- the items so far are those of the tag among what was read so far
abbrev pub invariant-loop-reading : goal.invariant-loop-reading
invariant-loop-reading l = record {
  found : take l.len l.items ≡ carrying l.tag (take l.reading-index l.read);
  few : l.len ≤ l.reading-index;
  as_long : length l.items ≡ max_keys;
}
