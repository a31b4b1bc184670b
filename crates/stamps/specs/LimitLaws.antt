-- What the crates above take from the limits: a limit that breaks one of these is refused here, in the lowest crate.
use Rattle.std.specs.Prelude.{◌*◌, ◌≤◌}
use Rattle.std.proofs.Common.{arith}
use Rattle.stamps.specs.Limits.{max_keys, max_found, max_key_len, max_tag_len, max_value_len}
use Rattle.stamps.specs.Limits.{max_parts, max_tenants, max_name_len, max_room}

-- what a search returns is read as one transaction
pub found_are_read : max_found ≤ max_keys
found_are_read = omega arith

-- the calls of a transaction wait in as many places as a store has partitions
pub keys_have_places : max_keys ≤ max_parts
keys_have_places = omega arith

-- such a place is a byte, as is the number of a list's keys
pub places_are_bytes : max_parts ≤ 255
places_are_bytes = omega arith

-- the length of a text is a byte
pub keys_are_short : max_key_len ≤ 255
keys_are_short = omega arith

pub tags_are_short : max_tag_len ≤ 255
tags_are_short = omega arith

pub values_are_short : max_value_len ≤ 255
values_are_short = omega arith

pub names_are_short : max_name_len ≤ 255
names_are_short = omega arith

-- the cells of a partition fit in one arena
pub cells_fit : max_tenants * max_room ≤ 4194304
cells_fit = omega arith
