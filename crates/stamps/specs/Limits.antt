-- The limits of the store, each written down once.
use Rattle.std.specs.Prelude.{ℕ, ◌^◌, ◌-◌}

-- the most keys that a transaction names
abbrev pub max_keys : ℕ
max_keys = 16

-- the most keys that a search returns, which are read as one transaction
abbrev pub max_found : ℕ
max_found = 16

-- the most bytes of a key
abbrev pub max_key_len : ℕ
max_key_len = 32

-- the most bytes of a tag
abbrev pub max_tag_len : ℕ
max_tag_len = 16

-- the most bytes of a value
abbrev pub max_value_len : ℕ
max_value_len = 128

-- the most partitions of a store
abbrev pub max_parts : ℕ
max_parts = 64

-- the most tenants of a store
abbrev pub max_tenants : ℕ
max_tenants = 64

-- the most bytes of a tenant's name
abbrev pub max_name_len : ℕ
max_name_len = 16

-- the most slots, and the most items, of a tenant at a partition
abbrev pub max_room : ℕ
max_room = 65536

-- the most committed versions of an item that a collection keeps
abbrev pub max_keep : ℕ
max_keep = 255

-- the most clients of a tenant
abbrev pub max_clients : ℕ
max_clients = 1024

-- the most seats that each tenant of a load has
abbrev pub max_seats : ℕ
max_seats = 16

-- the greatest counter of a stamp
abbrev pub max_counter : ℕ
max_counter = 2 ^ 40 - 1

-- the most rows of a tenant's table of messages
abbrev pub max_rows : ℕ
max_rows = 2 ^ 62

-- how long a line may be, its LF included
abbrev pub line_limit : ℕ
line_limit = 4096
