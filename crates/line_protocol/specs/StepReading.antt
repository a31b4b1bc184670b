-- What the reader of each part of a step line finds, from left to right, for the clauses of those readers.
-- That they find what the grammar spells, and nothing else, is proved of them.
use Rattle.std.specs.Prelude.{◌≡◌, ℕ, ◌-◌, ◌^◌, ◌==◌, List, ◌∷◌, Option, Some, None, Result, Ok, Err, if◌then◌else◌}
use Rattle.std.specs.Prelude.{codes, bytes_eq}
use Rattle.stamps.specs.Limits.{max_counter, max_name_len}
use Rattle.stamps.specs.declared.record.Item.{Item}
use Rattle.plain_store.specs.declared.step.Act.{Act}
use Rattle.plain_store.specs.declared.step.Act.TheVariants.{Hello, Put, Get, Find, Deliver, Lose, Retry, Stop, Collect}
use Rattle.plain_store.specs.declared.step.Act.TheVariants.{Keep}
use Rattle.line_protocol.specs.Spelling.{space, equals}
use Rattle.line_protocol.specs.Reading.{◌>>=◌, split_first, number_at, text_from, key_at, tag_at, value_at, part_at}
use Rattle.line_protocol.specs.Reading.{tagged_at, parts_in, each_at}
use Rattle.line_protocol.specs.StepSpelling.{is_tenant_byte, HasList}

-- 1 to `max_name_len` bytes
abbrev pub name_at : List ℕ → Option (List ℕ)
name_at = text_from is_tenant_byte 1 max_name_len

-- 1 to 65535
unfoldable pub client_at : List ℕ → Option ℕ
client_at text = number_at (2 ^ 16 - 1) text >>= λ client. if client == 0 then None else Some client

-- 1 to 255
unfoldable pub keep_at : List ℕ → Option ℕ
keep_at text = number_at (2 ^ 8 - 1) text >>= λ keep. if keep == 0 then None else Some keep

-- KEY=VALUE, or KEY#TAG=VALUE
unfoldable pub item_at : List ℕ → Option Item
item_at text = do
  p ← split_first equals text
  value ← value_at p.1
  t ← tagged_at p.0
  key ← key_at t.0
  Some (record { key = key; tag = t.1; value = value })

-- ---- acts, by the words after the command

-- CLIENT, or CLIENT BASE
abbrev pub hello_by : List ℕ → Option (List ℕ × List ℕ) → Option Act
hello_by words None = client_at words >>= λ client. Some (Hello client 0)
hello_by words (Some p) = client_at p.0 >>= λ client. number_at max_counter p.1 >>= λ base. Some (Hello client base)

unfoldable pub hello_at : List ℕ → Option Act
hello_at words = hello_by words (split_first space words)

-- CLIENT and the items
unfoldable pub put_at : List ℕ → Option Act
put_at words = do
  client ← client_at (part_at space words).0
  items ← each_at item_at (parts_in space (part_at space words).1)
  Some (Put client items)

-- CLIENT and the keys
unfoldable pub get_at : List ℕ → Option Act
get_at words = do
  client ← client_at (part_at space words).0
  keys ← each_at key_at (parts_in space (part_at space words).1)
  Some (Get client keys)

-- CLIENT TAG
unfoldable pub find_at : List ℕ → Option Act
find_at words = do
  p ← split_first space words
  client ← client_at p.0
  tag ← tag_at p.1
  Some (Find client tag)

-- ROW
unfoldable pub deliver_at : List ℕ → Option Act
deliver_at words = number_at (2 ^ 64 - 1) words >>= λ row. Some (Deliver row)

unfoldable pub lose_at : List ℕ → Option Act
lose_at words = number_at (2 ^ 64 - 1) words >>= λ row. Some (Lose row)

-- CLIENT
unfoldable pub retry_at : List ℕ → Option Act
retry_at words = client_at words >>= λ client. Some (Retry client)

unfoldable pub stop_at : List ℕ → Option Act
stop_at words = client_at words >>= λ client. Some (Stop client)

-- PART
unfoldable pub collect_at : List ℕ → Option Act
collect_at words = number_at (2 ^ 32 - 1) words >>= λ partition. Some (Collect partition)

-- K
abbrev pub keep_act_at : List ℕ → Option Act
keep_act_at words = keep_at words >>= λ keep. Some (Keep keep)

-- the command of an act without a list
abbrev pub plain_by : List ℕ → List ℕ → Option Act
plain_by command words =
    if bytes_eq command (codes "hello") then hello_at words
    else (if bytes_eq command (codes "find") then find_at words
    else (if bytes_eq command (codes "deliver") then deliver_at words
    else (if bytes_eq command (codes "lose") then lose_at words
    else (if bytes_eq command (codes "retry") then retry_at words
    else (if bytes_eq command (codes "stop") then stop_at words
    else (if bytes_eq command (codes "collect") then collect_at words
    else (if bytes_eq command (codes "keep") then keep_act_at words
    else None)))))))

-- any command
abbrev pub act_by : List ℕ → List ℕ → Option Act
act_by command words =
    if bytes_eq command (codes "put") then put_at words
    else (if bytes_eq command (codes "get") then get_at words
    else plain_by command words)

unfoldable pub act_at : List ℕ → Option Act
act_at text = do
  p ← split_first space text
  act_by p.0 p.1

-- a tenant's name, and the act that is asked of it
unfoldable pub step_at : List ℕ → Option (List ℕ × Act)
step_at line = do
  p ← split_first space line
  name ← name_at p.0
  act ← act_at p.1
  Some (name, act)

-- ---- readers that take memory

-- What such a reader answers, where this is to be found: nothing where nothing is, and else what is found or, of a
-- list that has an element, that there was no memory for it.
abbrev pub FindsList : {A L E : Type 0} → (L → List A) → Option (List A) → Option (Result L E) → Type 0
FindsList items_of found None = found ≡ None
FindsList items_of found (Some (Ok list)) = found ≡ Some (items_of list)
FindsList {A} items_of found (Some (Err e)) = (first : A) × (more : List A) × (found ≡ Some (first ∷ more))

-- the same of an act
abbrev pub FindsAct : {E : Type 0} → Option Act → Option (Result Act E) → Type 0
FindsAct found None = found ≡ None
FindsAct found (Some (Ok act)) = found ≡ Some act
FindsAct found (Some (Err e)) = (act : Act) × (found ≡ Some act) × HasList act
