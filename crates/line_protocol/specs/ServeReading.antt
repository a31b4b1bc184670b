-- What the reader of each part of a session's line finds, from left to right, for the clauses of those readers.
-- That they find what the grammar spells, and nothing else, is proved of them.
use Rattle.std.specs.Prelude.{◌≡◌, ℕ, List, Option, Some, None, Result, Ok, Err, if◌then◌else◌}
use Rattle.std.specs.Prelude.{codes, bytes_eq}
use Rattle.stamps.specs.Limits.{max_counter}
use Rattle.line_protocol.specs.declared.request.Request.{Request}
use Rattle.line_protocol.specs.declared.request.Request.TheVariants.{Hello, Put, Get, Find, Keep, Info, Bye}
use Rattle.line_protocol.specs.Spelling.{space}
use Rattle.line_protocol.specs.Reading.{◌>>=◌, split_first, number_at, key_at, tag_at, part_at, parts_in, each_at}
use Rattle.line_protocol.specs.StepReading.{name_at, client_at, keep_at, item_at}
use Rattle.line_protocol.specs.ServeSpelling.{CarriesList}

-- CLIENT, or `any`, of a client
abbrev pub client_or_any : List ℕ → Option ℕ → Option (Option ℕ)
client_or_any text (Some client) = Some (Some client)
client_or_any text None = if bytes_eq text (codes "any") then Some None else None

unfoldable pub any_client_at : List ℕ → Option (Option ℕ)
any_client_at text = client_or_any text (client_at text)

-- CLIENT, or CLIENT BASE, after a name
abbrev pub hello_by : List ℕ → List ℕ → Option (List ℕ × List ℕ) → Option Request
hello_by name numbers None = any_client_at numbers >>= λ client. Some (Hello name client 0)
hello_by name numbers (Some p) =
    any_client_at p.0 >>= λ client. number_at max_counter p.1 >>= λ base. Some (Hello name client base)

-- TENANT and the numbers
unfoldable pub hello_at : List ℕ → Option Request
hello_at words = do
  p ← split_first space words
  name ← name_at p.0
  hello_by name p.1 (split_first space p.1)

-- the items
unfoldable pub put_at : Option (List ℕ) → Option Request
put_at words = each_at item_at (parts_in space words) >>= λ items. Some (Put items)

-- the keys
unfoldable pub get_at : Option (List ℕ) → Option Request
get_at words = each_at key_at (parts_in space words) >>= λ keys. Some (Get keys)

-- TAG
abbrev pub find_at : List ℕ → Option Request
find_at words = tag_at words >>= λ tag. Some (Find tag)

-- K
abbrev pub keep_request_at : List ℕ → Option Request
keep_request_at words = keep_at words >>= λ keep. Some (Keep keep)

-- a command without words
abbrev pub wordless_request : List ℕ → Option Request
wordless_request command =
    if bytes_eq command (codes "bye") then Some Bye
    else (if bytes_eq command (codes "info") then Some Info
    else None)

-- a command without a list, and its words
abbrev pub plain_request_by : List ℕ → Option (List ℕ) → Option Request
plain_request_by command None = wordless_request command
plain_request_by command (Some words) =
    if bytes_eq command (codes "hello") then hello_at words
    else (if bytes_eq command (codes "find") then find_at words
    else (if bytes_eq command (codes "keep") then keep_request_at words
    else None))

-- any command, and its words
abbrev pub request_by : List ℕ → Option (List ℕ) → Option Request
request_by command words =
    if bytes_eq command (codes "put") then put_at words
    else (if bytes_eq command (codes "get") then get_at words
    else plain_request_by command words)

unfoldable pub request_at : List ℕ → Option Request
request_at line = request_by (part_at space line).0 (part_at space line).1

-- What a reader that takes memory answers, where this is to be found: nothing where nothing is, and else what is found
-- or, of a request with a list that has an element, that there was no memory for it.
abbrev pub FindsRequest : {E : Type 0} → Option Request → Option (Result Request E) → Type 0
FindsRequest found None = found ≡ None
FindsRequest found (Some (Ok request)) = found ≡ Some request
FindsRequest found (Some (Err e)) = (request : Request) × (found ≡ Some request) × CarriesList request
