-- What a request asks for.
use Rattle.std.specs.Prelude.{◌≡◌, ◌⊎◌, ℕ, ◌==◌, ◌||◌, ◌&&◌, not, Bool, true, List, [], ◌∷◌, length, take, drop, map}
use Rattle.std.specs.Prelude.{if◌then◌else◌, codes, nat_eq}
use Rattle.std.specs.Cmp.Lexicographic.{pointwise}
use Rattle.std.specs.List.{list_all, list_any}
use Rattle.std.specs.Char.{is_ascii_digit, to_ascii_lowercase}
use Rattle.httparse.specs.Grammar.{ReadsRequest, RequestHead}
use Rattle.httparse.specs.Spans.{RequestOverflows, name_and_value}
use Rattle.server_metrics.specs.declared.request.PageRequest.{PageRequest}
use Rattle.server_metrics.specs.declared.answer.Status.TheVariants.{BadRequest, Forbidden, NotFound, OtherMethod}
use Rattle.server_metrics.specs.declared.request.PageRequest.TheVariants.{Overview, Metrics, Health, Refused}

-- two texts are the same
abbrev pub same : List ℕ → List ℕ → Bool
same = pointwise nat_eq

-- a port behind a host, or nothing
abbrev pub is_port : List ℕ → Bool
is_port [] = true
is_port (first ∷ digits) = first == 58 && list_all is_ascii_digit digits

-- a host of this name, with a port or without
abbrev pub is_named : List ℕ → List ℕ → Bool
is_named name host = same (take (length name) host) name && is_port (drop (length name) host)

-- a host that is this machine
abbrev pub is_here : List ℕ → Bool
is_here host =
    is_named (codes "127.0.0.1") host || (is_named (codes "localhost") host || is_named (codes "[::1]") host)

-- a header line, as its name and its value, that names the host, in whatever case
abbrev pub is_host : List ℕ × List ℕ → Bool
is_host header = same (map to_ascii_lowercase header.0) (codes "host")

-- one that names a host which is not this machine
abbrev pub is_foreign : List ℕ × List ℕ → Bool
is_foreign header = is_host header && not (is_here header.1)

-- what a request that names this machine asks for
abbrev pub page_by : List ℕ → List ℕ → PageRequest
page_by method target =
    if not (same method (codes "GET")) then Refused OtherMethod
    else (if same target (codes "/") then Overview
    else (if same target (codes "/metrics") then Metrics
    else (if same target (codes "/health") then Health else Refused NotFound)))

-- What a request with this method, this target, this minor version and these header lines asks for. A host that is not
-- this machine comes before all; then a request of HTTP/1.1 without one.
abbrev pub asked_by : List ℕ → List ℕ → ℕ → List (List ℕ × List ℕ) → PageRequest
asked_by method target minor headers =
    if list_any is_foreign headers then Refused Forbidden
    else (if minor == 1 && not (list_any is_host headers) then Refused BadRequest else page_by method target)

-- What the bytes ask for: what their first request does; or they are refused 400, since no request that they can become
-- has 64 header lines or fewer.
abbrev pub IsAskedBy : List ℕ → PageRequest → Type 0
IsAskedBy bytes asked =
    ((head : RequestHead) × (rest : List ℕ) × ReadsRequest bytes head rest
    × (asked ≡ asked_by head.method head.target head.minor (map name_and_value head.fields)))
    ⊎ ((asked ≡ Refused BadRequest) × RequestOverflows 64 bytes)
