-- Header lines, seen as names and values: for `asked_of`.
use Rattle.std.proofs.Common.{◌≡◌, Bool, List, [], ◌∷◌, map, refl, ap}
use Rattle.std.specs.Prelude.{◌||◌}
use Rattle.std.specs.List.{list_any}
use Rattle.httparse.specs.declared.borrowed.Header.{Header}
use Rattle.httparse.specs.Borrowed.{header_parts}
use Rattle.server_metrics.specs.Requests.{is_foreign, is_host}

pub foreign_parts : (headers : List Header) → list_any is_foreign (map header_parts headers) ≡ list_any (λ header. is_foreign (header_parts header)) headers
foreign_parts [] = refl
foreign_parts (header ∷ headers) = ap (λ (b : Bool). is_foreign (header_parts header) || b) (foreign_parts headers)

pub host_parts : (headers : List Header) → list_any is_host (map header_parts headers) ≡ list_any (λ header. is_host (header_parts header)) headers
host_parts [] = refl
host_parts (header ∷ headers) = ap (λ (b : Bool). is_host (header_parts header) || b) (host_parts headers)
