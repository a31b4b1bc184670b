-- What a client of the port asks.
use Rattle.std.specs.Prelude.{◌≡◌, ◌⊎◌, ◌<◌, ℕ, List, Option, length}
use Rattle.std.specs.Io.KnownBytes.{Consumes, IsAtEnd}
use Rattle.httparse.specs.Grammar.{HasNoRequest}
use Rattle.server_metrics.specs.Requests.{IsAskedBy}
use Rattle.server_metrics.specs.declared.answer.Status.TheVariants.{BadRequest, TooLarge}
use Rattle.server_metrics.specs.declared.request.PageRequest.{PageRequest}
use Rattle.server_metrics.specs.declared.request.PageRequest.TheVariants.{Refused}

-- the input ended behind these bytes, in which there is no request
abbrev pub IsCutBehind : List ℕ → Option (List ℕ) → Type 0
IsCutBehind bytes left = (0 < length bytes) × HasNoRequest bytes × IsAtEnd left

-- Bytes that were read, before these that are left, ask for this: by the request in them; else they are cut, which is
-- refused 400; or they are as many as are read, and there is no request in them, which is refused 431.
abbrev pub IsHeard : List ℕ → Option (List ℕ) → PageRequest → Type 0
IsHeard bytes left asked =
    IsAskedBy bytes asked ⊎ (((asked ≡ Refused BadRequest) × IsCutBehind bytes left)
    ⊎ ((asked ≡ Refused TooLarge) × (length bytes ≡ 8192) × HasNoRequest bytes))

-- so of the bytes that were taken from an input
abbrev pub IsHeardOf : Option (List ℕ) → Option (List ℕ) → PageRequest → Type 0
IsHeardOf old new asked = (bytes : List ℕ) × Consumes old new bytes × IsHeard bytes new asked
