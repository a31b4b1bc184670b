-- What a read takes of a stream behind calls that took nothing: for the reads of a peer.
use Rattle.std.proofs.Common.{◌≡◌, ◌++◌, ◌∙◌, ℕ, List, Option, Some, None, Result, Ok, Err, take, sym, ap}
use Rattle.std.specs.Io.KnownBytes.{Consumes, Keeps, ReadConsumes}
use Rattle.std.proofs.KnownBytes.{Keeps-trans}
use Rattle.server_sessions.specs.Peers.{HasRead}

consumes_later : (a b c : Option (List ℕ)) (bs : List ℕ) → Keeps a b → Consumes b c bs → Consumes a c bs
consumes_later None b c bs kept took = tt
consumes_later (Some xs) None c bs kept took = absurd kept
consumes_later (Some xs) (Some ys) None bs kept took = absurd took
consumes_later (Some xs) (Some ys) (Some zs) bs kept took = sym kept ∙ took

consumed_so : {E : Type 0} (a b c : Option (List ℕ)) (buf : List ℕ) (taken : Result ℕ E) → Keeps a b → ReadConsumes b c taken buf → ReadConsumes a c taken buf
consumed_so a b c buf (Ok n) kept took = (consumes_later a b c (take n buf) kept took.0, took.1)
consumed_so a b c buf (Err e) kept took = Keeps-trans a b c kept took

-- nothing was taken before this read
pub read_later : {E : Type 0} (a b c : Option (List ℕ)) (buf : List ℕ) (taken : Result ℕ E) → Keeps a b → HasRead b c buf taken → HasRead a c buf taken
read_later a b c buf taken kept read = record { bound = read.bound; bytes = consumed_so a b c buf taken kept read.bytes }

-- a read of no byte took nothing
pub took_nothing : (a b : Option (List ℕ)) (n : ℕ) (buf : List ℕ) → n ≡ 0 → Consumes a b (take n buf) → Keeps a b
took_nothing None b n buf none took = tt
took_nothing (Some xs) None n buf none took = absurd took
took_nothing (Some xs) (Some ys) n buf none took = sym (took ∙ ap (λ (m : ℕ). take m buf ++ ys) none)
