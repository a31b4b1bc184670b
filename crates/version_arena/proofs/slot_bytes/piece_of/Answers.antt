use Rattle.std.proofs.Common.{◌≡◌, ◌-◌, ℕ, List, length, take, drop, Option, Some, subst, ap, ◌∙◌}
use Rattle.std.proofs.lemmas.List.{take_rest}
use Rattle.std.specs.Option.{MatchOption}
use Rattle.std.specs.Array.{IsFirstChunk}
use Rattle.version_arena.proofs.slot_bytes.piece_of.Goals as goal

-- the first chunk that was found
chunk_is : {B : Type 0} (now : B → List ℕ) (found : Option B) (x : B) (xs : List ℕ) (n : ℕ) (None : Type 0) → found ≡ Some x
    → MatchOption found None (λ y. IsFirstChunk xs (now y) n) → now x ≡ take n xs
chunk_is now found x xs n None is cases = (subst (λ o. MatchOption o None (λ y. IsFirstChunk xs (now y) n)) is cases).same

pub returns : goal.returns
returns c =
    let source = c.args.source.now in
    chunk_is (λ y. y.now) c.first_chunk.result c.unwrap.result (take (length source - c.args.at) (drop c.args.at source)) 64 _ c.unwrap.ensures c.first_chunk.ensures.cases
    ∙ ap (take 64) (take_rest source c.args.at)
