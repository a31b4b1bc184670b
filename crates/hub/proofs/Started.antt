-- The shards of the workers that were started: for `start_all`.
use Rattle.std.proofs.Common.{◌≡◌, ◌+◌, ◌∙◌, ℕ, Bool, List, [], ◌∷◌, ◌++◌, length, ap, subst, sym, arith}
use Rattle.std.specs.Prelude.{IfOk, Result, Ok, Err, map}
use Rattle.std.proofs.lemmas.List.{map-append}
use Rattle.std.specs.Arc.{arc_value}
use Rattle.std.specs.declared.sync.Arc.{Arc}
use Rattle.std.specs.declared.alloc.Global.{Global}
use Rattle.history.specs.declared.rule.Naming.{Ghosts}
use Rattle.closed_store.specs.declared.config.Config.{Config}
use Rattle.shard.specs.declared.shard.Shard.{Shard}
use Rattle.hub.specs.Shards.{IsConfigOf, AreShardsFrom, journals_of}

-- that of the next partition behind them
pub shards-more : {G : Type 0} {naming : Ghosts G} (config : Config) (at : ℕ) (shards : List (Arc (Shard G naming) Global)) (shard : Arc (Shard G naming) Global) → AreShardsFrom config at shards
    → IsConfigOf config (at + length shards) (arc_value shard).config → AreShardsFrom config at (shards ++ shard ∷ [])
shards-more {G} {naming} config at [] shard are its =
    let P : ℕ → Type 0 = λ n. IsConfigOf config n (arc_value shard).config in
    let here : at + 0 ≡ at = omega arith in
    (subst P here its, tt)
shards-more {G} {naming} config at (first ∷ shards) shard are its =
    let P : ℕ → Type 0 = λ n. IsConfigOf config n (arc_value shard).config in
    let there : at + length (first ∷ shards) ≡ at + 1 + length shards = omega arith in
    (are.0, shards-more config (at + 1) shards shard are.1 (subst P there its))

-- the one that was shared is that which was made
pub shared-config : {G : Type 0} {naming : Ghosts G} {E : Type 0} (config : Config) (at : ℕ) (shard : Shard G naming) (result : Result (Arc (Shard G naming) Global) E) → IfOk result (λ shared. arc_value shared ≡ shard) → IsConfigOf config at shard.config
    → IfOk result (λ shared. IsConfigOf config at (arc_value shared).config)
shared-config {G} {naming} config at shard (Ok shared) same its =
    let P : Shard G naming → Type 0 = λ d. IsConfigOf config at d.config in
    subst P (sym same) its
shared-config {G} {naming} config at shard (Err fault) same its = tt

pub shared-journals : {G : Type 0} {naming : Ghosts G} {E : Type 0} (journals : Bool) (shard : Shard G naming) (result : Result (Arc (Shard G naming) Global) E) → IfOk result (λ shared. arc_value shared ≡ shard) → shard.config.journals ≡ journals
    → IfOk result (λ shared. journals_of shared ≡ journals)
shared-journals {G} {naming} journals shard (Ok shared) same its = ap (λ (d : Shard G naming). d.config.journals) same ∙ its
shared-journals {G} {naming} journals shard (Err fault) same its = tt

-- one element more of each of two lists that agree
pub mapped-more : {X Y : Type 0} (f : X → ℕ) (g : Y → ℕ) (xs more : List X) (ys others : List Y) (x : X) (y : Y) → map f xs ≡ map g ys → f x ≡ g y
    → more ≡ xs ++ x ∷ [] → others ≡ ys ++ y ∷ [] → map f more ≡ map g others
mapped-more f g xs more ys others x y so_far same is are =
    let left : map f more ≡ map f xs ++ f x ∷ [] = ap (map f) is ∙ map-append f xs (x ∷ []) in
    let right : map g others ≡ map g ys ++ g y ∷ [] = ap (map g) are ∙ map-append g ys (y ∷ []) in
    let both : map f xs ++ f x ∷ [] ≡ map g ys ++ g y ∷ [] = cc in
    left ∙ both ∙ sym right
