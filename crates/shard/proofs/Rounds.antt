-- The calls of a round, of which each that is for the partition was served or left.
use Rattle.std.proofs.Common.{◌∙◌, ◌<◌, ◌+◌, ℕ, List, length, get_or, set, sym, subst, ⊎_elim, arith}
use Rattle.std.proofs.lemmas.Bool.Decides.{eqb_tells}
use Rattle.std.proofs.lemmas.List.{get_or-set_same, get_or-set_other}
use Rattle.history.specs.declared.rule.Naming.{Ghosts}
use Rattle.shard.specs.Asked.{IsOpenAt}
use Rattle.shard.specs.Held.{StaysAt}
use Rattle.shard.specs.declared.shard.ShardState.{ShardState}
use Rattle.shard.specs.declared.shard.Staged.{Staged}

-- the call is not left open for this partition
abbrev pub IsPassed : {J : Type 0} {naming : Ghosts J} → (partition parts : ℕ) → Staged J naming → Type 0
IsPassed partition parts staged = IsOpenAt partition parts staged → ⊥

-- nor are those before this place
abbrev pub ArePassed : {J : Type 0} {naming : Ghosts J} → (partition parts : ℕ) → List (Staged J naming) → ℕ → Type 0
ArePassed {J} {naming} partition parts calls at = (k : ℕ) (d : Staged J naming) → k < at → IsPassed partition parts (get_or calls k d)

-- what is said of the elements before this place, and of the one that is put there
pub said_next : {X : Type 0} (P : X → Type 0) (xs : List X) (at : ℕ) (x : X) → ((k : ℕ) (d : X) → k < at → P (get_or xs k d)) → at < length xs → P x
    → (k : ℕ) (d : X) → k < at + 1 → P (get_or (set xs at x) k d)
said_next P xs at x before within here k d low =
    ⊎_elim
    (λ h. subst (λ j. P (get_or (set xs at x) j d)) (sym h.1) (subst P (sym (get_or-set_same xs at x d within)) here))
    (λ h. subst P (sym (get_or-set_other xs at k x d h.1)) (before k d (omega (arith, h.1, low))))
    (eqb_tells k at)

pub passed_next : {J : Type 0} {naming : Ghosts J} (partition parts : ℕ) (calls : List (Staged J naming)) (at : ℕ) (after : Staged J naming) → ArePassed partition parts calls at → at < length calls → IsPassed partition parts after
    → ArePassed partition parts (set calls at after) (at + 1)
passed_next partition parts calls at after so_far within is = said_next (IsPassed partition parts) calls at after so_far within is

-- a partition stays what it is from call to call
pub stays_on : {J : Type 0} {naming : Ghosts J} {old mid new : ShardState J naming} → StaysAt old mid → StaysAt mid new → StaysAt old new
stays_on first then =
    record {
      partition = then.partition ∙ first.partition;
      parts = then.parts ∙ first.parts;
      keeps = then.keeps ∙ first.keeps;
      collections = then.collections ∙ first.collections;
    }
