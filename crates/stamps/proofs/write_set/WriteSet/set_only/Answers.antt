use Rattle.std.proofs.Common.{◌≡◌, ◌<◌, ◌-◌, ℕ, List, [], ◌∷◌, length, take, set, replicate, length-set, drop-set-lt, refl, ap, ◌∙◌, arith, subst, sym}
use Rattle.stamps.specs.WriteSet.{IsWriteSet, unused_key}
use Rattle.stamps.proofs.write_set.WriteSet.set_only.Goals as goal

only_set : (key : List ℕ) → IsWriteSet (key ∷ [])
only_set key = record { not_empty = omega arith; at_most = omega arith; ascending = λ i j d before within. absurd (omega (arith, before, within)) }

front_is : (keys : List (List ℕ)) (key : List ℕ) → 0 < length keys → take 1 (set keys 0 key) ≡ key ∷ []
front_is [] key some = absurd (omega (arith, some))
front_is (k ∷ keys) key some = refl

pub invariant_of-self : goal.invariant_of-self
invariant_of-self c =
    let keys = c.free.new.keys in
    let key = c.args.key in
    let long = c.free.ensures.len ∙ c.self.invariant.2 in (
      subst IsWriteSet (sym (front_is keys key (omega (arith, long)))) (only_set key),
      omega arith,
      length-set keys 0 key ∙ long,
      drop-set-lt 1 keys 0 key (omega arith) ∙ c.free.ensures.rest ∙ ap (λ (n : ℕ). replicate (n - 1) unused_key) c.self.invariant.2,
    )

pub returns : goal.returns
returns c = front_is c.free.new.keys c.args.key (omega (arith, c.free.ensures.len, c.self.invariant.2))
