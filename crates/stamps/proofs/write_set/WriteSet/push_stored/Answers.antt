use Rattle.std.proofs.Common.{◌≡◌, ◌+◌, ◌-◌, ◌<◌, List, ℕ, [], ◌∷◌, ◌++◌, length, take, drop, set, replicate, length-append, length-set, length-take-le, drop-set-lt, drop-drop, sym, ap, subst, ◌∙◌, arith}
use Rattle.std.proofs.lemmas.List.{drop-replicate, take_more_set}
use Rattle.stamps.specs.Limits.{max_keys}
use Rattle.stamps.specs.WriteSet.{IsWriteSet, unused_key}
use Rattle.stamps.proofs.write_set.WriteSet.push_stored.Goals as goal

pub invariant_of-self : goal.invariant_of-self
invariant_of-self c =
    let keys = c.self.inside.keys in
    let at = c.self.inside.len in
    let key = c.args.key in
    let inv = c.self.invariant in
    let long : length (take at keys) ≡ at = length-take-le at keys (omega (arith, inv.1, inv.2)) in
    let total = length-append (take at keys) (key ∷ []) in
    let is = c.self.view_is in
    let one : IsWriteSet (take at keys ++ key ∷ []) = subst (λ (ks : List (List ℕ)). IsWriteSet (ks ++ key ∷ [])) (sym is) c.requires in
    let most = one.at_most in
    let within : at < length keys = omega (arith, long, total, most, inv.2) in
    let put : take (at + 1) (set keys at key) ≡ take at keys ++ key ∷ [] = take_more_set keys at key within in
    let less : max_keys - at - 1 ≡ max_keys - (at + 1) = omega arith in
    rw c.from.ensures (
      subst IsWriteSet (sym put) one,
      omega (arith, within, inv.2),
      length-set keys at key ∙ inv.2,
      drop-set-lt (at + 1) keys at key (omega arith) ∙ sym (drop-drop 1 at keys) ∙ ap (drop 1) inv.3 ∙ drop-replicate 1 (max_keys - at) unused_key
          ∙ ap (λ n. replicate n unused_key) less,
    )
