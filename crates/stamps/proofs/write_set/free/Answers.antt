use Rattle.std.proofs.Common.{◌≡◌, ℕ, ◌+◌, ◌-◌, ◌<◌, ◌≤◌, List, ◌∷◌, length, set, drop, replicate, suc, ap, sym, ◌∙◌, arith, length-set}
use Rattle.std.proofs.lemmas.List.{take-set-le, drop-set, drop-drop, drop-replicate}
use Rattle.stamps.specs.WriteSet.{unused_key}
use Rattle.stamps.proofs.write_set.free.Goals as goal

-- one more is free
one_more : (keys : List (List ℕ)) (at : ℕ) → at < length keys → drop (at + 1) keys ≡ replicate (length keys - (at + 1)) unused_key
    → drop at (set keys at unused_key) ≡ replicate (length keys - at) unused_key
one_more keys at within rest =
    let more : suc (length keys - (at + 1)) ≡ length keys - at = omega arith in
    drop-set keys at unused_key within ∙ ap (λ (ks : List (List ℕ)). unused_key ∷ ks) rest ∙ ap (λ (n : ℕ). replicate n unused_key) more

pub loop-left-preserved : goal.loop-left-preserved
loop-left-preserved c =
    let inv = c.loop-left.invariant in
    let keys = c.loop-left.keys in
    let at : ℕ = c.loop-left.left - 1 in
    let up : c.loop-left.left ≡ at + 1 = omega (arith, c.loop-left-test.true) in
    let within : at < length keys = omega (arith, up, inv.within) in
    let beyond : c.args.from ≤ at = omega (arith, up, c.loop-left-test.true) in
    rw c.unused.ensures (record {
      kept = take-set-le c.args.from keys at unused_key beyond ∙ inv.kept;
      len = length-set keys at unused_key ∙ inv.len;
      within = omega (arith, length-set keys at unused_key, within);
      free =
          one_more keys at within (ap (λ (n : ℕ). drop n keys) (sym up) ∙ inv.free ∙ ap (λ (n : ℕ). replicate (length keys - n) unused_key) up)
          ∙ ap (λ (n : ℕ). replicate (n - at) unused_key) (sym (length-set keys at unused_key));
    })

pub returns-clause-rest : goal.returns-clause-rest
returns-clause-rest c =
    let inv = c.loop-left.invariant in
    let keys = c.loop-left.keys in
    let left = c.loop-left.left in
    let more : ℕ = c.args.from - left in
    let to : left + more ≡ c.args.from = omega (arith, c.loop-left-test.false) in
    let fewer : length keys - left - more ≡ length c.args.keys.now - c.args.from = omega (arith, to, inv.len) in
    ap (λ (n : ℕ). drop n keys) (sym to) ∙ sym (drop-drop more left keys) ∙ ap (drop more) inv.free
    ∙ drop-replicate more (length keys - left) unused_key ∙ ap (λ (n : ℕ). replicate n unused_key) fewer
