use Rattle.std.proofs.Common.{◌≡◌, ◌<◌, ◌≤◌, ◌-◌, ◌++◌, ℕ, List, length, take, drop, replicate, arith, length-append, take_at, drop_at, refl, sym, ◌∙◌}
use Rattle.std.proofs.lemmas.Bool.{eqb-false}
use Rattle.std.proofs.lemmas.List.{length-replicate, drop-replicate}
use Rattle.stamps.specs.Limits.{max_keys}
use Rattle.stamps.specs.WriteSet.{unused_key}
use Rattle.stamps.proofs.write_set.WriteSet.new.Goals as goal

pub invariant_of-result : goal.invariant_of-result
invariant_of-result c =
    let source = c.args.keys.now in
    let nonempty = eqb-false (length source) 0 (sym c.is_empty.ensures ∙ c.if-is_empty.false) in
    let some : 0 < length source = omega arith in
    let few : length source ≤ max_keys = omega (arith, c.if-keys-gt-MAX_LEN.false) in
    let rest : drop (length source) (replicate {A = List ℕ} max_keys unused_key) ≡ replicate (max_keys - length source) unused_key =
    drop-replicate (length source) max_keys unused_key in
    let front : take (length source) (source ++ replicate (max_keys - length source) unused_key) ≡ source = take_at source _ (length source) refl in
    rw (c.copy_from_slice.ensures.after, c.unused-all.ensures, rest, front) (
      record { not_empty = some; at_most = few; ascending = c.is_ascending.ensures.0 c.if-not-is_ascending.false },
      few,
      omega (
        arith,
        length-append source (replicate (max_keys - length source) unused_key),
        length-replicate {A = List ℕ} (max_keys - length source) unused_key,
        few,
      ),
      drop_at source _ (length source) refl,
    )
