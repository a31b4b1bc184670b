use Rattle.std.proofs.Common.{◌≡◌, ◌<◌, ◌+◌, ◌++◌, ◌∷◌, [], ℕ, List, length, take, sym, ap, subst, ◌∙◌, arith}
use Rattle.std.proofs.lemmas.List.{take_more, length_push}
use Rattle.stamps.specs.Key.{IsKey}
use Rattle.prepare_commit.specs.declared.items.KnownItem.{KnownItem}
use Rattle.prepare_commit.proofs.Floors.{one_more_entry, one_more_key}
use Rattle.prepare_commit.proofs.part_entries.PartEntries.of.Goals as goal

pub loop-nth-preserved : goal.loop-nth-preserved
loop-nth-preserved c =
    let keys = c.loop-nth.keys.items in
    let floors = c.loop-nth.floors.items in
    let k = c.loop-nth.nth in
    let entries = c.args.entries.now in
    let e = c.index-entries-nth.result in
    let so_far = c.loop-nth.invariant in
    let less : k < length entries = omega (arith, c.loop-nth-test.true) in
    let key : c.as_bytes.result.now ≡ e.key = c.as_bytes.ensures.bytes in
    let put = c.in_ok-push.ensures.ok ∙ ap (λ (b : List ℕ). keys ++ b ∷ []) key in
    rw (put, c.in_ok-push-2.ensures.items) (
      one_more_key keys e.key so_far.0 (subst IsKey key c.as_bytes.ensures.valid),
      length_push keys e.key ∙ ap (λ n. n + 1) so_far.1 ∙ sym (length_push floors e.floor),
      one_more_entry keys floors e so_far.1
          ∙ ap (λ (es : List KnownItem). es ++ e ∷ []) so_far.2
          ∙ ap (λ (x : KnownItem). take k entries ++ x ∷ []) c.index-entries-nth.is
          ∙ sym (take_more entries k _ less),
    )
