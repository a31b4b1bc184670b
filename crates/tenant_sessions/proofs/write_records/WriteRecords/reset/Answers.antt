use Rattle.std.proofs.Common.{◌≡◌, ◌≤◌, List, length, take, ◌++◌, ap, ◌∙◌, arith}
use Rattle.std.specs.List.{list_all}
use Rattle.std.proofs.lemmas.Grind.{common_steps}
use Rattle.std.proofs.lemmas.List.{length-map}
use Rattle.stamps.specs.Key.{IsTransactionKeys}
use Rattle.stamps.specs.Limits.{max_keys}
use Rattle.stamps.specs.WriteSet.{contains_key}
use Rattle.plain_store.specs.Words.{Item}
use Rattle.plain_store.specs.Writing.{keys_written}
use Rattle.tenant_sessions.proofs.Made.{all_written}
use Rattle.tenant_sessions.proofs.write_records.WriteRecords.reset.Goals as goal

-- the items stand in front
begins : (new items rest : List Item) → new ≡ items → take (length items) (new ++ rest) ≡ items
begins new items rest is = grind (arith, common_steps)

-- as many items as a write has
few_written : (items : List Item) → IsTransactionKeys (keys_written items) → length items ≤ max_keys
few_written items good = omega (arith, good.at_most, length-map items (λ (item : Item). item.key))

pub invariant_of-self-2 : goal.invariant_of-self-2
invariant_of-self-2 c =
    let few = few_written c.args.items.now (c.put_write_set.ensures.exact.0 c.if-not-put_write_set.false) in (
      c.requires,
      ap (list_all (λ (item : Item). contains_key c.put_write_set.new.writes item.key)) (begins c.copy_from_slice.new.self c.args.items.now _ c.copy_from_slice.ensures.after)
          ∙ all_written c.args.items.now c.put_write_set.new.writes (c.put_write_set.ensures.value c.if-not-put_write_set.false),
      few,
      grind (arith, common_steps),
    )
