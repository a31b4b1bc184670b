use Rattle.std.proofs.Common.{◌≡◌, arith, ap, ◌∙◌, take, length}
use Rattle.stamps.specs.Key.{sorted_keys}
use Rattle.stamps.specs.Limits.{max_found}
use Rattle.plain_store.specs.Tags.{under}
use Rattle.plain_store.proofs.Rooms.{findings-IsFound, under_within}
use Rattle.oracle.proofs.tags.findings.Goals as goal

pub overflow_cast-len : goal.overflow_cast-len
overflow_cast-len c =
    omega (arith, under_within c.args.room.now c.args.log.now c.args.tag.now c.requires, ap length c.in_ok-under.ensures, ap (λ r. r.items) c.room.view_is)

pub new-requires : goal.new-requires
new-requires c =
    let log = c.args.log.now in
    let tag = c.args.tag.now in
    let listed = c.deref.ensures.value ∙ c.in_ok-under.ensures in
    let told = c.deref-2.ensures.value ∙ c.truncate.ensures.items ∙ ap (take max_found) (c.in_ok-keys.ensures ∙ ap sorted_keys listed) in
    let counted : c.len.result ≡ length (under log tag) = omega (arith, c.deref.ensures.len, ap length listed) in
    rw (counted, told) (findings-IsFound log tag)
