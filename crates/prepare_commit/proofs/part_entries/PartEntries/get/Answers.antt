use Rattle.std.proofs.Common.{◌<◌, List, length, get_or, ap, ◌∙◌, arith}
use Rattle.prepare_commit.specs.declared.items.KnownItem.{KnownItem}
use Rattle.prepare_commit.proofs.Floors.{entries_long, entry_there, key_there}
use Rattle.prepare_commit.proofs.part_entries.PartEntries.get.Goals as goal

pub get-requires : goal.get-requires
get-requires c =
    let l = c.self.inside in
    let long = entries_long l.keys.items l.floors.items c.self.invariant.1 in
    let seen = ap (λ (es : List KnownItem). length es) c.self.view_is in
    omega (arith, c.requires, c.self.invariant.1, long, seen)

pub of_stored-requires : goal.of_stored-requires
of_stored-requires c = key_there c.self.inside.keys.items c.args.at c.get.result.now c.self.invariant.0 c.get.ensures

pub index-requires : goal.index-requires
index-requires c =
    let l = c.self.inside in
    let long = entries_long l.keys.items l.floors.items c.self.invariant.1 in
    let seen = ap (λ (es : List KnownItem). length es) c.self.view_is in
    omega (arith, c.requires, l.floors.ok.0, long, seen)

pub returns : goal.returns
returns c other =
    let l = c.self.inside in
    let long = entries_long l.keys.items l.floors.items c.self.invariant.1 in
    let seen = ap (λ (es : List KnownItem). length es) c.self.view_is in
    let less : c.args.at < length l.floors.items = omega (arith, c.requires, long, seen) in
    (λ i. record { key = c.of_stored.ensures i; floor = c.index.ensures i })
    ∙ entry_there l.keys.items l.floors.items c.args.at c.get.result.now _ c.self.invariant.1 less c.get.ensures other
    ∙ ap (λ (es : List KnownItem). get_or es c.args.at other) c.self.view_is
