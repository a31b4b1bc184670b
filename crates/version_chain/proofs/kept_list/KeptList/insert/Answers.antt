use Rattle.std.proofs.Common.{true, length, length-append, count_by, ap, arith}
use Rattle.version_chain.specs.declared.stamp_list.Kept.{Kept}
use Rattle.version_chain.specs.Listed.{held_at}
use Rattle.version_chain.specs.Listing.{KeptListing}
use Rattle.version_chain.proofs.TwoLists.{count_both, count_all, apart_swap, apart_added, listed_beside}
use Rattle.version_chain.proofs.kept_list.KeptList.insert.Goals as goal

pub make_room-requires-clause-any : goal.make_room-requires-clause-any
make_room-requires-clause-any c = c.self.invariant.1 (omega (arith, c.requires, ap (λ (l : KeptListing). l.room) c.self.view_is))

pub make_room-requires-clause-room : goal.make_room-requires-clause-room
make_room-requires-clause-room c =
    omega (
      arith,
      c.requires,
      length-append c.self.inside.main.kept c.self.inside.late.kept,
      ap (λ (l : KeptListing). l.room) c.self.view_is,
      ap (λ (l : KeptListing). length l.kept) c.self.view_is,
    )

pub insert-requires : goal.insert-requires
insert-requires c = c.make_room.ensures.free

pub insert-requires-else-is_late : goal.insert-requires-else-is_late
insert-requires-else-is_late c =
    omega (
      arith,
      c.requires,
      c.make_room.ensures.same (λ k. true),
      c.make_room.ensures.main_room,
      count_all c.make_room.new.main.kept,
      count_all c.make_room.new.late.kept,
      count_all c.self.inside.main.kept,
      count_all c.self.inside.late.kept,
      length-append c.self.inside.main.kept c.self.inside.late.kept,
      ap (λ (l : KeptListing). l.room) c.self.view_is,
      ap (λ (l : KeptListing). length l.kept) c.self.view_is,
    )

pub invariant_of-self : goal.invariant_of-self
invariant_of-self c =
    let main = c.make_room.new.main.kept in
    let late = c.make_room.new.late.kept in
    let version : Kept = held_at c.args.stamp c.args.slot in (
      apart_swap c.insert.new.self.kept main (apart_added late main c.insert.new.self.kept version (apart_swap main late c.make_room.ensures.apart) (c.is_late.ensures.late c.if-is_late.true) c.insert.ensures.listed),
      λ any. omega (arith, c.insert.ensures.room, c.make_room.ensures.free),
    )

pub returns-then-is_late-clause-listed : goal.returns-then-is_late-clause-listed
returns-then-is_late-clause-listed c test =
    let main = c.make_room.new.main.kept in
    let late = c.make_room.new.late.kept in
    let whole = listed_beside c.args.self.now.kept late c.insert.new.self.kept main (held_at c.args.stamp c.args.slot) (c.is_late.ensures.late c.if-is_late.true)
    (λ p. omega (arith, count_both p c.self.inside.main.kept c.self.inside.late.kept, c.make_room.ensures.same p, ap (λ (l : KeptListing). count_by p l.kept) c.self.view_is)) c.insert.ensures.listed test in
    omega (arith, whole, count_both test main c.insert.new.self.kept)

pub invariant_of-self-else-is_late : goal.invariant_of-self-else-is_late
invariant_of-self-else-is_late c =
    let main = c.make_room.new.main.kept in
    let late = c.make_room.new.late.kept in
    let version : Kept = held_at c.args.stamp c.args.slot in (
      apart_added main late c.insert-else-is_late.new.self.kept version c.make_room.ensures.apart (c.is_late.ensures.not_late c.if-is_late.false) c.insert-else-is_late.ensures.listed,
      λ any. omega (arith, c.make_room.ensures.free),
    )

pub returns-else-is_late-clause-listed : goal.returns-else-is_late-clause-listed
returns-else-is_late-clause-listed c test =
    let main = c.make_room.new.main.kept in
    let late = c.make_room.new.late.kept in
    let whole = listed_beside c.args.self.now.kept main c.insert-else-is_late.new.self.kept late (held_at c.args.stamp c.args.slot) (c.is_late.ensures.not_late c.if-is_late.false)
    (λ p. omega (arith, count_both p c.self.inside.main.kept c.self.inside.late.kept, c.make_room.ensures.same p, ap (λ (l : KeptListing). count_by p l.kept) c.self.view_is)) c.insert-else-is_late.ensures.listed test in
    omega (arith, whole, count_both test c.insert-else-is_late.new.self.kept late)
