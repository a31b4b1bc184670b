use Rattle.std.proofs.Common.{refl, ap}
use Rattle.lists.specs.Listing.{Listing}
use Rattle.prepare_commit.specs.declared.items.ChainedItem.{ChainedItem}
use Rattle.prepare_commit.specs.declared.versions.Versions.{Versions}
use Rattle.prepare_commit.proofs.Chaining.{opened_empty, opened_lies}
use Rattle.prepare_commit.proofs.cell.Cell.with_room.Goals as goal

pub returns-clause-tenant : goal.returns-clause-tenant
returns-clause-tenant c = ap (λ (v : Versions). v.chains.tenant) c.in_ok-open-5.ensures

pub returns-clause-new : goal.returns-clause-new
returns-clause-new c =
    let is = c.in_ok-open-5.ensures in
    record {
      room_is = refl;
      share = ap (λ (v : Versions). v.chains.share) is;
      used = ap (λ (v : Versions). v.chains.used) is;
      lies = opened_lies c.in_ok-open-5.field-0 c.args.tenant c.args.slots c.args.items is;
      empty = opened_empty c.in_ok-open-5.field-0 c.args.tenant c.args.slots c.args.items is;
      no_items = ap (λ (l : Listing ChainedItem). l.items) c.in_ok-open-3.ensures;
      index = c.in_ok-open-4.ensures.value;
      no_marks = c.in_ok-with_capacity.ensures.items;
      not_collected = refl;
      none_collected = refl;
    }
