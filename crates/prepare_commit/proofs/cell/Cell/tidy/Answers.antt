use Rattle.std.proofs.Common.{length, inl, ap, arith}
use Rattle.std.proofs.lemmas.Bool.{both_ways}
use Rattle.prepare_commit.specs.InBlock.{Parts}
use Rattle.prepare_commit.specs.Layout.{chain_lists}
use Rattle.prepare_commit.specs.Spots.{begun_by}
use Rattle.prepare_commit.proofs.Keeping.{put_few, some_within}
use Rattle.prepare_commit.proofs.Lying.{lies_at}
use Rattle.prepare_commit.proofs.Retiring.{kept_more}
use Rattle.prepare_commit.proofs.Since.{kept_noted_all}
use Rattle.prepare_commit.proofs.cell.Cell.tidy.Goals as goal

pub returns-then-is_small-clause-lies : goal.returns-then-is_small-clause-lies
returns-then-is_small-clause-lies c block is =
    let lies = lies_at block _ _ c.self.view_is is in
    let cell = c.self.inside in
    record {
      versions = lies.versions;
      remembers = lies.remembers;
      remembers_least = lies.remembers_least;
      since = kept_noted_all (record { parts = c.new.result; spots = cell.last_base.spots.items }) c.note_all.new.self cell.entries.items (chain_lists block cell.versions.chains)
          (λ chain less. c.note_all.ensures.noted chain (omega (arith, less, c.note_all.ensures.long)))
          (λ k d w. (let given = lies.holds.laid.given k d w in omega (arith, given, c.self.invariant.0, c.note_all.ensures.long, c.self.invariant.8)));
      holds = lies.holds;
    }

pub returns-in_err-room-clause-lies : goal.returns-in_err-room-clause-lies
returns-in_err-room-clause-lies c block is =
    let lies = lies_at block _ _ c.self.view_is is in
    let cell = c.self.inside in
    record {
      versions = lies.versions;
      remembers = lies.remembers;
      remembers_least = lies.remembers_least;
      since = kept_more (begun_by cell.last_base) cell.last_base.since cell.entries.items (chain_lists block cell.versions.chains) lies.since c.make_room.new.since c.make_room.ensures.more;
      holds = lies.holds;
    }

pub returns-clause-lies : goal.returns-clause-lies
returns-clause-lies c block is =
    let lies = lies_at block _ _ c.self.view_is is in
    let cell = c.self.inside in
    record {
      versions = lies.versions;
      remembers = lies.remembers;
      remembers_least = lies.remembers_least;
      since = kept_more (begun_by cell.last_base) cell.last_base.since cell.entries.items (chain_lists block cell.versions.chains) lies.since c.make_room.new.since c.make_room.ensures.more;
      holds = lies.holds;
    }

pub returns-then-not-is_scattered-clause-parts : goal.returns-then-not-is_scattered-clause-parts
returns-then-not-is_scattered-clause-parts c few part =
    let same = ap (λ (p : Parts). length p.begun.parts) c.self.view_is in
    put_few c.args.self.now.begun.parts c.len-then-not-is_scattered.result part 256
    (λ many. absurd (both_ways c.is_scattered.result c.if-not-is_scattered.true (c.is_scattered.ensures.1 (inl (omega (arith, many, same))))))

pub returns-clause-parts : goal.returns-clause-parts
returns-clause-parts c few part =
    let parts = c.self.inside.last_base.parts in
    let same = ap (λ (p : Parts). length p.begun.parts) c.self.view_is in
    let items = ap (λ (p : Parts). length p.items) c.self.view_is in
    let long = put_few parts c.unwrap_or.result part 256 (λ many.
    let free = some_within c.in_ok-room.room c.len-4.result (length parts) (c.in_ok-room.ensures.room many (omega (arith, few, items, c.len-3.ensures))) c.in_ok-room.ensures.within in
    omega (arith, free, c.unwrap_or.ensures)) in
    omega (arith, long, same)
