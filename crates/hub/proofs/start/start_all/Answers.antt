use Rattle.std.proofs.Common.{◌≡◌, ◌+◌, ℕ, List, ◌∷◌, [], ap, sym, subst, arith, rules, refl, length, length-append, ◌∙◌}
use Rattle.std.specs.Prelude.{All}
use Rattle.std.proofs.lemmas.List.Elements.{All-nil, All-cons, All-append}
use Rattle.std.specs.Arc.{arc_value}
use Rattle.std.specs.declared.sync.Arc.{Arc}
use Rattle.std.specs.declared.alloc.Global.{Global}
use Rattle.shard.specs.declared.shard.Shard.{Shard}
use Rattle.shard.specs.Queues.{QueueEnd}
use Rattle.hub.specs.Shards.{IsConfigOf, AreShardsFrom, journals_of}
use Rattle.hub.proofs.Started.{mapped-more, shards-more}
use Rattle.hub.proofs.start.start_all.Goals as goal

-- there is none yet
pub loop-partition-init : goal.loop-partition-init
loop-partition-init g c = record {
  shards = omega arith;
  queues = omega arith;
  started = omega arith;
  threads = omega arith;
  calls = refl;
  journals = refl;
  counts = refl;
  of_room = λ none. subst (All (λ (queue : QueueEnd). (queue.capacity ≡ c.args.config.now.queue) × (queue.count ≡ 0))) (sym none) (All-nil (λ (queue : QueueEnd). (queue.capacity ≡ c.args.config.now.queue) × (queue.count ≡ 0)));
  kept_alike = λ none.
      let P : Arc (Shard g.row.G.Denot g.G.Naming) Global → Type 0 = λ shard. journals_of shard ≡ c.args.journals in
      subst (All P) (sym none) (All-nil P);
  of_config = λ none.
      let P : List (Arc (Shard g.row.G.Denot g.G.Naming) Global) → Type 0 = λ shards. AreShardsFrom c.args.config.now 0 shards in
      subst P (sym none) tt;
  workers = λ same. same;
  words = omega arith;
}

-- this one is that of the next partition
pub loop-partition-preserved : goal.loop-partition-preserved
loop-partition-preserved g c =
    let so_far = c.loop-partition.invariant in
    let shards = c.loop-partition.lists.shards.items in
    let config = c.args.config.now in
    let long = ap length c.push_reserved.ensures.items ∙ length-append shards (c.in_ok-shard.shard ∷ []) in
    record {
      shards = omega (arith, c.push_reserved.ensures.len, c.push_reserved.ensures.capacity, so_far.shards);
      queues = omega (arith, c.push_reserved-in-loop-partition.ensures.len, c.push_reserved-in-loop-partition.ensures.capacity, so_far.queues);
      started = omega (arith, long, so_far.started);
      threads = omega (arith, c.push_reserved-in-loop-partition-2.ensures.len, c.push_reserved-in-loop-partition-2.ensures.capacity, so_far.threads);
      calls = so_far.calls;
      journals = so_far.journals;
      counts = so_far.counts;
      of_room = λ none.
          let P : QueueEnd → Type 0 = λ queue. (queue.capacity ≡ config.queue) × (queue.count ≡ 0) in
          subst (All P) (sym c.push_reserved-in-loop-partition.ensures.items) (All-append P _ _ (so_far.of_room none) (All-cons P _ [] (c.in_ok-queue.ensures.room.0, c.in_ok-queue.ensures.none.0) (All-nil P)));
      kept_alike = λ none.
          let P : Arc (Shard g.row.G.Denot g.G.Naming) Global → Type 0 = λ shard. journals_of shard ≡ c.args.journals in
          subst (All P) (sym c.push_reserved.ensures.items) (All-append P shards (c.in_ok-shard.shard ∷ []) (so_far.kept_alike none) (All-cons P c.in_ok-shard.shard [] c.in_ok-shard.ensures.journals (All-nil P)));
      of_config = λ none.
          let P : List (Arc (Shard g.row.G.Denot g.G.Naming) Global) → Type 0 = λ ds. AreShardsFrom config 0 ds in
          let Q : ℕ → Type 0 = λ n. IsConfigOf config n (arc_value c.in_ok-shard.shard).config in
          let count : c.loop-partition.partition ≡ 0 + length shards = omega (arith, so_far.started, ap length none) in
          subst P (sym c.push_reserved.ensures.items) (shards-more config 0 shards c.in_ok-shard.shard (so_far.of_config none) (subst Q count c.in_ok-shard.ensures.config));
      workers = λ same. mapped-more _ _ _ _ _ _ _ _ (so_far.workers same) (c.in_ok-thread.ensures ∙ ap (λ (d : Shard g.row.G.Denot g.G.Naming). d.config.partition) c.in_ok-theirs.ensures)
          c.push_reserved-in-loop-partition-2.ensures.items c.push_reserved.ensures.items;
      words = search rules;
    }
