use Rattle.std.proofs.Common.{◌≡◌, ◌≤◌, ◌<◌, ◌+◌, ◌∙◌, ℕ, List, arith, ap, get_or, length, subst, sym, vec_len}
use Rattle.std.proofs.lemmas.Grind.{get_or_default_zero}
use Rattle.std.specs.Arc.{arc_value}
use Rattle.std.specs.Vec.Iter.{into_iter_items}
use Rattle.std.specs.declared.sync.Arc.{Arc}
use Rattle.std.specs.declared.alloc.Global.{Global}
use Rattle.shard.specs.declared.shard.Shard.{Shard}
use Rattle.hub.specs.Hubs.{IsSoundBook, config_view}
use Rattle.traced_book.specs.Traced.{AreTraced}
use Rattle.hub.specs.Shards.{AreShardsFrom, IsConfigOf}
use Rattle.std.specs.Prelude.{map}
use Rattle.partition.specs.Accounts.{account_of}
use Rattle.history.specs.Entries.{count}
use Rattle.hub.proofs.Counted.{AllSoundBooks-append, all_more}
use Rattle.hub.proofs.closing.take_all.Goals as goal

-- the next shard is that of the partition whose journals are put next, and so many calls of it were seen
pub take_out-of_book-requires : goal.take_out-of_book-requires
take_out-of_book-requires g c =
    let config = c.args.config.now in
    let P : List (Arc (Shard g.row.G.Denot g.G.Naming) Global) → Type 0 = λ shards. AreShardsFrom config (vec_len c.loop-shard.journals) shards in
    let Q : ℕ → Type 0 = λ n. IsConfigOf config n (arc_value c.in-Some.shard).config in
    let calls = c.args.calls.items in
    let n = c.len-partition.result in
    let its = c.index-its.result.now in
    let R : ℕ → Type 0 = λ m. m ≤ count (n + 1) c.args.seen.now in
    let there : n < length calls = omega (arith, c.requires.calls.of_parts, c.len-partition.ensures, ap length c.in-Some.ensures.steps.0, c.loop-shard.invariant.left) in
    let is : its ≡ get_or calls n 0 = c.index-its.ensures ∙ get_or_default_zero calls n its there in
    record {
      shard = subst Q (sym c.len-partition.ensures) (subst P c.in-Some.ensures.steps.0 c.loop-shard.invariant.shards).0;
      calls = subst R (sym is) (c.requires.calls.each n);
    }

pub loop-shard-preserved : goal.loop-shard-preserved
loop-shard-preserved g c =
    let so_far = c.loop-shard.invariant in
    let config = c.args.config.now in
    let seen = c.args.seen.now in
    let one = c.take_out-of_book.result in
    let Q : ℕ → Type 0 = λ n. IsSoundBook (config_view config) n one.0 one.1 in
    let here : c.len-partition.result ≡ 0 + length c.loop-shard.journals.items = omega (arith, c.len-partition.ensures) in
    let T : ℕ → Type 0 = λ n. AreTraced seen n (map account_of one.0.items) in
    let R : List (Arc (Shard g.row.G.Denot g.G.Naming) Global) → Type 0 = λ shards. AreShardsFrom config (vec_len c.loop-shard.journals) shards in
    let S : ℕ → Type 0 = λ n. AreShardsFrom config n (into_iter_items c.next.new.self) in
    let longer : vec_len c.loop-shard.journals + 1 ≡ vec_len c.push_reserved.new.self = omega (arith, c.push_reserved.ensures.len) in
    record {
      books = rw (c.push_reserved.ensures.items, c.push_reserved-in-loop-shard.ensures.items)
          (AllSoundBooks-append (config_view config) 0 _ _ _ _ so_far.books (subst Q here c.take_out-of_book.ensures.book));
      traced = rw c.push_reserved.ensures.items
          (all_more seen 0 c.loop-shard.journals.items one.0 so_far.traced (subst T here c.take_out-of_book.ensures.traced));
      same = omega arith;
      left = omega (arith, ap length c.in-Some.ensures.steps.0);
      journals = omega arith;
      counts = omega arith;
      shards = subst S longer (subst R c.in-Some.ensures.steps.0 so_far.shards).1;
    }
