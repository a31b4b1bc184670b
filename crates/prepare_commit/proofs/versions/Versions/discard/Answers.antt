use Rattle.std.proofs.Common.{◌≡◌, ◌+◌, ◌==◌, map, length, count_by, sum_by, sym, ap, ◌∙◌, arith}
use Rattle.version_chain.specs.Heads.{Heads}
use Rattle.version_chain.specs.declared.version.Version.{Version}
use Rattle.version_chain.specs.Chain.{without_open}
use Rattle.prepare_commit.specs.Layout.{Chained, held_in, chain_at}
use Rattle.prepare_commit.proofs.AllChains.{count_all}
use Rattle.prepare_commit.proofs.AllPlaces.{places_count}
use Rattle.prepare_commit.proofs.Chaining.{chains_each, chains_long}
use Rattle.prepare_commit.proofs.EachPlace.{used_is}
use Rattle.prepare_commit.proofs.Owning.{own_after}
use Rattle.prepare_commit.proofs.Since.{noted_gone}
use Rattle.prepare_commit.proofs.versions.Versions.discard.Goals as goal

pub note_at-requires : goal.note_at-requires
note_at-requires c =
    let done = c.sweep_at-first.ensures in
    record {
      stands = done.lies.stands;
      list = done.lies.listed;
      swept = done.swept;
      run = done.run;
      long = c.requires.as_long ∙ chains_long c.args.block.now c.args.self.now.chains ∙ sym (ap (λ (h : Heads). length h.heads) done.rest);
    }

pub discard_at-requires : goal.discard_at-requires
discard_at-requires c =
    let done = c.sweep_at-first.ensures in
    record {
      stands = done.lies.stands;
      run = record { list = done.lies.listed; swept = done.swept; run = done.run };
      few = omega (arith, c.requires.few, ap (λ (h : Heads). h.used) done.rest);
      before = c.requires.before;
    }

pub returns : goal.returns
returns c =
    let done = c.discard_at.ensures in
    let block = c.args.block.now in
    let start = c.args.self.now.chains in
    let heads : Heads = c.sweep_at-first.new.self.chains in
    let swept = c.sweep_at-first.ensures in
    let seen : held_in block heads ≡ held_in block start = ap (held_in block) swept.rest in
    let test = λ (v : Version). v.prepared.stamp == c.args.stamp in
    record {
      changed = record {
        lies = record { stands = done.stands; listed = done.list };
        own = own_after block start heads swept.rest c.discard_at.new.block c.discard_at.new.self done.own;
      };
      gone =
          chains_each block c.discard_at.new.block heads c.discard_at.new.self (without_open c.args.stamp) done.own.shape.long done.kept
          ∙ ap (λ (h : Chained). map (without_open c.args.stamp) h.chains) seen;
      fewer = omega (arith, done.given_up.used, ap (λ (h : Heads). h.used) swept.rest);
      visits = λ items all.
          done.visits
          ∙ ap (λ n. c.args.visits.now + n) (places_count block heads c.args.stamp swept.lies.stands swept.lies.listed swept.swept
          ∙ ap (λ (h : Chained). sum_by (count_by test) h.chains) seen
          ∙ sym (count_all items (held_in block start) all (used_is block start c.requires.lies.stands) test));
      since = record {
        long = c.note_at.ensures.long;
        noted = λ chain free.
            (let both = noted_gone c.args.stamp _ _ _ _ c.note_at.ensures.noted (chains_each block c.discard_at.new.block heads c.discard_at.new.self (without_open c.args.stamp) done.own.shape.long done.kept) chain free in
            (both.0, both.1 ∙ ap (λ (h : Chained). chain_at h.chains chain) seen));
      };
    }
