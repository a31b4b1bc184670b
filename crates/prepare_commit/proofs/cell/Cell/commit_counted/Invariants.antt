use Rattle.std.proofs.Common.{◌≡◌, ℕ, ◌||◌, false, get_or, length}
use Rattle.version_chain.proofs.Places.{places}
use Rattle.prepare_commit.proofs.EachPlace.{Begins, SoFar, is_done}
use Rattle.prepare_commit.proofs.cell.Cell.commit_counted.Given as goal

-- So far these places are committed, and the chains of their versions noted. All else is as it was.
abbrev pub invariant-loop-place : goal.invariant-loop-place
invariant-loop-place l =
    let old = l.initial.self-inside in
    let new = l.self-inside in
    let start = old.versions.chains in
    record {
      begins : Begins l.fn.block start l.fn.stamp old.index old.changed old.last_base.since;
      so_far : SoFar l.fn.block l.block start new.versions.chains l.fn.stamp l.place old.index new.index l.count l.fn.visits l.visits;
      long : length new.changed ≡ length old.changed;
      noted : (chain : ℕ) → get_or new.changed chain false ≡ (get_or old.changed chain false || is_done l.fn.block (places start l.fn.stamp) l.place chain);
      as_long : length new.last_base.since ≡ length old.last_base.since;
      since : (chain : ℕ) → get_or new.last_base.since chain false ≡ (get_or old.last_base.since chain false || is_done l.fn.block (places start l.fn.stamp) l.place chain);
      rest : new ≡ record old {
        versions = record old.versions { chains = new.versions.chains };
        index = new.index;
        changed = new.changed;
        last_base = record old.last_base { since = new.last_base.since };
      };
    }
