use Rattle.std.proofs.Common.{◌≡◌, ℕ, ◌+◌, ◌&&◌, Bool, cond, List, get_or, Option, None, Some, slice_set, sym, ap, subst, ◌∙◌}
use Rattle.version_chain.specs.declared.version.Version.{Version}
use Rattle.stamps.specs.Record.{Record}
use Rattle.version_chain.specs.Place.{IsPlace, is_past}
use Rattle.version_chain.specs.Heads.{Heads}
use Rattle.version_chain.proofs.Inserting.{Inserted, inserted_first, inserted_after, put_next}
use Rattle.version_chain.proofs.Replacing.{with_used}
use Rattle.version_chain.proofs.chains.Chains.link.Goals as goal

abbrev grown : ℕ → Option ℕ → Heads → Heads
grown chain latest chains = with_used chains (chains.used + 1) chains.heads (slice_set chains.latest chain latest)

rises_is : (committed : Bool) (found : Option Record) (stamp : ℕ) (rises : Bool) (read : ℕ) → rises ≡ (committed && is_past found read) → read ≡ stamp → rises ≡ (committed && is_past found stamp)
rises_is committed found stamp rises read is same = is ∙ ap (λ s. committed && is_past found s) same

kept_is : (latest : List (Option ℕ)) (chain slot : ℕ) (rises : Bool) (read kept : Option ℕ) → read ≡ get_or latest chain None → kept ≡ cond rises (Some slot) read → kept ≡ cond rises (Some slot) (get_or latest chain None)
kept_is latest chain slot rises read kept is from = from ∙ ap (λ k. cond rises (Some slot) k) is

after : (c : goal.After-set_next)
    → Inserted c.args.block.now c.set_next.new.self c.args.self.now (grown c.args.chain c.latest_of-latest.result (record { tenant = c.self.inside.tenant; share = c.self.inside.share; used = c.self.inside.used; heads = c.self.inside.slots.heads; latest = c.self.inside.slots.latest; kept = c.self.inside.kept.kept })) c.args.chain (record { prepared = c.args.prepared.now; committed = c.args.committed })
after c =
    let version : Version = record { prepared = c.args.prepared.now; committed = c.args.committed } in
    let place : IsPlace c.args.block.now c.args.self.now c.args.chain c.args.prepared.now.stamp (Some c.in-Some.last) c.args.here = subst (λ last. IsPlace c.args.block.now c.args.self.now c.args.chain c.args.prepared.now.stamp last c.args.here) c.in-Some.is c.requires.place in
    let whose : c.self.inside.tenant ≡ c.args.self.now.tenant = ap (λ (h : Heads). h.tenant) c.self.view_is in
    let kept = kept_is c.args.self.now.latest c.args.chain c.put-slot.result c.rises-rises.result c.latest.result c.latest_of-latest.result (rw (← c.self.view_is) c.latest.ensures) c.latest_of-latest.ensures in
    subst (λ (h : Heads). Inserted c.args.block.now c.set_next.new.self c.args.self.now (grown c.args.chain c.latest_of-latest.result h) c.args.chain version) (sym c.self.view_is)
    (subst (λ k. Inserted c.args.block.now c.set_next.new.self c.args.self.now (grown c.args.chain k c.args.self.now) c.args.chain version) (sym kept)
    (rw (c.set_next.ensures, c.put-slot.ensures.put, whose)
    (inserted_after c.args.block.now c.args.self.now c.args.chain c.put-slot.result version c.args.here c.requires.chain.stands c.requires.chain.known c.put-slot.ensures.was_free.0 c.put-slot.ensures.was_free.1 c.requires.room.room c.requires.room.missing c.rises-rises.result (rises_is c.args.committed _ _ c.rises-rises.result _ c.rises-rises.ensures c.stamp_of.ensures) c.in-Some.last place)))

pub returns-in-Some-clause-changed : goal.returns-in-Some-clause-changed
returns-in-Some-clause-changed c = rw c.set_latest.ensures (after c).changed

pub returns-in-Some-clause-added : goal.returns-in-Some-clause-added
returns-in-Some-clause-added c = rw c.set_latest.ensures (after c).added

abbrev grown_at : ℕ → ℕ → Option ℕ → Heads → Heads
grown_at chain slot latest chains = with_used chains (chains.used + 1) (slice_set chains.heads chain (Some slot)) (slice_set chains.latest chain latest)

first : (c : goal.After-set_head)
    → Inserted c.args.block.now c.put-slot.new.self c.args.self.now (grown_at c.args.chain c.put-slot.result c.latest_of-latest.result (record { tenant = c.self.inside.tenant; share = c.self.inside.share; used = c.self.inside.used; heads = c.self.inside.slots.heads; latest = c.self.inside.slots.latest; kept = c.self.inside.kept.kept })) c.args.chain (record { prepared = c.args.prepared.now; committed = c.args.committed })
first c =
    let version : Version = record { prepared = c.args.prepared.now; committed = c.args.committed } in
    let place : IsPlace c.args.block.now c.args.self.now c.args.chain c.args.prepared.now.stamp None c.args.here = subst (λ last. IsPlace c.args.block.now c.args.self.now c.args.chain c.args.prepared.now.stamp last c.args.here) c.in-None.is c.requires.place in
    let whose : c.self.inside.tenant ≡ c.args.self.now.tenant = ap (λ (h : Heads). h.tenant) c.self.view_is in
    let kept = kept_is c.args.self.now.latest c.args.chain c.put-slot.result c.rises-rises.result c.latest.result c.latest_of-latest.result (rw (← c.self.view_is) c.latest.ensures) c.latest_of-latest.ensures in
    subst (λ (h : Heads). Inserted c.args.block.now c.put-slot.new.self c.args.self.now (grown_at c.args.chain c.put-slot.result c.latest_of-latest.result h) c.args.chain version) (sym c.self.view_is)
    (subst (λ k. Inserted c.args.block.now c.put-slot.new.self c.args.self.now (grown_at c.args.chain c.put-slot.result k c.args.self.now) c.args.chain version) (sym kept)
    (rw (c.put-slot.ensures.put, whose)
    (inserted_first c.args.block.now c.args.self.now c.args.chain c.put-slot.result version c.args.here c.requires.chain.stands c.requires.chain.known c.put-slot.ensures.was_free.0 c.put-slot.ensures.was_free.1 c.requires.room.room c.requires.room.missing c.rises-rises.result (rises_is c.args.committed _ _ c.rises-rises.result _ c.rises-rises.ensures c.stamp_of.ensures) place)))

pub returns-in-None-clause-changed : goal.returns-in-None-clause-changed
returns-in-None-clause-changed c = rw (c.set_head.ensures, c.set_latest.ensures) (first c).changed

pub returns-in-None-clause-added : goal.returns-in-None-clause-added
returns-in-None-clause-added c = rw (c.set_head.ensures, c.set_latest.ensures) (first c).added

pub returns-in-Some-clause-put : goal.returns-in-Some-clause-put
returns-in-Some-clause-put c =
    let whose : c.self.inside.tenant ≡ c.args.self.now.tenant = ap (λ (h : Heads). h.tenant) c.self.view_is in
    rw (c.set_next.ensures, c.put-slot.ensures.put, whose)
    (put_next c.args.block.now c.args.self.now.tenant c.args.chain c.put-slot.result (record { prepared = c.args.prepared.now; committed = c.args.committed }) c.args.here c.put-slot.ensures.was_free.0 c.put-slot.ensures.was_free.1 c.in-Some.last)
