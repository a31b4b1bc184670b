use Rattle.std.proofs.Common.{◌≡◌, ℕ, ◌-◌, Option, None, Some, IsSome, set, slice_set, sym, ap, subst, arith}
use Rattle.version_arena.specs.Arena.{entry, next_beside}
use Rattle.version_chain.specs.Place.{IsPlace}
use Rattle.version_chain.specs.Chain.{Cells}
use Rattle.version_chain.specs.Stored.{stored_node}
use Rattle.version_chain.proofs.Leaving.{here_live}
use Rattle.version_chain.proofs.StoredNodes.{stored_there}
use Rattle.version_chain.specs.Heads.{Heads}
use Rattle.version_chain.proofs.Removing.{Unlinked, unlinked_first, unlinked_after, still_live, used_here}
use Rattle.version_chain.proofs.Discarding.{freed_next, freed_take}
use Rattle.version_chain.proofs.Replacing.{with_used}
use Rattle.version_chain.proofs.Writing.{live_within}
use Rattle.version_chain.proofs.chains.Chains.unlink.Goals as goal

there : (cells : Cells) (chains : Heads) (chain : ℕ) (last : Option ℕ) (here : ℕ) → (place : (stamp : ℕ) × IsPlace cells chains chain stamp last (Some here)) → entry cells here ≡ Some (stored_node cells here, next_beside cells here)
there cells chains chain last here place = stored_there cells here (here_live cells chains chain place.0 here last place.1)

pub overflow_sub-self : goal.overflow_sub-self
overflow_sub-self c =
    let positive = used_here c.args.block.now c.args.self.now c.args.chain _ _ _ c.requires.chain.stands c.requires.chain.known c.requires.place.1 in
    omega (arith, positive, ap (λ (h : Heads). h.used) c.self.view_is)

pub set_next-requires : goal.set_next-requires
set_next-requires c =
    let place : IsPlace c.args.block.now c.args.self.now c.args.chain c.requires.place.0 (Some c.in-Some.last) (Some c.args.here) = subst (λ last. IsPlace c.args.block.now c.args.self.now c.args.chain c.requires.place.0 last (Some c.args.here)) c.in-Some.is c.requires.place.1 in
    rw c.free.ensures (still_live _ _ _ _ _ _ c.requires.chain.stands c.requires.chain.known (there c.args.block.now c.args.self.now c.args.chain c.args.last c.args.here c.requires.place) _ place)

abbrev shrunk : ℕ → Option ℕ → Heads → Heads
shrunk chain latest chains = with_used chains (chains.used - 1) chains.heads (slice_set chains.latest chain latest)

after : (c : goal.After-set_next) (stamp : ℕ) → IsPlace c.args.block.now c.args.self.now c.args.chain stamp c.args.last (Some c.args.here)
    → Unlinked c.args.block.now c.set_next.new.self c.args.self.now (shrunk c.args.chain c.latest_without-latest.result (record { tenant = c.self.inside.tenant; share = c.self.inside.share; used = c.self.inside.used; heads = c.self.inside.slots.heads; latest = c.self.inside.slots.latest; kept = c.self.inside.kept.kept })) c.args.chain (stored_node c.args.block.now c.args.here).version stamp (Some c.in-Some.last) (next_beside c.args.block.now c.args.here)
after c stamp place =
    let positive = used_here c.args.block.now c.args.self.now c.args.chain stamp _ _ c.requires.chain.stands c.requires.chain.known place in
    subst (λ (h : Heads). Unlinked c.args.block.now c.set_next.new.self c.args.self.now (shrunk c.args.chain c.latest_without-latest.result h) c.args.chain (stored_node c.args.block.now c.args.here).version stamp (Some c.in-Some.last) (next_beside c.args.block.now c.args.here)) (sym c.self.view_is)
    (rw (c.set_next.ensures, c.free.ensures, c.next-next.ensures)
    (unlinked_after _ _ _ stamp _ _ c.requires.chain.stands c.requires.chain.known (there c.args.block.now c.args.self.now c.args.chain c.args.last c.args.here c.requires.place) (c.args.self.now.used - 1) (omega (arith, positive)) c.latest_without-latest.result c.latest_without-latest.ensures _ (subst (λ last. IsPlace c.args.block.now c.args.self.now c.args.chain stamp last (Some c.args.here)) c.in-Some.is place)))

pub returns-in-Some-clause-changed : goal.returns-in-Some-clause-changed
returns-in-Some-clause-changed c = rw c.set_latest.ensures (after c c.requires.place.0 c.requires.place.1).changed

pub returns-in-Some-clause-removed : goal.returns-in-Some-clause-removed
returns-in-Some-clause-removed c = rw (c.set_latest.ensures, there c.args.block.now c.args.self.now c.args.chain c.args.last c.args.here c.requires.place) (after c c.requires.place.0 c.requires.place.1).removed

pub returns-in-Some-clause-place : goal.returns-in-Some-clause-place
returns-in-Some-clause-place c stamp place = rw (c.set_latest.ensures, c.in-Some.is) (after c stamp place).place

abbrev shrunk_at : ℕ → Option ℕ → Option ℕ → Heads → Heads
shrunk_at chain next latest chains = with_used chains (chains.used - 1) (slice_set chains.heads chain next) (slice_set chains.latest chain latest)

first : (c : goal.After-set_head) (stamp : ℕ) → IsPlace c.args.block.now c.args.self.now c.args.chain stamp c.args.last (Some c.args.here)
    → Unlinked c.args.block.now c.free.new.self c.args.self.now (shrunk_at c.args.chain c.next-next.result c.latest_without-latest.result (record { tenant = c.self.inside.tenant; share = c.self.inside.share; used = c.self.inside.used; heads = c.self.inside.slots.heads; latest = c.self.inside.slots.latest; kept = c.self.inside.kept.kept })) c.args.chain (stored_node c.args.block.now c.args.here).version stamp None (next_beside c.args.block.now c.args.here)
first c stamp place =
    let positive = used_here c.args.block.now c.args.self.now c.args.chain stamp _ _ c.requires.chain.stands c.requires.chain.known place in
    subst (λ (h : Heads). Unlinked c.args.block.now c.free.new.self c.args.self.now (shrunk_at c.args.chain c.next-next.result c.latest_without-latest.result h) c.args.chain (stored_node c.args.block.now c.args.here).version stamp None (next_beside c.args.block.now c.args.here)) (sym c.self.view_is)
    (rw (c.free.ensures, c.next-next.ensures)
    (unlinked_first _ _ _ stamp _ _ c.requires.chain.stands c.requires.chain.known (there c.args.block.now c.args.self.now c.args.chain c.args.last c.args.here c.requires.place) (c.args.self.now.used - 1) (omega (arith, positive)) c.latest_without-latest.result c.latest_without-latest.ensures (subst (λ last. IsPlace c.args.block.now c.args.self.now c.args.chain stamp last (Some c.args.here)) c.in-None.is place)))

pub returns-in-None-clause-changed : goal.returns-in-None-clause-changed
returns-in-None-clause-changed c = rw (c.set_head.ensures, c.set_latest.ensures) (first c c.requires.place.0 c.requires.place.1).changed

pub returns-in-None-clause-removed : goal.returns-in-None-clause-removed
returns-in-None-clause-removed c = rw (c.set_head.ensures, c.set_latest.ensures, there c.args.block.now c.args.self.now c.args.chain c.args.last c.args.here c.requires.place) (first c c.requires.place.0 c.requires.place.1).removed

pub returns-in-None-clause-place : goal.returns-in-None-clause-place
returns-in-None-clause-place c stamp place = rw (c.set_head.ensures, c.set_latest.ensures, c.in-None.is) (first c stamp place).place

live : (c : goal.After-set_next) → IsSome (entry (set c.args.block.now c.args.here None) c.in-Some.last)
live c =
    let place : IsPlace c.args.block.now c.args.self.now c.args.chain c.requires.place.0 (Some c.in-Some.last) (Some c.args.here) = subst (λ last. IsPlace c.args.block.now c.args.self.now c.args.chain c.requires.place.0 last (Some c.args.here)) c.in-Some.is c.requires.place.1 in
    still_live _ _ _ _ _ _ c.requires.chain.stands c.requires.chain.known (there c.args.block.now c.args.self.now c.args.chain c.args.last c.args.here c.requires.place) _ place

pub returns-in-Some-clause-freed : goal.returns-in-Some-clause-freed
returns-in-Some-clause-freed c =
    rw (c.set_next.ensures, c.free.ensures) (freed_next c.args.block.now _ c.args.here c.in-Some.last c.next-next.result (live c) (freed_take c.args.block.now c.args.here (live_within _ _ _ (there c.args.block.now c.args.self.now c.args.chain c.args.last c.args.here c.requires.place))))

pub returns-in-None-clause-freed : goal.returns-in-None-clause-freed
returns-in-None-clause-freed c = rw c.free.ensures (freed_take c.args.block.now c.args.here (live_within _ _ _ (there c.args.block.now c.args.self.now c.args.chain c.args.last c.args.here c.requires.place)))
