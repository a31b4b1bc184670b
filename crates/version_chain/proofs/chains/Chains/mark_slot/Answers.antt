use Rattle.std.proofs.Common.{◌≡◌, ◌<◌, ℕ, Bool, cond, List, get_or, Option, Some, None, set, length, sym, ap, subst, ◌∙◌, arith}
use Rattle.version_chain.specs.Heads.{Heads}
use Rattle.version_chain.specs.Listed.{chain_of, with_latest}
use Rattle.version_chain.proofs.MarkingListed.{MarkedSlot, marks, marks_slot, named_live}
use Rattle.version_chain.proofs.chains.Chains.mark_slot.Goals as goal
use Rattle.version_chain.proofs.chains.Chains.mark_slot.Goals.{After-chain-chain}

pub get-requires : goal.get-requires
get-requires c = named_live c.args.block.now c.args.self.now c.args.kept c.requires.named

known : (c : After-chain-chain) → c.chain-chain.result < length c.args.self.now.heads
known c = rw c.chain-chain.ensures (marks c.args.block.now c.args.self.now c.args.kept c.get.result c.requires.stands c.get.ensures c.requires.named).known

pub is_past-rises-requires : goal.is_past-rises-requires
is_past-rises-requires c = record { known = known (goal.at.is_past-rises-requires c).After-chain-chain; stands = c.requires.stands }

pub latest-requires : goal.latest-requires
latest-requires c = omega (arith, known (goal.at.latest-requires c).After-chain-chain, c.requires.stands.long, ap (λ (h : Heads). length h.latest) c.self.view_is)

pub set_latest-requires : goal.set_latest-requires
set_latest-requires c = omega (arith, known (goal.at.set_latest-requires c).After-chain-chain, c.requires.stands.long, ap (λ (h : Heads). length h.latest) c.self.view_is)

kept_is : (latest : List (Option ℕ)) (chain slot : ℕ) (rises : Bool) (read kept : Option ℕ) → read ≡ get_or latest chain None → kept ≡ cond rises (Some slot) read → kept ≡ cond rises (Some slot) (get_or latest chain None)
kept_is latest chain slot rises read kept is from = from ∙ ap (λ k. cond rises (Some slot) k) is

abbrev before : (c : goal.After-set_latest) → Heads
before c = record { tenant = c.self.inside.tenant; share = c.self.inside.share; used = c.self.inside.used; heads = c.self.inside.slots.heads; latest = c.self.inside.slots.latest; kept = c.self.inside.kept.kept }

abbrev now : (c : goal.After-set_latest) → Heads → Option ℕ → Heads
now c chains latest = with_latest chains (set chains.latest c.chain-chain.result latest)

after : (c : goal.After-set_latest) → MarkedSlot c.args.block.now c.mark.new.self c.args.self.now (now c (before c) c.latest_of-latest.result) c.args.kept c.chain-chain.result
after c =
    let old = c.args.block.now in
    let new = c.mark.new.self in
    let chains = c.args.self.now in
    let chain = c.chain-chain.result in
    let kept = kept_is chains.latest chain c.args.kept.slot c.is_past-rises.result c.latest.result c.latest_of-latest.result (rw (← c.self.view_is) c.latest.ensures) c.latest_of-latest.ensures in
    subst (λ (h : Heads). MarkedSlot old new chains (now c h c.latest_of-latest.result) c.args.kept chain) (sym c.self.view_is)
    (subst (λ k. MarkedSlot old new chains (now c chains k) c.args.kept chain) (sym kept)
    (marks_slot old new chains c.args.kept chain c.mark.ensures (c.chain-chain.ensures ∙ sym (ap chain_of c.get.ensures)) c.requires.stands c.requires.named c.is_past-rises.result c.is_past-rises.ensures))

pub returns : goal.returns
returns c = rw c.set_latest.ensures (record {
  known = (after c).known;
  place = (after c).place;
  places = (after c).places;
  changed = (after c).left.changed;
  only = record { rest = ap (λ (h : Heads). with_latest h (set c.self.inside.slots.latest c.chain-chain.result c.latest_of-latest.result)) c.self.view_is; stays = (after c).stays };
  marked = (after c).left.now;
  found = (after c).found;
})
