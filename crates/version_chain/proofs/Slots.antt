-- For `Chains`: insert and mark_slot, and for the callers that go over the versions of a stamp. Each cell of the tenant
-- stands in one of its chains, once.
use Rattle.std.proofs.Common.{◌≡◌, inl, inr, ℕ, zero, suc, ◌+◌, ◌<◌, ◌≤◌, Bool, cond, List, [], ◌∷◌, ◌++◌, length, take, sum_by, Option, Some, None, refl, sym, ap, subst, ◌∙◌, arith, append_assoc}
use Rattle.std.proofs.lemmas.Bool.{eq-eqb}
use Rattle.std.proofs.lemmas.List.{take_all}
use Rattle.std.proofs.lemmas.List.Sums.{sum_by-cons, sum_by-append, sum_by_more}
use Rattle.version_arena.specs.Arena.{entry, beside}
use Rattle.version_chain.specs.Node.{Node}
use Rattle.version_chain.specs.declared.version.Version.{Version}
use Rattle.version_chain.specs.Heads.{Heads, head}
use Rattle.version_chain.specs.Chain.{Cells, IsPath, HoldsChains, Falls, FallsBelow, chain_versions, follow}
use Rattle.version_chain.specs.Place.{IsPlace, NoneBelow, StartsBelow}
use Rattle.version_chain.proofs.Falling.{EachAbove, Falls-before, Falls-after}
use Rattle.version_chain.proofs.Others.{ones}
use Rattle.version_chain.proofs.Paths.{NoneBelow-push}
use Rattle.version_chain.proofs.Picking.{Has, Lacks, Apart, EachLacks, lacks_append, apart_append, has_append, picked_at, is_picked, is_all}
use Rattle.version_chain.proofs.Walks.{node_of}
use Rattle.version_chain.proofs.Writing.{Avoids, avoids_chain, avoids_below}

module _ (cells : Cells) (tenant chain : ℕ) where
  -- the slots of a path
  abbrev pub slots : (from : Option ℕ) (chained : List Version) (to : Option ℕ) → IsPath cells tenant chain from chained to → List ℕ
  slots from [] to path = []
  slots from (version ∷ rest) to path = path.0 ∷ slots path.1 rest to path.4

  lacks_slot : (slot : ℕ) (node : Node) (next : Option ℕ) → entry cells slot ≡ Some (node, next) → (from : Option ℕ) (chained : List Version) (to : Option ℕ) (path : IsPath cells tenant chain from chained to) → Avoids tenant chain node chained → Lacks slot (slots from chained to path)
  lacks_slot slot node next held from [] to path avoids = tt
  lacks_slot slot node next held from (version ∷ rest) to path avoids =
      (λ same. avoids.0 (ap (λ e. node_of e node) (sym held ∙ ap (entry cells) (sym same) ∙ path.3)), lacks_slot slot node next held path.1 rest to path.4 avoids.1)

  apart_below : (bound : ℕ) (from : Option ℕ) (chained : List Version) (to : Option ℕ) (path : IsPath cells tenant chain from chained to) → FallsBelow bound chained → Apart (slots from chained to path)
  apart_below bound from [] to path falls = tt
  apart_below bound from (version ∷ rest) to path falls = (
    lacks_slot path.0 (record { tenant = tenant; chain = chain; version = version }) path.1 path.3 path.1 rest to path.4 (avoids_below tenant chain version.prepared.stamp version rest (omega arith) falls.1),
    apart_below version.prepared.stamp path.1 rest to path.4 falls.1,
  )

  apart_slots : (from : Option ℕ) (chained : List Version) (to : Option ℕ) (path : IsPath cells tenant chain from chained to) → Falls chained → Apart (slots from chained to path)
  apart_slots from [] to path falls = tt
  apart_slots from (version ∷ rest) to path falls = (
    lacks_slot path.0 (record { tenant = tenant; chain = chain; version = version }) path.1 path.3 path.1 rest to path.4 (avoids_below tenant chain version.prepared.stamp version rest (omega arith) falls),
    apart_below version.prepared.stamp path.1 rest to path.4 falls,
  )

  -- a sum over the slots of a path is one over its versions
  slots_sum : (f : Option (Node × Option ℕ) → ℕ) (g : Version → ℕ) → ((version : Version) (next : Option ℕ) → f (Some (record { tenant = tenant; chain = chain; version = version }, next)) ≡ g version)
      → (from : Option ℕ) (chained : List Version) (to : Option ℕ) (path : IsPath cells tenant chain from chained to) → sum_by (picked_at f None cells) (slots from chained to path) ≡ sum_by g chained
  slots_sum f g same from [] to path = refl
  slots_sum f g same from (version ∷ rest) to path =
      let here : picked_at f None cells path.0 ≡ g version = ap f path.3 ∙ same version path.1 in
      omega (arith, here, slots_sum f g same path.1 rest to path.4, sum_by-cons (picked_at f None cells) path.0 (slots path.1 rest to path.4), sum_by-cons g version rest)

  -- what stands before a slot of a path, and behind it
  pub record Split (slot : ℕ) (from : Option ℕ) (chained : List Version) : Type 0 where
    pub before : List Version
    pub version : Version
    pub below : List Version
    pub next : Option ℕ
    pub is : chained ≡ before ++ version ∷ below
    pub path : IsPath cells tenant chain from before (Some slot)
    pub held : entry cells slot ≡ Some (record { tenant = tenant; chain = chain; version = version }, next)
    pub goes_on : IsPath cells tenant chain next below None

  split : (slot : ℕ) (from : Option ℕ) (chained : List Version) (path : IsPath cells tenant chain from chained None) → Has slot (slots from chained None path) → Split slot from chained
  split slot from [] path has = absurd has
  split slot from (version ∷ rest) path (inl same) = record {
    before = [];
    version = version;
    below = rest;
    next = path.1;
    is = refl;
    path = path.2 ∙ ap Some same;
    held = ap (entry cells) (sym same) ∙ path.3;
    goes_on = path.4;
  }
  split slot from (version ∷ rest) path (inr has) =
      let later = split slot path.1 rest path.4 has in record {
        before = version ∷ later.before;
        version = later.version;
        below = later.below;
        next = later.next;
        is = ap (λ vs. version ∷ vs) later.is;
        path = (path.0, path.1, path.2, path.3, later.path);
        held = later.held;
        goes_on = later.goes_on;
      }

below_it : (n most : ℕ) → suc n ≤ most → n < most
below_it n most within = omega arith

before_it : (n most : ℕ) → suc n ≤ most → n ≤ most
before_it n most within = omega arith

whole : (n : ℕ) → n ≤ n
whole n = omega arith

ones_sum : (chained : List Version) → sum_by (λ (v : Version). 1) chained ≡ length chained
ones_sum [] = refl
ones_sum (version ∷ rest) = omega (arith, ones_sum rest, sum_by-cons (λ (v : Version). 1) version rest)

none_below : (stamp : ℕ) (before : List Version) → EachAbove stamp before → NoneBelow stamp before
none_below stamp [] each = tt
none_below stamp (version ∷ before) each = (omega (arith, each.0), none_below stamp before each.1)

starts_below : (stamp : ℕ) (below : List Version) → FallsBelow stamp below → StartsBelow stamp below
starts_below stamp [] falls = tt
starts_below stamp (version ∷ below) falls = falls.0

one_of : (tenant : ℕ) (node : Node) (next : Option ℕ) → node.tenant ≡ tenant → ones tenant (Some (node, next)) ≡ 1
one_of tenant node next whose = ap (λ (b : Bool). cond b 1 0) (eq-eqb node.tenant tenant whose)

-- where a version of the tenant stands
pub record Placed (cells : Cells) (chains : Heads) (slot : ℕ) (node : Node) (next : Option ℕ) : Type 0 where
  pub known : node.chain < length chains.heads
  pub place : IsPlace cells chains node.chain node.version.prepared.stamp (Some slot) next

module _ (cells : Cells) (chains : Heads) (stands : HoldsChains cells chains) where
  abbrev chain_slots : (chain : ℕ) → chain < length chains.heads → List ℕ
  chain_slots chain known = slots cells chains.tenant chain (head chains chain) (chain_versions cells chains chain) None (stands.chained chain known)

  -- the slots of the first chains
  abbrev up_to : (n : ℕ) → n ≤ length chains.heads → List ℕ
  up_to zero within = []
  up_to (suc n) within = chain_slots n (below_it n (length chains.heads) within) ++ up_to n (before_it n (length chains.heads) within)

  lacks_up_to : (chain slot : ℕ) (version : Version) (next : Option ℕ) → entry cells slot ≡ Some (record { tenant = chains.tenant; chain = chain; version = version }, next) → (n : ℕ) (within : n ≤ length chains.heads) → n ≤ chain → Lacks slot (up_to n within)
  lacks_up_to chain slot version next held zero within less = tt
  lacks_up_to chain slot version next held (suc n) within less =
      lacks_append slot (chain_slots n (below_it n (length chains.heads) within)) (up_to n (before_it n (length chains.heads) within))
      (lacks_slot cells chains.tenant n slot (record { tenant = chains.tenant; chain = chain; version = version }) next held (head chains n) (chain_versions cells chains n) None (stands.chained n (below_it n (length chains.heads) within)) (avoids_chain chains.tenant chain n version (chain_versions cells chains n) (λ same. absurd (omega arith))))
      (lacks_up_to chain slot version next held n (before_it n (length chains.heads) within) (omega arith))

  each_lacks : (chain : ℕ) (within : chain ≤ length chains.heads) (from : Option ℕ) (chained : List Version) (to : Option ℕ) (path : IsPath cells chains.tenant chain from chained to) → EachLacks (slots cells chains.tenant chain from chained to path) (up_to chain within)
  each_lacks chain within from [] to path = tt
  each_lacks chain within from (version ∷ rest) to path =
      (lacks_up_to chain path.0 version path.1 path.3 chain within (omega arith), each_lacks chain within path.1 rest to path.4)

  apart_up_to : (n : ℕ) (within : n ≤ length chains.heads) → Apart (up_to n within)
  apart_up_to zero within = tt
  apart_up_to (suc n) within =
      let known = below_it n (length chains.heads) within in
      let rest = before_it n (length chains.heads) within in
      apart_append (chain_slots n known) (up_to n rest)
      (apart_slots cells chains.tenant n (head chains n) (chain_versions cells chains n) None (stands.chained n known) (stands.falling n known))
      (apart_up_to n rest)
      (each_lacks n rest (head chains n) (chain_versions cells chains n) None (stands.chained n known))

  -- a sum over these slots is one over the chains
  module _ (f : Option (Node × Option ℕ) → ℕ) (g : Version → ℕ) (same : (chain : ℕ) (version : Version) (next : Option ℕ) → f (Some (record { tenant = chains.tenant; chain = chain; version = version }, next)) ≡ g version) where
    abbrev of_chain : Option ℕ → ℕ
    of_chain from = sum_by g (follow cells (length cells) from)

    sum_up_to : (n : ℕ) (within : n ≤ length chains.heads) → sum_by (picked_at f None cells) (up_to n within) ≡ sum_by of_chain (take n chains.heads)
    sum_up_to zero within = refl
    sum_up_to (suc n) within =
        let known = below_it n (length chains.heads) within in
        let rest = before_it n (length chains.heads) within in
        let one : n + 1 ≡ suc n = omega arith in
        let more = sum_by_more of_chain chains.heads n None known in
        let long = ap (λ k. sum_by of_chain (take k chains.heads)) one in
        omega (
          arith,
          sum_by-append (picked_at f None cells) (chain_slots n known) (up_to n rest),
          slots_sum cells chains.tenant n f g (same n) (head chains n) (chain_versions cells chains n) None (stands.chained n known),
          sum_up_to n rest,
          more,
          long,
        )

    sum_of_all : sum_by (picked_at f None cells) (up_to (length chains.heads) (whole (length chains.heads))) ≡ sum_by of_chain chains.heads
    sum_of_all = sum_up_to (length chains.heads) (whole (length chains.heads)) ∙ ap (sum_by of_chain) (take_all (length chains.heads) chains.heads (whole (length chains.heads)))

  abbrev all_slots : List ℕ
  all_slots = up_to (length chains.heads) (whole (length chains.heads))

  lengths : (heads : List (Option ℕ)) → sum_by (λ from. sum_by (λ (v : Version). 1) (follow cells (length cells) from)) heads ≡ sum_by (λ from. length (follow cells (length cells) from)) heads
  lengths [] = refl
  lengths (from ∷ heads) =
      omega (arith, sum_by-cons (λ from. sum_by (λ (v : Version). 1) (follow cells (length cells) from)) from heads, sum_by-cons (λ from. length (follow cells (length cells) from)) from heads, ones_sum (follow cells (length cells) from), lengths heads)

  -- all cells of the tenant are among them
  all_there : (slot : ℕ) → 0 < ones chains.tenant (entry cells slot) → Has slot all_slots
  all_there slot whose =
      is_picked (ones chains.tenant) None refl slot all_slots cells (apart_up_to (length chains.heads) (whole (length chains.heads)))
      (sum_of_all (ones chains.tenant) (λ v. 1) (λ chain version next. one_of chains.tenant (record { tenant = chains.tenant; chain = chain; version = version }) next refl)
      ∙ lengths chains.heads ∙ sym stands.counted ∙ sym stands.owned)
      whose

  its_chain : (slot n : ℕ) (within : n ≤ length chains.heads) → Has slot (up_to n within) → (chain : ℕ) × (known : chain < length chains.heads) × Has slot (chain_slots chain known)
  its_chain slot zero within has = absurd has
  its_chain slot (suc n) within has =
      elim (has_append slot (chain_slots n (below_it n (length chains.heads) within)) (up_to n (before_it n (length chains.heads) within)) has) [
        | inl here ↦ (n, below_it n (length chains.heads) within, here)
        | inr there ↦ its_chain slot n (before_it n (length chains.heads) within) there
      ]

  module _ (slot : ℕ) (node : Node) (next : Option ℕ) (held : entry cells slot ≡ Some (node, next)) (whose : node.tenant ≡ chains.tenant) where
    -- a version of the tenant stands in its chain
    pub placed : Placed cells chains slot node next
    placed =
        let one = ap (ones chains.tenant) held ∙ one_of chains.tenant node next whose in
        let has = its_chain slot (length chains.heads) (whole (length chains.heads)) (all_there slot (omega (arith, one))) in
        let at = split cells chains.tenant has.0 slot (head chains has.0) (chain_versions cells chains has.0) (stands.chained has.0 has.1) has.2 in
        let cell = sym at.held ∙ held in
        let number : has.0 ≡ node.chain = ap (λ e. (node_of e node).chain) cell in
        let version : at.version ≡ node.version = ap (λ e. (node_of e node).version) cell in
        let after : at.next ≡ next = ap beside cell in
        let falls : Falls (at.before ++ at.version ∷ at.below) = subst Falls at.is (stands.falling has.0 has.1) in
        let each = Falls-before at.before at.version at.below falls in
        let later = Falls-after at.before at.version at.below falls in
        let P : ℕ → Version → Option ℕ → Type 0 = λ chain v after. (chain < length chains.heads) × IsPlace cells chains chain v.prepared.stamp (Some slot) after in
        let there : P has.0 at.version at.next = (
          has.1,
          record {
            above = at.before ++ at.version ∷ [];
            below = at.below;
            all = at.is ∙ sym (append_assoc at.before (at.version ∷ []) at.below);
            ends = (at.before, at.version, refl, at.path, at.held);
            goes_on = at.goes_on;
            not_less = NoneBelow-push at.version.prepared.stamp at.before at.version (none_below at.version.prepared.stamp at.before each) (omega arith);
            less = starts_below at.version.prepared.stamp at.below later;
          },
        ) in
        let here : P node.chain node.version next = subst (λ c. P c node.version next) number (subst (λ v. P has.0 v next) version (subst (λ o. P has.0 at.version o) after there)) in
        record { known = here.0; place = here.1 }

  -- sums over the tenant's cells are sums over its chains
  pub summed : (f : Option (Node × Option ℕ) → ℕ) (g : Version → ℕ) → f None ≡ 0 → ((chain : ℕ) (version : Version) (next : Option ℕ) → f (Some (record { tenant = chains.tenant; chain = chain; version = version }, next)) ≡ g version)
      → ((e : Option (Node × Option ℕ)) → 0 < f e → 0 < ones chains.tenant e) → sum_by f cells ≡ sum_by (λ from. sum_by g (follow cells (length cells) from)) chains.heads
  summed f g none same own =
      sym (is_all f None none all_slots cells (apart_up_to (length chains.heads) (whole (length chains.heads))) (λ slot counts. all_there slot (own (entry cells slot) counts)))
      ∙ sum_of_all f g same
