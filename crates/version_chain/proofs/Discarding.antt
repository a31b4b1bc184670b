-- For `Chains::discard_each`, `discard_slot`, `discard` and `unlink`. The versions of a stamp that are not committed go, one slot after another.
use Rattle.std.proofs.Common.{◌≡◌, ◌≢◌, inl, inr, ℕ, zero, suc, ◌+◌, ◌<◌, ◌≤◌, ◌==◌, ◌&&◌, not, Bool, true, false, cond, List, [], ◌∷◌, ◌++◌, filter, length, set, get_or, count_by, Option, Some, None, IsSome, refl, sym, ap, subst, ◌∙◌, arith, append_assoc}
use Rattle.std.proofs.lemmas.Bool.{eq-eqb, eqb-true, cases_Bool, false_from_ne_true}
use Rattle.std.proofs.lemmas.List.{get_or-set_same, get_or-set_other}
use Rattle.version_arena.specs.Arena.{entry, next_beside, with_next as with_next_beside}
use Rattle.version_chain.specs.Node.{Node}
use Rattle.version_chain.specs.declared.version.Version.{Version}
use Rattle.version_chain.specs.declared.stamp_list.Kept.{Kept}
use Rattle.version_chain.specs.Heads.{Heads, head}
use Rattle.version_chain.specs.Chain.{Cells, IsPath, HoldsChains, OtherChainsKept, chain_versions, is_open_at, without_open}
use Rattle.version_chain.specs.Listed.{is_at_stamp, is_named, node_at, node_in, NodesStay, NoneCome, is_open_node, held_at, Lists}
use Rattle.version_chain.specs.Sharing.{ChangesOwn}
use Rattle.version_chain.specs.Changes.{GivesUp}
use Rattle.version_chain.specs.Discarded.{DropsOpen, FreesOnly}
use Rattle.version_chain.proofs.Changing.{gives_none, own_next, own_none}
use Rattle.version_chain.proofs.Dropping.{stays}
use Rattle.version_chain.proofs.Listing.{one_if, cons, both, first_of, lists_left, second_of}
use Rattle.version_chain.proofs.Places.{places, has_place}
use Rattle.version_chain.proofs.Replacing.{same_or_not}
use Rattle.version_chain.proofs.Slots.{placed}
use Rattle.version_chain.proofs.Writing.{live_within}

-- ---- what a cell holds

pub drops_none : (stamp : ℕ) (cells : Cells) (heads : Heads) → DropsOpen stamp cells heads cells heads
drops_none stamp cells heads = record { nodes = λ slot. inr refl; rest = λ place shut. refl; list = refl }

some_cell : (e : Option (Node × Option ℕ)) → IsSome e → (cell : Node × Option ℕ) × (e ≡ Some cell)
some_cell None live = absurd (let g : false ≡ true = live in cc)
some_cell (Some cell) live = (cell, refl)

within_live : (cells : Cells) (slot : ℕ) → IsSome (entry cells slot) → slot < length cells
within_live cells slot live = let at = some_cell (entry cells slot) live in live_within cells slot at.0 at.1

node_take : (cells : Cells) (here slot : ℕ) → slot ≢ here → node_in (set cells here None) slot ≡ node_in cells slot
node_take cells here slot other = ap node_at (get_or-set_other cells here slot None None other)

-- a version leaves its cell
pub freed_take : (cells : Cells) (here : ℕ) → here < length cells → FreesOnly cells (set cells here None) here
freed_take cells here within = record { free = ap node_at (get_or-set_same cells here None None within); rest = node_take cells here }

with_next_same : (e : Option (Node × Option ℕ)) (next : Option ℕ) → node_at (with_next_beside e next) ≡ node_at e
with_next_same None next = refl
with_next_same (Some cell) next = refl

node_next : (cells : Cells) (last : ℕ) (next : Option ℕ) → IsSome (entry cells last) → (slot : ℕ) → node_in (set cells last (with_next_beside (entry cells last) next)) slot ≡ node_in cells slot
node_next cells last next live slot =
    let changed = with_next_beside (entry cells last) next in
    elim (same_or_not slot last) [
      | inl same ↦ ap node_at (ap (entry (set cells last changed)) same ∙ get_or-set_same cells last changed None (within_live cells last live)) ∙ with_next_same (entry cells last) next ∙ ap (node_in cells) (sym same)
      | inr other ↦ ap node_at (get_or-set_other cells last slot changed None other)
    ]

-- and then the slot after another cell is written
pub freed_next : (old mid : Cells) (here last : ℕ) (next : Option ℕ) → IsSome (entry mid last) → FreesOnly old mid here → FreesOnly old (set mid last (with_next_beside (entry mid last) next)) here
freed_next old mid here last next live freed = record {
  free = node_next mid last next live here ∙ freed.free;
  rest = λ place other. node_next mid last next live place ∙ freed.rest place other;
}

pub freed_nodes : (old new : Cells) (here : ℕ) → FreesOnly old new here → NodesStay old new
freed_nodes old new here freed slot = elim (same_or_not slot here) [
  | inl same ↦ inl (ap (node_in new) same ∙ freed.free)
  | inr other ↦ inr (freed.rest slot other)
]

-- what a cell holds says whether it is of the tenant and stamp
abbrev pub at_node : ℕ → ℕ → Option Node → Bool
at_node tenant stamp None = false
at_node tenant stamp (Some node) = (node.tenant == tenant) && (node.version.prepared.stamp == stamp)

pub by_node : (tenant stamp : ℕ) (e : Option (Node × Option ℕ)) → is_at_stamp tenant stamp e ≡ at_node tenant stamp (node_at e)
by_node tenant stamp None = refl
by_node tenant stamp (Some cell) = refl

-- where cells of the tenant at most go, none comes
pub none_come : (old new : Cells) (tenant : ℕ) → NodesStay old new → NoneCome old new tenant
none_come old new tenant nodes slot stamp there = elim (nodes slot) [
  | inl none ↦ absurd (let g : false ≡ true = sym (by_node tenant stamp (entry new slot) ∙ ap (at_node tenant stamp) none) ∙ there in cc)
  | inr same ↦ by_node tenant stamp (entry old slot) ∙ ap (at_node tenant stamp) (sym same) ∙ sym (by_node tenant stamp (entry new slot)) ∙ there
]

-- a slot whose version does not go is none of those that hold one to go
pub other_place : (cells : Cells) (tenant stamp slot place : ℕ) (node : Node) → entry cells slot ≡ Some (node, next_beside cells slot) → node.tenant ≡ tenant → node.version.prepared.stamp ≡ stamp → node.version.committed ≡ false
    → is_open_node tenant stamp (node_in cells place) ≡ false → place ≡ slot → ⊥
other_place cells tenant stamp slot place node found own is unmarked shut same =
    let test : is_open_node tenant stamp (Some node) ≡ true = both (node.tenant == tenant) (is_open_at stamp node.version) (eq-eqb node.tenant tenant own) (both (node.version.prepared.stamp == stamp) (not node.version.committed) (eq-eqb node.version.prepared.stamp stamp is) (ap not unmarked)) in
    let open_too : is_open_node tenant stamp (node_in cells place) ≡ true = ap (λ n. is_open_node tenant stamp (node_in cells n)) same ∙ ap (λ e. is_open_node tenant stamp (node_at e)) found ∙ test in
    absurd (let g : false ≡ true = sym shut ∙ open_too in cc)

-- ---- lists without the open versions of a stamp

pub twice : (stamp : ℕ) (vs : List Version) → without_open stamp (without_open stamp vs) ≡ without_open stamp vs
twice stamp [] = refl
twice stamp (v ∷ vs) = by (twice stamp vs) (is_open_at stamp v) refl
  where
    by : without_open stamp (without_open stamp vs) ≡ without_open stamp vs → (b : Bool) → is_open_at stamp v ≡ b → without_open stamp (cond (not b) (v ∷ without_open stamp vs) (without_open stamp vs)) ≡ cond (not b) (v ∷ without_open stamp vs) (without_open stamp vs)
    by later true e = later
    by later false e = stays stamp v (without_open stamp vs) e later

none_left : (stamp : ℕ) (vs : List Version) → count_by (is_open_at stamp) (without_open stamp vs) ≡ 0
none_left stamp [] = refl
none_left stamp (v ∷ vs) = by (none_left stamp vs) (is_open_at stamp v) refl
  where
    by : count_by (is_open_at stamp) (without_open stamp vs) ≡ 0 → (b : Bool) → is_open_at stamp v ≡ b → count_by (is_open_at stamp) (cond (not b) (v ∷ without_open stamp vs) (without_open stamp vs)) ≡ 0
    by later true e = later
    by later false e = let one = ap one_if e in omega (arith, cons (is_open_at stamp) v (without_open stamp vs), one, later)

in_middle : (p : Version → Bool) (before after : List Version) (v : Version) → count_by p (before ++ v ∷ after) ≡ 0 → p v ≡ false
in_middle p [] after v none = false_from_ne_true (p v) (λ e. absurd (let one = ap one_if e in omega (arith, one, none, cons p v after)))
in_middle p (x ∷ before) after v none = in_middle p before after v (omega (arith, none, cons p x (before ++ v ∷ after)))

-- ---- one slot

its_cell : (e : Option (Node × Option ℕ)) (node : Node) → node_at e ≡ Some node → (next : Option ℕ) × (e ≡ Some (node, next))
its_cell None node is = absurd (let e : None ≡ Some node = is in cc)
its_cell (Some cell) node is = (cell.1, ap (λ n. Some (n, cell.1)) (or_else node is))
  where
    from : Option Node → Node → Node
    from None d = d
    from (Some n) d = n

    or_else : (node : Node) → Some cell.0 ≡ Some node → cell.0 ≡ node
    or_else node same = ap (λ o. from o node) same

and_none : (a b : Bool) → b ≡ false → (a && b) ≡ false
and_none true b e = e
and_none false b e = refl

-- the version of a slot is gone from its chain, if it was open
pub slot_gone : (old new : Cells) (before after : Heads) (stamp slot : ℕ) (node : Node) → HoldsChains new after → after.tenant ≡ before.tenant → NodesStay old new → node_in old slot ≡ Some node → node.tenant ≡ before.tenant
    → (vs : List Version) → chain_versions new after node.chain ≡ without_open stamp vs → is_open_node before.tenant stamp (node_in new slot) ≡ false
slot_gone old new before after stamp slot node stands whose nodes held own vs left = elim (nodes slot) [
  | inl none ↦ ap (is_open_node before.tenant stamp) none
  | inr same ↦
      let at = its_cell (entry new slot) node (same ∙ held) in
      let place = (placed new after stands slot node at.0 at.1 (own ∙ sym whose)).place in
      let ends = place.ends in
      let all : without_open stamp vs ≡ ends.0 ++ ends.1 ∷ place.below = sym left ∙ place.all ∙ ap (λ us. us ++ place.below) ends.2 ∙ append_assoc ends.0 (ends.1 ∷ []) place.below in
      let shut : is_open_at stamp ends.1 ≡ false = in_middle (is_open_at stamp) ends.0 place.below ends.1 (ap (count_by (is_open_at stamp)) (sym all) ∙ none_left stamp vs) in
      ap (is_open_node before.tenant stamp) (ap node_at ends.4) ∙ and_none (after.tenant == before.tenant) (is_open_at stamp ends.1) shut
]

-- where one chain lost them, each chain has the same others
pub each_left : (old new : Cells) (before after : Heads) (stamp chain : ℕ) → OtherChainsKept old before new after chain → chain_versions new after chain ≡ without_open stamp (chain_versions old before chain)
    → (other : ℕ) → other < length before.heads → without_open stamp (chain_versions new after other) ≡ without_open stamp (chain_versions old before other)
each_left old new before after stamp chain others here other known = elim (same_or_not other chain) [
  | inl same ↦
      let P : ℕ → Type 0 = λ k. without_open stamp (chain_versions new after k) ≡ without_open stamp (chain_versions old before k) in
      subst P (sym same) (ap (without_open stamp) here ∙ twice stamp (chain_versions old before chain))
  | inr different ↦ ap (without_open stamp) (others other known different)
]

-- ---- so many slots

pub record SoDropped (start now : Cells) (old chains : Heads) (stamp j dropped : ℕ) : Type 0 where
  pub own : ChangesOwn start now old chains
  pub stands : HoldsChains now chains
  pub named : Lists now chains
  pub list : chains.kept ≡ old.kept
  pub left : (chain : ℕ) → chain < length old.heads → without_open stamp (chain_versions now chains chain) ≡ without_open stamp (chain_versions start old chain)
  pub done : (i : ℕ) (k : Kept) → i < j → i < length (places old stamp) → k ≡ get_or (places old stamp) i k → is_open_node old.tenant stamp (node_in now k.slot) ≡ false
  pub still : (place : ℕ) → is_open_node old.tenant stamp (node_in start place) ≡ false → node_in now place ≡ node_in start place
  pub given_up : GivesUp dropped start old now chains

pub none_dropped : (start : Cells) (old : Heads) (stamp : ℕ) → HoldsChains start old → Lists start old → SoDropped start start old old stamp 0 0
none_dropped start old stamp stands named = record {
  own = own_none start old;
  stands = stands;
  named = named;
  list = refl;
  left = λ chain known. refl;
  done = λ i k less within is. absurd (omega (arith, less));
  still = λ place shut. refl;
  given_up = gives_none start old;
}

pub same_place : (ks : List Kept) (i : ℕ) (c d : Kept) → i < length ks → get_or ks i c ≡ get_or ks i d
same_place [] i c d within = absurd (omega arith)
same_place (k ∷ ks) zero c d within = refl
same_place (k ∷ ks) (suc i) c d within = same_place ks i c d (omega arith)

module _ (start now next : Cells) (old chains after : Heads) (stamp j dropped r : ℕ) (kept : Kept) (was : SoDropped start now old chains stamp j dropped) (within : j < length (places old stamp)) (is : kept ≡ get_or (places old stamp) j kept)
    (own : ChangesOwn now next chains after) (stands : HoldsChains next after)
    (left : (chain : ℕ) → chain < length chains.heads → without_open stamp (chain_versions next after chain) ≡ without_open stamp (chain_versions now chains chain))
    (gone : is_open_node chains.tenant stamp (node_in next kept.slot) ≡ false) (given_up : GivesUp r now chains next after) (dropping : DropsOpen stamp now chains next after) where
  pub one_dropped : SoDropped start next old after stamp (j + 1) (dropped + r)
  one_dropped = record {
    own = own_next start now next old chains after was.own own;
    stands = stands;
    named = lists_left now next chains after own.shape.tenant dropping.list (none_come now next chains.tenant dropping.nodes) was.named;
    list = dropping.list ∙ was.list;
    left = λ chain known. left chain (omega (arith, known, was.own.shape.long)) ∙ was.left chain known;
    done = λ i k less there at. elim (same_or_not i j) [
      | inl same ↦
          let this : k ≡ kept = at ∙ ap (λ n. get_or (places old stamp) n k) same ∙ same_place (places old stamp) j k kept within ∙ sym is in
          ap (λ (x : Kept). is_open_node old.tenant stamp (node_in next x.slot)) this ∙ ap (λ t. is_open_node t stamp (node_in next kept.slot)) (sym was.own.shape.tenant) ∙ gone
      | inr other ↦ elim (dropping.nodes k.slot) [
        | inl free ↦ ap (is_open_node old.tenant stamp) free
        | inr same ↦ ap (is_open_node old.tenant stamp) same ∙ was.done i k (let n = not_last i j less other in omega arith) there at
      ]
    ];
    still = λ place shut.
        let same = was.still place shut in
        dropping.rest place (ap (λ t. is_open_node t stamp (node_in now place)) was.own.shape.tenant ∙ ap (is_open_node old.tenant stamp) same ∙ shut) ∙ same;
    given_up = record {
      used = omega (arith, given_up.used, was.given_up.used);
      none = λ e.
          let here = given_up.none (omega (arith, e)) in
          let before = was.given_up.none (omega (arith, e)) in
          (here.0 ∙ before.0, here.1 ∙ before.1);
    };
  }
    where
      not_last : (i j : ℕ) → i < j + 1 → i ≢ j → i < j
      not_last i j less other = elim (same_or_not i j) [ inl same ↦ absurd (other same) | inr ne ↦ lower i j less ne ]
        where
          lower : (i j : ℕ) → i < j + 1 → i ≢ j → i < j
          lower zero zero less ne = absurd (ne refl)
          lower zero (suc j) less ne = omega arith
          lower (suc i) zero less ne = absurd (omega (arith, less))
          lower (suc i) (suc j) less ne = let n = lower i j (omega (arith, less)) (λ e. ne (ap suc e)) in omega (arith, n)

-- ---- all of them

pub places_of : (one other : Heads) (stamp : ℕ) → one.kept ≡ other.kept → places one stamp ≡ places other stamp
places_of one other stamp same = ap (λ (ks : List Kept). filter (λ (k : Kept). k.stamp == stamp) ks) same

pub found : (p : Kept → Bool) (ks : List Kept) → 0 < count_by p ks → (i : ℕ) × (k : Kept) × (i < length ks) × (k ≡ get_or ks i k) × (p k ≡ true)
found p [] more = absurd (omega arith)
found p (k ∷ ks) more = elim (cases_Bool (p k)) [
  | inl e ↦ (0, k, omega arith, refl, e)
  | inr e ↦
      let none = ap one_if e in
      let rest = found p ks (omega (arith, more, none, cons p k ks)) in
      (suc rest.0, rest.1, (let less = rest.2 in omega arith), rest.3, rest.4)
]

open_there : (tenant stamp : ℕ) (e : Option (Node × Option ℕ)) → is_open_node tenant stamp (node_at e) ≡ true → is_at_stamp tenant stamp e ≡ true
open_there tenant stamp None is = is
open_there tenant stamp (Some cell) is =
    both (cell.0.tenant == tenant) (cell.0.version.prepared.stamp == stamp) (first_of (cell.0.tenant == tenant) (is_open_at stamp cell.0.version) is) (first_of (cell.0.version.prepared.stamp == stamp) (not cell.0.version.committed) (second_of (cell.0.tenant == tenant) (is_open_at stamp cell.0.version) is))

shut_path : (cells : Cells) (tenant chain stamp : ℕ) → ((slot : ℕ) → is_open_node tenant stamp (node_in cells slot) ≡ false) → (from : Option ℕ) (vs : List Version) (to : Option ℕ) → IsPath cells tenant chain from vs to → without_open stamp vs ≡ vs
shut_path cells tenant chain stamp shut from [] to path = refl
shut_path cells tenant chain stamp shut from (v ∷ rest) to path =
    stays stamp v rest
    (ap (λ b. b && is_open_at stamp v) (sym (eq-eqb tenant tenant refl)) ∙ sym (ap (λ e. is_open_node tenant stamp (node_at e)) path.3) ∙ shut path.0)
    (shut_path cells tenant chain stamp shut path.1 rest to path.4)

module _ (start now : Cells) (old chains : Heads) (stamp j dropped : ℕ) (was : SoDropped start now old chains stamp j dropped) (end : length (places old stamp) ≤ j) where
  all_shut : (slot : ℕ) → is_open_node chains.tenant stamp (node_in now slot) ≡ false
  all_shut slot = false_from_ne_true (is_open_node chains.tenant stamp (node_in now slot)) (λ e.
      let there = open_there chains.tenant stamp (entry now slot) e in
      let at = found (λ (k : Kept). (k.slot == slot) && (k.stamp == stamp)) (places chains stamp) (has_place now chains was.stands was.named stamp slot there) in
      let same : at.1.slot ≡ slot = eqb-true at.1.slot slot (first_of (at.1.slot == slot) (at.1.stamp == stamp) at.4) in
      let P : List Kept → Type 0 = λ ks. (at.0 < length ks) × (at.1 ≡ get_or ks at.0 at.1) in
      let here : P (places old stamp) = subst P (places_of chains old stamp was.list) (at.2, at.3) in
      let shut = was.done at.0 at.1 (let less = here.0 in omega (arith, less, end)) here.0 here.1 in
      let still : is_open_node old.tenant stamp (node_in now at.1.slot) ≡ true = ap (λ n. is_open_node old.tenant stamp (node_in now n)) same ∙ ap (λ t. is_open_node t stamp (node_in now slot)) (sym was.own.shape.tenant) ∙ e in
      let clash : false ≡ true = sym shut ∙ still in
      absurd (let g : false ≡ true = clash in cc))

  pub all_dropped : (chain : ℕ) → chain < length old.heads → chain_versions now chains chain ≡ without_open stamp (chain_versions start old chain)
  all_dropped chain known =
      sym (shut_path now chains.tenant chain stamp all_shut (head chains chain) (chain_versions now chains chain) None (was.stands.chained chain (omega (arith, known, was.own.shape.long))))
      ∙ was.left chain known

-- ---- a slot that is held

module _ (cells : Cells) (tenant inside stamp slot : ℕ) (node : Node) (read : entry cells slot ≡ Some (node, next_beside cells slot)) (same : inside ≡ tenant) (named : is_named inside cells (held_at stamp slot) ≡ true) where
  pub held_own : node.tenant ≡ tenant
  held_own = eqb-true node.tenant inside (first_of (node.tenant == inside) (node.version.prepared.stamp == stamp) (ap (is_at_stamp inside stamp) (sym read) ∙ named)) ∙ same

pub held_known : (cells : Cells) (chains : Heads) (slot : ℕ) (node : Node) → HoldsChains cells chains → entry cells slot ≡ Some (node, next_beside cells slot) → node.tenant ≡ chains.tenant → node.chain < length chains.heads
held_known cells chains slot node stands read own = (placed cells chains stands slot node (next_beside cells slot) read own).known

-- a slot that is not
pub not_held : (cells : Cells) (tenant inside stamp slot : ℕ) → inside ≡ tenant → is_named inside cells (held_at stamp slot) ≡ false → is_open_node tenant stamp (node_in cells slot) ≡ false
not_held cells tenant inside stamp slot same none =
    ap (λ t. is_open_node t stamp (node_in cells slot)) (sym same)
    ∙ false_from_ne_true (is_open_node inside stamp (node_in cells slot)) (λ e. absurd (let g : false ≡ true = sym none ∙ open_there inside stamp (entry cells slot) e in cc))
