-- For `Chains::mark_slot`. A version is marked as committed.
use Rattle.std.proofs.Common.{◌≡◌, ◌≢◌, ℕ, ◌+◌, ◌<◌, ◌≤◌, ◌||◌, Bool, true, cond, List, [], ◌∷◌, ◌++◌, length, map, set, Option, Some, None, refl, sym, ap, subst, ◌∙◌, arith, length-set}
use Rattle.std.proofs.lemmas.Bool.{eq-eqb, ne_eqb}
use Rattle.std.proofs.lemmas.List.{get_or-set_same, get_or-set_other}
use Rattle.version_arena.specs.Arena.{entry, beside, next_beside}
use Rattle.version_chain.specs.Node.{Node}
use Rattle.version_chain.specs.declared.version.Version.{Version}
use Rattle.version_chain.specs.Heads.{Heads, head, latest_slot}
use Rattle.version_chain.specs.Changes.{ChangesChain}
use Rattle.version_chain.specs.Chain.{Cells, IsPath, FallsBelow, Falls, KeepsLatest, HoldsChains, chain_versions, at_stamp, marked_by, cell_of}
use Rattle.version_chain.specs.Listed.{with_latest}
use Rattle.version_chain.specs.Place.{IsPlace, is_past}
use Rattle.version_chain.proofs.Falling.{EachAbove, Falls-before, Falls-after, length-inserted}
use Rattle.version_chain.proofs.Finding.{last_is, whole}
use Rattle.version_chain.proofs.Holding.{held_write}
use Rattle.version_chain.proofs.Latest.{StillHolds, LatestKept, first_committed, latest_marked}
use Rattle.version_chain.proofs.Others.{none_of, kept-set}
use Rattle.version_chain.proofs.Paths.{path-append}
use Rattle.version_chain.proofs.Replacing.{Replaced, Stands-replaced, versions-replaced, others-replaced}
use Rattle.version_chain.proofs.Walks.{at_stamp-found, at_stamp-passed}
use Rattle.version_chain.proofs.Writing.{path-write, avoids_chain, avoids_above, avoids_below, count-write, live_within, live-write}

-- the version, committed
abbrev pub as_committed : Version → Version
as_committed version = record { prepared = version.prepared; committed = true }

marked-other : (stamp : ℕ) (version : Version) → version.prepared.stamp ≢ stamp → marked_by stamp version ≡ version
marked-other stamp version other = ap (λ (same : Bool). record { prepared = version.prepared; committed = same || version.committed }) (ne_eqb version.prepared.stamp stamp other)

marked-this : (stamp : ℕ) (version : Version) → version.prepared.stamp ≡ stamp → marked_by stamp version ≡ as_committed version
marked-this stamp version is = ap (λ (same : Bool). record { prepared = version.prepared; committed = same || version.committed }) (eq-eqb version.prepared.stamp stamp is)

marked-below : (bound stamp : ℕ) (below : List Version) → FallsBelow bound below → bound ≤ stamp → map (marked_by stamp) below ≡ below
marked-below bound stamp [] falls near = refl
marked-below bound stamp (version ∷ rest) falls near =
    let less = falls.0 in
    let first = marked-other stamp version (λ same. absurd (omega arith)) in
    let later = marked-below version.prepared.stamp stamp rest falls.1 (omega arith) in
    λ i. first i ∷ later i

marked-parts : (stamp : ℕ) (before : List Version) (version : Version) (below : List Version) → version.prepared.stamp ≡ stamp → EachAbove version.prepared.stamp before → FallsBelow version.prepared.stamp below
    → map (marked_by stamp) (before ++ version ∷ below) ≡ before ++ as_committed version ∷ below
marked-parts stamp [] version below is each falls =
    let first = marked-this stamp version is in
    let later = marked-below version.prepared.stamp stamp below falls (omega (arith, is)) in
    λ i. first i ∷ later i
marked-parts stamp (other ∷ before) version below is each falls =
    let more = each.0 in
    let first = marked-other stamp other (λ same. absurd (omega (arith, is))) in
    let later = marked-parts stamp before version below is each.1 falls in
    λ i. first i ∷ later i

-- where the chain lacks the stamp
pub marked-none : (stamp : ℕ) (versions : List Version) → at_stamp versions stamp ≡ None → map (marked_by stamp) versions ≡ versions
marked-none stamp [] missing = refl
marked-none stamp (version ∷ rest) missing =
    let other : version.prepared.stamp ≢ stamp = λ same. absurd (let there = at_stamp-found (version ∷ rest) rest version stamp refl same in cc) in
    let first = marked-other stamp version other in
    let later = marked-none stamp rest (sym (at_stamp-passed (version ∷ rest) rest version stamp refl other) ∙ missing) in
    λ i. first i ∷ later i

falls-committed : (bound : ℕ) (before : List Version) (version : Version) (below : List Version) → FallsBelow bound (before ++ version ∷ below) → FallsBelow bound (before ++ as_committed version ∷ below)
falls-committed bound [] version below falls = falls
falls-committed bound (first ∷ before) version below falls = (falls.0, falls-committed first.prepared.stamp before version below falls.1)

Falls-committed : (before : List Version) (version : Version) (below : List Version) → Falls (before ++ version ∷ below) → Falls (before ++ as_committed version ∷ below)
Falls-committed [] version below falls = falls
Falls-committed (first ∷ before) version below falls = falls-committed first.prepared.stamp before version below falls

-- what a mark leaves
pub record Marked (old_cells new_cells : Cells) (chains new : Heads) (chain stamp : ℕ) : Type 0 where
  pub changed : ChangesChain old_cells chains new_cells new chain
  pub now : chain_versions new_cells new chain ≡ map (marked_by stamp) (chain_versions old_cells chains chain)

module _ (cells : Cells) (chains : Heads) (chain stamp : ℕ) (here : Option ℕ) (slot : ℕ) (node : Node) (place : IsPlace cells chains chain stamp (Some slot) here) (read : entry cells slot ≡ Some (node, next_beside cells slot))
    (stands : HoldsChains cells chains) (known : chain < length chains.heads) (is : node.version.prepared.stamp ≡ stamp)
    (rises : Bool) (rises_is : rises ≡ is_past (first_committed (chain_versions cells chains chain)) stamp) where
  -- the same chains, beside the latest versions then
  abbrev marked_heads : Heads
  marked_heads = with_latest chains (set chains.latest chain (cond rises (Some slot) (latest_slot chains chain)))

  pub marked_at : Marked cells (set cells slot (Some (record { tenant = node.tenant; chain = node.chain; version = as_committed node.version }, next_beside cells slot))) chains marked_heads chain stamp
  marked_at =
      let last = last_is cells chains chain stamp here slot node place read in
      let all : chain_versions cells chains chain ≡ last.before ++ node.version ∷ place.below = whole cells chains chain stamp here slot node place read in
      let falls : Falls (last.before ++ node.version ∷ place.below) = subst Falls all (stands.falling chain known) in
      let each : EachAbove node.version.prepared.stamp last.before = Falls-before last.before node.version place.below falls in
      let later : FallsBelow node.version.prepared.stamp place.below = Falls-after last.before node.version place.below falls in
      let old : Node = record { tenant = chains.tenant; chain = chain; version = node.version } in
      let new : Node = record { tenant = chains.tenant; chain = chain; version = as_committed node.version } in
      let held : entry cells slot ≡ Some (old, here) = last.found ∙ ap (λ n. Some (n, here)) last.node_is in
      let within : slot < length cells = live_within cells slot _ held in
      let new_cells : Cells = set cells slot (Some (new, here)) in
      let now : List Version = last.before ++ as_committed node.version ∷ place.below in
      let first : IsPath new_cells chains.tenant chain (head chains chain) last.before (Some slot) = path-write cells chains.tenant chain slot old here _ (head chains chain) last.before (Some slot) held (avoids_above chains.tenant chain node.version last.before each) last.path in
      let rest : IsPath new_cells chains.tenant chain here place.below None = path-write cells chains.tenant chain slot old here _ here place.below None held (avoids_below chains.tenant chain node.version.prepared.stamp node.version place.below (omega arith) later) place.goes_on in
      let lengths = length-inserted last.before place.below node.version in
      let lengths_now = length-inserted last.before place.below (as_committed node.version) in
      let long = ap length all in
      let after : Heads = marked_heads in
      let replaced : Replaced cells new_cells chains after chain now = record {
        shape = record { tenant = refl; share = refl; long = refl };
        used = omega arith;
        fits = stands.fits;
        long = length-set cells slot _;
        other_heads = λ other different. refl;
        other_paths = λ other different chained path. path-write cells chains.tenant other slot old here _ (head chains other) chained None held (avoids_chain chains.tenant chain other node.version chained different) path;
        path = path-append new_cells chains.tenant chain (head chains chain) last.before (as_committed node.version ∷ place.below) (Some slot) None first (slot, here, refl, get_or-set_same cells slot _ None within, rest);
        falls = Falls-committed last.before node.version place.below falls;
        counted = omega (arith, count-write cells chains.tenant slot old new here here within held refl refl);
      } in
      let inside : chain < length chains.latest = omega (arith, known, stands.long) in
      let still : (other : ℕ) → StillHolds cells new_cells chains.tenant other = λ other. held_write cells slot chains.tenant chain node.version (as_committed node.version) here here chains.tenant other held refl in
      let keeps : KeepsLatest new_cells chains.tenant chain now (cond rises (Some slot) (latest_slot chains chain)) =
      latest_marked cells new_cells chains.tenant chain slot last.before place.below node.version here (latest_slot chains chain) falls (still chain) (as_committed node.version) refl refl (get_or-set_same cells slot _ None within)
      (subst (λ vs. KeepsLatest cells chains.tenant chain vs (latest_slot chains chain)) all (stands.latest chain known)) rises
      (rises_is ∙ ap (λ vs. is_past (first_committed vs) stamp) all ∙ ap (is_past (first_committed (last.before ++ node.version ∷ place.below))) (sym is)) in
      let latest : LatestKept cells new_cells chains after chain now = record {
        long = length-set chains.latest chain _;
        here = subst (λ k. KeepsLatest new_cells chains.tenant chain now k) (sym (get_or-set_same chains.latest chain _ None inside)) keeps;
        others = λ other different. get_or-set_other chains.latest chain other _ None different;
        held = λ other different. still other;
      } in
      let done : Marked cells new_cells chains after chain stamp = record {
        changed = record {
          own = record {
            shape = replaced.shape;
            others = kept-set cells chains.tenant slot _ within (λ other different. ap (cell_of other) held ∙ none_of chains.tenant other old here refl different) (λ other different. none_of chains.tenant other new here refl different);
            live = ap (λ n. n + chains.used) (live-write cells slot _ (new, here) within held);
          };
          stands = Stands-replaced cells new_cells chains after chain now stands known replaced latest;
          others = others-replaced cells new_cells chains after chain now stands known replaced;
        };
        now = versions-replaced cells new_cells chains after chain now stands known replaced ∙ sym (ap (map (marked_by stamp)) all ∙ marked-parts stamp last.before node.version place.below is each later);
      } in
      let node_now : new ≡ record { tenant = node.tenant; chain = node.chain; version = as_committed node.version } = sym (ap (λ n. record { tenant = n.tenant; chain = n.chain; version = as_committed node.version }) last.node_is) in
      let next : here ≡ next_beside cells slot = sym (ap beside last.found) in
      subst (λ cell. Marked cells (set cells slot cell) chains after chain stamp) (λ i. Some (node_now i, next i)) done
