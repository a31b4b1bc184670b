-- For `Chains::unlink`. A version leaves a chain.
use Rattle.std.proofs.Common.{◌≡◌, ◌≢◌, ℕ, ◌+◌, ◌<◌, List, [], ◌∷◌, ◌++◌, length, set, Option, Some, None, IsSome, is_some, refl, sym, ap, subst, ◌∙◌, arith, append_assoc, length-set}
use Rattle.std.proofs.lemmas.List.{get_or-set_same, get_or-set_other}
use Rattle.version_arena.specs.Arena.{entry, next_beside, with_next as with_next_beside}
use Rattle.version_chain.specs.Node.{Node}
use Rattle.version_chain.specs.declared.version.Version.{Version}
use Rattle.version_chain.specs.Heads.{Heads, head}
use Rattle.version_chain.specs.Chain.{Cells, IsPath, FallsBelow, Falls, KeepsLatest, HoldsChains, chain_versions, cell_of, OthersKept}
use Rattle.version_chain.specs.Changes.{ChangesChain, HaveOneMore}
use Rattle.version_chain.specs.Place.{EndsAt, StartsBelow, IsPlace, KeepsLatestBut}
use Rattle.version_chain.proofs.Falling.{Falls-before, Falls-after, Falls-removed, length-inserted, each_less}
use Rattle.version_chain.proofs.Holding.{held_take, held_write, held_other, held_after}
use Rattle.version_chain.proofs.Latest.{HoldsBut, LatestKept, latest_less}
use Rattle.version_chain.proofs.Others.{none_of, kept-set, kept-then}
use Rattle.version_chain.proofs.Paths.{path-append}
use Rattle.version_chain.proofs.Replacing.{Replaced, with_used, Stands-replaced, versions-replaced, others-replaced}
use Rattle.version_chain.proofs.Walks.{Read, node_of, on_cell, read_cell, versions-used}
use Rattle.version_chain.proofs.Writing.{path-write, Avoids, avoids_chain, avoids_above, avoids_below, count-take, count-write, live_within, live-take, live-write}

-- what a read of the first cell below the stamp reports
pub read_here : (cells : Cells) (chains : Heads) (chain stamp : ℕ) (last here : Option ℕ) (slot : ℕ) (node : Node) (place : IsPlace cells chains chain stamp last here) → here ≡ Some slot → entry cells slot ≡ Some (node, next_beside cells slot)
    → Read cells chains.tenant chain slot place.below node
read_here cells chains chain stamp last here slot node place at found = read_cell cells chains.tenant chain slot place.below node (on_cell cells chains.tenant chain slot here place.below place.goes_on at) found

-- what a removal leaves
pub record Removed (old_cells new_cells : Cells) (old new : Heads) (chain : ℕ) (version : Version) (above below : List Version) (last next : Option ℕ) : Type 0 where
  pub changed : ChangesChain old_cells old new_cells new chain
  pub removed : HaveOneMore new_cells new old_cells old chain version
  pub left : chain_versions new_cells new chain ≡ above ++ below
  pub ends : EndsAt new_cells new.tenant chain (head new chain) above last next
  pub goes_on : IsPath new_cells new.tenant chain next below None

module _ (cells : Cells) (chains : Heads) (chain here : ℕ) (version : Version) (next : Option ℕ) (below : List Version) (stands : HoldsChains cells chains) (known : chain < length chains.heads)
    (held : entry cells here ≡ Some (record { tenant = chains.tenant; chain = chain; version = version }, next)) (goes_on : IsPath cells chains.tenant chain next below None)
    (left : ℕ) (fewer : left + 1 ≡ chains.used) (kept : Option ℕ) where
  abbrev node : Node
  node = record { tenant = chains.tenant; chain = chain; version = version }

  kept_take : OthersKept cells (set cells here None) chains.tenant
  kept_take = kept-set cells chains.tenant here None (live_within cells here _ held) (λ other different. ap (cell_of other) held ∙ none_of chains.tenant other node next refl different) (λ other different. refl)

  -- the latest versions then
  latest_left : (new_cells : Cells) (heads : List (Option ℕ)) (above : List Version) → chain_versions cells chains chain ≡ above ++ version ∷ below → ((other : ℕ) → HoldsBut cells new_cells here chains.tenant other) → KeepsLatest cells chains.tenant chain (above ++ below) kept
      → LatestKept cells new_cells chains (with_used chains left heads (set chains.latest chain kept)) chain (above ++ below)
  latest_left new_cells heads above all still but = record {
    long = length-set chains.latest chain kept;
    here = subst (λ k. KeepsLatest new_cells chains.tenant chain (above ++ below) k) (sym (get_or-set_same chains.latest chain kept None (omega (arith, known, stands.long))))
        (latest_less cells new_cells chains.tenant chain here above below version next kept (subst Falls all (stands.falling chain known)) (still chain) held but);
    others = λ other different. get_or-set_other chains.latest chain other kept None different;
    held = λ other different. held_other cells new_cells here chains.tenant chain other version next held different (still other);
  }

  pub removed_first : chain_versions cells chains chain ≡ version ∷ below → KeepsLatest cells chains.tenant chain below kept
      → Removed cells (set cells here None) chains (with_used chains left (set chains.heads chain next) (set chains.latest chain kept)) chain version [] below None next
  removed_first all but =
      let new : Heads = with_used chains left (set chains.heads chain next) (set chains.latest chain kept) in
      let new_cells : Cells = set cells here None in
      let falls : Falls (version ∷ below) = subst Falls all (stands.falling chain known) in
      let rest : IsPath new_cells chains.tenant chain next below None = path-write cells chains.tenant chain here node next None next below None held (avoids_below chains.tenant chain version.prepared.stamp version below (omega arith) falls) goes_on in
      let begins : head new chain ≡ next = get_or-set_same chains.heads chain next None known in
      let path : IsPath new_cells chains.tenant chain (head new chain) below None = subst (λ from. IsPath new_cells chains.tenant chain from below None) (sym begins) rest in
      let replaced : Replaced cells new_cells chains new chain below = record {
        shape = record { tenant = refl; share = refl; long = length-set chains.heads chain next };
        used = let more = ap length all in omega arith;
        fits = omega (arith, fewer, stands.fits);
        long = length-set cells here None;
        other_heads = λ other different. get_or-set_other chains.heads chain other next None different;
        other_paths = λ other different chained path. path-write cells chains.tenant other here node next None (head chains other) chained None held (avoids_chain chains.tenant chain other version chained different) path;
        path = path;
        falls = Falls-removed [] below version falls;
        counted = let more = ap length all in omega (arith, count-take cells chains.tenant here node next (live_within cells here _ held) held refl);
      } in
      let now = versions-replaced cells new_cells chains new chain below stands known replaced in
      record {
        changed = record {
          own = record { shape = replaced.shape; others = kept_take; live = let less = live-take cells here _ (live_within cells here _ held) held in omega (arith, less, fewer) };
          stands = Stands-replaced cells new_cells chains new chain below stands known replaced (latest_left new_cells (set chains.heads chain next) [] all (λ other. held_take cells here chains.tenant other) but);
          others = others-replaced cells new_cells chains new chain below stands known replaced;
        };
        removed = record { inserted = record { above = []; below = below; old_is = now; new_is = all }; used = sym fewer };
        left = now;
        ends = (refl, begins);
        goes_on = rest;
      }

  pub removed_after : (last : ℕ) (before : List Version) (above : Version) → chain_versions cells chains chain ≡ before ++ above ∷ version ∷ below → IsPath cells chains.tenant chain (head chains chain) before (Some last)
      → entry cells last ≡ Some (record { tenant = chains.tenant; chain = chain; version = above }, Some here) → KeepsLatest cells chains.tenant chain ((before ++ above ∷ []) ++ below) kept
      → Removed cells (set (set cells here None) last (with_next_beside (entry (set cells here None) last) next)) chains (with_used chains left chains.heads (set chains.latest chain kept)) chain version (before ++ above ∷ []) below (Some last) next
  removed_after last before above all first last_held but =
      let new : Heads = with_used chains left chains.heads (set chains.latest chain kept) in
      let whole : chain_versions cells chains chain ≡ (before ++ above ∷ []) ++ version ∷ below = all ∙ sym (append_assoc before (above ∷ []) (version ∷ below)) in
      let falls : Falls (before ++ above ∷ version ∷ below) = subst Falls all (stands.falling chain known) in
      let falls_here : Falls ((before ++ above ∷ []) ++ version ∷ below) = subst Falls whole (stands.falling chain known) in
      let less : version.prepared.stamp < above.prepared.stamp = (Falls-after before above (version ∷ below) falls).0 in
      let after : FallsBelow version.prepared.stamp below = Falls-after (before ++ above ∷ []) version below falls_here in
      let last_node : Node = record { tenant = chains.tenant; chain = chain; version = above } in
      let other : last ≢ here = λ same. absurd (let stamps = ap (λ n. n.version.prepared.stamp) (ap (λ e. node_of e node) (sym last_held ∙ ap (entry cells) same ∙ held)) in omega arith) in
      let cells1 : Cells = set cells here None in
      let new_cells : Cells = set cells1 last (Some (last_node, next)) in
      let kept1 : entry cells1 last ≡ Some (last_node, Some here) = get_or-set_other cells here last None None other ∙ last_held in
      let two : (tenant k : ℕ) (from : Option ℕ) (chained : List Version) (to : Option ℕ) → Avoids tenant k last_node chained → Avoids tenant k node chained → IsPath cells tenant k from chained to → IsPath new_cells tenant k from chained to =
      λ tenant k from chained to one another path. path-write cells1 tenant k last last_node (Some here) _ from chained to kept1 one (path-write cells tenant k here node next None from chained to held another path) in
      let first1 : IsPath new_cells chains.tenant chain (head chains chain) before (Some last) =
      two chains.tenant chain (head chains chain) before (Some last) (avoids_above chains.tenant chain above before (Falls-before before above (version ∷ below) falls)) (avoids_above chains.tenant chain version before (each_less above.prepared.stamp version.prepared.stamp before (Falls-before before above (version ∷ below) falls) less)) first in
      let rest : IsPath new_cells chains.tenant chain next below None =
      two chains.tenant chain next below None (avoids_below chains.tenant chain version.prepared.stamp above below (omega arith) after) (avoids_below chains.tenant chain version.prepared.stamp version below (omega arith) after) goes_on in
      let last_within : last < length cells1 = live_within cells1 last _ kept1 in
      let at_last : entry new_cells last ≡ Some (last_node, next) = get_or-set_same cells1 last _ None last_within in
      let through : IsPath new_cells chains.tenant chain (head chains chain) (before ++ above ∷ []) next = path-append new_cells chains.tenant chain (head chains chain) before (above ∷ []) (Some last) next first1 (last, next, refl, at_last, refl) in
      let path : IsPath new_cells chains.tenant chain (head chains chain) ((before ++ above ∷ []) ++ below) None = path-append new_cells chains.tenant chain (head chains chain) (before ++ above ∷ []) below next None through rest in
      let now : List Version = (before ++ above ∷ []) ++ below in
      let replaced : Replaced cells new_cells chains new chain now = record {
        shape = record { tenant = refl; share = refl; long = refl };
        used = let more = length-inserted (before ++ above ∷ []) below version in let long = ap length whole in omega arith;
        fits = omega (arith, fewer, stands.fits);
        long = length-set cells1 last _ ∙ length-set cells here None;
        other_heads = λ k different. refl;
        other_paths = λ k different chained path. two chains.tenant k (head chains k) chained None (avoids_chain chains.tenant chain k above chained different) (avoids_chain chains.tenant chain k version chained different) path;
        path = path;
        falls = Falls-removed (before ++ above ∷ []) below version falls_here;
        counted =
            let more = length-inserted (before ++ above ∷ []) below version in
            let long = ap length whole in
            omega (arith, count-write cells1 chains.tenant last last_node last_node (Some here) next last_within kept1 refl refl, count-take cells chains.tenant here node next (live_within cells here _ held) held refl);
      } in
      let is = versions-replaced cells new_cells chains new chain now stands known replaced in
      subst (λ cell. Removed cells (set cells1 last cell) chains new chain version (before ++ above ∷ []) below (Some last) next) (sym (ap (λ e. with_next_beside e next) kept1)) record {
        changed = record {
          own = record {
            shape = replaced.shape;
            others = kept-then cells cells1 new_cells chains.tenant kept_take (kept-set cells1 chains.tenant last _ last_within (λ other different. ap (cell_of other) kept1 ∙ none_of chains.tenant other last_node (Some here) refl different) (λ other different. none_of chains.tenant other last_node next refl different));
            live = (let same = live-write cells1 last _ (last_node, next) last_within kept1 in let one = live-take cells here _ (live_within cells here _ held) held in omega (arith, same, one, fewer));
          };
          stands = Stands-replaced cells new_cells chains new chain now stands known replaced (latest_left new_cells chains.heads (before ++ above ∷ []) whole
              (λ k. held_after cells cells1 new_cells here chains.tenant k (held_take cells here chains.tenant k) (held_write cells1 last chains.tenant chain above above (Some here) next chains.tenant k kept1 refl)) but);
          others = others-replaced cells new_cells chains new chain now stands known replaced;
        };
        removed = record { inserted = record { above = before ++ above ∷ []; below = below; old_is = is; new_is = whole }; used = sym fewer };
        left = is;
        ends = (before, above, refl, first1, at_last);
        goes_on = rest;
      }

-- what is left of a chain without a version
pub record Unlinked (old_cells new_cells : Cells) (old new : Heads) (chain : ℕ) (version : Version) (stamp : ℕ) (last next : Option ℕ) : Type 0 where
  pub changed : ChangesChain old_cells old new_cells new chain
  pub removed : HaveOneMore new_cells new old_cells old chain version
  pub place : IsPlace new_cells new chain stamp last next

starts_later : (stamp : ℕ) (version : Version) (below : List Version) → StartsBelow stamp (version ∷ below) → FallsBelow version.prepared.stamp below → StartsBelow stamp below
starts_later stamp version [] within falls = tt
starts_later stamp version (next ∷ below) within falls = omega (arith, within, falls.0)

module _ (cells : Cells) (chains : Heads) (chain stamp here : ℕ) (node : Node) (stands : HoldsChains cells chains) (known : chain < length chains.heads) (found : entry cells here ≡ Some (node, next_beside cells here))
    (left : ℕ) (fewer : left + 1 ≡ chains.used) (kept : Option ℕ) (but : KeepsLatestBut cells chains chain here kept) where
  abbrev next : Option ℕ
  next = next_beside cells here

  unlinked : (new_cells : Cells) (new : Heads) (last : Option ℕ) (place : IsPlace cells chains chain stamp last (Some here)) (below : List Version) → place.below ≡ node.version ∷ below
      → Removed cells new_cells chains new chain node.version place.above below last next → Unlinked cells new_cells chains new chain node.version stamp last next
  unlinked new_cells new last place below is removed =
      let whole : chain_versions cells chains chain ≡ place.above ++ node.version ∷ below = place.all ∙ ap (λ vs. place.above ++ vs) is in
      let falls : FallsBelow node.version.prepared.stamp below = Falls-after place.above node.version below (subst Falls whole (stands.falling chain known)) in
      record {
        changed = removed.changed;
        removed = removed.removed;
        place = record { above = place.above; below = below; all = removed.left; ends = removed.ends; goes_on = removed.goes_on; not_less = place.not_less; less = starts_later stamp node.version below (subst (StartsBelow stamp) is place.less) falls };
      }

  pub unlinked_first : (place : IsPlace cells chains chain stamp None (Some here)) → Unlinked cells (set cells here None) chains (with_used chains left (set chains.heads chain next) (set chains.latest chain kept)) chain node.version stamp None next
  unlinked_first place =
      let new : Heads = with_used chains left (set chains.heads chain next) (set chains.latest chain kept) in
      let read = read_here cells chains chain stamp None (Some here) here node place refl found in
      let held : entry cells here ≡ Some (record { tenant = chains.tenant; chain = chain; version = node.version }, next) = read.found ∙ ap (λ n. Some (n, next)) read.node_is in
      let none : place.above ≡ [] = place.ends.0 in
      let all : chain_versions cells chains chain ≡ node.version ∷ read.later = place.all ∙ ap (λ vs. vs ++ place.below) none ∙ read.is in
      unlinked (set cells here None) new None place read.later read.is
      (subst (λ vs. Removed cells (set cells here None) chains new chain node.version vs read.later None next) (sym none) (removed_first cells chains chain here node.version next read.later stands known held read.chained left fewer kept all
      (subst (λ vs. KeepsLatest cells chains.tenant chain (vs ++ read.later) kept) none (but stamp None place node.version read.later read.is))))

  pub unlinked_after : (last : ℕ) (place : IsPlace cells chains chain stamp (Some last) (Some here)) → Unlinked cells (set (set cells here None) last (with_next_beside (entry (set cells here None) last) next)) chains (with_used chains left chains.heads (set chains.latest chain kept)) chain node.version stamp (Some last) next
  unlinked_after last place =
      let new : Heads = with_used chains left chains.heads (set chains.latest chain kept) in
      let read = read_here cells chains chain stamp (Some last) (Some here) here node place refl found in
      let held : entry cells here ≡ Some (record { tenant = chains.tenant; chain = chain; version = node.version }, next) = read.found ∙ ap (λ n. Some (n, next)) read.node_is in
      let before : List Version = place.ends.0 in
      let above : Version = place.ends.1 in
      let all : chain_versions cells chains chain ≡ before ++ above ∷ node.version ∷ read.later = place.all ∙ ap (λ vs. vs ++ place.below) place.ends.2 ∙ ap (λ vs. (before ++ above ∷ []) ++ vs) read.is ∙ append_assoc before (above ∷ []) (node.version ∷ read.later) in
      let new_cells : Cells = set (set cells here None) last (with_next_beside (entry (set cells here None) last) next) in
      unlinked new_cells new (Some last) place read.later read.is
      (subst (λ vs. Removed cells new_cells chains new chain node.version vs read.later (Some last) next) (sym place.ends.2) (removed_after cells chains chain here node.version next read.later stands known held read.chained left fewer kept last before above all place.ends.3 place.ends.4
      (subst (λ vs. KeepsLatest cells chains.tenant chain (vs ++ read.later) kept) place.ends.2 (but stamp (Some last) place node.version read.later read.is))))

-- the cell before it stays live
module _ (cells : Cells) (chains : Heads) (chain stamp here : ℕ) (node : Node) (stands : HoldsChains cells chains) (known : chain < length chains.heads) (found : entry cells here ≡ Some (node, next_beside cells here)) where
  pub still_live : (last : ℕ) → IsPlace cells chains chain stamp (Some last) (Some here) → IsSome (entry (set cells here None) last)
  still_live last place =
      let read = read_here cells chains chain stamp (Some last) (Some here) here node place refl found in
      let held : entry cells here ≡ Some (record { tenant = chains.tenant; chain = chain; version = node.version }, next_beside cells here) = read.found ∙ ap (λ n. Some (n, next_beside cells here)) read.node_is in
      let before : List Version = place.ends.0 in
      let above : Version = place.ends.1 in
      let all : chain_versions cells chains chain ≡ before ++ above ∷ node.version ∷ read.later = place.all ∙ ap (λ vs. vs ++ place.below) place.ends.2 ∙ ap (λ vs. (before ++ above ∷ []) ++ vs) read.is ∙ append_assoc before (above ∷ []) (node.version ∷ read.later) in
      let less : node.version.prepared.stamp < above.prepared.stamp = (Falls-after before above (node.version ∷ read.later) (subst Falls all (stands.falling chain known))).0 in
      let other : last ≢ here = λ same. absurd (let stamps = ap (λ n. n.version.prepared.stamp) (ap (λ e. node_of e node) (sym place.ends.4 ∙ ap (entry cells) same ∙ held)) in omega arith) in
      ap is_some (get_or-set_other cells here last None None other ∙ place.ends.4)

-- a tenant with a version to remove uses a cell
pub used_here : (cells : Cells) (chains : Heads) (chain stamp : ℕ) (last : Option ℕ) (here : ℕ) → HoldsChains cells chains → chain < length chains.heads → IsPlace cells chains chain stamp last (Some here) → 0 < chains.used
used_here cells chains chain stamp last here stands known place =
    let on = on_cell cells chains.tenant chain here (Some here) place.below place.goes_on refl in
    let all = ap length (place.all ∙ ap (λ vs. place.above ++ vs) on.is) in
    omega (arith, versions-used cells chains chain stands known, length-inserted place.above on.later on.version)
