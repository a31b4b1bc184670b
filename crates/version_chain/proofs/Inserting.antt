-- For `Chains::link`. A version goes into a chain.
use Rattle.std.proofs.Common.{◌≡◌, ◌≢◌, ℕ, ◌+◌, ◌<◌, ◌==◌, ◌&&◌, ◌⊎◌, inl, inr, Bool, cond, List, [], ◌∷◌, ◌++◌, length, set, Option, Some, None, refl, sym, ap, subst, ◌∙◌, arith, append_assoc, length-set}
use Rattle.std.proofs.lemmas.Bool.{eq-eqb, cases_lt}
use Rattle.std.proofs.lemmas.List.{get_or-set_same, get_or-set_other, set_past}
use Rattle.version_arena.specs.Arena.{entry, with_next as with_next_beside}
use Rattle.version_chain.specs.Node.{Node}
use Rattle.version_chain.specs.declared.version.Version.{Version}
use Rattle.version_chain.specs.Heads.{Heads, head, latest_slot}
use Rattle.version_chain.specs.Chain.{Cells, IsPath, Falls, KeepsLatest, HoldsChains, chain_versions, at_stamp, cell_of, OthersKept}
use Rattle.version_chain.specs.Changes.{ChangesChain, HaveOneMore}
use Rattle.version_chain.specs.Listed.{is_at_stamp, IsPutAt}
use Rattle.version_chain.specs.Place.{NoneBelow, IsPlace, is_past}
use Rattle.version_chain.proofs.Falling.{EachAbove, Falls-before, Falls-after, Falls-inserted, length-inserted, above_missing}
use Rattle.version_chain.proofs.Holding.{held_put, held_write, held_then}
use Rattle.version_chain.proofs.Latest.{StillHolds, LatestKept, first_committed, latest_more}
use Rattle.version_chain.proofs.Others.{none_of, kept-set, kept-then}
use Rattle.version_chain.proofs.Paths.{path-append}
use Rattle.version_chain.proofs.Replacing.{same_or_not, Replaced, with_used, Stands-replaced, versions-replaced, others-replaced}
use Rattle.version_chain.proofs.Writing.{path-put, path-write, avoids_chain, avoids_above, avoids_below, count-put, count-write, live_within, live-put, live-write}

-- one cell more is live, and one more is used
grown : (live old used : ℕ) → live ≡ old + 1 → live + used ≡ old + (used + 1)
grown live old used more = omega arith

-- what an insert leaves
pub record Inserted (old_cells new_cells : Cells) (old new : Heads) (chain : ℕ) (version : Version) : Type 0 where
  pub changed : ChangesChain old_cells old new_cells new chain
  pub added : HaveOneMore old_cells old new_cells new chain version

module _ (cells : Cells) (chains : Heads) (chain slot : ℕ) (version : Version) (here : Option ℕ) (stands : HoldsChains cells chains) (known : chain < length chains.heads) (within : slot < length cells) (free : entry cells slot ≡ None)
    (room : chains.used < chains.share) (missing : at_stamp (chain_versions cells chains chain) version.prepared.stamp ≡ None)
    (rises : Bool) (rises_is : rises ≡ (version.committed && is_past (first_committed (chain_versions cells chains chain)) version.prepared.stamp)) where
  abbrev put_cells : Cells
  put_cells = set cells slot (Some (record { tenant = chains.tenant; chain = chain; version = version }, here))

  above_it : (above below : List Version) → chain_versions cells chains chain ≡ above ++ below → NoneBelow version.prepared.stamp above → EachAbove version.prepared.stamp above
  above_it above below all none = above_missing above below version.prepared.stamp none (ap (λ vs. at_stamp vs version.prepared.stamp) (sym all) ∙ missing)

  kept_put : OthersKept cells put_cells chains.tenant
  kept_put = kept-set cells chains.tenant slot _ within (λ other different. ap (cell_of other) free) (λ other different. none_of chains.tenant other (record { tenant = chains.tenant; chain = chain; version = version }) here refl different)

  -- the latest versions then
  abbrev latest_then : List (Option ℕ)
  latest_then = set chains.latest chain (cond rises (Some slot) (latest_slot chains chain))

  latest_put : (new_cells : Cells) (heads : List (Option ℕ)) (above below : List Version) (next : Option ℕ) → chain_versions cells chains chain ≡ above ++ below → Falls (above ++ version ∷ below) → ((other : ℕ) → StillHolds cells new_cells chains.tenant other)
      → entry new_cells slot ≡ Some (record { tenant = chains.tenant; chain = chain; version = version }, next) → LatestKept cells new_cells chains (with_used chains (chains.used + 1) heads latest_then) chain (above ++ version ∷ below)
  latest_put new_cells heads above below next all falls held there =
      let inside : chain < length chains.latest = omega (arith, known, stands.long) in
      let keeps = subst (λ vs. KeepsLatest cells chains.tenant chain vs (latest_slot chains chain)) all (stands.latest chain known) in
      let is = rises_is ∙ ap (λ vs. version.committed && is_past (first_committed vs) version.prepared.stamp) all in
      record {
        long = length-set chains.latest chain _;
        here = subst (λ k. KeepsLatest new_cells chains.tenant chain (above ++ version ∷ below) k) (sym (get_or-set_same chains.latest chain _ None inside))
            (latest_more cells new_cells chains.tenant chain slot above below version next (latest_slot chains chain) falls (held chain) there keeps rises is);
        others = λ other different. get_or-set_other chains.latest chain other _ None different;
        held = λ other different. held other;
      }

  -- where the chain begins with it
  pub inserted_first : (place : IsPlace cells chains chain version.prepared.stamp None here) → Inserted cells put_cells chains (with_used chains (chains.used + 1) (set chains.heads chain (Some slot)) latest_then) chain version
  inserted_first place =
      let new : Heads = with_used chains (chains.used + 1) (set chains.heads chain (Some slot)) latest_then in
      let now : List Version = version ∷ place.below in
      let all : chain_versions cells chains chain ≡ place.below = place.all ∙ ap (λ vs. vs ++ place.below) place.ends.0 in
      let falls : Falls place.below = subst Falls all (stands.falling chain known) in
      let replaced : Replaced cells put_cells chains new chain now = record {
        shape = record { tenant = refl; share = refl; long = length-set chains.heads chain (Some slot) };
        long = length-set cells slot _;
        used = let more = ap length all in omega arith;
        fits = omega (arith, room);
        other_heads = λ other different. get_or-set_other chains.heads chain other (Some slot) None different;
        other_paths = λ other different chained path. path-put cells chains.tenant other slot _ (head chains other) chained None free path;
        path = (slot, here, get_or-set_same chains.heads chain (Some slot) None known, get_or-set_same cells slot _ None within, path-put cells chains.tenant chain slot _ here place.below None free place.goes_on);
        falls = Falls-inserted [] place.below version falls tt place.less;
        counted = let more = ap length all in omega (arith, count-put cells chains.tenant slot (record { tenant = chains.tenant; chain = chain; version = version }) here within free refl);
      } in
      record {
        changed = record {
          own = record { shape = replaced.shape; others = kept_put; live = grown _ _ chains.used (live-put cells slot _ within free) };
          stands = Stands-replaced cells put_cells chains new chain now stands known replaced (latest_put put_cells (set chains.heads chain (Some slot)) [] place.below here all replaced.falls (λ other. held_put cells slot _ chains.tenant other free) (get_or-set_same cells slot _ None within));
          others = others-replaced cells put_cells chains new chain now stands known replaced;
        };
        added = record { inserted = record { above = []; below = place.below; old_is = all; new_is = versions-replaced cells put_cells chains new chain now stands known replaced }; used = refl };
      }

  -- where it stands after the cell at `last`
  pub inserted_after : (last : ℕ) (place : IsPlace cells chains chain version.prepared.stamp (Some last) here)
      → Inserted cells (set put_cells last (with_next_beside (entry put_cells last) (Some slot))) chains (with_used chains (chains.used + 1) chains.heads latest_then) chain version
  inserted_after last place =
      let new : Heads = with_used chains (chains.used + 1) chains.heads latest_then in
      let before : List Version = place.ends.0 in
      let above : Version = place.ends.1 in
      let node : Node = record { tenant = chains.tenant; chain = chain; version = above } in
      let held : entry cells last ≡ Some (node, here) = place.ends.4 in
      let other : last ≢ slot = λ same. absurd (let there = ap (entry cells) same in cc) in
      let still : entry put_cells last ≡ Some (node, here) = get_or-set_other cells slot last _ None other ∙ held in
      let new_cells : Cells = set put_cells last (Some (node, Some slot)) in
      let now : List Version = place.above ++ version ∷ place.below in
      let parts : chain_versions cells chains chain ≡ before ++ above ∷ place.below = place.all ∙ ap (λ vs. vs ++ place.below) place.ends.2 ∙ append_assoc before (above ∷ []) place.below in
      let falls : Falls (before ++ above ∷ place.below) = subst Falls parts (stands.falling chain known) in
      let first : IsPath new_cells chains.tenant chain (head chains chain) before (Some last) =
      path-write put_cells chains.tenant chain last node here _ (head chains chain) before (Some last) still (avoids_above chains.tenant chain above before (Falls-before before above place.below falls)) (path-put cells chains.tenant chain slot _ (head chains chain) before (Some last) free place.ends.3) in
      let rest : IsPath new_cells chains.tenant chain here place.below None =
      path-write put_cells chains.tenant chain last node here _ here place.below None still (avoids_below chains.tenant chain above.prepared.stamp above place.below (omega arith) (Falls-after before above place.below falls)) (path-put cells chains.tenant chain slot _ here place.below None free place.goes_on) in
      let last_within : last < length put_cells = live_within put_cells last _ still in
      let at_last : entry new_cells last ≡ Some (node, Some slot) = get_or-set_same put_cells last _ None last_within in
      let at_slot : entry new_cells slot ≡ Some (record { tenant = chains.tenant; chain = chain; version = version }, here) =
      get_or-set_other put_cells last slot _ None (λ same. other (sym same)) ∙ get_or-set_same cells slot _ None within in
      let through : IsPath new_cells chains.tenant chain (head chains chain) (before ++ above ∷ []) (Some slot) = path-append new_cells chains.tenant chain (head chains chain) before (above ∷ []) (Some last) (Some slot) first (last, Some slot, refl, at_last, refl) in
      let path : IsPath new_cells chains.tenant chain (head chains chain) now None =
      subst (λ vs. IsPath new_cells chains.tenant chain (head chains chain) (vs ++ version ∷ place.below) None) (sym place.ends.2) (path-append new_cells chains.tenant chain (head chains chain) (before ++ above ∷ []) (version ∷ place.below) (Some slot) None through (slot, here, refl, at_slot, rest)) in
      let replaced : Replaced cells new_cells chains new chain now = record {
        shape = record { tenant = refl; share = refl; long = refl };
        used = let more = length-inserted place.above place.below version in let all = ap length place.all in omega arith;
        fits = omega (arith, room);
        long = length-set put_cells last _ ∙ length-set cells slot _;
        other_heads = λ other different. refl;
        other_paths = λ other different chained path. path-write put_cells chains.tenant other last node here _ (head chains other) chained None still (avoids_chain chains.tenant chain other above chained different) (path-put cells chains.tenant other slot _ (head chains other) chained None free path);
        path = path;
        falls = Falls-inserted place.above place.below version (subst Falls place.all (stands.falling chain known)) (above_it place.above place.below place.all place.not_less) place.less;
        counted =
            let more = length-inserted place.above place.below version in
            let all = ap length place.all in
            omega (arith, count-write put_cells chains.tenant last node node here (Some slot) last_within still refl refl, count-put cells chains.tenant slot (record { tenant = chains.tenant; chain = chain; version = version }) here within free refl);
      } in
      subst (λ cell. Inserted cells (set put_cells last cell) chains new chain version) (sym (ap (λ e. with_next_beside e (Some slot)) still)) record {
        changed = record {
          own = record {
            shape = replaced.shape;
            others = kept-then cells put_cells new_cells chains.tenant kept_put (kept-set put_cells chains.tenant last _ last_within (λ other different. ap (cell_of other) still ∙ none_of chains.tenant other node here refl different) (λ other different. none_of chains.tenant other node (Some slot) refl different));
            live = grown _ _ chains.used (live-write put_cells last _ _ last_within still ∙ live-put cells slot _ within free);
          };
          stands = Stands-replaced cells new_cells chains new chain now stands known replaced (latest_put new_cells chains.heads place.above place.below here place.all replaced.falls (λ other. held_then cells put_cells new_cells chains.tenant other (held_put cells slot _ chains.tenant other free) (held_write put_cells last chains.tenant chain above above here (Some slot) chains.tenant other still refl)) at_slot);
          others = others-replaced cells new_cells chains new chain now stands known replaced;
        };
        added = record { inserted = record { above = place.above; below = place.below; old_is = place.all; new_is = versions-replaced cells new_cells chains new chain now stands known replaced }; used = refl };
      }

-- ---- the cell that a version is put into

module _ (cells : Cells) (tenant chain slot : ℕ) (version : Version) (here : Option ℕ) (within : slot < length cells) (free : entry cells slot ≡ None) where
  abbrev then_held : Option (Node × Option ℕ)
  then_held = Some (record { tenant = tenant; chain = chain; version = version }, here)

  pub put_at : IsPutAt cells (set cells slot then_held) tenant version.prepared.stamp slot
  put_at = record {
    was_free = free;
    held = λ other. ap (is_at_stamp tenant other) (get_or-set_same cells slot then_held None within) ∙ ap (λ b. b && (version.prepared.stamp == other)) (eq-eqb tenant tenant refl);
    rest = λ place other apart. ap (is_at_stamp tenant other) (get_or-set_other cells slot place then_held None apart);
  }

  next_kept : (e : Option (Node × Option ℕ)) (next : Option ℕ) (other : ℕ) → is_at_stamp tenant other (with_next_beside e next) ≡ is_at_stamp tenant other e
  next_kept None next other = refl
  next_kept (Some cell) next other = refl

  -- and a slot is written beside another
  pub put_next : (last : ℕ) → IsPutAt cells (set (set cells slot then_held) last (with_next_beside (entry (set cells slot then_held) last) (Some slot))) tenant version.prepared.stamp slot
  put_next last = record {
    was_free = free;
    held = λ other. same slot other (same_or_not slot last) ∙ put_at.held other;
    rest = λ place other apart. same place other (same_or_not place last) ∙ put_at.rest place other apart;
  }
    where
      mid : Cells
      mid = set cells slot then_held

      changed : Option (Node × Option ℕ)
      changed = with_next_beside (entry mid last) (Some slot)

      same : (place other : ℕ) → (place ≡ last) ⊎ (place ≢ last) → is_at_stamp tenant other (entry (set mid last changed) place) ≡ is_at_stamp tenant other (entry mid place)
      same place other (inr apart) = ap (is_at_stamp tenant other) (get_or-set_other mid last place changed None apart)
      same place other (inl is) = elim (cases_lt last (length mid)) [
        | inl inside ↦
            ap (λ n. is_at_stamp tenant other (entry (set mid last changed) n)) is
            ∙ ap (is_at_stamp tenant other) (get_or-set_same mid last changed None inside)
            ∙ next_kept (entry mid last) (Some slot) other
            ∙ ap (λ n. is_at_stamp tenant other (entry mid n)) (sym is)
        | inr past ↦ ap (λ (b : Cells). is_at_stamp tenant other (entry b place)) (set_past mid last changed past)
      ]
