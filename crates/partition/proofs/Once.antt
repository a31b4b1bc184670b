-- For `Shelf::parts`. Each cell of the block is free, or stands at one place of one chain of one tenant.
use Rattle.std.proofs.Common.{◌≡◌, ◌⊎◌, inl, inr, ℕ, zero, suc, ◌+◌, ◌<◌, List, [], ◌∷◌, length, count_by, is_some, is_none, Option, Some, None, refl, ap, sym, subst, ◌∙◌, arith}
use Rattle.std.specs.Prelude.{slice_get}
use Rattle.std.proofs.lemmas.Option.{same_Some}
use Rattle.version_arena.specs.Arena.{entry, beside, live_count}
use Rattle.version_chain.specs.Node.{Node}
use Rattle.version_chain.specs.declared.version.Version.{Version}
use Rattle.version_chain.specs.Heads.{Heads, head}
use Rattle.version_chain.specs.Chain.{Cells, IsPath, is_of_tenant, FallsBelow, Falls, chain_versions}
use Rattle.version_chain.proofs.Slots.{placed}
use Rattle.plain_store.proofs.Counting.{count_by-cons}
use Rattle.prepare_commit.specs.InBlock.{Parts, content_in}
use Rattle.partition.specs.OneBlock.{all_chains, nth_slot, StandsOnce, AreInBlock, IsShared}
use Rattle.partition.proofs.OneCell.{slice_get-mapped, share_of}

-- a path leads to its end
path_leads : (cells : Cells) (tenant chain : ℕ) (from : Option ℕ) (before : List Version) (to : Option ℕ) → IsPath cells tenant chain from before to → nth_slot cells (length before) from ≡ to
path_leads cells tenant chain from [] to path = path
path_leads cells tenant chain from (version ∷ rest) to path =
    let slot = path.0 in
    let next = path.1 in
    ap (nth_slot cells (suc (length rest))) path.2
    ∙ ap (nth_slot cells (length rest)) (ap beside path.3)
    ∙ path_leads cells tenant chain next rest to path.4

-- what stands where some steps of a path lead
pub record Reached (cells : Cells) (tenant chain slot bound : ℕ) : Type 0 where
  pub version : Version
  pub next : Option ℕ
  pub held : entry cells slot ≡ Some (record { tenant = tenant; chain = chain; version = version }, next)
  pub low : version.prepared.stamp < bound

reached : (cells : Cells) (tenant chain bound : ℕ) (from : Option ℕ) (all : List Version) → IsPath cells tenant chain from all None → FallsBelow bound all → (steps slot : ℕ) → nth_slot cells steps from ≡ Some slot → Reached cells tenant chain slot bound
reached cells tenant chain bound from [] path falls zero slot at = absurd (let none = sym path ∙ at in cc)
reached cells tenant chain bound from [] path falls (suc steps) slot at = absurd (let none = sym (ap (nth_slot cells (suc steps)) path) ∙ at in cc)
reached cells tenant chain bound from (version ∷ rest) path falls zero slot at =
    let here : path.0 ≡ slot = same_Some path.0 slot (sym path.2 ∙ at) in
    record { version = version; next = path.1; held = ap (entry cells) (sym here) ∙ path.3; low = falls.0 }
reached cells tenant chain bound from (version ∷ rest) path falls (suc steps) slot at =
    let there = sym (ap (nth_slot cells steps) (ap beside path.3)) ∙ sym (ap (nth_slot cells (suc steps)) path.2) ∙ at in
    let later = reached cells tenant chain version.prepared.stamp path.1 rest path.4 falls.1 steps slot there in
    record { version = later.version; next = later.next; held = later.held; low = omega (arith, later.low, falls.0) }

abbrev stamp_in : ℕ → Option (Node × Option ℕ) → ℕ
stamp_in other None = other
stamp_in other (Some held) = held.0.version.prepared.stamp

nowhere : (cells : Cells) (from : Option ℕ) → from ≡ None → (steps slot : ℕ) → nth_slot cells steps from ≡ Some slot → ⊥
nowhere cells from none zero slot at = let no_one = sym none ∙ at in cc
nowhere cells from none (suc steps) slot at = let no_one = sym (ap (nth_slot cells (suc steps)) none) ∙ at in cc

onward : (cells : Cells) (tenant chain : ℕ) (from : Option ℕ) (version : Version) (rest : List Version) (path : IsPath cells tenant chain from (version ∷ rest) None) (steps slot : ℕ) → nth_slot cells (suc steps) from ≡ Some slot → nth_slot cells steps path.1 ≡ Some slot
onward cells tenant chain from version rest path steps slot at = sym (ap (nth_slot cells steps) (ap beside path.3)) ∙ sym (ap (nth_slot cells (suc steps)) path.2) ∙ at

-- no slot stands in a chain again
never : (cells : Cells) (tenant chain : ℕ) (from : Option ℕ) (version : Version) (rest : List Version) (path : IsPath cells tenant chain from (version ∷ rest) None) → FallsBelow version.prepared.stamp rest
    → (steps slot : ℕ) → from ≡ Some slot → nth_slot cells (suc steps) from ≡ Some slot → ⊥
never cells tenant chain from version rest path falls steps slot first later =
    let here : path.0 ≡ slot = same_Some path.0 slot (sym path.2 ∙ first) in
    let again = reached cells tenant chain version.prepared.stamp path.1 rest path.4 falls steps slot (onward cells tenant chain from version rest path steps slot later) in
    let same = ap (stamp_in 0) (sym again.held ∙ ap (entry cells) (sym here) ∙ path.3) in
    omega (arith, same, again.low)

-- two ways to a slot in one chain are one
one_place : (cells : Cells) (tenant chain bound : ℕ) (from : Option ℕ) (all : List Version) → IsPath cells tenant chain from all None → FallsBelow bound all
    → (j k slot : ℕ) → nth_slot cells j from ≡ Some slot → nth_slot cells k from ≡ Some slot → j ≡ k
one_place cells tenant chain bound from [] path falls j k slot left right = absurd (nowhere cells from path j slot left)
one_place cells tenant chain bound from (version ∷ rest) path falls zero zero slot left right = refl
one_place cells tenant chain bound from (version ∷ rest) path falls zero (suc k) slot left right = absurd (never cells tenant chain from version rest path falls.1 k slot left right)
one_place cells tenant chain bound from (version ∷ rest) path falls (suc j) zero slot left right = absurd (never cells tenant chain from version rest path falls.1 j slot right left)
one_place cells tenant chain bound from (version ∷ rest) path falls (suc j) (suc k) slot left right =
    ap suc (one_place cells tenant chain version.prepared.stamp path.1 rest path.4 falls.1 j k slot (onward cells tenant chain from version rest path j slot left) (onward cells tenant chain from version rest path k slot right))

above_all : (all : List Version) → Falls all → (bound : ℕ) × FallsBelow bound all
above_all [] falls = (0, tt)
above_all (version ∷ rest) falls = (suc version.prepared.stamp, (omega arith, falls))

abbrev tenant_in : ℕ → Option (Node × Option ℕ) → ℕ
tenant_in other None = other
tenant_in other (Some held) = held.0.tenant

abbrev chain_in : ℕ → Option (Node × Option ℕ) → ℕ
chain_in other None = other
chain_in other (Some held) = held.0.chain

there_is : (tenants : List Heads) (n : ℕ) → n < length tenants → (chains : Heads) × (slice_get tenants n ≡ Some chains)
there_is [] n within = absurd (omega arith)
there_is (c ∷ tenants) zero within = (c, refl)
there_is (c ∷ tenants) (suc n) within = there_is tenants n (omega arith)

module _ (block : Cells) (cells : List Parts) (shelf : AreInBlock block cells) where
  stands_once : (slot : ℕ) (node : Node) (next : Option ℕ) → entry block slot ≡ Some (node, next) → StandsOnce block (all_chains cells) slot
  stands_once slot node next held =
      let found = there_is (all_chains cells) node.tenant (shelf.shared.whose slot (node, next) held) in
      let chains = found.0 in
      let stands = shelf.shared.stand node.tenant chains found.1 in
      let number = shelf.shared.numbered node.tenant chains found.1 in
      let at = placed block chains stands slot node next held (sym number) in
      let before = at.place.ends.0 in
      record {
        tenant = node.tenant;
        chain = node.chain;
        place = length before;
        stands = record {
          chains = chains;
          whose = found.1;
          known = at.known;
          there = path_leads block chains.tenant node.chain (head chains node.chain) before (Some slot) at.place.ends.3;
        };
        once = λ t c p other.
            let others = other.chains in
            let theirs = shelf.shared.stand t others other.whose in
            let bounded = above_all (chain_versions block others c) (theirs.falling c other.known) in
            let seen = reached block others.tenant c bounded.0 (head others c) (chain_versions block others c) (theirs.chained c other.known) bounded.1 p slot other.there in
            let same = sym held ∙ seen.held in
            let same_tenant : t ≡ node.tenant = sym (shelf.shared.numbered t others other.whose) ∙ sym (ap (tenant_in 0) same) in
            let same_chain : c ≡ node.chain = sym (ap (chain_in 0) same) in
            let T : ℕ → Type 0 = λ n. slice_get (all_chains cells) n ≡ Some others in
            let same_heads : others ≡ chains = same_Some others chains (sym (subst T same_tenant other.whose) ∙ found.1) in
            let C : ℕ → Heads → Type 0 = λ n h. nth_slot block p (head h n) ≡ Some slot in
            let there : nth_slot block p (head chains node.chain) ≡ Some slot = subst (λ h. C node.chain h) same_heads (subst (λ n. C n others) same_chain other.there) in
            let mine = above_all (chain_versions block chains node.chain) (stands.falling node.chain at.known) in
            let here = path_leads block chains.tenant node.chain (head chains node.chain) before (Some slot) at.place.ends.3 in (
              same_tenant,
              same_chain,
              one_place block chains.tenant node.chain mine.0 (head chains node.chain) (chain_versions block chains node.chain) (stands.chained node.chain at.known) mine.1 p (length before) slot there here,
            );
      }

  each_cell : (slot : ℕ) → (entry block slot ≡ None) ⊎ StandsOnce block (all_chains cells) slot
  each_cell slot = go (entry block slot) refl
    where
      go : (e : Option (Node × Option ℕ)) → entry block slot ≡ e → (entry block slot ≡ None) ⊎ StandsOnce block (all_chains cells) slot
      go None e = inl e
      go (Some held) e = inr (stands_once slot held.0 held.1 e)

  kept_is : (tenant : ℕ) (cell : Parts) → slice_get cells tenant ≡ Some cell → count_by (is_of_tenant tenant) block ≡ length (content_in block cell).versions
  kept_is tenant cell at =
      let lies = shelf.lie tenant cell at in
      let number = shelf.shared.numbered tenant cell.chains (slice_get-mapped (λ (c : Parts). c.chains) cells tenant cell at) in
      ap (λ n. count_by (is_of_tenant n) block) (sym number) ∙ lies.versions.stands.owned ∙ lies.holds.counted

  pub is_shared : IsShared block cells
  is_shared = record {
    each = each_cell;
    as_many = kept_is;
    finds = λ tenant cell at fewer.
        let lies = shelf.lie tenant cell at in
        let share = share_of block cells tenant cell shelf at in
        omega (arith, share, fewer, lies.holds.counted, lies.holds.share, free_or_live block);
  }
    where
      free_or_live : (cells : Cells) → count_by is_none cells + live_count cells ≡ length cells
      free_or_live [] = refl
      free_or_live (None ∷ cells) = omega (arith, free_or_live cells, count_by-cons is_none None cells, count_by-cons is_some None cells)
      free_or_live (Some held ∷ cells) = omega (arith, free_or_live cells, count_by-cons is_none (Some held) cells, count_by-cons is_some (Some held) cells)
