-- For `Chains`: link, unlink and mark. Writes into cells, and the paths that they are not on.
use Rattle.std.proofs.Common.{◌≡◌, ◌≢◌, ℕ, ◌+◌, ◌<◌, ◌≤◌, Bool, List, [], ◌∷◌, length, set, get_or, cond, count_by, Option, Some, None, is_some, sym, ap, ◌∙◌, arith}
use Rattle.std.proofs.lemmas.Bool.{eq-eqb}
use Rattle.std.proofs.lemmas.List.{get_or-set_other, get_or_past}
use Rattle.std.proofs.lemmas.List.Sums.{sum_by-set}
use Rattle.version_arena.specs.Arena.{entry, live_count}
use Rattle.version_chain.specs.Node.{Node}
use Rattle.version_chain.specs.declared.version.Version.{Version}
use Rattle.version_chain.specs.Chain.{Cells, IsPath, FallsBelow, is_of_tenant}
use Rattle.version_chain.proofs.Falling.{EachAbove}
use Rattle.version_chain.proofs.Others.{ones}
use Rattle.version_chain.proofs.Walks.{node_of}

-- a write into a free cell is on no path
pub path-put : (cells : Cells) (tenant chain slot : ℕ) (cell : Option (Node × Option ℕ)) (from : Option ℕ) (chained : List Version) (to : Option ℕ) → entry cells slot ≡ None → IsPath cells tenant chain from chained to → IsPath (set cells slot cell) tenant chain from chained to
path-put cells tenant chain slot cell from [] to free path = path
path-put cells tenant chain slot cell from (version ∷ rest) to free path =
    let found = path.3 in
    let other : path.0 ≢ slot = λ same. absurd (let here = ap (entry cells) same in cc) in
    (path.0, path.1, path.2, get_or-set_other cells slot path.0 cell None other ∙ path.3, path-put cells tenant chain slot cell path.1 rest to free path.4)

-- no version of the list is that of the node
abbrev pub Avoids : ℕ → ℕ → Node → List Version → Type 0
Avoids tenant chain node [] = Unit {0}
Avoids tenant chain node (version ∷ rest) = (node ≢ record { tenant = tenant; chain = chain; version = version }) × Avoids tenant chain node rest

-- a write into a cell of another version is not on the path
pub path-write : (cells : Cells) (tenant chain slot : ℕ) (node : Node) (next : Option ℕ) (cell : Option (Node × Option ℕ)) (from : Option ℕ) (chained : List Version) (to : Option ℕ)
    → entry cells slot ≡ Some (node, next) → Avoids tenant chain node chained → IsPath cells tenant chain from chained to → IsPath (set cells slot cell) tenant chain from chained to
path-write cells tenant chain slot node next cell from [] to held avoids path = path
path-write cells tenant chain slot node next cell from (version ∷ rest) to held avoids path =
    let other : path.0 ≢ slot = λ same. avoids.0 (ap (λ e. node_of e node) (sym held ∙ ap (entry cells) (sym same) ∙ path.3)) in
    (path.0, path.1, path.2, get_or-set_other cells slot path.0 cell None other ∙ path.3, path-write cells tenant chain slot node next cell path.1 rest to held avoids.1 path.4)

pub avoids_chain : (tenant chain other : ℕ) (version : Version) (chained : List Version) → other ≢ chain → Avoids tenant other (record { tenant = tenant; chain = chain; version = version }) chained
avoids_chain tenant chain other version [] different = tt
avoids_chain tenant chain other version (first ∷ rest) different = (λ same. different (sym (ap (λ n. n.chain) same)), avoids_chain tenant chain other version rest different)

pub avoids_above : (tenant chain : ℕ) (version : Version) (chained : List Version) → EachAbove version.prepared.stamp chained → Avoids tenant chain (record { tenant = tenant; chain = chain; version = version }) chained
avoids_above tenant chain version [] each = tt
avoids_above tenant chain version (first ∷ rest) each = (λ same. absurd (let stamps = ap (λ n. n.version.prepared.stamp) same in omega (arith, each.0)), avoids_above tenant chain version rest each.1)

pub avoids_below : (tenant chain bound : ℕ) (version : Version) (chained : List Version) → bound ≤ version.prepared.stamp → FallsBelow bound chained → Avoids tenant chain (record { tenant = tenant; chain = chain; version = version }) chained
avoids_below tenant chain bound version [] less falls = tt
avoids_below tenant chain bound version (first ∷ rest) less falls = (λ same. absurd (let stamps = ap (λ n. n.version.prepared.stamp) same in omega (arith, falls.0)), avoids_below tenant chain first.prepared.stamp version rest (omega (arith, falls.0)) falls.1)

-- one more cell of the tenant
pub count-put : (cells : Cells) (tenant slot : ℕ) (node : Node) (next : Option ℕ) → slot < length cells → entry cells slot ≡ None → node.tenant ≡ tenant → count_by (is_of_tenant tenant) (set cells slot (Some (node, next))) ≡ count_by (is_of_tenant tenant) cells + 1
count-put cells tenant slot node next within free whose =
    let counted = sum_by-set (ones tenant) cells slot (Some (node, next)) None within in
    let none : ones tenant (get_or cells slot None) ≡ 0 = ap (ones tenant) free in
    let one : ones tenant (Some (node, next)) ≡ 1 = ap (λ (b : Bool). cond b 1 0) (eq-eqb node.tenant tenant whose) in
    omega arith

-- one cell of the tenant less
pub count-take : (cells : Cells) (tenant slot : ℕ) (node : Node) (next : Option ℕ) → slot < length cells → entry cells slot ≡ Some (node, next) → node.tenant ≡ tenant → count_by (is_of_tenant tenant) (set cells slot None) + 1 ≡ count_by (is_of_tenant tenant) cells
count-take cells tenant slot node next within held whose =
    let counted = sum_by-set (ones tenant) cells slot None None within in
    let one : ones tenant (get_or cells slot None) ≡ 1 = ap (ones tenant) held ∙ ap (λ (b : Bool). cond b 1 0) (eq-eqb node.tenant tenant whose) in
    omega arith

-- as many as before, where a cell of the tenant stays one
pub count-write : (cells : Cells) (tenant slot : ℕ) (old new : Node) (next after : Option ℕ) → slot < length cells → entry cells slot ≡ Some (old, next) → old.tenant ≡ tenant → new.tenant ≡ tenant → count_by (is_of_tenant tenant) (set cells slot (Some (new, after))) ≡ count_by (is_of_tenant tenant) cells
count-write cells tenant slot old new next after within held was is =
    let counted = sum_by-set (ones tenant) cells slot (Some (new, after)) None within in
    let one : ones tenant (get_or cells slot None) ≡ 1 = ap (ones tenant) held ∙ ap (λ (b : Bool). cond b 1 0) (eq-eqb old.tenant tenant was) in
    let other : ones tenant (Some (new, after)) ≡ 1 = ap (λ (b : Bool). cond b 1 0) (eq-eqb new.tenant tenant is) in
    omega arith

pub live_within : (cells : Cells) (slot : ℕ) (cell : Node × Option ℕ) → entry cells slot ≡ Some cell → slot < length cells
live_within cells slot cell held = grind (arith, get_or_past)

-- the same of all live cells
abbrev one_if_live : Option (Node × Option ℕ) → ℕ
one_if_live held = cond (is_some held) 1 0

live-set : (cells : Cells) (slot : ℕ) (cell : Option (Node × Option ℕ)) → slot < length cells → live_count (set cells slot cell) + one_if_live (entry cells slot) ≡ live_count cells + one_if_live cell
live-set cells slot cell within = let counted = sum_by-set one_if_live cells slot cell None within in omega arith

pub live-put : (cells : Cells) (slot : ℕ) (cell : Node × Option ℕ) → slot < length cells → entry cells slot ≡ None → live_count (set cells slot (Some cell)) ≡ live_count cells + 1
live-put cells slot cell within free =
    let counted = live-set cells slot (Some cell) within in
    let none : one_if_live (entry cells slot) ≡ 0 = ap one_if_live free in
    omega arith

pub live-take : (cells : Cells) (slot : ℕ) (cell : Node × Option ℕ) → slot < length cells → entry cells slot ≡ Some cell → live_count (set cells slot None) + 1 ≡ live_count cells
live-take cells slot cell within held =
    let counted = live-set cells slot None within in
    let one : one_if_live (entry cells slot) ≡ 1 = ap one_if_live held in
    omega arith

pub live-write : (cells : Cells) (slot : ℕ) (old new : Node × Option ℕ) → slot < length cells → entry cells slot ≡ Some old → live_count (set cells slot (Some new)) ≡ live_count cells
live-write cells slot old new within held =
    let counted = live-set cells slot (Some new) within in
    let one : one_if_live (entry cells slot) ≡ 1 = ap one_if_live held in
    omega arith
