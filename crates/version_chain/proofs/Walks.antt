-- For `Chains`, all its functions that walk along a chain. A walk along a chain.
use Rattle.std.proofs.Common.{◌≡◌, ◌≢◌, ℕ, zero, suc, ◌<◌, ◌≤◌, if◌then◌else◌, List, [], ◌∷◌, length, Option, Some, None, refl, sym, ap, ◌∙◌, arith}
use Rattle.std.proofs.lemmas.Bool.{eq-eqb, ne_eqb}
use Rattle.std.proofs.lemmas.List.Sums.{get_or-le-sum_by, count_by-le-length}
use Rattle.version_arena.specs.Arena.{entry, beside, next_beside}
use Rattle.version_chain.specs.Node.{Node}
use Rattle.version_chain.specs.declared.version.Version.{Version}
use Rattle.version_chain.specs.Heads.{Heads, head}
use Rattle.version_chain.specs.Chain.{Cells, IsPath, follow, chain_versions, HoldsChains, is_of_tenant, at_stamp}

-- what follows the start of a chain is the chain
pub follow-chain : (cells : Cells) (tenant chain : ℕ) (from : Option ℕ) (chained : List Version) (count : ℕ) → IsPath cells tenant chain from chained None → length chained ≤ count → follow cells count from ≡ chained
follow-chain cells tenant chain from [] zero is short = refl
follow-chain cells tenant chain from [] (suc count) is short = ap (follow cells (suc count)) is
follow-chain cells tenant chain from (version ∷ rest) zero is short = absurd (omega arith)
follow-chain cells tenant chain from (version ∷ rest) (suc count) is short =
    let named = is.2 in
    let held = is.3 in
    let later = follow-chain cells tenant chain is.1 rest count is.4 (omega arith) in
    rw (named, held, later) refl

pub versions-short : (cells : Cells) (chains : Heads) (chain : ℕ) → HoldsChains cells chains → chain < length chains.heads → length (chain_versions cells chains chain) ≤ length cells
versions-short cells chains chain stands known =
    omega (arith, stands.counted, stands.owned, count_by-le-length (is_of_tenant chains.tenant) cells, get_or-le-sum_by (λ from. length (follow cells (length cells) from)) chains.heads chain None known)

pub versions-used : (cells : Cells) (chains : Heads) (chain : ℕ) → HoldsChains cells chains → chain < length chains.heads → length (chain_versions cells chains chain) ≤ chains.used
versions-used cells chains chain stands known = omega (arith, stands.counted, get_or-le-sum_by (λ from. length (follow cells (length cells) from)) chains.heads chain None known)

-- the walk has come to the slot `here` of a chain
pub record At (cells : Cells) (tenant chain : ℕ) (here : Option ℕ) : Type 0 where
  pub rest : List Version
  pub chained : IsPath cells tenant chain here rest None
  pub short : length rest ≤ length cells

abbrev pub at_head : (cells : Cells) (chains : Heads) (chain : ℕ) → HoldsChains cells chains → chain < length chains.heads → At cells chains.tenant chain (head chains chain)
at_head cells chains chain stands known =
    record { rest = chain_versions cells chains chain; chained = stands.chained chain known; short = versions-short cells chains chain stands known }

-- what a walk finds at a slot
pub record OnCell (cells : Cells) (tenant chain slot : ℕ) (rest : List Version) : Type 0 where
  pub version : Version
  pub next : Option ℕ
  pub later : List Version
  pub is : rest ≡ version ∷ later
  pub found : entry cells slot ≡ Some (record { tenant = tenant; chain = chain; version = version }, next)
  pub chained : IsPath cells tenant chain next later None

pub on_cell : (cells : Cells) (tenant chain slot : ℕ) (here : Option ℕ) (rest : List Version) → IsPath cells tenant chain here rest None → here ≡ Some slot → OnCell cells tenant chain slot rest
on_cell cells tenant chain slot here [] is at = absurd cc
on_cell cells tenant chain slot here (version ∷ later) is at =
    let same : is.0 ≡ slot = (let named = is.2 in cc) in
    record { version = version; next = is.1; later = later; is = refl; found = rw (← same) is.3; chained = is.4 }

-- what a read of the cell at a slot says
pub record Read (cells : Cells) (tenant chain slot : ℕ) (rest : List Version) (node : Node) : Type 0 where
  pub node_is : node ≡ record { tenant = tenant; chain = chain; version = node.version }
  pub later : List Version
  pub is : rest ≡ node.version ∷ later
  pub found : entry cells slot ≡ Some (node, next_beside cells slot)
  pub chained : IsPath cells tenant chain (next_beside cells slot) later None

abbrev pub node_of : Option (Node × Option ℕ) → Node → Node
node_of None node = node
node_of (Some cell) node = cell.0

pub read_cell : (cells : Cells) (tenant chain slot : ℕ) (rest : List Version) (node : Node) → OnCell cells tenant chain slot rest → entry cells slot ≡ Some (node, next_beside cells slot) → Read cells tenant chain slot rest node
read_cell cells tenant chain slot rest node on read =
    let same : node ≡ record { tenant = tenant; chain = chain; version = on.version } = ap (λ e. node_of e node) (sym read ∙ on.found) in
    let after : next_beside cells slot ≡ on.next = ap beside on.found in
    record {
      node_is = same ∙ ap (λ v. record { tenant = tenant; chain = chain; version = v }) (sym (ap (λ n. n.version) same));
      later = on.later;
      is = on.is ∙ ap (λ n. n.version ∷ on.later) (sym same);
      found = read;
      chained = rw after on.chained;
    }

-- the walk goes on to the next slot
abbrev pub step : (cells : Cells) (tenant chain slot : ℕ) (here : Option ℕ) (node : Node) (at : At cells tenant chain here) → Read cells tenant chain slot at.rest node → At cells tenant chain (next_beside cells slot)
step cells tenant chain slot here node at read =
    let longer = ap length read.is in
    record { rest = read.later; chained = read.chained; short = omega (arith, at.short) }

-- and has fewer versions before it
pub step-shorter : (cells : Cells) (tenant chain slot : ℕ) (here : Option ℕ) (node : Node) (at : At cells tenant chain here) → Read cells tenant chain slot at.rest node → length (follow cells (length cells) (next_beside cells slot)) < length (follow cells (length cells) here)
step-shorter cells tenant chain slot here node at read =
    let longer = ap length read.is in
    let before = follow-chain cells tenant chain here at.rest (length cells) at.chained at.short in
    let after = follow-chain cells tenant chain (next_beside cells slot) read.later (length cells) read.chained (omega (arith, at.short)) in
    rw (before, after) (omega arith)

-- the walk has passed the last version
pub at_end : (cells : Cells) (tenant chain : ℕ) (here : Option ℕ) (rest : List Version) → IsPath cells tenant chain here rest None → here ≡ None → rest ≡ []
at_end cells tenant chain here [] is ended = refl
at_end cells tenant chain here (version ∷ rest) is ended = absurd (let named = is.2 in cc)

pub at_stamp-found : (rest later : List Version) (version : Version) (stamp : ℕ) → rest ≡ version ∷ later → version.prepared.stamp ≡ stamp → at_stamp rest stamp ≡ Some version.prepared
at_stamp-found rest later version stamp is same = ap (λ vs. at_stamp vs stamp) is ∙ ap (λ b. if b then Some version.prepared else at_stamp later stamp) (eq-eqb version.prepared.stamp stamp same)

pub at_stamp-passed : (rest later : List Version) (version : Version) (stamp : ℕ) → rest ≡ version ∷ later → version.prepared.stamp ≢ stamp → at_stamp rest stamp ≡ at_stamp later stamp
at_stamp-passed rest later version stamp is other = ap (λ vs. at_stamp vs stamp) is ∙ ap (λ b. if b then Some version.prepared else at_stamp later stamp) (ne_eqb version.prepared.stamp stamp other)
