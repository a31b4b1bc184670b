-- Which items a collection may still change.
use Rattle.std.specs.Prelude.{◌≡◌, ◌⊎◌, ◌||◌, ◌<◌, ◌≤◌, ℕ, Bool, false, All, List, [], ◌∷◌, length, slice_index_or, Option, Some, IsSomeAnd, if◌then◌else◌, ◌==◌, count_by}
use Rattle.std.specs.List.{list_any}
use Rattle.plain_store.specs.Stamps.{kth_greatest}
use Rattle.version_chain.specs.declared.version.Version.{Version}
use Rattle.prepare_commit.specs.declared.items.ChainedItem.{ChainedItem}
use Rattle.prepare_commit.specs.Layout.{chain_at, committed_of, raised_item, kept_chain}

-- a collection that keeps so many committed versions leaves the item and its versions as they are
pub record IsSettled (keep : ℕ) (chains : List (List Version)) (i : ChainedItem) : Type 0 where
  pub raised : kth_greatest keep (committed_of (chain_at chains i.chain)) ≤ i.entry.floor
  pub above : All (λ (v : Version). i.entry.floor ≤ v.prepared.stamp) (chain_at chains i.chain)

-- the item's chain is one that was noted as changed
abbrev pub is_changed : List Bool → ChainedItem → Bool
is_changed changed i = slice_index_or changed i.chain false

-- such a collection leaves each item as it is whose chain was not noted
abbrev pub AreSettled : ℕ → List Bool → List ChainedItem → List (List Version) → Type 0
AreSettled keep changed items chains =
    All (λ (i : ChainedItem). is_changed changed i ≡ false → IsSettled keep chains i) items

-- since a collection that kept so many, each item's chain was noted that another such collection may change
abbrev pub Remembers : Option ℕ → List Bool → List ChainedItem → List (List Version) → Type 0
Remembers last changed items chains = (keep : ℕ) → last ≡ Some keep → AreSettled keep changed items chains

-- it leaves each item as it is whose chain is not one of these
abbrev pub AreSettledBeside : ℕ → List ℕ → List ChainedItem → List (List Version) → Type 0
AreSettledBeside keep chains items lists =
    All (λ (i : ChainedItem). list_any (λ n. n == i.chain) chains ≡ false → IsSettled keep lists i) items

-- a chain is noted in one of the two
abbrev pub in_either : List Bool → List Bool → List Bool
in_either [] others = others
in_either (b ∷ bs) [] = b ∷ bs
in_either (b ∷ bs) (c ∷ cs) = (b || c) ∷ in_either bs cs

-- what was noted still is
abbrev pub StayNoted : List Bool → List Bool → Type 0
StayNoted old new = (chain : ℕ) → slice_index_or new chain false ≡ false → slice_index_or old chain false ≡ false

-- After a collection that kept so many, either this is the least number, and no chain is noted; or it is greater than the least one, and
-- what was noted still is.
abbrev pub IsRemembered : ℕ → Option ℕ → List Bool → Option ℕ → List Bool → Type 0
IsRemembered keep least noted now after =
    ((now ≡ Some keep) × ((chain : ℕ) → slice_index_or after chain false ≡ false))
    ⊎ (IsSomeAnd least (λ number. number < keep) × (now ≡ least) × StayNoted noted after)

-- a collection that keeps so many leaves the item of a chain as it is: the last one kept as many or fewer, or the one that kept the
-- least did, and the chain was not noted since
abbrev pub IsPassedOver : ℕ → Option ℕ → List Bool → Option ℕ → List Bool → ℕ → Type 0
IsPassedOver keep last changed least noted chain =
    (IsSomeAnd last (λ number. number ≤ keep) × (slice_index_or changed chain false ≡ false))
    ⊎ (IsSomeAnd least (λ number. number ≤ keep) × (slice_index_or noted chain false ≡ false))

-- what was noted still is, and each chain was noted that holds something else now
abbrev pub AreNotedWhere : List Bool → List Bool → List (List Version) → List (List Version) → Type 0
AreNotedWhere old new chains after =
    (chain : ℕ) → slice_index_or new chain false ≡ false
    → (slice_index_or old chain false ≡ false) × (chain_at after chain ≡ chain_at chains chain)

-- the numbers are those of the chains that were noted, each once
pub record AreNoted (changed : List Bool) (numbers : List ℕ) : Type 0 where
  pub once : (chain : ℕ)
      → count_by (λ n. n == chain) numbers ≡ (if slice_index_or changed chain false then 1 else 0)
  pub many : length numbers ≡ count_by (λ b. b) changed

-- an item, and its versions, after a collection of one chain
abbrev pub raised_where : ℕ → ℕ → List (List Version) → ChainedItem → ChainedItem
raised_where chain keep chains i = if i.chain == chain then raised_item keep chains i else i

abbrev pub kept_where : ℕ → ℕ → List (List Version) → ChainedItem → List Version
kept_where chain keep chains i = if i.chain == chain then kept_chain keep chains i else chain_at chains i.chain
