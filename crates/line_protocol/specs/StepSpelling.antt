-- The grammar of steps: how a tenant's name and an act are spelled, and which lines ask for a step.
use Rattle.std.specs.Prelude.{◌≡◌, ◌≢◌, ◌⊎◌, ℕ, ◌<◌, ◌^◌, Bool, ◌||◌, ◌==◌, List, [], ◌∷◌, ◌++◌, length, get_or}
use Rattle.std.specs.Prelude.{decimal, codes}
use Rattle.std.specs.List.{flat_map, AllByRecursion}
use Rattle.stamps.specs.Bounds.{IsClient, IsCounter, IsKeep}
use Rattle.stamps.specs.Limits.{max_name_len}
use Rattle.stamps.specs.Text.{IsText, is_between}
use Rattle.stamps.specs.Key.{IsKey}
use Rattle.stamps.specs.Tag.{IsTag}
use Rattle.stamps.specs.Value.{IsValue}
use Rattle.stamps.specs.declared.record.Item.{Item}
use Rattle.plain_store.specs.declared.refusal.Refusal.{Refusal}
use Rattle.plain_store.specs.declared.refusal.Refusal.TheVariants.{NoTenant, BadLine, OutOfMemory}
use Rattle.plain_store.specs.declared.step.Act.{Act}
use Rattle.plain_store.specs.declared.step.Act.TheVariants.{Hello, Put, Get, Find, Deliver, Lose, Retry, Stop, Collect}
use Rattle.plain_store.specs.declared.step.Act.TheVariants.{Keep}
use Rattle.line_protocol.specs.Spelling.{space, equals, same_text, tag_text}

-- ---- tenants

-- `a` to `z`, `0` to `9` or `_`
abbrev pub is_tenant_byte : ℕ → Bool
is_tenant_byte byte = is_between 97 122 byte || is_between 48 57 byte || byte == 95

-- the name of a tenant
abbrev pub IsName : List ℕ → Type 0
IsName = IsText is_tenant_byte 1 max_name_len

-- the number of the tenant of this name: where the name first stands among these. A number has 32 bits.
pub record IsNumberOf (names : List (List ℕ)) (name : List ℕ) (number : ℕ) : Type 0 where
  pub small : number < 2 ^ 32
  pub within : number < length names
  pub there : get_or names number [] ≡ name
  pub first : (k : ℕ) → k < number → get_or names k [] ≢ name

-- no tenant has this name
abbrev pub IsNobody : List (List ℕ) → List ℕ → Type 0
IsNobody names name = (number : ℕ) → IsNumberOf names name number → ⊥

-- ---- what a tenant's store is asked to do

-- ITEM: KEY=VALUE, or KEY#TAG=VALUE
abbrev pub item_text : Item → List ℕ
item_text item = item.key ++ (tag_text item.tag ++ equals ∷ item.value)

-- the text of each, after a space
abbrev pub words_text : {A : Type 0} → (A → List ℕ) → List A → List ℕ
words_text text_of = flat_map (λ a. space ∷ text_of a)

-- an item whose parts are what their types say
pub record IsItem (item : Item) : Type 0 where
  pub key : IsKey item.key
  pub tag : IsTag item.tag
  pub value : IsValue item.value

-- the acts that a line asks for: no line names the empty tag, and a row has 64 bits, a partition's number 32
abbrev pub HasText : Act → Type 0
HasText (Hello client base) = IsClient client × IsCounter base
HasText (Put client items) = IsClient client × AllByRecursion IsItem items
HasText (Get client keys) = IsClient client × AllByRecursion IsKey keys
HasText (Find client tag) = IsClient client × IsTag tag × (0 < length tag)
HasText (Deliver row) = row < 2 ^ 64
HasText (Lose row) = row < 2 ^ 64
HasText (Retry client) = IsClient client
HasText (Stop client) = IsClient client
HasText (Collect partition) = partition < 2 ^ 32
HasText (Keep keep) = IsKeep keep

-- the text of an act
abbrev pub act_text : Act → List ℕ
act_text (Hello client base) = codes "hello " ++ (decimal client ++ space ∷ decimal base)
act_text (Put client items) = codes "put " ++ (decimal client ++ words_text item_text items)
act_text (Get client keys) = codes "get " ++ (decimal client ++ words_text same_text keys)
act_text (Find client tag) = codes "find " ++ (decimal client ++ space ∷ tag)
act_text (Deliver row) = codes "deliver " ++ decimal row
act_text (Lose row) = codes "lose " ++ decimal row
act_text (Retry client) = codes "retry " ++ decimal client
act_text (Stop client) = codes "stop " ++ decimal client
act_text (Collect partition) = codes "collect " ++ decimal partition
act_text (Keep keep) = codes "keep " ++ decimal keep

-- a base that is 0 may be left out
abbrev pub IsShort : Act → List ℕ → Type 0
IsShort (Hello client base) text = (base ≡ 0) × (text ≡ codes "hello " ++ decimal client)
IsShort (Put client items) text = ⊥
IsShort (Get client keys) text = ⊥
IsShort (Find client tag) text = ⊥
IsShort (Deliver row) text = ⊥
IsShort (Lose row) text = ⊥
IsShort (Retry client) text = ⊥
IsShort (Stop client) text = ⊥
IsShort (Collect partition) text = ⊥
IsShort (Keep keep) text = ⊥

-- an act is spelled so
abbrev pub Spells : Act → List ℕ → Type 0
Spells act text = (text ≡ act_text act) ⊎ IsShort act text

-- ---- lines

-- the line asks for this act, of the tenant of this name
pub record IsStepLine (name : List ℕ) (act : Act) (line : List ℕ) : Type 0 where
  pub named : IsName name
  pub in_range : HasText act
  pub spelled : (text : List ℕ) × (line ≡ name ++ space ∷ text) × Spells act text

-- the line asks for this act of the tenant of this number
abbrev pub AsksFor : List (List ℕ) → List ℕ → ℕ → Act → Type 0
AsksFor names line number act = (name : List ℕ) × IsNumberOf names name number × IsStepLine name act line

-- the line asks for an act of a tenant that is not there
abbrev pub AsksStranger : List (List ℕ) → List ℕ → Type 0
AsksStranger names line = (name : List ℕ) × (act : Act) × IsNobody names name × IsStepLine name act line

-- the line asks for nothing
abbrev pub AsksNothing : List ℕ → Type 0
AsksNothing line = (name : List ℕ) (act : Act) → IsStepLine name act line → ⊥

-- an act that carries a list with an element, for which memory is taken
abbrev pub HasList : Act → Type 0
HasList (Put client items) = 0 < length items
HasList (Get client keys) = 0 < length keys
HasList (Hello client base) = ⊥
HasList (Find client tag) = ⊥
HasList (Deliver row) = ⊥
HasList (Lose row) = ⊥
HasList (Retry client) = ⊥
HasList (Stop client) = ⊥
HasList (Collect partition) = ⊥
HasList (Keep keep) = ⊥

-- A line is refused for this cause, and gives no step.
abbrev pub Refuses : List (List ℕ) → List ℕ → Refusal → Type 0
Refuses names line NoTenant = AsksStranger names line
Refuses names line BadLine = AsksNothing line
Refuses names line OutOfMemory = (number : ℕ) × (act : Act) × AsksFor names line number act × HasList act
Refuses names line cause = ⊥
