-- The grammar of sessions: how what a client asks is spelled, and which lines ask for something.
use Rattle.std.specs.Prelude.{◌≡◌, ◌⊎◌, ℕ, ◌<◌, Bool, cond, List, ◌∷◌}
use Rattle.std.specs.Prelude.{◌++◌, length, Option, Some, None, IfSome, decimal, codes}
use Rattle.std.specs.List.{AllByRecursion}
use Rattle.stamps.specs.Bounds.{IsClient, IsCounter, IsKeep}
use Rattle.stamps.specs.Key.{IsKey}
use Rattle.stamps.specs.Tag.{IsTag}
use Rattle.plain_store.specs.declared.refusal.Refusal.{Refusal}
use Rattle.plain_store.specs.declared.refusal.Refusal.TheVariants.{BadLine, OutOfMemory}
use Rattle.line_protocol.specs.declared.request.Request.{Request}
use Rattle.line_protocol.specs.declared.request.Request.TheVariants.{Hello, Put, Get, Find, Keep, Info, Bye}
use Rattle.line_protocol.specs.Stream.{terminated}
use Rattle.line_protocol.specs.Spelling.{space, same_text}
use Rattle.line_protocol.specs.StepSpelling.{IsName, IsItem, item_text, words_text}

-- what a line can ask for: no line names the empty tag
abbrev pub CanBeAsked : Request → Type 0
CanBeAsked (Hello name client base) = IsName name × IfSome client IsClient × IsCounter base
CanBeAsked (Put items) = AllByRecursion IsItem items
CanBeAsked (Get keys) = AllByRecursion IsKey keys
CanBeAsked (Find tag) = IsTag tag × (0 < length tag)
CanBeAsked (Keep keep) = IsKeep keep
CanBeAsked Info = Unit {0}
CanBeAsked Bye = Unit {0}

-- the number of a client, or `any`, which asks for one that is free
abbrev pub any_client_text : Option ℕ → List ℕ
any_client_text (Some client) = decimal client
any_client_text None = codes "any"

-- the text of a request
abbrev pub request_text : Request → List ℕ
request_text (Hello name client base) = codes "hello " ++ (name ++ space ∷ (any_client_text client ++ space ∷ decimal base))
request_text (Put items) = codes "put" ++ words_text item_text items
request_text (Get keys) = codes "get" ++ words_text same_text keys
request_text (Find tag) = codes "find " ++ tag
request_text (Keep keep) = codes "keep " ++ decimal keep
request_text Info = codes "info"
request_text Bye = codes "bye"

-- the line that answers `bye`
abbrev pub bye_line : List ℕ
bye_line = terminated (codes "bye")

-- the line that answers a `hello` for any client: the session's counter, and the number that was free
abbrev pub ready_as_line : ℕ → ℕ → List ℕ
ready_as_line counter client = terminated (codes "ready " ++ (decimal counter ++ codes " as " ++ decimal client))

abbrev pub yes_or_no : Bool → List ℕ
yes_or_no is = cond is (codes "yes") (codes "no")

-- the line that answers `info`: the version, the number of this store, and whether each put reads its keys first
abbrev pub info_line : ℕ → Bool → List ℕ
info_line store newest =
    terminated (codes "info version="
    ++ (codes "0.3.0" ++ (codes " store=" ++ (decimal store ++ (codes " newest=" ++ yes_or_no newest)))))

-- a base that is 0 may be left out
abbrev pub LeavesBaseOut : Request → List ℕ → Type 0
LeavesBaseOut (Hello name client base) text =
    (base ≡ 0) × (text ≡ codes "hello " ++ (name ++ space ∷ any_client_text client))
LeavesBaseOut (Put items) text = ⊥
LeavesBaseOut (Get keys) text = ⊥
LeavesBaseOut (Find tag) text = ⊥
LeavesBaseOut (Keep keep) text = ⊥
LeavesBaseOut Info text = ⊥
LeavesBaseOut Bye text = ⊥

-- the line asks for this
pub record IsServeLine (request : Request) (line : List ℕ) : Type 0 where
  pub in_range : CanBeAsked request
  pub spelled : (line ≡ request_text request) ⊎ LeavesBaseOut request line

-- the line asks for nothing
abbrev pub IsNoServeLine : List ℕ → Type 0
IsNoServeLine line = (request : Request) → IsServeLine request line → ⊥

-- a request with a list that has an element, for which memory is taken
abbrev pub CarriesList : Request → Type 0
CarriesList (Hello name client base) = ⊥
CarriesList (Put items) = 0 < length items
CarriesList (Get keys) = 0 < length keys
CarriesList (Find tag) = ⊥
CarriesList (Keep keep) = ⊥
CarriesList Info = ⊥
CarriesList Bye = ⊥

-- A line is refused for this cause.
abbrev pub RefusesLine : List ℕ → Refusal → Type 0
RefusesLine line BadLine = IsNoServeLine line
RefusesLine line OutOfMemory = (request : Request) × IsServeLine request line × CarriesList request
RefusesLine line cause = ⊥
