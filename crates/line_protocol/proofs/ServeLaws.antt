-- What is read is spelled so, and what is spelled so is read: for the lines of a session.
use Rattle.std.proofs.Common.{◌≡◌, ℕ, List, [], ◌∷◌, ◌++◌, Option, Some, None, Result, Ok, Err, refl, sym, ap, subst, ◌∙◌, arith, inl, inr, ◌⊎◌}
use Rattle.std.specs.Prelude.{decimal, codes, map, IfOk, IfErr, IfSome}
use Rattle.std.proofs.lemmas.Option.{same_Some, none-some}
use Rattle.stamps.specs.Bounds.{IsClient}
use Rattle.stamps.specs.Limits.{max_tag_len, max_name_len, max_counter}
use Rattle.stamps.specs.Text.{is_name_byte}
use Rattle.stamps.specs.Key.{IsKey}
use Rattle.stamps.specs.declared.record.Item.{Item}
use Rattle.plain_store.specs.declared.refusal.Refusal.{Refusal}
use Rattle.plain_store.specs.declared.refusal.Refusal.TheVariants.{BadLine, OutOfMemory}
use Rattle.line_protocol.specs.declared.request.Request.{Request}
use Rattle.line_protocol.specs.declared.request.Request.TheVariants.{Hello, Put, Get, Find, Keep, Info, Bye}
use Rattle.line_protocol.specs.Spelling.{same_text}
use Rattle.line_protocol.specs.Reading.{◌>>=◌, split_first, number_at, key_at, tag_at, part_at, parts_in, each_at}
use Rattle.line_protocol.specs.StepSpelling.{is_tenant_byte, IsName, IsItem, item_text, words_text}
use Rattle.line_protocol.specs.StepReading.{name_at, client_at, keep_at, item_at}
use Rattle.line_protocol.specs.ServeSpelling.{CanBeAsked, any_client_text, request_text, LeavesBaseOut, IsServeLine, IsNoServeLine, CarriesList, RefusesLine}
use Rattle.line_protocol.specs.ServeReading.{any_client_at, client_or_any, hello_by, hello_at, put_at, get_at, find_at, keep_request_at, plain_request_by, request_by, request_at}
use Rattle.line_protocol.proofs.Splits.{Lacks, bind_some, split_first-joined, split_first-parts, split_first-lacks}
use Rattle.line_protocol.proofs.Numbers.{number_found, number_again}
use Rattle.line_protocol.proofs.Laws.{IsReader, Lacks-allowed, text_reader, each_found, written_tag, tag_again, either_command}
use Rattle.line_protocol.proofs.RecordLaws.{key_is}
use Rattle.line_protocol.proofs.StepLaws.{client_reader, client_lacks_space, keep_reader, item_reader, item_lacks_space}
use Rattle.line_protocol.proofs.ActLaws.{spaced, spaced_map, spaced_split, parted, after_first, part-spaced, list_words, key_lacks_space}

-- ---- what is read is spelled so

-- the line of this command with these words after it asks for this
abbrev IsAsked : List ℕ → Option (List ℕ) → Request → Type 0
IsAsked command words request = IsServeLine request (command ++ spaced (parts_in 32 words))

-- the same of the text of the words
abbrev IsAskedBy : List ℕ → List ℕ → Request → Type 0
IsAskedBy command words request = IsServeLine request (command ++ 32 ∷ words)

as_words : (command words : List ℕ) (request : Request) → IsAskedBy command words request → IsAsked command (Some words) request
as_words command words request = subst (λ (t : List ℕ). IsServeLine request (command ++ t)) (sym (spaced_split words))

-- the number of a client, or `any`
any_found : (text : List ℕ) (o : Option ℕ) (client : Option ℕ) → client_at text ≡ o → client_or_any text o ≡ Some client → IfSome client IsClient × (text ≡ any_client_text client)
any_found text (Some n) client read e =
    let number = client_reader.found text n read in
    subst (λ (c : Option ℕ). IfSome c IsClient × (text ≡ any_client_text c)) (same_Some (Some n) client e) (number.0, number.1)
any_found text None client read e =
    either_command (λ t. IfSome client IsClient × (t ≡ any_client_text client)) text (codes "any") (Some None) None client
    (λ e. subst (λ (c : Option ℕ). IfSome c IsClient × (codes "any" ≡ any_client_text c)) (same_Some None client e) (tt, refl)) (λ e. absurd cc) e

any_again : (client : Option ℕ) → IfSome client IsClient → any_client_at (any_client_text client) ≡ Some client
unfolding any_client_at client_at number_at
any_again None h = refl
any_again (Some n) h = ap (client_or_any (decimal n)) (client_reader.again n h)

any_lacks_space : (client : Option ℕ) → IfSome client IsClient → Lacks 32 (any_client_text client)
any_lacks_space None h = (refl, (refl, (refl, tt)))
any_lacks_space (Some n) h = client_lacks_space n h

any_reader : IsReader any_client_text (λ client. IfSome client IsClient) any_client_at
unfolding any_client_at
any_reader = record { found = λ text client e. any_found text (client_at text) client refl e; again = any_again }

hello_by-found : (words name numbers : List ℕ) (o : Option (List ℕ × List ℕ)) (request : Request) → split_first 32 numbers ≡ o → hello_by name numbers o ≡ Some request → IsName name → words ≡ name ++ 32 ∷ numbers
    → IsAskedBy (codes "hello") words request
hello_by-found words name numbers None request parts e named is =
    let c = bind_some (any_client_at numbers) (λ client. Some (Hello name client 0)) request e in
    let client = any_reader.found numbers c.0 c.1 in
    subst (IsAskedBy (codes "hello") words) (same_Some (Hello name c.0 0) request c.2)
    (record { in_range = (named, client.0, omega arith); spelled = inr (refl, ap (λ (t : List ℕ). codes "hello" ++ 32 ∷ t) (is ∙ ap (λ (t : List ℕ). name ++ 32 ∷ t) client.1)) })
hello_by-found words name numbers (Some p) request parts e named is =
    let c = bind_some (any_client_at p.0) (λ client. number_at max_counter p.1 >>= λ base. Some (Hello name client base)) request e in
    let b = bind_some (number_at max_counter p.1) (λ base. Some (Hello name c.0 base)) request c.2 in
    let client = any_reader.found p.0 c.0 c.1 in
    let base = number_found max_counter p.1 b.0 (omega arith) b.1 in
    let parted = split_first-parts 32 numbers p.0 p.1 parts in
    let numbered : numbers ≡ any_client_text c.0 ++ 32 ∷ decimal b.0 = parted.parts ∙ ap (λ (t : List ℕ). t ++ 32 ∷ p.1) client.1 ∙ ap (λ (t : List ℕ). any_client_text c.0 ++ 32 ∷ t) base.1 in
    subst (IsAskedBy (codes "hello") words) (same_Some (Hello name c.0 b.0) request b.2)
    (record { in_range = (named, client.0, omega (arith, base.0)); spelled = inl (ap (λ (t : List ℕ). codes "hello" ++ 32 ∷ t) (is ∙ ap (λ (t : List ℕ). name ++ 32 ∷ t) numbered)) })

hello-found : (words : List ℕ) (request : Request) → hello_at words ≡ Some request → IsAskedBy (codes "hello") words request
unfolding hello_at
hello-found words request e =
    let p = bind_some (split_first 32 words) (λ p. name_at p.0 >>= λ name. hello_by name p.1 (split_first 32 p.1)) request e in
    let n = bind_some (name_at p.0.0) (λ name. hello_by name p.0.1 (split_first 32 p.0.1)) request p.2 in
    let named = (text_reader is_tenant_byte 1 max_name_len).found p.0.0 n.0 n.1 in
    hello_by-found words n.0 p.0.1 (split_first 32 p.0.1) request refl n.2 named.0 ((split_first-parts 32 words p.0.0 p.0.1 p.1).parts ∙ ap (λ (t : List ℕ). t ++ 32 ∷ p.0.1) named.1)

find-found : (words : List ℕ) (request : Request) → find_at words ≡ Some request → IsAskedBy (codes "find") words request
find-found words request e =
    let t = bind_some (tag_at words) (λ tag. Some (Find tag)) request e in
    let tag = (text_reader is_name_byte 1 max_tag_len).found words t.0 t.1 in
    let written = written_tag t.0 tag.0 in
    subst (IsAskedBy (codes "find") words) (same_Some (Find t.0) request t.2) (record { in_range = (written.0, written.1); spelled = inl (ap (λ (w : List ℕ). codes "find" ++ 32 ∷ w) tag.1) })

keep-found : (words : List ℕ) (request : Request) → keep_request_at words ≡ Some request → IsAskedBy (codes "keep") words request
keep-found words request e =
    let k = bind_some (keep_at words) (λ keep. Some (Keep keep)) request e in
    let keep = keep_reader.found words k.0 k.1 in
    subst (IsAskedBy (codes "keep") words) (same_Some (Keep k.0) request k.2) (record { in_range = keep.0; spelled = inl (ap (λ (w : List ℕ). codes "keep" ++ 32 ∷ w) keep.1) })

put-found : (words : Option (List ℕ)) (request : Request) → put_at words ≡ Some request → IsAsked (codes "put") words request
unfolding put_at
put-found words request e =
    let l = bind_some (each_at item_at (parts_in 32 words)) (λ items. Some (Put items)) request e in
    let list = each_found item_text IsItem item_at item_reader (parts_in 32 words) l.0 l.1 in
    subst (IsAsked (codes "put") words) (same_Some (Put l.0) request l.2)
    (record { in_range = list.0; spelled = inl (ap (λ (t : List ℕ). codes "put" ++ t) (ap spaced list.1 ∙ spaced_map item_text l.0)) })

get-found : (words : Option (List ℕ)) (request : Request) → get_at words ≡ Some request → IsAsked (codes "get") words request
unfolding get_at
get-found words request e =
    let l = bind_some (each_at key_at (parts_in 32 words)) (λ keys. Some (Get keys)) request e in
    let list = each_found same_text IsKey key_at key_is (parts_in 32 words) l.0 l.1 in
    subst (IsAsked (codes "get") words) (same_Some (Get l.0) request l.2)
    (record { in_range = list.0; spelled = inl (ap (λ (t : List ℕ). codes "get" ++ t) (ap spaced list.1 ∙ spaced_map same_text l.0)) })

info-found : (request : Request) → Some Info ≡ Some request → IsAsked (codes "info") None request
info-found request e = subst (IsAsked (codes "info") None) (same_Some Info request e) (record { in_range = tt; spelled = inl refl })

bye-found : (request : Request) → Some Bye ≡ Some request → IsAsked (codes "bye") None request
bye-found request e = subst (IsAsked (codes "bye") None) (same_Some Bye request e) (record { in_range = tt; spelled = inl refl })

plain-found : (command : List ℕ) (words : Option (List ℕ)) (request : Request) → plain_request_by command words ≡ Some request → IsAsked command words request
plain-found command None request = either_command (λ c. IsAsked c None request) command (codes "bye") (Some Bye) _ request (bye-found request)
    (either_command (λ c. IsAsked c None request) command (codes "info") (Some Info) None request (info-found request) (λ e. absurd cc))
plain-found command (Some words) request =
    either_command asked command (codes "hello") (hello_at words) _ request (λ e. as_words (codes "hello") words request (hello-found words request e))
    (either_command asked command (codes "find") (find_at words) _ request (λ e. as_words (codes "find") words request (find-found words request e))
    (either_command asked command (codes "keep") (keep_request_at words) None request (λ e. as_words (codes "keep") words request (keep-found words request e)) (λ e. absurd cc)))
  where
    asked : List ℕ → Type 0
    asked c = IsAsked c (Some words) request

request_by-found : (command : List ℕ) (words : Option (List ℕ)) (request : Request) → request_by command words ≡ Some request → IsAsked command words request
request_by-found command words request =
    either_command asked command (codes "put") (put_at words) _ request (put-found words request)
    (either_command asked command (codes "get") (get_at words) _ request (get-found words request) (plain-found command words request))
  where
    asked : List ℕ → Type 0
    asked c = IsAsked c words request

request_found : (line : List ℕ) (request : Request) → request_at line ≡ Some request → IsServeLine request line
unfolding request_at
request_found line request e = subst (IsServeLine request) (sym (parted line)) (request_by-found (part_at 32 line).0 (part_at 32 line).1 request e)

-- ---- what is spelled is read

part-joined : (front back : List ℕ) → Lacks 32 front → part_at 32 (front ++ 32 ∷ back) ≡ (front, Some back)
unfolding part_at
part-joined front back lacks = rw (split_first-joined 32 front back lacks) refl

part-words : {A : Type 0} (text_of : A → List ℕ) (front : List ℕ) (all : List A) → Lacks 32 front → part_at 32 (front ++ words_text text_of all) ≡ (front, after_first (map text_of all))
part-words text_of front all lacks = ap (λ (t : List ℕ). part_at 32 (front ++ t)) (sym (spaced_map text_of all)) ∙ part-spaced front (map text_of all) lacks

name_lacks_space : (name : List ℕ) → IsName name → Lacks 32 name
name_lacks_space name h = Lacks-allowed is_tenant_byte 32 refl name h.all_allowed

hello_lacks_space : Lacks 32 (codes "hello")
hello_lacks_space = (refl, (refl, (refl, (refl, (refl, tt)))))

text_again : (request : Request) → CanBeAsked request → request_at (request_text request) ≡ Some request
unfolding request_at hello_at put_at get_at
text_again (Hello name client base) h =
    let small = h.2 in
    rw (
      part-joined (codes "hello") (name ++ 32 ∷ (any_client_text client ++ 32 ∷ decimal base)) hello_lacks_space,
      split_first-joined 32 name (any_client_text client ++ 32 ∷ decimal base) (name_lacks_space name h.0),
      (text_reader is_tenant_byte 1 max_name_len).again name h.0,
      split_first-joined 32 (any_client_text client) (decimal base) (any_lacks_space client h.1),
      any_reader.again client h.1,
      number_again max_counter base (omega arith) (omega arith),
    ) refl
text_again (Put items) h =
    rw (
      part-words item_text (codes "put") items (refl, (refl, (refl, tt))),
      list_words item_text IsItem item_at item_reader item_lacks_space items h,
    ) refl
text_again (Get keys) h =
    rw (
      part-words same_text (codes "get") keys (refl, (refl, (refl, tt))),
      list_words same_text IsKey key_at key_is key_lacks_space keys h,
    ) refl
text_again (Find tag) h =
    rw (
      part-joined (codes "find") tag (refl, (refl, (refl, (refl, tt)))),
      tag_again tag (h.0, h.1),
    ) refl
text_again (Keep keep) h =
    rw (
      part-joined (codes "keep") (decimal keep) (refl, (refl, (refl, (refl, tt)))),
      keep_reader.again keep h,
    ) refl
text_again Info h = rw (part-spaced (codes "info") [] (refl, (refl, (refl, (refl, tt))))) refl
text_again Bye h = rw (part-spaced (codes "bye") [] (refl, (refl, (refl, tt)))) refl

short_again : (name : List ℕ) (client : Option ℕ) → IsName name → IfSome client IsClient → request_at (codes "hello " ++ (name ++ 32 ∷ any_client_text client)) ≡ Some (Hello name client 0)
unfolding request_at hello_at
short_again name client named h =
    rw (
      part-joined (codes "hello") (name ++ 32 ∷ any_client_text client) hello_lacks_space,
      split_first-joined 32 name (any_client_text client) (name_lacks_space name named),
      (text_reader is_tenant_byte 1 max_name_len).again name named,
      split_first-lacks 32 (any_client_text client) (any_lacks_space client h),
      any_reader.again client h,
    ) refl

spelled_again : (line : List ℕ) (request : Request) → CanBeAsked request → (line ≡ request_text request) ⊎ LeavesBaseOut request line → request_at line ≡ Some request
spelled_again line request has (inl is) = ap request_at is ∙ text_again request has
spelled_again line (Hello name client base) has (inr short) = ap request_at short.1 ∙ short_again name client has.0 has.1 ∙ ap (λ (b : ℕ). Some (Hello name client b)) (sym short.0)
spelled_again line (Put items) has (inr short) = absurd short
spelled_again line (Get keys) has (inr short) = absurd short
spelled_again line (Find tag) has (inr short) = absurd short
spelled_again line (Keep keep) has (inr short) = absurd short
spelled_again line Info has (inr short) = absurd short
spelled_again line Bye has (inr short) = absurd short

request_again : (line : List ℕ) (request : Request) → IsServeLine request line → request_at line ≡ Some request
request_again line request h = spelled_again line request h.in_range h.spelled

-- ---- the answers to a line

-- what the clauses of `read_serve_line` say
pub record IsServeAnswer (line : List ℕ) (result : Result Request Refusal) : Type 0 where
  pub found : IfOk result (λ request. IsServeLine request line)
  pub only : (request : Request) → IsServeLine request line → (result ≡ Ok request) ⊎ ((result ≡ Err OutOfMemory) × CarriesList request)
  pub error : IfErr result (RefusesLine line)
  pub bad_line : IsNoServeLine line → result ≡ Err BadLine

-- what a line asks for is given by it
same_request : (line : List ℕ) (request other : Request) → request_at line ≡ Some request → IsServeLine other line → request ≡ other
same_request line request other e h = same_Some request other (sym e ∙ request_again line other h)

pub answers_nothing : (line : List ℕ) → request_at line ≡ None → IsServeAnswer line (Err BadLine)
answers_nothing line e = record {
  found = tt;
  only = λ request h. absurd (none-some request (sym e ∙ request_again line request h));
  error = λ request h. none-some request (sym e ∙ request_again line request h);
  bad_line = λ none. refl;
}

pub answers_request : (line : List ℕ) (request : Request) → request_at line ≡ Some request → IsServeAnswer line (Ok request)
answers_request line request e = record {
  found = request_found line request e;
  only = λ other h. inl (ap Ok (same_request line request other e h));
  error = tt;
  bad_line = λ none. absurd (none request (request_found line request e));
}

pub answers_no_memory : (line : List ℕ) (request : Request) → request_at line ≡ Some request → CarriesList request → IsServeAnswer line (Err OutOfMemory)
answers_no_memory line request e list = record {
  found = tt;
  only = λ other h. inr (refl, subst CarriesList (same_request line request other e h) list);
  error = (request, request_found line request e, list);
  bad_line = λ none. absurd (none request (request_found line request e));
}

-- ---- the lists of a put and of a get

pub put_carries : (words : Option (List ℕ)) (first : Item) (more : List Item) → each_at item_at (parts_in 32 words) ≡ Some (first ∷ more) → (request : Request) × (put_at words ≡ Some request) × CarriesList request
unfolding put_at
put_carries words first more e = (Put (first ∷ more), rw e refl, omega arith)

pub get_carries : (words : Option (List ℕ)) (first : List ℕ) (more : List (List ℕ)) → each_at key_at (parts_in 32 words) ≡ Some (first ∷ more) → (request : Request) × (get_at words ≡ Some request) × CarriesList request
unfolding get_at
get_carries words first more e = (Get (first ∷ more), rw e refl, omega arith)
