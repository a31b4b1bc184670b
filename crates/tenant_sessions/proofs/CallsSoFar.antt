-- How the calls of a transaction's parts go on as it takes replies: for `Sessions::take`, `start`, `retry` and `call`.
use Rattle.std.proofs.Common.{◌≡◌, ℕ, List, [], ◌∷◌, ◌++◌, Bool, true, false, ◌==◌, inl, inr, refl, sym, ap, ◌∙◌, subst, cond, not, Option, Some, None, is_some, eqb-true, eq-eqb}
use Rattle.std.specs.Prelude.{nat_lt}
use Rattle.std.specs.List.{list_any}
use Rattle.stamps.specs.Key.{sorted_keys}
use Rattle.stamps.specs.Limits.{max_found}
use Rattle.plain_store.specs.Words.{◌∈◌, Key, Tag, Stamp, Setup, home, Item}
use Rattle.plain_store.specs.declared.calls.Call.TheVariants.{Get, Found}
use Rattle.plain_store.specs.declared.calls.Call.{Call}
use Rattle.plain_store.specs.declared.calls.Reply.TheVariants.{Found as ToFound}
use Rattle.plain_store.specs.declared.calls.Reply.{Reply}
use Rattle.plain_store.specs.declared.message.Message.{Message}
use Rattle.plain_store.specs.declared.refusal.Refusal.{Refusal}
use Rattle.plain_store.specs.declared.refusal.Refusal.TheVariants.{TooMany, Torn}
use Rattle.plain_store.specs.History.{Intent, Writes, Gets, Finds}
use Rattle.plain_store.specs.Writing.{Outgoing, prepare_calls, commit_calls, discard_calls, all_prepared, says_prepared}
use Rattle.plain_store.specs.Rounds.{some_or, first_some, shown_first, seen_first, needed, first_calls, second_calls, is_shown, round_one_complete, reading_calls}
use Rattle.plain_store.specs.Finding.{below, found_calls, says_found, keys_found, all_found, all_keys_found, total_found, carrying}
use Rattle.plain_store.specs.Moves.{Move as PlainMove, Waits, Fails, Lists, Begins, Reads, write_move, read_move, search_move, find_move, move_of, calls_of, same_place, is_answered}
use Rattle.plain_store.proofs.Members.{in_left, in_right, any_witness, any_from, all_at, any_more, all_more}
use Rattle.plain_store.proofs.StepEffects.{calls_made}
use Rattle.plain_store.proofs.Owned.{WriterSends, writer_sends, ReaderSends, reader_sends, below_in}
use Rattle.plain_store.proofs.SearchesAsk.{found_more}
use Rattle.tenant_sessions.specs.Running.{is_past, read_so_far, calls_so_far, is_reply_of, IsReplyTo}
use Rattle.tenant_sessions.proofs.Offers.{in_later, later_cases, IsFoundOf, IsGetOf, find_asked, is_get_reply}
use Rattle.get_all.specs.TagSearch.{keys_told}
use Rattle.std.proofs.lemmas.Grind.{flat_map-append}
use Rattle.std.proofs.lemmas.List.{append-nil}
use Rattle.tenant_sessions.proofs.SeenAlike.{second_same}
use Rattle.tenant_sessions.proofs.Taking.{not_both}

-- ---- lists

first_same : {X Y : Type 0} (f : X → Option Y) (xs ys : List X) → is_some (first_some f xs) ≡ true → first_some f (xs ++ ys) ≡ first_some f xs
first_same f [] ys h = cc
first_same {X} {Y} f (x ∷ xs) ys h = go (f x) h (first_same f xs ys)
  where
    go : (o : Option Y) → is_some (some_or o (first_some f xs)) ≡ true → (is_some (first_some f xs) ≡ true → first_some f (xs ++ ys) ≡ first_some f xs) → some_or o (first_some f (xs ++ ys)) ≡ some_or o (first_some f xs)
    go None k rest = rest k
    go (Some y) k rest = refl

-- ---- what more replies leave

pub prepared_more : (stamp : Stamp) (items : List Item) (xs ys : List Message) → all_prepared stamp items xs ≡ true → all_prepared stamp items (xs ++ ys) ≡ true
prepared_more stamp items xs ys h =
    all_more (λ (item : Item). list_any (λ (q : Message). says_prepared stamp item.key q.call q.reply) xs) (λ (item : Item). list_any (λ (q : Message). says_prepared stamp item.key q.call q.reply) (xs ++ ys)) items
    (λ item t. any_more (λ (q : Message). says_prepared stamp item.key q.call q.reply) xs ys t) h

seen_same : (xs ys : List Message) (key : Key) → is_shown xs key ≡ true → seen_first (xs ++ ys) key ≡ seen_first xs key
unfolding seen_first
seen_same xs ys key h = first_same (λ (q : Message). shown_first key q.call q.reply) xs ys h

complete_more : (keys : List Key) (xs ys : List Message) → round_one_complete keys xs ≡ true → round_one_complete keys (xs ++ ys) ≡ true
complete_more keys xs ys h = all_more (is_shown xs) (is_shown (xs ++ ys)) keys (λ key t. ap is_some (seen_same xs ys key t) ∙ t) h

pub keys_push : (taken : List Message) (message : Message) → keys_told (taken ++ message ∷ []) ≡ keys_told taken ++ keys_found message.reply
keys_push taken message = flat_map-append (λ (m : Message). keys_found m.reply) taken (message ∷ []) ∙ ap (λ ks. keys_told taken ++ ks) (append-nil (keys_found message.reply))

-- what finds nothing adds no key
pub keys_same : (taken : List Message) (message : Message) → keys_found message.reply ≡ [] → all_keys_found (taken ++ message ∷ []) ≡ all_keys_found taken
keys_same taken message none = ap sorted_keys (keys_push taken message ∙ ap (λ ks. keys_told taken ++ ks) none ∙ append-nil (keys_told taken))

-- ---- the calls so far

later_stays : {X : Type 0} (b c : Bool) (first later more : List X) (x : X) → (b ≡ true → (c ≡ true) × (x ∈ later → x ∈ more)) → x ∈ (first ++ cond b later []) → x ∈ (first ++ cond c more [])
later_stays b c first later more x stays h =
    elim (later_cases b first later x h) [
      | inl k ↦ in_left first (cond c more []) x k
      | inr k ↦ let s = stays k.0 in in_later c first more x s.0 (s.1 k.1)
    ]

-- a read's calls stay among those so far
read_more : (setup : Setup) (keys : List Key) (xs ys : List Message) (out : Outgoing) → out ∈ read_so_far setup keys xs → out ∈ read_so_far setup keys (xs ++ ys)
read_more setup keys xs ys out =
    later_stays (round_one_complete keys xs) (round_one_complete keys (xs ++ ys)) (first_calls setup keys) (second_calls setup keys xs) (second_calls setup keys (xs ++ ys)) out
    (λ one. (complete_more keys xs ys one, λ k. subst (λ (outs : List Outgoing). out ∈ outs) (sym (second_same keys (xs ++ ys) xs (λ key h. seen_same xs ys key (all_at (is_shown xs) keys key one h)) setup)) k))

abbrev pub out_of : Message → Outgoing
out_of message = record { partition = message.partition; call = message.call }

-- replies to their own kind of call
abbrev pub AreReplies : List Message → Type 0
AreReplies taken = (q : Message) → q ∈ taken → is_reply_of q.call q.reply ≡ true

-- who told what it found was asked so
told_asked : (p : ℕ) (at : ℕ) (call : Call) (reply : Option Reply) (tag : Tag) → is_reply_of call reply ≡ true → says_found p at reply ≡ true → same_place p (Found tag) at call ≡ true
told_asked p at (Found g) (Some (ToFound told)) tag kind says = eq-eqb p at (sym (eqb-true at p says))
told_asked p at call (Some (ToFound told)) tag kind says = cc
told_asked p at call reply tag kind says = cc

-- a first reply to a search comes before each partition told
pub asking : (setup : Setup) (tag : Tag) (taken : List Message) (message : Message) → AreReplies taken → IsFoundOf setup tag message → is_answered taken message.partition message.call ≡ false → all_found setup taken ≡ false
asking setup tag taken message kinds found new = go (all_found setup taken) refl
  where
    answered : all_found setup taken ≡ true → is_answered taken message.partition (Found tag) ≡ true
    answered all =
        let p = message.partition in
        let w = any_witness (λ (q : Message). says_found p q.partition q.reply) taken
        (all_at (λ (at : ℕ). list_any (λ (q : Message). says_found at q.partition q.reply) taken) (below setup.partitions) p all (below_in setup.partitions p found.0)) in
        any_from (λ (q : Message). same_place p (Found tag) q.partition q.call) taken w.0 w.1 (told_asked p w.0.partition w.0.call w.0.reply tag (kinds w.0 w.1) w.2)

    go : (b : Bool) → all_found setup taken ≡ b → b ≡ false
    go true all = not_both (is_answered taken message.partition message.call) (ap (is_answered taken message.partition) found.1 ∙ answered all) new
    go false some = refl

-- a reply to a GET reports no keys
pub get_call : (keys : List Key) (taken : List Message) (message : Message) → IsGetOf keys taken message → (key : Key) × (s : Option Stamp) × (message.call ≡ Get key s)
get_call keys taken message (inl k) = (k.0, None, k.2)
get_call keys taken message (inr k) = (k.0, Some (needed keys taken k.0), k.3)

pub get_adds_none : (keys : List Key) (taken : List Message) (message : Message) → IsGetOf keys taken message → is_reply_of message.call message.reply ≡ true → all_keys_found (taken ++ message ∷ []) ≡ all_keys_found taken
get_adds_none keys taken message get kind =
    let k = get_call keys taken message get in
    keys_same taken message (ap keys_found (is_get_reply k.0 k.1 message.reply (ap (λ c. is_reply_of c message.reply) (sym k.2) ∙ kind)).1)

-- what was called stays so
pub calls_stay : (setup : Setup) (request : Intent) (taken : List Message) (message : Message) (out : Outgoing) → AreReplies taken → IsReplyTo setup request taken message → is_answered taken message.partition message.call ≡ false
    → out ∈ calls_so_far setup request taken → out ∈ calls_so_far setup request (taken ++ message ∷ [])
calls_stay setup (Writes stamp items) taken message out kinds is new =
    later_stays (all_prepared stamp items taken) (all_prepared stamp items (taken ++ message ∷ [])) (prepare_calls setup stamp items) (commit_calls setup stamp items) (commit_calls setup stamp items) out
    (λ all. (prepared_more stamp items taken (message ∷ []) all, λ k. k))
calls_stay setup (Gets keys) taken message out kinds is new = read_more setup keys taken (message ∷ []) out
calls_stay setup (Finds tag) taken message out kinds is new =
    later_stays (all_found setup taken) (all_found setup (taken ++ message ∷ [])) (found_calls setup tag) (read_so_far setup (all_keys_found taken) taken) (read_so_far setup (all_keys_found (taken ++ message ∷ [])) (taken ++ message ∷ [])) out
    (λ all. (found_more setup taken (message ∷ []) all, λ k. subst (λ (keys : List Key). out ∈ read_so_far setup keys (taken ++ message ∷ [])) (sym (same all)) (read_more setup (all_keys_found taken) taken (message ∷ []) out k)))
  where
    same : all_found setup taken ≡ true → all_keys_found (taken ++ message ∷ []) ≡ all_keys_found taken
    same all =
        elim (find_asked setup taken message tag is) [
          | inl k ↦ not_both (all_found setup taken) all (asking setup tag taken message kinds k new)
          | inr k ↦ get_adds_none (all_keys_found taken) taken message k.1 is.of_kind
        ]

-- the calls of a read's round
reading_in : (setup : Setup) (keys : List Key) (taken : List Message) (out : Outgoing) → out ∈ reading_calls setup keys taken → out ∈ read_so_far setup keys taken
reading_in setup keys taken out h = go (round_one_complete keys taken) h
  where
    go : (b : Bool) → out ∈ cond b (second_calls setup keys taken) (first_calls setup keys) → out ∈ (first_calls setup keys ++ cond b (second_calls setup keys taken) [])
    go true k = in_right (first_calls setup keys) (second_calls setup keys taken) out k
    go false k = in_left (first_calls setup keys) [] out k

-- the calls of the part that it is in
pub part_in : (setup : Setup) (decided : Bool) (request : Intent) (taken : List Message) (out : Outgoing) → (decided ≡ true → is_past request taken ≡ true) → out ∈ calls_of setup decided request taken → out ∈ calls_so_far setup request taken
part_in setup true (Writes stamp items) taken out past h = in_later (all_prepared stamp items taken) (prepare_calls setup stamp items) (commit_calls setup stamp items) out (past refl) h
part_in setup false (Writes stamp items) taken out past h = in_left (prepare_calls setup stamp items) (cond (all_prepared stamp items taken) (commit_calls setup stamp items) []) out h
part_in setup decided (Gets keys) taken out past h = reading_in setup keys taken out h
part_in setup decided (Finds tag) taken out past h = go (all_found setup taken) h
  where
    go : (b : Bool) → out ∈ cond b (reading_calls setup (all_keys_found taken) taken) (found_calls setup tag) → out ∈ (found_calls setup tag ++ cond b (read_so_far setup (all_keys_found taken) taken) [])
    go true k = in_right (found_calls setup tag) (read_so_far setup (all_keys_found taken) taken) out (reading_in setup (all_keys_found taken) taken out k)
    go false k = in_left (found_calls setup tag) [] out k

-- ---- the calls of a move

none_made : (P : Type 0) (calls : List Outgoing) (out : Outgoing) → calls ≡ [] → out ∈ calls → P
none_made P calls out e h = absurd (subst (λ (outs : List Outgoing). out ∈ outs) e h)

read_made : (setup : Setup) (keys : List Key) (taken : List Message) (call : Call) (calls : List Outgoing) (out : Outgoing) → ReaderSends setup keys taken call calls → out ∈ calls → out ∈ read_so_far setup keys taken
read_made setup keys taken call calls out (inl e) h = none_made (out ∈ read_so_far setup keys taken) calls out e h
read_made setup keys taken call calls out (inr s) h =
    in_later (round_one_complete keys taken) (first_calls setup keys) (second_calls setup keys taken) out s.2 (subst (λ (outs : List Outgoing). out ∈ outs) s.3 h)

-- a move does not end its transaction with calls
abbrev pub EndsWithNone : PlainMove → Type 0
EndsWithNone move = (why : Refusal) (out : Outgoing) (outs : List Outgoing) → move ≡ Fails why (out ∷ outs) → ⊥

write_made : (setup : Setup) (stamp : Stamp) (items : List Item) (taken : List Message) (call : Call) (move : PlainMove) (out : Outgoing) → EndsWithNone move → WriterSends setup stamp items taken call move → out ∈ calls_made move
    → out ∈ calls_so_far setup (Writes stamp items) taken
write_made setup stamp items taken call move out goes (inl e) h = none_made (out ∈ calls_so_far setup (Writes stamp items) taken) (calls_made move) out e h
write_made setup stamp items taken call move out goes (inr (inl s)) h =
    in_later (all_prepared stamp items taken) (prepare_calls setup stamp items) (commit_calls setup stamp items) out s.2 (subst (λ (outs : List Outgoing). out ∈ outs) s.3 h)
write_made setup stamp items taken call move out goes (inr (inr s)) h = go (discard_calls setup stamp items) refl (subst (λ (outs : List Outgoing). out ∈ outs) (ap calls_made s.3) h)
  where
    go : (calls : List Outgoing) → discard_calls setup stamp items ≡ calls → out ∈ discard_calls setup stamp items → out ∈ calls_so_far setup (Writes stamp items) taken
    go [] e k = absurd (subst (λ (outs : List Outgoing). out ∈ outs) e k)
    go (o ∷ os) e k = absurd (goes s.2 o os (s.3 ∙ ap (Fails s.2) e))

search_made : (setup : Setup) (keys : List Key) (taken : List Message) (out : Outgoing) (a b : Bool) → out ∈ calls_made (cond a (Fails TooMany []) (cond b (Lists []) (Begins (first_calls setup keys)))) → out ∈ read_so_far setup keys taken
search_made setup keys taken out true b h = absurd h
search_made setup keys taken out false true h = absurd h
search_made setup keys taken out false false h = in_left (first_calls setup keys) (cond (round_one_complete keys taken) (second_calls setup keys taken) []) out h

-- a GET of a search comes once each partition told
find_made : (setup : Setup) (tag : Tag) (taken : List Message) (partition : ℕ) (call : Call) (reply : Option Reply) (out : Outgoing) → ((key : Key) (s : Option Stamp) → call ≡ Get key s → all_found setup taken ≡ true)
    → out ∈ calls_made (find_move setup tag taken partition call reply) → out ∈ calls_so_far setup (Finds tag) taken
find_made setup tag taken partition (Found g) (Some (ToFound told)) out ready h = go (list_any (λ key. not (home setup key == partition)) told.keys) h
  where
    whole : (b : Bool) → out ∈ calls_made (cond b (search_move setup (total_found taken) (all_keys_found taken)) Waits) → out ∈ (found_calls setup tag ++ cond b (read_so_far setup (all_keys_found taken) taken) [])
    whole true k = in_right (found_calls setup tag) (read_so_far setup (all_keys_found taken) taken) out (search_made setup (all_keys_found taken) taken out (nat_lt max_found (total_found taken)) (total_found taken == 0) k)
    whole false k = absurd k

    go : (b : Bool) → out ∈ calls_made (cond b (Fails Torn []) (cond (all_found setup taken) (search_move setup (total_found taken) (all_keys_found taken)) Waits)) → out ∈ calls_so_far setup (Finds tag) taken
    go true k = absurd k
    go false k = whole (all_found setup taken) k
find_made setup tag taken partition (Get key stamp) reply out ready h =
    in_later (all_found setup taken) (found_calls setup tag) (read_so_far setup (all_keys_found taken) taken) out (ready key stamp refl)
    (read_made setup (all_keys_found taken) taken (Get key stamp) (calls_made (read_move setup (all_keys_found taken) taken (λ rs. Lists (carrying tag rs)) (Get key stamp) reply)) out
    (reader_sends setup (all_keys_found taken) taken (λ rs. Lists (carrying tag rs)) (Get key stamp) reply (λ rs. refl)) h)
find_made setup tag taken partition call reply out ready h = absurd h

pub made_in : (setup : Setup) (request : Intent) (taken : List Message) (message : Message) (out : Outgoing) → IsReplyTo setup request taken message → EndsWithNone (move_of setup request (taken ++ message ∷ []) message)
    → out ∈ calls_made (move_of setup request (taken ++ message ∷ []) message) → out ∈ calls_so_far setup request (taken ++ message ∷ [])
made_in setup (Writes stamp items) taken message out is goes =
    write_made setup stamp items (taken ++ message ∷ []) message.call (write_move setup stamp items (taken ++ message ∷ []) message.call message.reply) out goes
    (writer_sends setup stamp items (taken ++ message ∷ []) message.call message.reply)
made_in setup (Gets keys) taken message out is goes =
    read_made setup keys (taken ++ message ∷ []) message.call (calls_made (read_move setup keys (taken ++ message ∷ []) Reads message.call message.reply)) out
    (reader_sends setup keys (taken ++ message ∷ []) Reads message.call message.reply (λ rs. refl))
made_in setup (Finds tag) taken message out is goes = find_made setup tag (taken ++ message ∷ []) message.partition message.call message.reply out ready
  where
    ready : (key : Key) (s : Option Stamp) → message.call ≡ Get key s → all_found setup (taken ++ message ∷ []) ≡ true
    ready key s e =
        elim (find_asked setup taken message tag is) [
          | inl k ↦ let both : Found tag ≡ Get key s = sym k.1 ∙ e in absurd cc
          | inr k ↦ found_more setup taken (message ∷ []) k.0
        ]
