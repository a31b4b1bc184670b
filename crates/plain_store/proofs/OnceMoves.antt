-- A move of a transaction sends no round twice.
use Rattle.std.proofs.Common.{◌≡◌, ℕ, ◌<◌, nat_lt, List, [], ◌∷◌, ◌++◌, Bool, true, false, ◌&&◌, ◌==◌, ◌⊎◌, inl, inr, refl, sym, ap, ◌∙◌, subst, cond, not, map, filter, Option, Some, None, is_some, is_none, append-nil}
use Rattle.std.specs.List.{list_any, list_all}
use Rattle.std.proofs.lemmas.Bool.{and_parts, and_from, both_ways}
use Rattle.std.proofs.lemmas.List.{map-append}
use Rattle.std.proofs.lemmas.List.Elements.{filter-append}
use Rattle.plain_store.specs.Words.{◌∈◌, Key, Tag, Stamp, Item, Record, Call, Prepare, Get, Found, Reply, ToPrepare, ToCommit, ToGet, ToFound, ToCollect, ToDiscard, Torn, TooMany, home, Message, Refusal, Setup}
use Rattle.plain_store.specs.History.{Moment, History, messages, Intent, Writes, Gets, Finds, Transaction, is_of}
use Rattle.plain_store.specs.Writing.{Outgoing, keys_written, prepare_calls, commit_calls, all_prepared, says_prepared, discard_calls}
use Rattle.plain_store.specs.Rounds.{seen_first, first_calls, second_calls, reading_calls, needed, late_keys, is_shown, round_one_complete}
use Rattle.plain_store.specs.Moves.{Move, Waits, Begins, Reads, Lists, Fails, find_move, search_move, move_of, calls_of, same_place, is_answered}
use Rattle.plain_store.specs.Run.{call_message}
use Rattle.plain_store.specs.Laws.{IsFindersCall, IsCallOf}
use Rattle.plain_store.specs.Finding.{below, found_calls, keys_found, says_found, all_found, total_found, all_keys_found, carrying}
use Rattle.std.proofs.lemmas.List.Concat.{flat_map-append}
use Rattle.std.specs.Prelude.{flat_map}
use Rattle.stamps.specs.Key.{sorted_keys}
use Rattle.stamps.specs.Limits.{max_found}
use Rattle.plain_store.proofs.SearchesAsk.{IsReplied, found_answered, found_more}
use Rattle.plain_store.proofs.Searches.{IsOnce}
use Rattle.plain_store.proofs.Stamps.{is_key}
use Rattle.plain_store.proofs.Members.{in_left, in_cases, in_map, any_from, all_at, any_more, all_more}
use Rattle.plain_store.proofs.Seen.{all_prepared_at, seen_first_shows, in_sorted, sorted_in}
use Rattle.plain_store.proofs.ShownMore.{shown_more, complete_more}
use Rattle.plain_store.proofs.StepEffects.{calls_made}
use Rattle.plain_store.proofs.Owned.{below_in, WriterSends, writer_sends, ReaderSends, reader_sends}

abbrev pub out_of : Message → Outgoing
out_of message = record { partition = message.partition; call = message.call }

abbrev pub is_call_of : Transaction → Message → Bool
is_call_of transaction message = is_none message.reply && is_of transaction message

abbrev pub outs_in : Transaction → List Message → List Outgoing
outs_in transaction ms = map out_of (filter (is_call_of transaction) ms)

abbrev pub outs : History → Transaction → List Outgoing
outs history transaction = outs_in transaction (messages history)

pub outs_more : (m : Moment) (older : History) (transaction : Transaction) → outs (m ∷ older) transaction ≡ outs older transaction ++ outs_in transaction m.sent
outs_more m older transaction =
    ap (map out_of) (filter-append (is_call_of transaction) (messages older) m.sent) ∙ map-append out_of (filter (is_call_of transaction) (messages older)) (filter (is_call_of transaction) m.sent)

-- the calls that another client or ticket sends are not among them, its own are
pub outs_other : (transaction : Transaction) (client ticket : ℕ) (calls : List Outgoing) → ((client == transaction.client) && (ticket == transaction.ticket)) ≡ false → outs_in transaction (map (call_message client ticket) calls) ≡ []
outs_other transaction client ticket [] e = refl
outs_other transaction client ticket (out ∷ outs) e =
    ap (λ b. map out_of (cond b (call_message client ticket out ∷ filter (is_call_of transaction) (map (call_message client ticket) outs)) (filter (is_call_of transaction) (map (call_message client ticket) outs)))) e
    ∙ outs_other transaction client ticket outs e

pub outs_own : (transaction : Transaction) (client ticket : ℕ) (calls : List Outgoing) → ((client == transaction.client) && (ticket == transaction.ticket)) ≡ true → outs_in transaction (map (call_message client ticket) calls) ≡ calls
outs_own transaction client ticket [] e = refl
outs_own transaction client ticket (out ∷ outs) e =
    ap (λ b. map out_of (cond b (call_message client ticket out ∷ filter (is_call_of transaction) (map (call_message client ticket) outs)) (filter (is_call_of transaction) (map (call_message client ticket) outs)))) e
    ∙ ap (λ os. out ∷ os) (outs_own transaction client ticket outs e)

-- a transaction of which no message was sent has no calls
pub outs_none : (transaction : Transaction) (ms : List Message) → ((message : Message) → message ∈ ms → is_of transaction message ≡ true → ⊥) → outs_in transaction ms ≡ []
outs_none transaction [] none = refl
outs_none transaction (message ∷ ms) none = go (is_call_of transaction message) refl (outs_none transaction ms (λ q h e. none q (inr h) e))
  where
    go : (b : Bool) → is_call_of transaction message ≡ b → outs_in transaction ms ≡ [] → map out_of (cond b (message ∷ filter (is_call_of transaction) ms) (filter (is_call_of transaction) ms)) ≡ []
    go true e rest = absurd (none message (inl refl) (and_parts (is_none message.reply) (is_of transaction message) e).1)
    go false e rest = rest

-- ---- what was taken

prepared_more : (stamp : Stamp) (items : List Item) (xs ys : List Message) → all_prepared stamp items xs ≡ true → all_prepared stamp items (xs ++ ys) ≡ true
prepared_more stamp items xs ys h =
    all_more (λ (item : Item). list_any (λ (q : Message). says_prepared stamp item.key q.call q.reply) xs) (λ (item : Item). list_any (λ (q : Message). says_prepared stamp item.key q.call q.reply) (xs ++ ys)) items
    (λ item t. any_more (λ (q : Message). says_prepared stamp item.key q.call q.reply) xs ys t) h

-- ---- how far a transaction is

-- a search that has begun to read these keys has sent their GETs of round one, and then those of round two, once round one is complete
abbrev pub IsReading : Setup → Tag → List Key → List Outgoing → List Message → Type 0
IsReading setup tag keys sent replies =
    (all_found setup replies ≡ true) × IsOnce keys × ((key : Key) → key ∈ keys → key ∈ all_keys_found replies)
    × ((sent ≡ found_calls setup tag ++ first_calls setup keys)
    ⊎ ((late : List Key) × (seen : List Message) × IsOnce late × (sent ≡ (found_calls setup tag ++ first_calls setup keys) ++ second_calls setup late seen) × ((key : Key) → key ∈ keys → is_shown replies key ≡ true)))

-- a search has asked each partition, and then read the keys that it was reported
abbrev pub SearchStage : Setup → Tag → List Outgoing → List Message → Type 0
SearchStage setup tag sent replies = (sent ≡ found_calls setup tag) ⊎ ((keys : List Key) × IsReading setup tag keys sent replies)

-- a write has sent its PREPAREs, and its COMMITs where all is prepared, or its DISCARDs where it is gone;
-- a get its first round, and its second where the first is complete
abbrev pub Stage : Setup → Type 0 → List Outgoing → List Message → Intent → Type 0
Stage setup Gone sent replies (Writes stamp items) =
    (sent ≡ prepare_calls setup stamp items) ⊎ ((sent ≡ prepare_calls setup stamp items ++ commit_calls setup stamp items) × (all_prepared stamp items replies ≡ true))
    ⊎ ((sent ≡ prepare_calls setup stamp items ++ discard_calls setup stamp items) × Gone)
Stage setup Gone sent replies (Gets keys) =
    (sent ≡ first_calls setup keys) ⊎ ((seen : List Message) × (sent ≡ first_calls setup keys ++ second_calls setup keys seen) × (round_one_complete keys replies ≡ true))
Stage setup Gone sent replies (Finds tag) = SearchStage setup tag sent replies

keys_more : (xs ys : List Message) (key : Key) → key ∈ all_keys_found xs → key ∈ all_keys_found (xs ++ ys)
keys_more xs ys key h =
    let told = λ (q : Message). keys_found q.reply in
    sorted_in (flat_map told (xs ++ ys)) key
    (subst (λ (keys : List Key). key ∈ keys) (sym (flat_map-append told xs ys)) (in_left (flat_map told xs) (flat_map told ys) key (in_sorted (flat_map told xs) key h)))

-- more replies change nothing
search_more : (setup : Setup) (tag : Tag) (sent : List Outgoing) (xs ys : List Message) → SearchStage setup tag sent xs → SearchStage setup tag sent (xs ++ ys)
search_more setup tag sent xs ys (inl e) = inl e
search_more setup tag sent xs ys (inr (keys, (all, once, told, inl e))) = inr (keys, (found_more setup xs ys all, once, (λ key h. keys_more xs ys key (told key h)), inl e))
search_more setup tag sent xs ys (inr (keys, (all, once, told, inr (late, seen, one, e, shown)))) =
    inr (keys, (found_more setup xs ys all, once, (λ key h. keys_more xs ys key (told key h)), inr (late, seen, one, e, λ key h. shown_more xs ys key (shown key h))))

pub stage_more : (setup : Setup) (Gone Later : Type 0) (sent : List Outgoing) (xs ys : List Message) (request : Intent) → (Gone → Later) → Stage setup Gone sent xs request → Stage setup Later sent (xs ++ ys) request
stage_more setup Gone Later sent xs ys (Writes stamp items) later (inl e) = inl e
stage_more setup Gone Later sent xs ys (Writes stamp items) later (inr (inl s)) = inr (inl (s.0, prepared_more stamp items xs ys s.1))
stage_more setup Gone Later sent xs ys (Writes stamp items) later (inr (inr s)) = inr (inr (s.0, later s.1))
stage_more setup Gone Later sent xs ys (Gets keys) later (inl e) = inl e
stage_more setup Gone Later sent xs ys (Gets keys) later (inr s) = inr (s.0, s.1, complete_more keys xs ys s.2)
stage_more setup Gone Later sent xs ys (Finds tag) later s = search_more setup tag sent xs ys s

first_search : (setup : Setup) (tag : Tag) (partitions : List ℕ)
    → cond (list_all (λ (p : ℕ). list_any (λ (q : Message). says_found p q.partition q.reply) []) partitions) (reading_calls setup (all_keys_found []) []) (map (λ (p : ℕ). record { partition = p; call = Found tag }) partitions)
    ≡ map (λ (p : ℕ). record { partition = p; call = Found tag }) partitions
unfolding sorted_keys
first_search setup tag [] = refl
first_search setup tag (p ∷ ps) = refl

pub stage_first : (setup : Setup) (Gone : Type 0) (request : Intent) (replies : List Message) → Stage setup Gone (calls_of setup false request []) replies request
unfolding seen_first
stage_first setup Gone (Writes stamp items) replies = inl refl
stage_first setup Gone (Gets []) replies = inl refl
stage_first setup Gone (Gets (key ∷ keys)) replies = inl refl
stage_first setup Gone (Finds tag) replies = inl (first_search setup tag (below setup.partitions))

-- ---- a move sends no round twice

-- a PREPARE of an item is answered where all is prepared
prepare_answered : (stamp : Stamp) (items : List Item) (replies : List Message) (partition : ℕ) (version : Record) → all_prepared stamp items replies ≡ true → version.key ∈ keys_written items → is_answered replies partition (Prepare version) ≡ true
prepare_answered stamp items replies partition version all k =
    let a = all_prepared_at stamp items replies version.key all k in
    let p = a.2 in
    any_from (λ (q : Message). same_place partition (Prepare version) q.partition q.call) replies a.0 a.1
    (ap (same_place partition (Prepare version) a.0.partition) p.1 ∙ is_key version.key p.0.key (sym p.3))

-- a first GET of a key is answered where the first round is complete
get_answered : (keys : List Key) (replies : List Message) (partition : ℕ) (key : Key) → round_one_complete keys replies ≡ true → key ∈ keys → is_answered replies partition (Get key None) ≡ true
get_answered keys replies partition key all k = go (seen_first replies key) refl (all_at (is_shown replies) keys key all k)
  where
    go : (o : Option (Option Record)) → seen_first replies key ≡ o → is_some o ≡ true → is_answered replies partition (Get key None) ≡ true
    go None e t = cc
    go (Some seen) e t =
        let f = seen_first_shows replies key seen e in
        let h = f.2 in
        any_from (λ (q : Message). same_place partition (Get key None) q.partition q.call) replies f.0 f.1 (ap (same_place partition (Get key None) f.0.partition) h.1 ∙ is_key key key refl)

-- what is known of a search that takes a reply
pub record Searching (setup : Setup) (sent : List Outgoing) (replies : List Message) (message : Message) : Type 0 where
  pub asked : out_of message ∈ sent
  pub replied : (q : Message) → q ∈ (replies ++ message ∷ []) → IsReplied q
  pub once : IsOnce (all_keys_found (replies ++ message ∷ []))

-- a partition is not asked again once each has told
no_search : (setup : Setup) (sent : List Outgoing) (replies : List Message) (message : Message) (tag : Tag) → Searching setup sent replies message → all_found setup replies ≡ true → message.partition < setup.partitions
    → is_answered replies message.partition message.call ≡ false → message.call ≡ Found tag → ⊥
no_search setup sent replies message tag known all within wanted c =
    both_ways _ wanted (ap (is_answered replies message.partition) c
    ∙ found_answered setup replies message.partition tag (λ q h. known.replied q (in_left replies (message ∷ []) q h)) all (below_in setup.partitions message.partition within))

-- a GET of round one that a search sent is of one of its keys
first_key : (setup : Setup) (tag : Tag) (keys late : List Key) (seen : List Message) (out : Outgoing) (key : Key) → out.call ≡ Get key None
    → out ∈ ((found_calls setup tag ++ first_calls setup keys) ++ second_calls setup late seen) → key ∈ keys
first_key setup tag keys late seen out key c h = go (in_cases (found_calls setup tag ++ first_calls setup keys) (second_calls setup late seen) out h)
  where
    first : (out ∈ found_calls setup tag) ⊎ (out ∈ first_calls setup keys) → key ∈ keys
    first (inl k) =
        let i = in_map (λ (p : ℕ). record { partition = p; call = Found tag }) (below setup.partitions) out k in
        let is : Found tag ≡ Get key None = ap (λ (o : Outgoing). o.call) (sym i.2) ∙ c in cc
    first (inr k) =
        let i = in_map (λ (j : Key). record { partition = home setup j; call = Get j None }) keys out k in
        let is : Get i.0 None ≡ Get key None = ap (λ (o : Outgoing). o.call) (sym i.2) ∙ c in
        let same : i.0 ≡ key = cc in
        subst (λ (j : Key). j ∈ keys) same i.1

    go : (out ∈ (found_calls setup tag ++ first_calls setup keys)) ⊎ (out ∈ second_calls setup late seen) → key ∈ keys
    go (inl k) = first (in_cases (found_calls setup tag) (first_calls setup keys) out k)
    go (inr k) =
        let i = in_map (λ (j : Key). record { partition = home setup j; call = Get j (Some (needed late seen j)) }) (late_keys late seen) out k in
        let none : Option Stamp = None in
        let is : Get i.0 (Some (needed late seen i.0)) ≡ Get key None = ap (λ (o : Outgoing). o.call) (sym i.2) ∙ c in cc

-- a first GET of a key is answered where a reply to it was shown
shown_answered : (replies : List Message) (partition : ℕ) (key : Key) → is_shown replies key ≡ true → is_answered replies partition (Get key None) ≡ true
shown_answered replies partition key t = get_answered (key ∷ []) replies partition key (and_from (is_shown replies key) true t refl) (inl refl)

-- the search sends nothing, or begins to read
search_begins : (setup : Setup) (tag : Tag) (replies : List Message) (partition : ℕ) (g : Tag) (reply : Option Reply)
    → (calls_made (find_move setup tag replies partition (Found g) reply) ≡ []) ⊎ ((all_found setup replies ≡ true) × (calls_made (find_move setup tag replies partition (Found g) reply) ≡ first_calls setup (all_keys_found replies)))
search_begins setup tag replies partition g (Some (ToFound told)) = go (list_any (λ key. not (home setup key == partition)) told.keys)
  where
    searched : (a b : Bool) → (calls_made (cond a (Fails TooMany []) (cond b (Lists []) (Begins (first_calls setup (all_keys_found replies))))) ≡ [])
        ⊎ (calls_made (cond a (Fails TooMany []) (cond b (Lists []) (Begins (first_calls setup (all_keys_found replies))))) ≡ first_calls setup (all_keys_found replies))
    searched true b = inl refl
    searched false true = inl refl
    searched false false = inr refl

    both : {calls : List Outgoing} → (calls ≡ []) ⊎ (calls ≡ first_calls setup (all_keys_found replies)) → (calls ≡ []) ⊎ ((true ≡ true) × (calls ≡ first_calls setup (all_keys_found replies)))
    both (inl e) = inl e
    both (inr e) = inr (refl, e)

    whole : (b : Bool) → (calls_made (cond b (search_move setup (total_found replies) (all_keys_found replies)) Waits) ≡ [])
        ⊎ ((b ≡ true) × (calls_made (cond b (search_move setup (total_found replies) (all_keys_found replies)) Waits) ≡ first_calls setup (all_keys_found replies)))
    whole true = both (searched (nat_lt max_found (total_found replies)) (total_found replies == 0))
    whole false = inl refl

    go : (b : Bool) → (calls_made (cond b (Fails Torn []) (cond (all_found setup replies) (search_move setup (total_found replies) (all_keys_found replies)) Waits)) ≡ [])
        ⊎ ((all_found setup replies ≡ true) × (calls_made (cond b (Fails Torn []) (cond (all_found setup replies) (search_move setup (total_found replies) (all_keys_found replies)) Waits)) ≡ first_calls setup (all_keys_found replies)))
    go true = inl refl
    go false = whole (all_found setup replies)
search_begins setup tag replies partition g (Some (ToPrepare reply)) = inl refl
search_begins setup tag replies partition g (Some (ToCommit count)) = inl refl
search_begins setup tag replies partition g (Some (ToGet reply)) = inl refl
search_begins setup tag replies partition g (Some (ToCollect count)) = inl refl
search_begins setup tag replies partition g (Some (ToDiscard reply)) = inl refl
search_begins setup tag replies partition g None = inl refl

module _ (setup : Setup) (sent : List Outgoing) (replies : List Message) (message : Message) (tag : Tag) (wanted : is_answered replies message.partition message.call ≡ false) (known : Searching setup sent replies message) where
  -- nothing is sent
  stage_still : (calls : List Outgoing) → calls ≡ [] → SearchStage setup tag sent replies → SearchStage setup tag (sent ++ calls) (replies ++ message ∷ [])
  stage_still calls e stage =
      subst (λ (os : List Outgoing). SearchStage setup tag os (replies ++ message ∷ [])) (sym (ap (λ os. sent ++ os) e ∙ append-nil sent)) (search_more setup tag sent replies (message ∷ []) stage)

  -- a search is reported
  stage_told : (g : Tag) (calls : List Outgoing) → message.call ≡ Found g → message.partition < setup.partitions
      → (calls ≡ []) ⊎ ((all_found setup (replies ++ message ∷ []) ≡ true) × (calls ≡ first_calls setup (all_keys_found (replies ++ message ∷ []))))
      → SearchStage setup tag sent replies → SearchStage setup tag (sent ++ calls) (replies ++ message ∷ [])
  stage_told g calls c within (inl none) stage = stage_still calls none stage
  stage_told g calls c within (inr (all, e)) (inl first) = inr (all_keys_found (replies ++ message ∷ []), (all, known.once, (λ key h. h), inl (λ i. first i ++ e i)))
  stage_told g calls c within (inr (all, e)) (inr (keys, (was, once, told, rest))) = absurd (no_search setup sent replies message g known was within wanted c)

  -- a read goes on
  stage_read : (key : Key) (stamp : Option Stamp) (calls : List Outgoing) → message.call ≡ Get key stamp → ReaderSends setup (all_keys_found (replies ++ message ∷ [])) (replies ++ message ∷ []) message.call calls
      → SearchStage setup tag sent replies → SearchStage setup tag (sent ++ calls) (replies ++ message ∷ [])
  stage_read key stamp calls c (inl none) stage = stage_still calls none stage
  stage_read key stamp calls c (inr s) (inl first) =
      let i = in_map (λ (p : ℕ). record { partition = p; call = Found tag }) (below setup.partitions) (out_of message) (subst (λ (os : List Outgoing). out_of message ∈ os) first known.asked) in
      let is : Found tag ≡ Get key stamp = ap (λ (o : Outgoing). o.call) (sym i.2) ∙ c in cc
  stage_read key stamp calls c (inr s) (inr (keys, (all, once, told, inl e))) =
      inr (
        keys,
        (
          found_more setup replies (message ∷ []) all,
          once,
          (λ k h. keys_more replies (message ∷ []) k (told k h)),
          inr (
            all_keys_found (replies ++ message ∷ []),
            replies ++ message ∷ [],
            known.once,
            (λ i. e i ++ s.3 i),
            λ k h. all_at (is_shown (replies ++ message ∷ [])) (all_keys_found (replies ++ message ∷ [])) k s.2 (keys_more replies (message ∷ []) k (told k h)),
          ),
        ),
      )
  stage_read key stamp calls c (inr s) (inr (keys, (all, once, told, inr (late, seen, one, e, shown)))) =
      let mine = first_key setup tag keys late seen (out_of message) s.0 s.1 (subst (λ (os : List Outgoing). out_of message ∈ os) e known.asked) in
      absurd (both_ways _ wanted (ap (is_answered replies message.partition) s.1 ∙ shown_answered replies message.partition s.0 (shown s.0 mine)))

  stage_search : (call : Call) (reply : Option Reply) → message.call ≡ call → message.reply ≡ reply → IsFindersCall setup tag message.partition call → SearchStage setup tag sent replies
      → SearchStage setup tag (sent ++ calls_made (find_move setup tag (replies ++ message ∷ []) message.partition call reply)) (replies ++ message ∷ [])
  stage_search (Found g) reply c r goes stage =
      stage_told g (calls_made (find_move setup tag (replies ++ message ∷ []) message.partition (Found g) reply)) c goes.1 (search_begins setup tag (replies ++ message ∷ []) message.partition g reply) stage
  stage_search (Get key stamp) reply c r goes stage =
      stage_read key stamp (calls_made (find_move setup tag (replies ++ message ∷ []) message.partition (Get key stamp) reply)) c
      (subst (λ (call : Call). ReaderSends setup (all_keys_found (replies ++ message ∷ [])) (replies ++ message ∷ []) call (calls_made (find_move setup tag (replies ++ message ∷ []) message.partition (Get key stamp) reply))) (sym c)
      (reader_sends setup (all_keys_found (replies ++ message ∷ [])) (replies ++ message ∷ []) (λ rs. Lists (carrying tag rs)) (Get key stamp) reply (λ rs. refl)))
      stage
  stage_search _ reply c r goes stage = absurd goes

-- the stage after a move, where the reply is one that was still wanted
pub stage_moved : (setup : Setup) (Gone Later : Type 0) (sent : List Outgoing) (replies : List Message) (message : Message) (request : Intent) → IsCallOf setup request message.partition message.call → is_answered replies message.partition message.call ≡ false
    → Searching setup sent replies message → (Gone → ⊥)
    → ((stamp : Stamp) (items : List Item) (why : Refusal) (out : Outgoing) (outs : List Outgoing) → request ≡ Writes stamp items → move_of setup request (replies ++ message ∷ []) message ≡ Fails why (out ∷ outs) → Later)
    → Stage setup Gone sent replies request → Stage setup Later (sent ++ calls_made (move_of setup request (replies ++ message ∷ []) message)) (replies ++ message ∷ []) request
stage_moved setup Gone Later sent replies message (Writes stamp items) own wanted known here goes stage = go stage (writer_sends setup stamp items (replies ++ message ∷ []) message.call message.reply)
  where
    move : Move
    move = move_of setup (Writes stamp items) (replies ++ message ∷ []) message

    all : List Message
    all = replies ++ message ∷ []

    silent : Stage setup Gone sent replies (Writes stamp items) → calls_made move ≡ [] → Stage setup Later (sent ++ calls_made move) all (Writes stamp items)
    silent s e =
        subst (λ (os : List Outgoing). Stage setup Later os all (Writes stamp items)) (sym (ap (λ os. sent ++ os) e ∙ append-nil sent))
        (stage_more setup Gone Later sent replies (message ∷ []) (Writes stamp items) (λ g. absurd (here g)) s)

    ends : sent ≡ prepare_calls setup stamp items → (why : Refusal) → move ≡ Fails why (discard_calls setup stamp items) → (outs : List Outgoing) → discard_calls setup stamp items ≡ outs → Stage setup Later (sent ++ calls_made move) all (Writes stamp items)
    ends e why f [] same = silent (inl e) (ap calls_made f ∙ same)
    ends e why f (out ∷ outs) same =
        let calls : calls_made move ≡ discard_calls setup stamp items = ap calls_made f in
        inr (inr ((λ i. e i ++ calls i), goes stamp items why out outs refl (f ∙ ap (Fails why) same)))

    again : all_prepared stamp items replies ≡ true → (version : Record) → message.call ≡ Prepare version → ⊥
    again prepared version c =
        both_ways _ wanted (ap (is_answered replies message.partition) c ∙ prepare_answered stamp items replies message.partition version prepared (subst (λ x. IsCallOf setup (Writes stamp items) message.partition x) c own).0)

    go : Stage setup Gone sent replies (Writes stamp items) → WriterSends setup stamp items all message.call move → Stage setup Later (sent ++ calls_made move) all (Writes stamp items)
    go s (inl e) = silent s e
    go (inl e) (inr (inl w)) = inr (inl ((λ i. e i ++ w.3 i), w.2))
    go (inl e) (inr (inr w)) = ends e w.2 w.3 (discard_calls setup stamp items) refl
    go (inr (inl s)) (inr (inl w)) = absurd (again s.1 w.0 w.1)
    go (inr (inl s)) (inr (inr w)) = absurd (again s.1 w.0 w.1)
    go (inr (inr s)) (inr w) = absurd (here s.1)
stage_moved setup Gone Later sent replies message (Gets keys) own wanted known here goes stage = go stage (reader_sends setup keys (replies ++ message ∷ []) Reads message.call message.reply (λ rs. refl))
  where
    calls : List Outgoing
    calls = calls_made (move_of setup (Gets keys) (replies ++ message ∷ []) message)

    go : Stage setup Gone sent replies (Gets keys) → ReaderSends setup keys (replies ++ message ∷ []) message.call calls → Stage setup Later (sent ++ calls) (replies ++ message ∷ []) (Gets keys)
    go s (inl e) =
        subst (λ (os : List Outgoing). Stage setup Later os (replies ++ message ∷ []) (Gets keys)) (sym (ap (λ os. sent ++ os) e ∙ append-nil sent))
        (stage_more setup Gone Later sent replies (message ∷ []) (Gets keys) (λ g. absurd (here g)) s)
    go (inl e) (inr w) = inr (replies ++ message ∷ [], (λ i. e i ++ w.3 i), w.2)
    go (inr s) (inr w) =
        absurd (both_ways _ wanted (ap (is_answered replies message.partition) w.1 ∙ get_answered keys replies message.partition w.0 s.2 (subst (λ c. IsCallOf setup (Gets keys) message.partition c) w.1 own).0))
stage_moved setup Gone Later sent replies message (Finds tag) own wanted known here goes stage = stage_search setup sent replies message tag wanted known message.call message.reply refl refl own stage
