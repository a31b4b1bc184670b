-- What a step does, exactly: a reply that is taken, a read that begins, a collection.
use Rattle.std.proofs.Common.{◌≡◌, ℕ, List, [], ◌∷◌, ◌++◌, Bool, true, false, ◌==◌, ◌⊎◌, inl, inr, refl, sym, ap, ◌∙◌, subst, cond, map, Option, Some, None, ◌&&◌, not, eq-eqb}
use Rattle.std.proofs.lemmas.Bool.{not-false}
use Rattle.plain_store.specs.Words.{Key, Collect, Reply, ToCollect, Act, Hello, Put, GetAll, Find, Deliver, Lose, Retry, Stop, CollectAt, SetKeep, Message, Refusal, Answer, Refused, PutBegun, GetBegun, FindBegun, Ignored, Freed, Setup}
use Rattle.plain_store.specs.Replies.{reply_after}
use Rattle.plain_store.specs.History.{keep_in, Moment, moment, History, message_at, log_at, Intent, Writes, Gets, Finds, Transaction, begun_by, is_move, took, taken_in, running}
use Rattle.plain_store.specs.Writing.{Outgoing}
use Rattle.plain_store.specs.Moves.{is_answered, Move, Decides, Asks, Begins, Fails, move_of}
use Rattle.plain_store.specs.Run.{Test, tests, after_tests, are_bad, call_message, moves, is_wanted, takes, delivers, delivers_row, unanswered, resends, retries, count_freed, effect, moment_of}
use Rattle.plain_store.specs.Told.{IsIgnoredAnswer}
use Rattle.plain_store.proofs.Steps.{moment_act}

-- ---- tests

abbrev pub NoneFails : List Test → Type 0
NoneFails [] = Unit {0}
NoneFails (test ∷ rest) = (test.fails ≡ false) × NoneFails rest

-- what holds of each refusal, and of the effect where no test fails, holds of the step
pub after : (act : Act) (ts : List Test) (effect : Moment) (P : Moment → Type 0) → ((why : Refusal) → P (moment act (Refused why) [])) → (NoneFails ts → P effect) → P (after_tests act ts effect)
after act [] effect P first holds = holds tt
after act (test ∷ rest) effect P first holds = go test.fails refl (after act rest effect P first)
  where
    go : (b : Bool) → test.fails ≡ b → ((NoneFails rest → P effect) → P (after_tests act rest effect)) → P (cond b (moment act (Refused test.refusal) []) (after_tests act rest effect))
    go true e later = first test.refusal
    go false e later = later (λ pass. holds (e, pass))

-- ---- a reply that is taken

-- a running transaction takes a reply, and moves by all that it took
abbrev pub IsTurn : Setup → History → Moment → Type 0
IsTurn setup older m =
    (row : ℕ) × (message : Message) × (reply : Reply) × (transaction : Transaction) × (message_at older row ≡ Some message) × (message.reply ≡ Some reply)
    × (running older message.client ≡ Some transaction) × (is_wanted older transaction message ≡ true)
    × (m ≡ moves older (Deliver row) transaction (move_of setup transaction.request (taken_in older transaction ++ message ∷ []) message))

abbrev pub IsQuiet : Moment → Type 0
IsQuiet m = is_move m.answer ≡ false

abbrev Ways : Setup → History → Moment → Type 0
Ways setup older m = IsQuiet m ⊎ IsTurn setup older m

resends_quiet : (setup : Setup) (older : History) (act : Act) (transaction : Transaction) (outs : List Outgoing) → Ways setup older (resends older act transaction outs)
resends_quiet setup older act transaction [] = inl refl
resends_quiet setup older act transaction (out ∷ outs) = inl refl

retries_quiet : (setup : Setup) (older : History) (act : Act) (o : Option Transaction) → Ways setup older (retries setup older act o)
retries_quiet setup older act None = inl refl
retries_quiet setup older act (Some transaction) = resends_quiet setup older act transaction (unanswered setup older transaction)

delivers_ways : (setup : Setup) (older : History) (row : ℕ) (o : Option Message) → message_at older row ≡ o → Ways setup older (delivers_row setup older (Deliver row) o)
delivers_ways setup older row None at = inl refl
delivers_ways setup older row (Some message) at = go message.reply refl
  where
    wanted : (reply : Reply) (transaction : Transaction) → message.reply ≡ Some reply → running older message.client ≡ Some transaction → (b : Bool) → is_wanted older transaction message ≡ b
        → Ways setup older (cond b (moves older (Deliver row) transaction (move_of setup transaction.request (taken_in older transaction ++ message ∷ []) message)) (moment (Deliver row) Ignored []))
    wanted reply transaction e r true w = inr (row, message, reply, transaction, at, e, r, w, refl)
    wanted reply transaction e r false w = inl refl

    taking : (reply : Reply) → message.reply ≡ Some reply → (o : Option Transaction) → running older message.client ≡ o → Ways setup older (takes setup older (Deliver row) message o)
    taking reply e None r = inl refl
    taking reply e (Some transaction) r = wanted reply transaction e r (is_wanted older transaction message) refl

    go : (r : Option Reply) → message.reply ≡ r → Ways setup older (delivers setup older (Deliver row) message r)
    go None e = inl refl
    go (Some reply) e = taking reply e (running older message.client) refl

-- no reply is taken, or one is
pub turn_or_quiet : (setup : Setup) (older : History) (act : Act) → Ways setup older (moment_of setup older act)
unfolding moment_of effect
turn_or_quiet setup older (Hello client base) = after (Hello client base) (tests setup older (Hello client base)) (effect setup older (Hello client base)) (Ways setup older) (λ why. inl refl) (λ pass. inl refl)
turn_or_quiet setup older (Put client items) = after (Put client items) (tests setup older (Put client items)) (effect setup older (Put client items)) (Ways setup older) (λ why. inl refl) (λ pass. inl refl)
turn_or_quiet setup older (GetAll client keys) = after (GetAll client keys) (tests setup older (GetAll client keys)) (effect setup older (GetAll client keys)) (Ways setup older) (λ why. inl refl) (λ pass. inl refl)
turn_or_quiet setup older (Find client tag) = after (Find client tag) (tests setup older (Find client tag)) (effect setup older (Find client tag)) (Ways setup older) (λ why. inl refl) (λ pass. inl refl)
turn_or_quiet setup older (Deliver row) =
    after (Deliver row) (tests setup older (Deliver row)) (effect setup older (Deliver row)) (Ways setup older) (λ why. inl refl) (λ pass. delivers_ways setup older row (message_at older row) refl)
turn_or_quiet setup older (Lose row) = after (Lose row) (tests setup older (Lose row)) (effect setup older (Lose row)) (Ways setup older) (λ why. inl refl) (λ pass. inl refl)
turn_or_quiet setup older (Retry client) =
    after (Retry client) (tests setup older (Retry client)) (effect setup older (Retry client)) (Ways setup older) (λ why. inl refl) (λ pass. retries_quiet setup older (Retry client) (running older client))
turn_or_quiet setup older (Stop client) = after (Stop client) (tests setup older (Stop client)) (effect setup older (Stop client)) (Ways setup older) (λ why. inl refl) (λ pass. inl refl)
turn_or_quiet setup older (SetKeep keep) = inl refl
turn_or_quiet setup older (CollectAt partition) =
    after (CollectAt partition) (tests setup older (CollectAt partition)) (effect setup older (CollectAt partition)) (Ways setup older) (λ why. inl refl) (λ pass. inl refl)

pub moves_is_move : (older : History) (act : Act) (transaction : Transaction) (move : Move) → is_move (moves older act transaction move).answer ≡ true
moves_is_move older act transaction (Fails why []) = refl
moves_is_move older act transaction (Fails why (out ∷ outs)) = refl
moves_is_move older act transaction _ = refl

-- the calls of a move
abbrev pub calls_made : Move → List Outgoing
calls_made (Decides stamp calls) = calls
calls_made (Asks calls) = calls
calls_made (Begins calls) = calls
calls_made (Fails why calls) = calls
calls_made move = []

pub moves_sent : (older : History) (act : Act) (transaction : Transaction) (move : Move) → (moves older act transaction move).sent ≡ map (call_message transaction.client transaction.ticket) (calls_made move)
moves_sent older act transaction (Fails why []) = refl
moves_sent older act transaction (Fails why (out ∷ outs)) = refl
moves_sent older act transaction _ = refl

pub moves_took : (older : History) (row : ℕ) (transaction : Transaction) (move : Move) (message : Message) → message_at older row ≡ Some message
    → took (moves older (Deliver row) transaction move).act (moves older (Deliver row) transaction move).answer older ≡ Some message
moves_took older row transaction (Fails why []) message at = at
moves_took older row transaction (Fails why (out ∷ outs)) message at = at
moves_took older row transaction _ message at = at

pub quiet_took : (act : Act) (answer : Answer) (older : History) → is_move answer ≡ false → took act answer older ≡ None
quiet_took (Deliver row) answer older q = ap (λ b. cond b (message_at older row) None) q
quiet_took act answer older q = refl

-- ---- a read that begins

asked_keys : (act : Act) (answer : Answer) (client : ℕ) (keys : List Key) → begun_by act answer ≡ Some (client, Gets keys) → act ≡ GetAll client keys
asked_keys (Put c items) (PutBegun stamp rows) client keys h =
    let same : (c, Writes stamp items) ≡ (client, Gets keys) = cc in
    let r : Writes stamp items ≡ Gets keys = ap (λ (x : ℕ × Intent). x.1) same in cc
asked_keys (GetAll c ks) (GetBegun rows) client keys h =
    let same : (c, Gets ks) ≡ (client, Gets keys) = cc in
    let r : Gets ks ≡ Gets keys = ap (λ (x : ℕ × Intent). x.1) same in
    let k : ks ≡ keys = cc in
    λ i. GetAll ((same i).0) (k i)
asked_keys (Find c tag) (FindBegun rows) client keys h =
    let same : (c, Finds tag) ≡ (client, Gets keys) = cc in
    let r : Finds tag ≡ Gets keys = ap (λ (x : ℕ × Intent). x.1) same in cc
asked_keys act answer client keys h = cc

abbrev AreAccepted : ℕ → List Key → Moment → Type 0
AreAccepted client keys m = begun_by m.act m.answer ≡ Some (client, Gets keys) → are_bad keys ≡ false

get_begins : (setup : Setup) (older : History) (client : ℕ) (keys : List Key) → AreAccepted client keys (moment_of setup older (GetAll client keys))
unfolding moment_of effect
get_begins setup older client keys =
    after (GetAll client keys) (tests setup older (GetAll client keys)) (effect setup older (GetAll client keys)) (AreAccepted client keys) (λ why h. cc) (λ pass h. pass.1.1.1.1.0)

-- a Get begins with keys that the test lets pass
pub accepted_keys : (setup : Setup) (older : History) (act : Act) (client : ℕ) (keys : List Key) → begun_by (moment_of setup older act).act (moment_of setup older act).answer ≡ Some (client, Gets keys) → are_bad keys ≡ false
accepted_keys setup older act client keys b =
    let same : act ≡ GetAll client keys = sym (moment_act setup older act) ∙ asked_keys (moment_of setup older act).act (moment_of setup older act).answer client keys b in
    get_begins setup older client keys (subst (λ a. begun_by (moment_of setup older a).act (moment_of setup older a).answer ≡ Some (client, Gets keys)) same b)

-- ---- a collection

abbrev IsCounted : Setup → History → ℕ → ℕ → Moment → Type 0
IsCounted setup older partition count m = m.answer ≡ Freed count → ToCollect count ≡ reply_after setup.room (log_at setup older partition) (Collect (keep_in setup older))

collect_counts : (setup : Setup) (older : History) (partition count : ℕ) → IsCounted setup older partition count (moment_of setup older (CollectAt partition))
unfolding moment_of effect reply_after
collect_counts setup older partition count =
    after (CollectAt partition) (tests setup older (CollectAt partition)) (effect setup older (CollectAt partition)) (IsCounted setup older partition count) (λ why h. cc) (λ pass h. freed h)
  where
    freed : Freed (count_freed (reply_after setup.room (log_at setup older partition) (Collect (keep_in setup older)))) ≡ Freed count → ToCollect count ≡ reply_after setup.room (log_at setup older partition) (Collect (keep_in setup older))
    freed e = let same : count_freed (reply_after setup.room (log_at setup older partition) (Collect (keep_in setup older))) ≡ count = cc in ap ToCollect (sym same)

-- a collection answers with the count that its partition replies
pub collected_count : (setup : Setup) (older : History) (act : Act) (partition count : ℕ) → (moment_of setup older act).act ≡ CollectAt partition → (moment_of setup older act).answer ≡ Freed count
    → ToCollect count ≡ reply_after setup.room (log_at setup older partition) (Collect (keep_in setup older))
collected_count setup older act partition count a f =
    let same : act ≡ CollectAt partition = sym (moment_act setup older act) ∙ a in
    collect_counts setup older partition count (subst (λ x. (moment_of setup older x).answer ≡ Freed count) same f)

-- ---- a reply that is ignored

IgnoredRightly : History → Moment → Type 0
IgnoredRightly older m = IsIgnoredAnswer older m.act m.answer

moves_ignored : (older : History) (act : Act) (transaction : Transaction) (move : Move) → IgnoredRightly older (moves older act transaction move)
unfolding IgnoredRightly
moves_ignored older act transaction (Fails why []) = tt
moves_ignored older act transaction (Fails why (out ∷ outs)) = tt
moves_ignored older act transaction _ = tt

delivers_ignored : (setup : Setup) (older : History) (row : ℕ) (o : Option Message) → message_at older row ≡ o → IgnoredRightly older (delivers_row setup older (Deliver row) o)
unfolding IgnoredRightly
delivers_ignored setup older row None at = tt
delivers_ignored setup older row (Some message) at = go message.reply
  where
    stands : (transaction other : Transaction) → running older message.client ≡ Some transaction → is_wanted older transaction message ≡ false → running older message.client ≡ Some other → message.ticket ≡ other.ticket
        → is_answered (taken_in older other) message.partition message.call ≡ true
    stands transaction other r w o t =
        let both : Some transaction ≡ Some other = sym r ∙ o in
        let same : transaction ≡ other = cc in
        let unwanted : is_wanted older other message ≡ false = subst (λ (x : Transaction). is_wanted older x message ≡ false) same w in
        let test : (message.ticket == other.ticket) ≡ true = eq-eqb message.ticket other.ticket t in
        answered (message.ticket == other.ticket) test unwanted
      where
        answered : (b : Bool) → b ≡ true → (b && not (is_answered (taken_in older other) message.partition message.call)) ≡ false → is_answered (taken_in older other) message.partition message.call ≡ true
        answered true e w = not-false _ w
        answered false e w = cc

    wanted : (transaction : Transaction) → running older message.client ≡ Some transaction → (b : Bool) → is_wanted older transaction message ≡ b
        → IgnoredRightly older (cond b (moves older (Deliver row) transaction (move_of setup transaction.request (taken_in older transaction ++ message ∷ []) message)) (moment (Deliver row) Ignored []))
    wanted transaction r true w = moves_ignored older (Deliver row) transaction (move_of setup transaction.request (taken_in older transaction ++ message ∷ []) message)
    wanted transaction r false w = (message, at, λ other o t. stands transaction other r w o t)

    taking : (o : Option Transaction) → running older message.client ≡ o → IgnoredRightly older (takes setup older (Deliver row) message o)
    taking None r = (message, at, λ other o t. let both : None ≡ Some other = sym r ∙ o in cc)
    taking (Some transaction) r = wanted transaction r (is_wanted older transaction message) refl

    go : (r : Option Reply) → IgnoredRightly older (delivers setup older (Deliver row) message r)
    go None = tt
    go (Some reply) = taking (running older message.client) refl

retries_ignored : (setup : Setup) (older : History) (act : Act) (o : Option Transaction) → IgnoredRightly older (retries setup older act o)
unfolding IgnoredRightly
retries_ignored setup older act None = tt
retries_ignored setup older act (Some transaction) = go (unanswered setup older transaction)
  where
    go : (outs : List Outgoing) → IgnoredRightly older (resends older act transaction outs)
    go [] = tt
    go (out ∷ outs) = tt

-- a reply is ignored only where nothing waits for it
pub step_ignored : (setup : Setup) (older : History) (act : Act) → IsIgnoredAnswer older (moment_of setup older act).act (moment_of setup older act).answer
unfolding moment_of effect IgnoredRightly
step_ignored setup older (Hello client base) = after (Hello client base) (tests setup older (Hello client base)) (effect setup older (Hello client base)) (IgnoredRightly older) (λ why. tt) (λ pass. tt)
step_ignored setup older (Put client items) = after (Put client items) (tests setup older (Put client items)) (effect setup older (Put client items)) (IgnoredRightly older) (λ why. tt) (λ pass. tt)
step_ignored setup older (GetAll client keys) = after (GetAll client keys) (tests setup older (GetAll client keys)) (effect setup older (GetAll client keys)) (IgnoredRightly older) (λ why. tt) (λ pass. tt)
step_ignored setup older (Find client tag) = after (Find client tag) (tests setup older (Find client tag)) (effect setup older (Find client tag)) (IgnoredRightly older) (λ why. tt) (λ pass. tt)
step_ignored setup older (Deliver row) =
    after (Deliver row) (tests setup older (Deliver row)) (effect setup older (Deliver row)) (IgnoredRightly older) (λ why. tt) (λ pass. delivers_ignored setup older row (message_at older row) refl)
step_ignored setup older (Lose row) = after (Lose row) (tests setup older (Lose row)) (effect setup older (Lose row)) (IgnoredRightly older) (λ why. tt) (λ pass. tt)
step_ignored setup older (Retry client) =
    after (Retry client) (tests setup older (Retry client)) (effect setup older (Retry client)) (IgnoredRightly older) (λ why. tt) (λ pass. retries_ignored setup older (Retry client) (running older client))
step_ignored setup older (Stop client) = after (Stop client) (tests setup older (Stop client)) (effect setup older (Stop client)) (IgnoredRightly older) (λ why. tt) (λ pass. tt)
step_ignored setup older (SetKeep keep) = tt
step_ignored setup older (CollectAt partition) =
    after (CollectAt partition) (tests setup older (CollectAt partition)) (effect setup older (CollectAt partition)) (IgnoredRightly older) (λ why. tt) (λ pass. tt)
