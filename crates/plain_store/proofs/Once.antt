-- A transaction that is not retried sends each of its calls once.
use Rattle.std.proofs.Common.{◌≡◌, ℕ, ◌+◌, ◌≤◌, List, [], ◌∷◌, ◌++◌, Bool, true, false, ◌&&◌, ◌==◌, ◌⊎◌, inl, inr, refl, sym, ap, ◌∙◌, subst, cond, not, map, filter, count_by, Option, Some, None, option_to_list, append-nil, arith, eqb-true, eq-eqb}
use Rattle.std.proofs.lemmas.Bool.{and_parts, and_from, cases_Bool, not-true}
use Rattle.plain_store.specs.Words.{◌∈◌, Key, Stamp, Item, Room, Call, Found, Reply, home, Act, Put, GetAll, Find, Deliver, Retry, Message, Refusal, Refused, Setup}
use Rattle.plain_store.specs.History.{Moment, History, messages, Intent, Writes, Gets, Finds, Transaction, transactions, begun_by, is_of, took, taken_in, running, tickets, message_at}
use Rattle.plain_store.specs.Writing.{Outgoing, keys_written, prepare_calls, commit_calls, discard_calls}
use Rattle.plain_store.specs.Rounds.{first_calls, second_calls}
use Rattle.plain_store.specs.Moves.{Move, Fails, move_of, calls_of, is_answered}
use Rattle.plain_store.specs.Run.{call_message, next_stamp, one_twice, is_wanted, moves}
use Rattle.plain_store.specs.Laws.{IsCallOf, running_for}
use Rattle.plain_store.specs.Finding.{found_calls, keys_found}
use Rattle.plain_store.specs.Replies.{reply_after}
use Rattle.plain_store.specs.Log.{Log}
use Rattle.plain_store.proofs.Sound.{SoundReply, Sound}
use Rattle.plain_store.proofs.Served.{Logged, TakenReplies, partitions_reply}
use Rattle.plain_store.proofs.SearchesAsk.{IsReplied, replied_by}
use Rattle.plain_store.proofs.Searches.{all_replied, ToldOnce, tales_push, IsFoundAtHome, keys_once}
use Rattle.plain_store.specs.Counts.{calls_sent, is_prepare, is_prepare_of, is_commit, is_get_of, is_found, WasRetried, SendsOnce, is_discard}
use Rattle.plain_store.proofs.Members.{in_left, in_right, in_cases, map_in, filter_in}
use Rattle.plain_store.proofs.Counting.{count_by-map}
use Rattle.plain_store.proofs.Steps.{Happens, refused, greeted, put_begun, get_begun, find_begun, served, ignored, moved, lost, not_resent, resent, stopped, keep_set, collected}
use Rattle.plain_store.proofs.StaysTrue.{at_is, running_is, taken_sent, taken_in_is, taken_more, failed, failed_stays, request_stamp, stamp_of}
use Rattle.plain_store.proofs.KeptLogs.{Kept, moves_begin_nothing, NewBegun, begun_cases, is_of_wanted}
use Rattle.plain_store.proofs.FreshLogs.{Fresh}
use Rattle.plain_store.proofs.StepEffects.{IsTurn, IsQuiet, calls_made, moves_sent, moves_is_move, moves_took}
use Rattle.plain_store.proofs.Owned.{IsReplyTo, IsCallBy, sent_is, Owned, no_old_message}
use Rattle.plain_store.proofs.Counts.{count_append, count_key, founds_one, founds_get_none, firsts_found_none, seconds_found_none, prepares_all, prepares_one, prepares_commit_none, commits_prepare_none, commits_one, firsts_one, seconds_one, prepares_discard_none, discards_none, discards_one}
use Rattle.plain_store.proofs.OnceMoves.{Searching, Stage, is_call_of, out_of, outs, outs_in, outs_more, outs_none, outs_other, outs_own, stage_first, stage_more, stage_moved}

-- ---- each step

-- the first calls of a client's next transaction
abbrev first_messages : Setup → History → ℕ × Intent → List Message
first_messages setup older begun = map (call_message begun.0 (tickets older begun.0 + 1)) (calls_of setup false begun.1 [])

-- a message without its reply
abbrev call_of : Message → Message
call_of message = record { client = message.client; ticket = message.ticket; partition = message.partition; call = message.call; reply = None }

-- each reply's call was sent
abbrev pub Called : History → Type 0
Called history = (message : Message) → message ∈ messages history → call_of message ∈ messages history

pub called_step : (setup : Setup) (older : History) (m : Moment) → Called older → Happens setup older m → IsQuiet m ⊎ IsTurn setup older m → Called (m ∷ older)
called_step setup older m called how way message h = go (in_cases (messages older) m.sent message h)
  where
    new : message ∈ m.sent → IsReplyTo older message ⊎ IsCallBy setup (m ∷ older) message → call_of message ∈ messages (m ∷ older)
    new k (inl a) = in_left (messages older) m.sent (call_of message) (subst (λ (q : Message). call_of q ∈ messages older) (sym a.3) (called a.0 a.2))
    new k (inr c) = in_right (messages older) m.sent (call_of message) (subst (λ (q : Message). q ∈ m.sent) (c.4 ∙ ap call_of (sym c.4)) k)

    go : (message ∈ messages older) ⊎ (message ∈ m.sent) → call_of message ∈ messages (m ∷ older)
    go (inl k) = in_left (messages older) m.sent (call_of message) (called message k)
    go (inr k) = new k (sent_is setup older m message how way k)

-- what is known of what searches were reported
pub record TellsKnown (setup : Setup) (history : History) : Type 0 where
  pub called : Called history
  pub logged : Logged setup history
  pub replied : TakenReplies history
  pub once : ToldOnce history

found_at_home : (setup : Setup) (history : History) (message : Message) (key : Key) (room : Room) (log : Log) → Sound setup history message → key ∈ keys_found message.reply → (call : Call) → message.call ≡ call
    → message.reply ≡ Some (reply_after room log call) → home setup key ≡ message.partition
unfolding reply_after
found_at_home setup history message key room log sound h (Found tag) c e =
    subst (λ (o : Option Reply). SoundReply setup history message (Found tag) o) e (subst (λ (call : Call). SoundReply setup history message call message.reply) c sound.reply) key
    (subst (λ (o : Option Reply). key ∈ keys_found o) e h)
found_at_home setup history message key room log sound h _ c e = absurd (subst (λ (o : Option Reply). key ∈ keys_found o) e h)

found_home : (setup : Setup) (history : History) (message : Message) → Sound setup history message → IsReplied message → IsFoundAtHome setup message
found_home setup history message sound (room, log, e) key h = found_at_home setup history message key room log sound h message.call refl e

searching : (setup : Setup) (older : History) (transaction : Transaction) (message : Message) (reply : Reply) → Kept setup older → TellsKnown setup older → transaction ∈ transactions older → message ∈ messages older
    → is_of transaction message ≡ true → message.reply ≡ Some reply → is_wanted older transaction message ≡ true → Searching setup (outs older transaction) (taken_in older transaction) message
searching setup older transaction message reply kept tells own h of e wanted = record {
  asked = map_in out_of (filter (is_call_of transaction) (messages older)) (call_of message) (filter_in (is_call_of transaction) (messages older) (call_of message) (tells.called message h) of);
  replied = replied;
  once = keys_once setup (taken_in older transaction ++ message ∷ []) replied homes
      (λ partition. tales_push partition (taken_in older transaction) message before is
      (not-true _ (and_parts (message.ticket == transaction.ticket) (not (is_answered (taken_in older transaction) message.partition message.call)) wanted).1)
      (tells.once transaction own partition));
}
  where
    is : IsReplied message
    is = replied_by setup older message (partitions_reply setup older message tells.logged h (reply, e))

    before : (q : Message) → q ∈ taken_in older transaction → IsReplied q
    before = all_replied setup older transaction tells.logged tells.replied

    replied : (q : Message) → q ∈ (taken_in older transaction ++ message ∷ []) → IsReplied q
    replied q k = go (in_cases (taken_in older transaction) (message ∷ []) q k)
      where
        go : (q ∈ taken_in older transaction) ⊎ (q ∈ (message ∷ [])) → IsReplied q
        go (inl j) = before q j
        go (inr (inl s)) = subst IsReplied (sym s) is
        go (inr (inr n)) = absurd n

    homes : (q : Message) → q ∈ (taken_in older transaction ++ message ∷ []) → IsFoundAtHome setup q
    homes q k = go (in_cases (taken_in older transaction) (message ∷ []) q k)
      where
        go : (q ∈ taken_in older transaction) ⊎ (q ∈ (message ∷ [])) → IsFoundAtHome setup q
        go (inl j) = found_home setup older q (kept.sound q (taken_sent older q (taken_in_is older transaction q j).0)) (before q j)
        go (inr (inl s)) = subst (IsFoundAtHome setup) (sym s) (found_home setup older message (kept.sound message h) is)
        go (inr (inr n)) = absurd n

-- the transaction is a writer that ended with DISCARDs
abbrev pub IsGone : History → Transaction → Type 0
IsGone history transaction = (stamp : Stamp) × (items : List Item) × (transaction.request ≡ Writes stamp items) × (stamp ∈ failed history)

stays_gone : (m : Moment) (older : History) (transaction : Transaction) → IsGone older transaction → IsGone (m ∷ older) transaction
stays_gone m older transaction g = (g.0, g.1, g.2, failed_stays m older g.0 g.3)

abbrev pub Staged : Setup → History → Type 0
Staged setup history = (transaction : Transaction) → transaction ∈ transactions history → (WasRetried history transaction → ⊥) → Stage setup (IsGone history transaction) (outs history transaction) (taken_in history transaction) transaction.request

refused_begins : (act : Act) (why : Refusal) → begun_by act (Refused why) ≡ None
refused_begins (Put client items) why = refl
refused_begins (GetAll client keys) why = refl
refused_begins (Find client tag) why = refl
refused_begins act why = refl

-- a transaction that begins sends its first calls
begun_sends : (setup : Setup) (older : History) (m : Moment) (begun : ℕ × Intent) → Happens setup older m → begun_by m.act m.answer ≡ Some begun
    → m.sent ≡ map (call_message begun.0 (tickets older begun.0 + 1)) (calls_of setup false begun.1 [])
begun_sends setup older m begun (put_begun client items valid idle good) b = let same : (client, Writes (next_stamp older client) items) ≡ begun = cc in ap (first_messages setup older) same
begun_sends setup older m begun (get_begun client keys idle) b = let same : (client, Gets keys) ≡ begun = cc in ap (first_messages setup older) same
begun_sends setup older m begun (find_begun client tag idle) b = let same : (client, Finds tag) ≡ begun = cc in ap (first_messages setup older) same
begun_sends setup older m begun (refused act why) b = let n = refused_begins act why in cc
begun_sends setup older m begun (moved row message reply transaction move at e r wanted how) b = let n = moves_begin_nothing older row transaction move in cc
begun_sends setup older m begun _ b = cc

-- the calls of an older transaction are not among those of one that begins
begun_other : (setup : Setup) (older : History) (transaction : Transaction) (client : ℕ) (calls : List Outgoing) → Kept setup older → transaction ∈ transactions older
    → outs_in transaction (map (call_message client (tickets older client + 1)) calls) ≡ []
begun_other setup older transaction client calls kept own = outs_other transaction client (tickets older client + 1) calls (go (cases_Bool ((client == transaction.client) && (tickets older client + 1 == transaction.ticket))))
  where
    never : ((client == transaction.client) && (tickets older client + 1 == transaction.ticket)) ≡ true → ⊥
    never t =
        let p = and_parts (client == transaction.client) (tickets older client + 1 == transaction.ticket) t in
        let c : client ≡ transaction.client = eqb-true client transaction.client p.0 in
        let k : tickets older client + 1 ≡ transaction.ticket = eqb-true (tickets older client + 1) transaction.ticket p.1 in
        let l : transaction.ticket ≤ tickets older client = subst (λ x. transaction.ticket ≤ tickets older x) (sym c) (kept.bounded transaction own) in
        omega arith

    go : (((client == transaction.client) && (tickets older client + 1 == transaction.ticket)) ≡ true) ⊎ (((client == transaction.client) && (tickets older client + 1 == transaction.ticket)) ≡ false)
        → ((client == transaction.client) && (tickets older client + 1 == transaction.ticket)) ≡ false
    go (inl t) = absurd (never t)
    go (inr f) = f

-- a client and a ticket that are a transaction's name it
named : (setup : Setup) (history : History) (one other : Transaction) → Kept setup history → one ∈ transactions history → other ∈ transactions history → ((other.client == one.client) && (other.ticket == one.ticket)) ≡ true → other ≡ one
named setup history one other kept a b t =
    let p = and_parts (other.client == one.client) (other.ticket == one.ticket) t in
    kept.single other one b a (eqb-true other.client one.client p.0) (eqb-true other.ticket one.ticket p.1)

-- where no reply is taken and nothing is retried, an older transaction sends nothing
quiet_outs : (setup : Setup) (older : History) (m : Moment) (transaction : Transaction) → Kept setup older → transaction ∈ transactions older → (WasRetried (m ∷ older) transaction → ⊥) → IsQuiet m → Happens setup older m
    → outs_in transaction m.sent ≡ []
quiet_outs setup older m transaction kept own once quiet (refused act why) = refl
quiet_outs setup older m transaction kept own once quiet (greeted client base) = refl
quiet_outs setup older m transaction kept own once quiet (put_begun client items valid idle good) =
    begun_other setup older transaction client (calls_of setup false (Writes (next_stamp older client) items) []) kept own
quiet_outs setup older m transaction kept own once quiet (get_begun client keys idle) = begun_other setup older transaction client (calls_of setup false (Gets keys) []) kept own
quiet_outs setup older m transaction kept own once quiet (find_begun client tag idle) = begun_other setup older transaction client (calls_of setup false (Finds tag) []) kept own
quiet_outs setup older m transaction kept own once quiet (served row message at r) = refl
quiet_outs setup older m transaction kept own once quiet (ignored row message at) = refl
quiet_outs setup older m transaction kept own once quiet (moved row message reply other move at e r wanted how) = let t = moves_is_move older (Deliver row) other move in cc
quiet_outs setup older m transaction kept own once quiet (lost row) = refl
quiet_outs setup older m transaction kept own once quiet (not_resent client) = refl
quiet_outs setup older m transaction kept own once quiet (resent client other out outs r u) = go (cases_Bool ((other.client == transaction.client) && (other.ticket == transaction.ticket)))
  where
    again : other ≡ transaction → ⊥
    again same =
        let c : client ≡ transaction.client = sym (running_is older client other r).1 ∙ ap (λ (t : Transaction). t.client) same in
        once (inl (ap Retry c, subst (λ x. running older x ≡ Some transaction) c (r ∙ ap Some same)))

    go : (((other.client == transaction.client) && (other.ticket == transaction.ticket)) ≡ true) ⊎ (((other.client == transaction.client) && (other.ticket == transaction.ticket)) ≡ false)
        → outs_in transaction (map (call_message other.client other.ticket) (out ∷ outs)) ≡ []
    go (inl t) = absurd (again (named setup older transaction other kept own (running_is older client other r).0 t))
    go (inr f) = outs_other transaction other.client other.ticket (out ∷ outs) f
quiet_outs setup older m transaction kept own once quiet (stopped client) = refl
quiet_outs setup older m transaction kept own once quiet (keep_set keep) = refl
quiet_outs setup older m transaction kept own once quiet (collected partition n) = refl

-- the stage where nothing is sent
stage_stays : (setup : Setup) (older : History) (m : Moment) (transaction : Transaction) → Stage setup (IsGone older transaction) (outs older transaction) (taken_in older transaction) transaction.request → outs_in transaction m.sent ≡ []
    → Stage setup (IsGone (m ∷ older) transaction) (outs (m ∷ older) transaction) (taken_in (m ∷ older) transaction) transaction.request
stage_stays setup older m transaction stage e =
    subst (λ os. Stage setup (IsGone (m ∷ older) transaction) os (taken_in (m ∷ older) transaction) transaction.request) (sym (outs_more m older transaction ∙ ap (λ os. outs older transaction ++ os) e ∙ append-nil (outs older transaction)))
    (subst (λ rs. Stage setup (IsGone (m ∷ older) transaction) (outs older transaction) rs transaction.request) (sym (taken_more m older transaction))
    (stage_more setup (IsGone older transaction) (IsGone (m ∷ older) transaction) (outs older transaction) (taken_in older transaction) (filter (is_of transaction) (option_to_list (took m.act m.answer older))) transaction.request (stays_gone m older transaction) stage))

-- the stage where the transaction takes a reply
stage_taken : (setup : Setup) (older : History) (m : Moment) (transaction : Transaction) (message : Message) → Stage setup (IsGone older transaction) (outs older transaction) (taken_in older transaction) transaction.request
    → IsCallOf setup transaction.request message.partition message.call → is_wanted older transaction message ≡ true → is_of transaction message ≡ true → took m.act m.answer older ≡ Some message
    → Searching setup (outs older transaction) (taken_in older transaction) message
    → outs_in transaction m.sent ≡ calls_made (move_of setup transaction.request (taken_in older transaction ++ message ∷ []) message)
    → (IsGone older transaction → ⊥)
    → ((stamp : Stamp) (items : List Item) (why : Refusal) (out : Outgoing) (outs : List Outgoing) → transaction.request ≡ Writes stamp items
    → move_of setup transaction.request (taken_in older transaction ++ message ∷ []) message ≡ Fails why (out ∷ outs) → IsGone (m ∷ older) transaction)
    → Stage setup (IsGone (m ∷ older) transaction) (outs (m ∷ older) transaction) (taken_in (m ∷ older) transaction) transaction.request
stage_taken setup older m transaction message stage own wanted of t known e here goes =
    subst (λ os. Stage setup (IsGone (m ∷ older) transaction) os (taken_in (m ∷ older) transaction) transaction.request) (sym (outs_more m older transaction ∙ ap (λ os. outs older transaction ++ os) e))
    (subst (λ rs. Stage setup (IsGone (m ∷ older) transaction) (outs older transaction ++ calls_made (move_of setup transaction.request (taken_in older transaction ++ message ∷ []) message)) rs transaction.request) (sym taken_now)
    (stage_moved setup (IsGone older transaction) (IsGone (m ∷ older) transaction) (outs older transaction) (taken_in older transaction) message transaction.request own still known here goes stage))
  where
    still : is_answered (taken_in older transaction) message.partition message.call ≡ false
    still = not-true _ (and_parts (message.ticket == transaction.ticket) (not (is_answered (taken_in older transaction) message.partition message.call)) wanted).1

    taken_now : taken_in (m ∷ older) transaction ≡ taken_in older transaction ++ message ∷ []
    taken_now = taken_more m older transaction ∙ ap (λ o. taken_in older transaction ++ filter (is_of transaction) (option_to_list o)) t ∙ ap (λ b. taken_in older transaction ++ cond b (message ∷ []) []) of

pub staged_step : (setup : Setup) (older : History) (m : Moment) → Kept setup older → Fresh setup older → Owned setup older → TellsKnown setup older → Staged setup older → Happens setup older m → IsQuiet m ⊎ IsTurn setup older m → Staged setup (m ∷ older)
staged_step setup older m kept fresh owned tells staged how way transaction own once = go (begun_cases m older transaction own) way
  where
    began : NewBegun older m transaction → Stage setup (IsGone (m ∷ older) transaction) (outs (m ∷ older) transaction) (taken_in (m ∷ older) transaction) transaction.request
    began n =
        let none : outs older transaction ≡ [] = outs_none transaction (messages older) (λ q h e. no_old_message setup older m transaction q fresh n h e) in
        let c : (n.0.0 == transaction.client) ≡ true = eq-eqb n.0.0 transaction.client (ap (λ (t : Transaction). t.client) (sym n.2)) in
        let k : (tickets older n.0.0 + 1 == transaction.ticket) ≡ true = eq-eqb (tickets older n.0.0 + 1) transaction.ticket (ap (λ (t : Transaction). t.ticket) (sym n.2)) in
        let sent = ap (outs_in transaction) (begun_sends setup older m n.0 how n.1) ∙ outs_own transaction n.0.0 (tickets older n.0.0 + 1) (calls_of setup false n.0.1 []) (and_from _ _ c k) in
        let all : outs (m ∷ older) transaction ≡ calls_of setup false transaction.request [] =
        outs_more m older transaction ∙ ap (λ os. os ++ outs_in transaction m.sent) none ∙ sent ∙ ap (λ (t : Transaction). calls_of setup false t.request []) (sym n.2) in
        subst (λ os. Stage setup (IsGone (m ∷ older) transaction) os (taken_in (m ∷ older) transaction) transaction.request) (sym all) (stage_first setup (IsGone (m ∷ older) transaction) transaction.request (taken_in (m ∷ older) transaction))

    go : (transaction ∈ transactions older) ⊎ NewBegun older m transaction → IsQuiet m ⊎ IsTurn setup older m → Stage setup (IsGone (m ∷ older) transaction) (outs (m ∷ older) transaction) (taken_in (m ∷ older) transaction) transaction.request
    go (inr n) w = began n
    go (inl was) (inl quiet) = stage_stays setup older m transaction (staged transaction was (λ w. once (inr w))) (quiet_outs setup older m transaction kept was once quiet how)
    go (inl was) (inr (row, message, reply, other, at, e, r, wanted, same)) = turn (cases_Bool ((other.client == transaction.client) && (other.ticket == transaction.ticket)))
      where
        move : Move
        move = move_of setup other.request (taken_in older other ++ message ∷ []) message

        sends : m.sent ≡ map (call_message other.client other.ticket) (calls_made move)
        sends = ap (λ (x : Moment). x.sent) same ∙ moves_sent older (Deliver row) other move

        takes_it : took m.act m.answer older ≡ Some message
        takes_it = ap (λ (x : Moment). took x.act x.answer older) same ∙ moves_took older row other move message at

        stage : Stage setup (IsGone older transaction) (outs older transaction) (taken_in older transaction) transaction.request
        stage = staged transaction was (λ w. once (inr w))

        -- who sends DISCARDs is gone
        gives_up : (stamp : Stamp) (items : List Item) (why : Refusal) (out : Outgoing) (outs : List Outgoing) → transaction.request ≡ Writes stamp items → other ≡ transaction → move ≡ Fails why (out ∷ outs) → stamp ∈ failed (m ∷ older)
        gives_up stamp items why out outs q o f =
            let found : running_for older (message_at older row) ≡ Some other = ap (running_for older) at ∙ r in
            let all : m ≡ moves older (Deliver row) other (Fails why (out ∷ outs)) = same ∙ ap (moves older (Deliver row) other) f in
            let here : stamp ∈ failed (moves older (Deliver row) other (Fails why (out ∷ outs)) ∷ older) =
            in_left (request_stamp (running_for older (message_at older row))) (failed older) stamp
            (subst (λ x. stamp ∈ request_stamp x) (sym found) (stamp_of other.request stamp items (ap (λ (t : Transaction). t.request) o ∙ q))) in
            subst (λ (x : Moment). stamp ∈ failed (x ∷ older)) (sym all) here

        mine : ((other.client == transaction.client) && (other.ticket == transaction.ticket)) ≡ true → other ≡ transaction → Stage setup (IsGone (m ∷ older) transaction) (outs (m ∷ older) transaction) (taken_in (m ∷ older) transaction) transaction.request
        mine t o =
            let wants : is_wanted older transaction message ≡ true = subst (λ (x : Transaction). is_wanted older x message ≡ true) o wanted in
            let of : is_of transaction message ≡ true = is_of_wanted older message transaction (r ∙ ap Some o) wants in
            stage_taken setup older m transaction message stage (owned transaction message was (at_is older row message at) of) wants of takes_it
            (searching setup older transaction message reply kept tells was (at_is older row message at) of e wants)
            (ap (outs_in transaction) sends ∙ outs_own transaction other.client other.ticket (calls_made move) t ∙ ap (λ (x : Transaction). calls_made (move_of setup x.request (taken_in older x ++ message ∷ []) message)) o)
            (λ g. kept.stays_open message.client transaction g.0 g.1 (r ∙ ap Some o) g.2 g.3)
            (λ stamp items why out outs q f. (stamp, items, q, gives_up stamp items why out outs q o (ap (λ (x : Transaction). move_of setup x.request (taken_in older x ++ message ∷ []) message) o ∙ f)))

        turn : (((other.client == transaction.client) && (other.ticket == transaction.ticket)) ≡ true) ⊎ (((other.client == transaction.client) && (other.ticket == transaction.ticket)) ≡ false)
            → Stage setup (IsGone (m ∷ older) transaction) (outs (m ∷ older) transaction) (taken_in (m ∷ older) transaction) transaction.request
        turn (inl t) = mine t (named setup older transaction other kept was (running_is older message.client other r).0 t)
        turn (inr f) = stage_stays setup older m transaction stage (ap (outs_in transaction) sends ∙ outs_other transaction other.client other.ticket (calls_made move) f)

pub staged_at_first : (setup : Setup) → Staged setup []
staged_at_first setup transaction own once = absurd own

-- ---- the counts

counted : (history : History) (transaction : Transaction) (p : Outgoing → Bool) (calls : List Outgoing) → outs history transaction ≡ calls → count_by (λ (q : Message). p (out_of q)) (calls_sent history transaction) ≡ count_by p calls
counted history transaction p calls e = sym (count_by-map p out_of (calls_sent history transaction)) ∙ ap (count_by p) e

counted_both : (history : History) (transaction : Transaction) (p : Outgoing → Bool) (calls others : List Outgoing) → outs history transaction ≡ calls ++ others
    → count_by (λ (q : Message). p (out_of q)) (calls_sent history transaction) ≡ count_by p calls + count_by p others
counted_both history transaction p calls others e = counted history transaction p (calls ++ others) e ∙ count_append p calls others

pub counts : (setup : Setup) (history : History) (transaction : Transaction) (request : Intent) (replies : List Message) → Stage setup (IsGone history transaction) (outs history transaction) replies request
    → ((stamp : Stamp) (items : List Item) → request ≡ Writes stamp items → one_twice (keys_written items) ≡ false) → ((keys : List Key) → request ≡ Gets keys → one_twice keys ≡ false)
    → SendsOnce history transaction request
counts setup history transaction (Writes stamp items) replies (inl e) items_differ keys_differ =
    let prepares = prepare_calls setup stamp items in (
      counted history transaction (λ (out : Outgoing). is_prepare out.call) prepares e ∙ prepares_all setup stamp items,
      λ item h. counted history transaction (λ (out : Outgoing). is_prepare_of item.key out.call) prepares e ∙ prepares_one setup stamp items item (items_differ stamp items refl) h,
      λ partition.
          let a = counted history transaction (λ (out : Outgoing). is_commit out.call && (out.partition == partition)) prepares e in
          let b = prepares_commit_none setup stamp items partition in
          omega (arith, a, b),
      λ partition.
          let a = counted history transaction (λ (out : Outgoing). is_discard out.call && (out.partition == partition)) prepares e in
          let b = prepares_discard_none setup stamp items partition in
          omega (arith, a, b),
    )
counts setup history transaction (Writes stamp items) replies (inr (inr s)) items_differ keys_differ =
    let prepares = prepare_calls setup stamp items in
    let discards = discard_calls setup stamp items in (
      let a = counted_both history transaction (λ (out : Outgoing). is_prepare out.call) prepares discards s.0 in
          let b = prepares_all setup stamp items in
          let c = discards_none setup stamp items (λ (out : Outgoing). is_prepare out.call) (λ partition. refl) in
          omega (arith, a, b, c),
      λ item h.
          let a = counted_both history transaction (λ (out : Outgoing). is_prepare_of item.key out.call) prepares discards s.0 in
          let b = prepares_one setup stamp items item (items_differ stamp items refl) h in
          let c = discards_none setup stamp items (λ (out : Outgoing). is_prepare_of item.key out.call) (λ partition. refl) in
          omega (arith, a, b, c),
      λ partition.
          let a = counted_both history transaction (λ (out : Outgoing). is_commit out.call && (out.partition == partition)) prepares discards s.0 in
          let b = prepares_commit_none setup stamp items partition in
          let c = discards_none setup stamp items (λ (out : Outgoing). is_commit out.call && (out.partition == partition)) (λ p. refl) in
          omega (arith, a, b, c),
      λ partition.
          let a = counted_both history transaction (λ (out : Outgoing). is_discard out.call && (out.partition == partition)) prepares discards s.0 in
          let b = prepares_discard_none setup stamp items partition in
          let c = discards_one setup stamp items partition in
          omega (arith, a, b, c),
    )
counts setup history transaction (Writes stamp items) replies (inr (inl s)) items_differ keys_differ =
    let prepares = prepare_calls setup stamp items in
    let commits = commit_calls setup stamp items in (
      (
          let a = counted_both history transaction (λ (out : Outgoing). is_prepare out.call) prepares commits s.0 in
          let b = prepares_all setup stamp items in
          let c = commits_prepare_none setup stamp items (λ (out : Outgoing). is_prepare out.call) (λ partition. refl) in
          omega (arith, a, b, c)
          ),
      λ item h.
          let a = counted_both history transaction (λ (out : Outgoing). is_prepare_of item.key out.call) prepares commits s.0 in
          let b = prepares_one setup stamp items item (items_differ stamp items refl) h in
          let c = commits_prepare_none setup stamp items (λ (out : Outgoing). is_prepare_of item.key out.call) (λ partition. refl) in
          omega (arith, a, b, c),
      λ partition.
          let a = counted_both history transaction (λ (out : Outgoing). is_commit out.call && (out.partition == partition)) prepares commits s.0 in
          let b = prepares_commit_none setup stamp items partition in
          let c = commits_one setup stamp items partition in
          omega (arith, a, b, c),
      λ partition.
          let a = counted_both history transaction (λ (out : Outgoing). is_discard out.call && (out.partition == partition)) prepares commits s.0 in
          let b = prepares_discard_none setup stamp items partition in
          let c = commits_prepare_none setup stamp items (λ (out : Outgoing). is_discard out.call && (out.partition == partition)) (λ p. refl) in
          omega (arith, a, b, c),
    )
counts setup history transaction (Gets keys) replies (inl e) items_differ keys_differ =
    λ key.
    let a = counted history transaction (λ (out : Outgoing). is_get_of key out.call) (first_calls setup keys) e in
    let b = firsts_one setup keys key (count_key keys key (keys_differ keys refl)) in
    omega (arith, a, b)
counts setup history transaction (Gets keys) replies (inr s) items_differ keys_differ =
    λ key.
    let a = counted_both history transaction (λ (out : Outgoing). is_get_of key out.call) (first_calls setup keys) (second_calls setup keys s.0) s.1 in
    let b = firsts_one setup keys key (count_key keys key (keys_differ keys refl)) in
    let c = seconds_one setup keys s.0 key (count_key keys key (keys_differ keys refl)) in
    omega (arith, a, b, c)
counts setup history transaction (Finds tag) replies (inl e) items_differ keys_differ = (
  λ key.
      let a = counted history transaction (λ (out : Outgoing). is_get_of key out.call) (found_calls setup tag) e in
      let b = founds_get_none setup tag key in
      omega (arith, a, b),
  λ partition.
      let a = counted history transaction (λ (out : Outgoing). is_found out.call && (out.partition == partition)) (found_calls setup tag) e in
      let b = founds_one setup tag partition in
      omega (arith, a, b),
)
counts setup history transaction (Finds tag) replies (inr (keys, (all, once, told, inl e))) items_differ keys_differ = (
  λ key.
      let a = counted_both history transaction (λ (out : Outgoing). is_get_of key out.call) (found_calls setup tag) (first_calls setup keys) e in
      let b = founds_get_none setup tag key in
      let c = firsts_one setup keys key (once key) in
      omega (arith, a, b, c),
  λ partition.
      let a = counted_both history transaction (λ (out : Outgoing). is_found out.call && (out.partition == partition)) (found_calls setup tag) (first_calls setup keys) e in
      let b = founds_one setup tag partition in
      let c = firsts_found_none setup keys partition in
      omega (arith, a, b, c),
)
counts setup history transaction (Finds tag) replies (inr (keys, (all, once, told, inr (late, seen, one, e, shown)))) items_differ keys_differ = (
  λ key.
      let test = λ (out : Outgoing). is_get_of key out.call in
      let a = counted_both history transaction test (found_calls setup tag ++ first_calls setup keys) (second_calls setup late seen) e in
      let f = count_append test (found_calls setup tag) (first_calls setup keys) in
      let b = founds_get_none setup tag key in
      let c = firsts_one setup keys key (once key) in
      let d = seconds_one setup late seen key (one key) in
      omega (arith, a, f, b, c, d),
  λ partition.
      let test = λ (out : Outgoing). is_found out.call && (out.partition == partition) in
      let a = counted_both history transaction test (found_calls setup tag ++ first_calls setup keys) (second_calls setup late seen) e in
      let f = count_append test (found_calls setup tag) (first_calls setup keys) in
      let b = founds_one setup tag partition in
      let c = firsts_found_none setup keys partition in
      let d = seconds_found_none setup late seen partition in
      omega (arith, a, f, b, c, d),
)
