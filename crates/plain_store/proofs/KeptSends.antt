-- What every step of a run keeps of what is sent.
use Rattle.std.proofs.Common.{◌≡◌, ℕ, ◌+◌, List, [], ◌∷◌, ◌++◌, true, false, ◌⊎◌, inl, inr, refl, sym, ap, ◌∙◌, subst, not, map, length, Some, None, option_to_list, eqb-true}
use Rattle.plain_store.specs.Words.{◌∈◌, Stamp, Item, Call, Get, Reply, Refusal, NoSlot, NoItem, Act, Put, GetAll, Find, Deliver, Retry, Message, Rows, Answer, PutBegun, GetBegun, FindBegun, Sent, Setup}
use Rattle.plain_store.specs.Log.{floor, items}
use Rattle.plain_store.specs.Replies.{reply_after}
use Rattle.plain_store.specs.History.{Moment, History, messages, message_at, log_at, Intent, Writes, Gets, Finds, Transaction, transaction_of, begun_by, transactions, taken, is_of, taken_in, running, decided, tickets}
use Rattle.plain_store.specs.Writing.{Outgoing, commit_calls, discard_calls}
use Rattle.plain_store.specs.Rounds.{first_calls, second_calls}
use Rattle.plain_store.specs.Moves.{calls_of, Move, Fails, is_answered}
use Rattle.plain_store.specs.Run.{call_message, with_reply, sends, begins, next_stamp, moves, is_wanted, serves, is_decided, unanswered, next_rows}
use Rattle.plain_store.specs.Laws.{Wrote, running_for}
use Rattle.plain_store.proofs.Members.{in_left, in_right, in_cases, in_map, in_filter, any_witness}
use Rattle.plain_store.proofs.Steps.{Happens, put_begun, get_begun, find_begun, served, moved, resent, Moving, waits, decides, finishes, asks, begins_reading, reads, lists, lists_none, restarts, fails, Failing, no_slot, no_item, was_discarded, too_many, clashed, torn_first, torn_second, torn_found}
use Rattle.plain_store.proofs.StaysTrue.{at_is, taken_sent, taken_in_is, running_is, wrote_stays, decided_stays, transaction_stays, failed, stamp_of, request_stamp}
use Rattle.plain_store.proofs.Sound.{SoundCall, Sound, sound_stays, Told, SoundOutgoing, calls_sound, commit_sound, discard_sound, first_sound, second_sound}
use Rattle.std.specs.Prelude.{nat_eq}
use Rattle.plain_store.proofs.KeptLogs.{Kept, is_of_wanted, reply_sound}

-- ---- what a step sends is sound

-- the reply that is taken is taken
took_it : (older : History) (row : ℕ) (message : Message) (transaction : Transaction) (move : Move) → message_at older row ≡ Some message → message ∈ taken (moves older (Deliver row) transaction move ∷ older)
took_it older row message transaction move at = go move
  where
    here : message ∈ (taken older ++ option_to_list (message_at older row))
    here = in_right (taken older) (option_to_list (message_at older row)) message (subst (λ o. message ∈ option_to_list o) (sym at) (inl refl))

    go : (move : Move) → message ∈ taken (moves older (Deliver row) transaction move ∷ older)
    go (Fails why []) = here
    go (Fails why (out ∷ outs)) = here
    go _ = here

-- a running transaction's requests are on record
pub running_wrote : (history : History) (client : ℕ) (transaction : Transaction) → running history client ≡ Some transaction → (stamp : Stamp) (items : List Item) → transaction.request ≡ Writes stamp items → Wrote history stamp items
running_wrote history client transaction r stamp items e = (transaction, (running_is history client transaction r).0, e)

told_before : (setup : Setup) (m : Moment) (older : History) (transaction : Transaction) → Kept setup older → Told setup (m ∷ older) transaction (taken_in older transaction)
told_before setup m older transaction kept q h =
    let t = taken_in_is older transaction q h in
    (in_left (taken older) _ q t.0, t.1, sound_stays setup m older q (kept.sound q (taken_sent older q t.0)))

told_now : (setup : Setup) (older : History) (row : ℕ) (message : Message) (transaction : Transaction) (move : Move) → Kept setup older → message_at older row ≡ Some message
    → running older message.client ≡ Some transaction → is_wanted older transaction message ≡ true
    → Told setup (moves older (Deliver row) transaction move ∷ older) transaction (taken_in older transaction ++ message ∷ [])
told_now setup older row message transaction move kept at r w q h = go (in_cases (taken_in older transaction) (message ∷ []) q h)
  where
    go : (q ∈ taken_in older transaction) ⊎ (q ∈ (message ∷ [])) → (q ∈ taken (moves older (Deliver row) transaction move ∷ older)) × (is_of transaction q ≡ true) × Sound setup (moves older (Deliver row) transaction move ∷ older) q
    go (inl k) = told_before setup (moves older (Deliver row) transaction move) older transaction kept q k
    go (inr (inl e)) = (
      subst (λ (x : Message). x ∈ taken (moves older (Deliver row) transaction move ∷ older)) (sym e) (took_it older row message transaction move at),
      ap (is_of transaction) e ∙ is_of_wanted older message transaction r w,
      sound_stays setup (moves older (Deliver row) transaction move) older q (kept.sound q (subst (λ (x : Message). x ∈ messages older) (sym e) (at_is older row message at))),
    )
    go (inr (inr k)) = absurd k

-- each of a transaction's calls is sound, so each message is
all_sound : (setup : Setup) (history : History) (transaction : Transaction) (calls : List Outgoing) (message : Message) → ((out : Outgoing) → out ∈ calls → SoundOutgoing setup history transaction out)
    → message ∈ map (call_message transaction.client transaction.ticket) calls → Sound setup history message
all_sound setup history transaction calls message each h =
    let i = in_map (call_message transaction.client transaction.ticket) calls message h in
    subst (λ (x : Message). Sound setup history x) (sym i.2) (each i.0 i.1)

begun_sound : (setup : Setup) (older : History) (act : Act) (answer : Rows → Answer) (client : ℕ) (request : Intent) (message : Message)
    → begun_by act (answer (next_rows older (length (calls_of setup false request [])))) ≡ Some (client, request)
    → message ∈ (begins setup older act answer client request).sent → Sound setup (begins setup older act answer client request ∷ older) message
begun_sound setup older act answer client request message began h =
    let transaction : Transaction = record { client = client; ticket = tickets older client + 1; begun = length older; request = request } in
    all_sound setup (begins setup older act answer client request ∷ older) transaction (calls_of setup false request []) message
    (λ out k. calls_sound setup (begins setup older act answer client request ∷ older) transaction request false [] out (λ q n. absurd n)
    (subst (λ o. transaction ∈ (option_to_list (transaction_of older o) ++ transactions older)) (sym began) (inl refl)) refl (λ f. cc) k) h

decided_request : (history : History) (request : Intent) (stamp : Stamp) (items : List Item) → is_decided history request ≡ true → request ≡ Writes stamp items → stamp ∈ decided history
decided_request history request stamp items d e =
    let w = any_witness (nat_eq stamp) (decided history) (ap (is_decided history) (sym e) ∙ d) in
    subst (λ q. q ∈ decided history) (sym (eqb-true stamp w.0 w.2)) w.1

same_call : (setup : Setup) (history : History) (message : Message) (reply : Reply) (call : Call) → SoundCall setup history message call → SoundCall setup history (with_reply message reply) call
same_call setup history message reply (Get key None) s = s
same_call setup history message reply (Get key (Some stamp)) s = s
same_call setup history message reply _ s = s

served_sound : (setup : Setup) (older : History) (row : ℕ) (message q : Message) → Kept setup older → message_at older row ≡ Some message
    → q ∈ (serves older (Deliver row) message (reply_after setup.room (log_at setup older message.partition) message.call)).sent
    → Sound setup (serves older (Deliver row) message (reply_after setup.room (log_at setup older message.partition) message.call) ∷ older) q
served_sound setup older row message q kept at (inl e) =
    let reply = reply_after setup.room (log_at setup older message.partition) message.call in
    let m = serves older (Deliver row) message reply in
    let sound : Sound setup older message = kept.sound message (at_is older row message at) in
    let replied : Sound setup older (with_reply message reply) = record {
      call = same_call setup older message reply message.call sound.call;
      reply = reply_sound setup older (with_reply message reply) message.call kept (same_call setup older message reply message.call sound.call);
    } in
    sound_stays setup m older q (subst (λ (x : Message). Sound setup older x) (sym e) replied)
served_sound setup older row message q kept at (inr k) = absurd k

gives_sound : (setup : Setup) (older : History) (row : ℕ) (message : Message) (transaction : Transaction) (why : Refusal) (stamp : Stamp) (items : List Item) (calls : List Outgoing) (q : Message) → message_at older row ≡ Some message
    → running older message.client ≡ Some transaction → transaction.request ≡ Writes stamp items → discard_calls setup stamp items ≡ calls
    → q ∈ (moves older (Deliver row) transaction (Fails why calls)).sent → Sound setup (moves older (Deliver row) transaction (Fails why calls) ∷ older) q
gives_sound setup older row message transaction why stamp items [] q at r e same k = absurd k
gives_sound setup older row message transaction why stamp items (out ∷ outs) q at r e same k =
    let m = moves older (Deliver row) transaction (Fails why (out ∷ outs)) in
    let found : running_for older (message_at older row) ≡ Some transaction = ap (running_for older) at ∙ r in
    let here : stamp ∈ failed (m ∷ older) = in_left (request_stamp (running_for older (message_at older row))) (failed older) stamp
    (subst (λ o. stamp ∈ request_stamp o) (sym found) (stamp_of transaction.request stamp items e)) in
    all_sound setup (m ∷ older) transaction (out ∷ outs) q
    (λ o n. discard_sound setup (m ∷ older) transaction stamp items o here (wrote_stays m older stamp items (running_wrote older message.client transaction r stamp items e)) (subst (λ (xs : List Outgoing). o ∈ xs) (sym same) n)) k

failing_sound : (setup : Setup) (older : History) (row : ℕ) (message : Message) (transaction : Transaction) (why : Refusal) (calls : List Outgoing) (q : Message) → message_at older row ≡ Some message
    → running older message.client ≡ Some transaction → Failing setup transaction.request (taken_in older transaction ++ message ∷ []) message why calls
    → q ∈ (moves older (Deliver row) transaction (Fails why calls)).sent → Sound setup (moves older (Deliver row) transaction (Fails why calls) ∷ older) q
failing_sound setup older row message transaction why calls q at r (no_slot version stamp written c e) h = gives_sound setup older row message transaction NoSlot stamp written (discard_calls setup stamp written) q at r e refl h
failing_sound setup older row message transaction why calls q at r (no_item version stamp written c e) h = gives_sound setup older row message transaction NoItem stamp written (discard_calls setup stamp written) q at r e refl h
failing_sound setup older row message transaction why calls q at r (was_discarded version stamp written c f e) h = absurd h
failing_sound setup older row message transaction why calls q at r too_many h = absurd h
failing_sound setup older row message transaction why calls q at r (clashed version c e) h = absurd h
failing_sound setup older row message transaction why calls q at r (torn_first key reply c e t) h = absurd h
failing_sound setup older row message transaction why calls q at r (torn_second key stamp reply c e t) h = absurd h
failing_sound setup older row message transaction why calls q at r (torn_found tag told c e t) h = absurd h

moved_sound : (setup : Setup) (older : History) (row : ℕ) (message : Message) (transaction : Transaction) (move : Move) (q : Message) → Kept setup older → message_at older row ≡ Some message
    → running older message.client ≡ Some transaction → is_wanted older transaction message ≡ true
    → Moving setup transaction.request (taken_in older transaction ++ message ∷ []) message move
    → q ∈ (moves older (Deliver row) transaction move).sent → Sound setup (moves older (Deliver row) transaction move ∷ older) q
moved_sound setup older row message transaction move q kept at r w waits h = absurd h
moved_sound setup older row message transaction move q kept at r w (decides stamp items request all) h =
    all_sound setup (moves older (Deliver row) transaction move ∷ older) transaction (commit_calls setup stamp items) q
    (λ out k. commit_sound setup (moves older (Deliver row) transaction move ∷ older) transaction stamp items out (inl refl)
    (wrote_stays (moves older (Deliver row) transaction move) older stamp items (running_wrote older message.client transaction r stamp items request)) k) h
moved_sound setup older row message transaction move q kept at r w (finishes stamp items request all) h = absurd h
moved_sound setup older row message transaction move q kept at r w (asks keys) h =
    all_sound setup (moves older (Deliver row) transaction move ∷ older) transaction (second_calls setup keys (taken_in older transaction ++ message ∷ [])) q
    (λ out k. second_sound setup (moves older (Deliver row) transaction move ∷ older) transaction keys (taken_in older transaction ++ message ∷ []) out (told_now setup older row message transaction move kept at r w) k) h
moved_sound setup older row message transaction move q kept at r w (begins_reading keys) h =
    all_sound setup (moves older (Deliver row) transaction move ∷ older) transaction (first_calls setup keys) q
    (λ out k. first_sound setup (moves older (Deliver row) transaction move ∷ older) transaction keys out k) h
moved_sound setup older row message transaction move q kept at r w (reads keys readable) h = absurd h
moved_sound setup older row message transaction move q kept at r w (lists tag keys readable) h = absurd h
moved_sound setup older row message transaction move q kept at r w lists_none h = absurd h
moved_sound setup older row message transaction move q kept at r w (restarts key stamp floor c e above) h = absurd h
moved_sound setup older row message transaction move q kept at r w (fails why calls failing) h = failing_sound setup older row message transaction why calls q at r failing h

resent_sound : (setup : Setup) (older : History) (client : ℕ) (transaction : Transaction) (out : Outgoing) (outs : List Outgoing) (q : Message) → Kept setup older → running older client ≡ Some transaction
    → unanswered setup older transaction ≡ out ∷ outs
    → q ∈ (sends older (Retry client) (λ rows. Sent (Some rows)) transaction.client transaction.ticket (out ∷ outs)).sent
    → Sound setup (sends older (Retry client) (λ rows. Sent (Some rows)) transaction.client transaction.ticket (out ∷ outs) ∷ older) q
resent_sound setup older client transaction out outs q kept r u h =
    let m = sends older (Retry client) (λ rows. Sent (Some rows)) transaction.client transaction.ticket (out ∷ outs) in
    all_sound setup (m ∷ older) transaction (out ∷ outs) q
    (λ o k. calls_sound setup (m ∷ older) transaction transaction.request (is_decided older transaction.request) (taken_in older transaction) o (told_before setup m older transaction kept)
    (transaction_stays m older transaction (running_is older client transaction r).0) refl
    (λ d stamp items e. decided_stays m older stamp (decided_request older transaction.request stamp items d e))
    (in_filter (λ (x : Outgoing). not (is_answered (taken_in older transaction) x.partition x.call)) (calls_of setup (is_decided older transaction.request) transaction.request (taken_in older transaction)) o
    (subst (λ (xs : List Outgoing). o ∈ xs) (sym u) k)).0)
    h

pub sent_sound : (setup : Setup) (older : History) (m : Moment) (message : Message) → Kept setup older → Happens setup older m → message ∈ m.sent → Sound setup (m ∷ older) message
sent_sound setup older m q kept (put_begun client items valid idle good) h =
    begun_sound setup older (Put client items) (PutBegun (next_stamp older client)) client (Writes (next_stamp older client) items) q refl h
sent_sound setup older m q kept (get_begun client keys idle) h = begun_sound setup older (GetAll client keys) GetBegun client (Gets keys) q refl h
sent_sound setup older m q kept (find_begun client tag idle) h = begun_sound setup older (Find client tag) FindBegun client (Finds tag) q refl h
sent_sound setup older m q kept (served row message at r) h = served_sound setup older row message q kept at h
sent_sound setup older m q kept (moved row message reply transaction move at e r wanted how) h = moved_sound setup older row message transaction move q kept at r wanted how h
sent_sound setup older m q kept (resent client transaction out outs r u) h = resent_sound setup older client transaction out outs q kept r u h
sent_sound setup older m q kept _ h = absurd h
