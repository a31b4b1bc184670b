-- What a step adds to a log, and what is done was committed at each key's partition.
use Rattle.std.proofs.Common.{◌≡◌, ℕ, ◌+◌, ◌<◌, ◌≤◌, List, [], ◌∷◌, ◌++◌, Bool, true, false, ◌==◌, ◌⊎◌, inl, inr, refl, sym, ap, ◌∙◌, subst, cond, map, filter_map, length, Option, Some, None, option_to_list, eqb-true, eq-eqb, le_of_eq, arith}
use Rattle.std.specs.List.{list_any, cons_option}
use Rattle.plain_store.specs.Words.{◌∈◌, Key, Stamp, Item, Commit, Get, Collect, ReadReply, ToCommit, ToGet, ToCollect, Act, Deliver, CollectAt, Message, Answer, Refused, Done, Setup, home}
use Rattle.plain_store.specs.Log.{Exchange, Log, is_live, is_committed}
use Rattle.plain_store.specs.Replies.{reply_after}
use Rattle.plain_store.specs.History.{keep_in, Moment, moment, History, messages, exchange_of, log_at, Intent, Writes, Gets, Finds, Transaction, transaction_of, begun_by, one_if_by, transactions, is_of, taken_in, running, decided, tickets}
use Rattle.plain_store.specs.Writing.{Outgoing, keys_written, partitions_written, says_committed, all_committed}
use Rattle.plain_store.specs.Moves.{calls_of, Move, Decides, Asks, Begins, Fails}
use Rattle.plain_store.specs.Run.{call_message, next_stamp, moves}
use Rattle.plain_store.specs.Laws.{Wrote, DoneBefore}
use Rattle.plain_store.proofs.Members.{in_cases, in_map, map_in, all_at}
use Rattle.plain_store.proofs.Cells.{commit_commits, committed_stays, stamp_shown}
use Rattle.plain_store.proofs.Steps.{Happens, refused, greeted, put_begun, get_begun, find_begun, served, ignored, moved, lost, not_resent, resent, stopped, keep_set, collected, Moving, waits, decides, finishes, asks, begins_reading, reads, lists, lists_none, restarts, fails}
use Rattle.plain_store.proofs.StaysTrue.{at_is, taken_sent, taken_in_is, running_is, sent_logged, logged_sent, IsSent}
use Rattle.plain_store.proofs.Seen.{committed_at, ascending_in}
use Rattle.plain_store.proofs.Sound.{SoundCall, Sound, of_transaction}
use Rattle.plain_store.proofs.KeptLogs.{Kept, NewWrite, wrote_cases, decided_live}
use Rattle.plain_store.proofs.KeptSends.{running_wrote}
use Rattle.plain_store.proofs.EveryStepKeeps.{new_stamp}

pub no_replies : (partition client ticket : ℕ) (calls : List Outgoing) → filter_map (λ (q : Message). exchange_of partition q q.reply) (map (call_message client ticket) calls) ≡ []
no_replies partition client ticket [] = refl
no_replies partition client ticket (out ∷ outs) = no_replies partition client ticket outs

-- nothing, a collection, or a call that was sent with its reply
pub data LogStep (setup : Setup) (older : History) (partition : ℕ) : Log → Type 0 where
  adds_nothing : LogStep setup older partition (log_at setup older partition)
  logs_collection : (n : ℕ) → LogStep setup older partition (record { call = Collect (keep_in setup older); reply = ToCollect n } ∷ log_at setup older partition)
  logs_reply : (message : Message) → message ∈ messages older → message.reply ≡ None → message.partition ≡ partition
      → LogStep setup older partition (record { call = message.call; reply = reply_after setup.room (log_at setup older message.partition) message.call } ∷ log_at setup older partition)

sends_step : (setup : Setup) (older : History) (partition client ticket : ℕ) (calls : List Outgoing)
    → LogStep setup older partition (filter_map (λ (q : Message). exchange_of partition q q.reply) (map (call_message client ticket) calls) ++ log_at setup older partition)
sends_step setup older partition client ticket calls = subst (λ (front : Log). LogStep setup older partition (front ++ log_at setup older partition)) (sym (no_replies partition client ticket calls)) adds_nothing

pub log_step : (setup : Setup) (older : History) (m : Moment) (partition : ℕ) → Happens setup older m → LogStep setup older partition (log_at setup (m ∷ older) partition)
log_step setup older m partition (refused act why) = go act
  where
    go : (act : Act) → LogStep setup older partition (log_at setup (moment act (Refused why) [] ∷ older) partition)
    go (CollectAt p) = adds_nothing
    go act = adds_nothing
log_step setup older m partition (greeted client base) = adds_nothing
log_step setup older m partition (put_begun client items valid idle good) = sends_step setup older partition client (tickets older client + 1) (calls_of setup false (Writes (next_stamp older client) items) [])
log_step setup older m partition (get_begun client keys idle) = sends_step setup older partition client (tickets older client + 1) (calls_of setup false (Gets keys) [])
log_step setup older m partition (find_begun client tag idle) = sends_step setup older partition client (tickets older client + 1) (calls_of setup false (Finds tag) [])
log_step setup older m partition (served row message at r) = go (message.partition == partition) refl
  where
    e : Exchange
    e = record { call = message.call; reply = reply_after setup.room (log_at setup older message.partition) message.call }

    go : (b : Bool) → (message.partition == partition) ≡ b → LogStep setup older partition (cons_option (cond b (Some e) None) [] ++ log_at setup older partition)
    go true t = logs_reply message (at_is older row message at) r (eqb-true message.partition partition t)
    go false t = adds_nothing
log_step setup older m partition (ignored row message at) = adds_nothing
log_step setup older m partition (moved row message reply transaction move at e r wanted how) = go move
  where
    go : (move : Move) → LogStep setup older partition (log_at setup (moves older (Deliver row) transaction move ∷ older) partition)
    go (Decides stamp calls) = sends_step setup older partition transaction.client transaction.ticket calls
    go (Asks calls) = sends_step setup older partition transaction.client transaction.ticket calls
    go (Begins calls) = sends_step setup older partition transaction.client transaction.ticket calls
    go (Fails why []) = adds_nothing
    go (Fails why (out ∷ outs)) = sends_step setup older partition transaction.client transaction.ticket (out ∷ outs)
    go _ = adds_nothing
log_step setup older m partition (lost row) = adds_nothing
log_step setup older m partition (not_resent client) = adds_nothing
log_step setup older m partition (resent client transaction out outs r u) = sends_step setup older partition transaction.client transaction.ticket (out ∷ outs)
log_step setup older m partition (stopped client) = adds_nothing
log_step setup older m partition (keep_set keep) = adds_nothing
log_step setup older m partition (collected p n) = go (p == partition)
  where
    go : (b : Bool) → LogStep setup older partition (cond b (record { call = Collect (keep_in setup older); reply = ToCollect n } ∷ []) [] ++ log_at setup older partition)
    go true = logs_collection n
    go false = adds_nothing

-- ---- times

-- the message was sent by a step that at least n steps were before
abbrev pub SentSince : History → ℕ → Message → Type 0
SentSince [] n message = ⊥
SentSince (m ∷ older) n message = ((n ≤ length older) × (message ∈ m.sent)) ⊎ SentSince older n message

pub since_bound : (history : History) (n : ℕ) (message : Message) → SentSince history n message → n < length history
since_bound [] n message h = absurd h
since_bound (m ∷ older) n message (inl h) = let l = h.0 in omega arith
since_bound (m ∷ older) n message (inr h) = let l = since_bound older n message h in omega arith

pub record Fresh (setup : Setup) (history : History) : Type 0 where
  -- what was put before its COMMIT came is committed by it
  pub commits : (partition : ℕ) (stamp : Stamp) (items : List Item) (key : Key) (exchange : Exchange) → exchange ∈ log_at setup history partition → exchange.call ≡ Commit stamp
      → Wrote history stamp items → key ∈ keys_written items → home setup key ≡ partition → is_committed (log_at setup history partition) key stamp ≡ true
  pub done_put : (n : ℕ) (stamp : Stamp) → DoneBefore history n stamp → (items : List Item) × Wrote history stamp items
  -- what is done is committed at each key's partition
  pub done : (n : ℕ) (stamp : Stamp) (items : List Item) (key : Key) → DoneBefore history n stamp → Wrote history stamp items → key ∈ keys_written items → is_committed (log_at setup history (home setup key)) key stamp ≡ true
  pub ticketed : (message : Message) → message ∈ messages history → message.ticket ≤ tickets history message.client
  pub begun : (transaction : Transaction) → transaction ∈ transactions history → (transaction.ticket ≤ tickets history transaction.client) × (transaction.begun < length history)
  -- a transaction's messages were sent since it began
  pub since : (transaction : Transaction) (message : Message) → transaction ∈ transactions history → message ∈ messages history → is_of transaction message ≡ true → SentSince history transaction.begun message
  -- a first GET's reply sent after that shows no stamp below
  pub fresh : (n : ℕ) (stamp : Stamp) (items : List Item) (key : Key) (message : Message) (reply : ReadReply) → DoneBefore history n stamp → SentSince history n message
      → message.call ≡ Get key None → message.reply ≡ Some (ToGet reply) → Wrote history stamp items → key ∈ keys_written items → stamp ≤ stamp_shown reply

-- what was put is not put anew
pub old_write : (setup : Setup) (older : History) (m : Moment) (stamp : Stamp) (items others : List Item) → Kept setup older → Happens setup older m → Wrote older stamp others → Wrote (m ∷ older) stamp items → Wrote older stamp items
old_write setup older m stamp items others kept how was w = go (wrote_cases setup older m stamp items how w)
  where
    go : Wrote older stamp items ⊎ NewWrite older m stamp items → Wrote older stamp items
    go (inl o) = o
    go (inr n) = absurd (new_stamp setup older m stamp items others kept was n)

-- ---- COMMITs

unfoldable pub IsCommitting : Setup → History → ℕ → Log → Type 0
IsCommitting setup history partition log = (stamp : Stamp) (items : List Item) (key : Key) (exchange : Exchange) → exchange ∈ log → exchange.call ≡ Commit stamp
    → Wrote history stamp items → key ∈ keys_written items → home setup key ≡ partition → is_committed log key stamp ≡ true

entry_put : (setup : Setup) (older : History) (partition : ℕ) (stamp : Stamp) (message : Message) → Kept setup older → message ∈ messages older → message.call ≡ Commit stamp → (stamp ∈ decided older) × ((items : List Item) × Wrote older stamp items)
entry_put setup older partition stamp message kept h e =
    let sound : Sound setup older message = kept.sound message h in
    let d : stamp ∈ decided older = (subst (λ c. SoundCall setup older message c) e sound.call).0 in
    (d, kept.was_put stamp d)

pub commits_kept : (setup : Setup) (older : History) (m : Moment) (partition : ℕ) (log : Log) → Kept setup older → Happens setup older m → IsCommitting setup older partition (log_at setup older partition)
    → ((stamp : Stamp) (exchange : Exchange) → exchange ∈ log_at setup older partition → exchange.call ≡ Commit stamp → (items : List Item) × Wrote older stamp items)
    → LogStep setup older partition log → IsCommitting setup (m ∷ older) partition log
unfolding IsCommitting
commits_kept setup older m partition log kept how before put adds_nothing stamp items key exchange h c w k p =
    let was = put stamp exchange h c in
    before stamp items key exchange h c (old_write setup older m stamp items was.0 kept how was.1 w) k p
commits_kept setup older m partition log kept how before put (logs_collection n) stamp items key exchange (inl e) c w k p = let f : Collect (keep_in setup older) ≡ Commit stamp = ap (λ (x : Exchange). x.call) (sym e) ∙ c in cc
commits_kept setup older m partition log kept how before put (logs_collection n) stamp items key exchange (inr h) c w k p =
    let was = put stamp exchange h c in
    committed_stays (record { call = Collect (keep_in setup older); reply = ToCollect n }) (log_at setup older partition) key stamp (before stamp items key exchange h c (old_write setup older m stamp items was.0 kept how was.1 w) k p)
commits_kept setup older m partition log kept how before put (logs_reply message q r at) stamp items key exchange (inl e) c w k p =
    let call : message.call ≡ Commit stamp = ap (λ (x : Exchange). x.call) (sym e) ∙ c in
    let was = entry_put setup older partition stamp message kept q call in
    let old : Wrote older stamp items = old_write setup older m stamp items was.1.0 kept how was.1.1 w in
    commit_commits (log_at setup older partition) (record { call = message.call; reply = reply_after setup.room (log_at setup older message.partition) message.call }) key stamp call
    (subst (λ x. is_live (log_at setup older x) key stamp ≡ true) p (decided_live setup older stamp items key kept was.0 old k))
commits_kept setup older m partition log kept how before put (logs_reply message q r at) stamp items key exchange (inr h) c w k p =
    let was = put stamp exchange h c in
    committed_stays (record { call = message.call; reply = reply_after setup.room (log_at setup older message.partition) message.call }) (log_at setup older partition) key stamp
    (before stamp items key exchange h c (old_write setup older m stamp items was.0 kept how was.1 w) k p)

pub commit_put : (setup : Setup) (older : History) (partition : ℕ) (stamp : Stamp) (exchange : Exchange) → Kept setup older → exchange ∈ log_at setup older partition → exchange.call ≡ Commit stamp → (items : List Item) × Wrote older stamp items
commit_put setup older partition stamp exchange kept h c = go (logged_sent setup older partition exchange h)
  where
    go : ((keep : ℕ) × (exchange.call ≡ Collect keep)) ⊎ IsSent older partition exchange → (items : List Item) × Wrote older stamp items
    go (inl k) = let a = k.1 in cc
    go (inr s) = (entry_put setup older partition stamp s.0 kept s.1 (s.3 ∙ c)).1

-- ---- done

unfoldable pub IsFinish : Setup → History → Stamp → Type 0
IsFinish setup older stamp =
    (message : Message) × (transaction : Transaction) × (items : List Item) × (message ∈ messages older) × (running older message.client ≡ Some transaction)
    × (transaction.request ≡ Writes stamp items) × (all_committed setup stamp items (taken_in older transaction ++ message ∷ []) ≡ true)

pub done_is : (setup : Setup) (older : History) (m : Moment) (stamp : Stamp) → Happens setup older m → m.answer ≡ Done stamp → IsFinish setup older stamp
unfolding IsFinish
done_is setup older m stamp (moved row message reply transaction move at e r wanted how) d = go move how d
  where
    go : (move : Move) → Moving setup transaction.request (taken_in older transaction ++ message ∷ []) message move → (moves older (Deliver row) transaction move).answer ≡ Done stamp
        → (q : Message) × (t : Transaction) × (items : List Item) × (q ∈ messages older) × (running older q.client ≡ Some t) × (t.request ≡ Writes stamp items) × (all_committed setup stamp items (taken_in older t ++ q ∷ []) ≡ true)
    go move (finishes s items request all) d =
        let same : s ≡ stamp = cc in
        (message, transaction, items, at_is older row message at, r, request ∙ ap (λ x. Writes x items) same, subst (λ x. all_committed setup x items (taken_in older transaction ++ message ∷ []) ≡ true) same all)
    go move waits d = cc
    go move (decides s items request all) d = cc
    go move (asks keys) d = cc
    go move (begins_reading keys) d = cc
    go move (reads keys readable) d = cc
    go move (lists tag keys readable) d = cc
    go move lists_none d = cc
    go move (restarts key s floor c f above) d = cc
    go move (fails why [] failing) d = cc
    go move (fails why (out ∷ outs) failing) d = cc
done_is setup older m stamp _ d = cc

partition_written : (setup : Setup) (items : List Item) (key : Key) → key ∈ keys_written items → home setup key ∈ partitions_written setup items
partition_written setup items key h =
    let i = in_map (λ (item : Item). item.key) items key h in
    ascending_in (map (λ (item : Item). home setup item.key) items) (home setup key)
    (subst (λ k. home setup k ∈ map (λ (item : Item). home setup item.key) items) (sym i.2) (map_in (λ (item : Item). home setup item.key) items i.0 i.1))

-- what is done was committed at each key's partition
pub finish_commits : (setup : Setup) (older : History) (stamp : Stamp) (key : Key) → Kept setup older → Fresh setup older → (f : IsFinish setup older stamp) → (items : List Item) → Wrote older stamp items → key ∈ keys_written items → is_committed (log_at setup older (home setup key)) key stamp ≡ true
unfolding IsFinish
finish_commits setup older stamp key kept fresh f items w k =
    let own : Wrote older stamp f.2 = running_wrote older f.0.client f.1 f.4 stamp f.2 f.5 in
    let same : items ≡ f.2 = kept.one stamp items f.2 w own in
    let place : home setup key ∈ partitions_written setup f.2 = partition_written setup f.2 key (subst (λ is. key ∈ keys_written is) same k) in
    let c = committed_at stamp (home setup key) (taken_in older f.1 ++ f.0 ∷ []) (all_at (λ p. list_any (λ (q : Message). says_committed stamp p q.partition q.call q.reply) (taken_in older f.1 ++ f.0 ∷ [])) (partitions_written setup f.2) (home setup key) f.6 place) in
    let sent : c.0 ∈ messages older = told (in_cases (taken_in older f.1) (f.0 ∷ []) c.0 c.2) in
    let logged = sent_logged setup older c.0 (ToCommit c.1) sent c.4 in
    fresh.commits (home setup key) stamp items key (record { call = c.0.call; reply = ToCommit c.1 })
    (subst (λ p. record { call = c.0.call; reply = ToCommit c.1 } ∈ log_at setup older p) c.5 logged) c.3 w k refl
  where
    told : {q : Message} → (q ∈ taken_in older f.1) ⊎ (q ∈ (f.0 ∷ [])) → q ∈ messages older
    told {q} (inl h) = taken_sent older q (taken_in_is older f.1 q h).0
    told {q} (inr (inl e)) = subst (λ (x : Message). x ∈ messages older) (sym e) f.3
    told {q} (inr (inr h)) = absurd h

-- ---- tickets

pub tickets_grow : (m : Moment) (older : History) (client : ℕ) → tickets older client ≤ tickets (m ∷ older) client
tickets_grow m older client = omega arith

new_ticket : (older : History) (client : ℕ) (request : Intent) (act : Act) (answer : Answer) (sent : List Message) → begun_by act answer ≡ Some (client, request) → tickets older client + 1 ≤ tickets (moment act answer sent ∷ older) client
new_ticket older client request act answer sent e =
    let one : one_if_by client (begun_by act answer) ≡ 1 = ap (one_if_by client) e ∙ ap (λ b. cond b 1 0) (eq-eqb client client refl) in
    omega (arith, one)

-- a call of a transaction carries its ticket
called_ticket : (older : History) (m : Moment) (client ticket : ℕ) (calls : List Outgoing) (message : Message) → ticket ≤ tickets (m ∷ older) client → message ∈ map (call_message client ticket) calls → message.ticket ≤ tickets (m ∷ older) message.client
called_ticket older m client ticket calls message l h =
    let i = in_map (call_message client ticket) calls message h in
    subst (λ (q : Message). q.ticket ≤ tickets (m ∷ older) q.client) (sym i.2) l

running_ticket : (setup : Setup) (older : History) (m : Moment) (client : ℕ) (transaction : Transaction) → Fresh setup older → running older client ≡ Some transaction → transaction.ticket ≤ tickets (m ∷ older) transaction.client
running_ticket setup older m client transaction fresh r =
    let l = (fresh.begun transaction (running_is older client transaction r).0).0 in
    let g = tickets_grow m older transaction.client in
    omega arith

pub sent_ticket : (setup : Setup) (older : History) (m : Moment) (message : Message) → Fresh setup older → Happens setup older m → message ∈ m.sent → message.ticket ≤ tickets (m ∷ older) message.client
sent_ticket setup older m q fresh (put_begun client items valid idle good) h =
    called_ticket older m client (tickets older client + 1) (calls_of setup false (Writes (next_stamp older client) items) []) q
    (new_ticket older client (Writes (next_stamp older client) items) m.act m.answer m.sent refl) h
sent_ticket setup older m q fresh (get_begun client keys idle) h =
    called_ticket older m client (tickets older client + 1) (calls_of setup false (Gets keys) []) q (new_ticket older client (Gets keys) m.act m.answer m.sent refl) h
sent_ticket setup older m q fresh (find_begun client tag idle) h =
    called_ticket older m client (tickets older client + 1) (calls_of setup false (Finds tag) []) q (new_ticket older client (Finds tag) m.act m.answer m.sent refl) h
sent_ticket setup older m q fresh (served row message at r) (inl e) =
    let l = fresh.ticketed message (at_is older row message at) in
    let g = tickets_grow m older message.client in
    subst (λ (x : Message). x.ticket ≤ tickets (m ∷ older) x.client) (sym e) (omega arith)
sent_ticket setup older m q fresh (served row message at r) (inr h) = absurd h
sent_ticket setup older m q fresh (moved row message reply transaction move at e r wanted how) h = go move h
  where
    sends_calls : (m : Moment) (calls : List Outgoing) → q ∈ map (call_message transaction.client transaction.ticket) calls → q.ticket ≤ tickets (m ∷ older) q.client
    sends_calls m calls k = called_ticket older m transaction.client transaction.ticket calls q (running_ticket setup older m message.client transaction fresh r) k

    go : (move : Move) → q ∈ (moves older (Deliver row) transaction move).sent → q.ticket ≤ tickets (moves older (Deliver row) transaction move ∷ older) q.client
    go (Decides stamp calls) k = sends_calls (moves older (Deliver row) transaction (Decides stamp calls)) calls k
    go (Asks calls) k = sends_calls (moves older (Deliver row) transaction (Asks calls)) calls k
    go (Begins calls) k = sends_calls (moves older (Deliver row) transaction (Begins calls)) calls k
    go (Fails why []) k = absurd k
    go (Fails why (out ∷ outs)) k = sends_calls (moves older (Deliver row) transaction (Fails why (out ∷ outs))) (out ∷ outs) k
    go _ k = absurd k
sent_ticket setup older m q fresh (resent client transaction out outs r u) h = called_ticket older m transaction.client transaction.ticket (out ∷ outs) q (running_ticket setup older m client transaction fresh r) h
sent_ticket setup older m q fresh _ h = absurd h

-- a transaction of a longer history is an older one or begins now, with the next ticket
unfoldable pub NewTransaction : History → Moment → Transaction → Type 0
NewTransaction older m transaction = (transaction.begun ≡ length older) × (transaction.ticket ≡ tickets older transaction.client + 1) × (transaction.ticket ≤ tickets (m ∷ older) transaction.client)

pub transaction_cases : (m : Moment) (older : History) (transaction : Transaction) → transaction ∈ transactions (m ∷ older) → (transaction ∈ transactions older) ⊎ NewTransaction older m transaction
unfolding NewTransaction
transaction_cases m older transaction h = go (begun_by m.act m.answer) refl (in_cases (option_to_list (transaction_of older (begun_by m.act m.answer))) (transactions older) transaction h)
  where
    made : (begun : ℕ × Intent) → begun_by m.act m.answer ≡ Some begun → transaction ≡ record { client = begun.0; ticket = tickets older begun.0 + 1; begun = length older; request = begun.1 } → NewTransaction older m transaction
    made begun b e =
        let l : tickets older begun.0 + 1 ≤ tickets (m ∷ older) begun.0 = new_ticket older begun.0 begun.1 m.act m.answer m.sent b in
        subst (λ (t : Transaction). NewTransaction older m t) (sym e) (refl, refl, l)

    go : (o : Option (ℕ × Intent)) → begun_by m.act m.answer ≡ o → (transaction ∈ option_to_list (transaction_of older (begun_by m.act m.answer))) ⊎ (transaction ∈ transactions older) → (transaction ∈ transactions older) ⊎ NewTransaction older m transaction
    go o b (inr k) = inl k
    go None b (inl k) = absurd (subst (λ x. transaction ∈ option_to_list (transaction_of older x)) b k)
    go (Some begun) b (inl k) = one (subst (λ x. transaction ∈ option_to_list (transaction_of older x)) b k)
      where
        one : transaction ∈ (record { client = begun.0; ticket = tickets older begun.0 + 1; begun = length older; request = begun.1 } ∷ []) → (transaction ∈ transactions older) ⊎ NewTransaction older m transaction
        one (inl e) = inr (made begun b e)
        one (inr n) = absurd n

pub since_kept : (setup : Setup) (older : History) (m : Moment) (transaction : Transaction) (message : Message) → Fresh setup older
    → (transaction ∈ transactions older) ⊎ NewTransaction older m transaction → (message ∈ messages older) ⊎ (message ∈ m.sent) → is_of transaction message ≡ true → SentSince (m ∷ older) transaction.begun message
unfolding NewTransaction
since_kept setup older m transaction message fresh (inl t) (inl q) e = inr (fresh.since transaction message t q e)
since_kept setup older m transaction message fresh (inl t) (inr q) e = let l = (fresh.begun transaction t).1 in inl (omega arith, q)
since_kept setup older m transaction message fresh (inr t) (inr q) e = inl (le_of_eq t.0, q)
since_kept setup older m transaction message fresh (inr t) (inl q) e =
    let p = of_transaction transaction message e in
    let l : message.ticket ≤ tickets older transaction.client = subst (λ c. message.ticket ≤ tickets older c) p.0 (fresh.ticketed message q) in
    let same : message.ticket ≡ tickets older transaction.client + 1 = p.1 ∙ t.1 in
    absurd (omega arith)
