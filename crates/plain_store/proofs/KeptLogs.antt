-- What every step of a run keeps of the partitions' logs.
use Rattle.std.proofs.Common.{◌≡◌, ℕ, zero, suc, ◌+◌, ◌≤◌, max, List, [], ◌∷◌, ◌++◌, Bool, true, false, ◌==◌, ◌⊎◌, inl, inr, refl, sym, ap, ◌∙◌, subst, cond, not, map, length, take, Some, None, option_to_list, eq-eqb, ◌<◌}
use Rattle.std.specs.List.{list_any}
use Rattle.std.proofs.lemmas.Bool.{and_parts, and_from, or_parts}
use Rattle.stamps.specs.Key.{sorted_keys}
use Rattle.plain_store.specs.Words.{◌∈◌, Key, Tag, Stamp, Item, Record, Call, Prepare, Commit, Get, Found, Collect, Discard, PrepareReply, Prepared, FullSlots, FullItems, Clash, Discarded, ReadReply, Version, Initial, Collected, Unknown, ToPrepare, Act, Hello, Put, Deliver, Message, Rows, Refused, Decided, Setup, home, item_of}
use Rattle.plain_store.specs.Log.{Log, versions, floor, is_live, distinct, items}
use Rattle.plain_store.specs.Replies.{reply_after, prepare_reply, get_reply}
use Rattle.plain_store.specs.Tags.{under, is_under}
use Rattle.plain_store.specs.History.{Moment, moment, History, messages, message_at, log_at, Intent, Writes, Gets, Finds, Transaction, transaction_of, begun_by, transactions, taken, is_of, taken_in, running, counter, decided, tickets}
use Rattle.plain_store.specs.Writing.{keys_written, commit_calls, all_prepared}
use Rattle.plain_store.specs.Moves.{Move, Fails, is_answered}
use Rattle.plain_store.specs.Run.{next_stamp, moves, is_wanted, one_twice, are_bad, next_rows}
use Rattle.plain_store.specs.Laws.{Wrote}
use Rattle.plain_store.proofs.Stamps.{is_key}
use Rattle.plain_store.proofs.Members.{in_right, in_cases, in_map, map_in, in_filter, any_from}
use Rattle.plain_store.proofs.Cells.{HasVersion, version_accepted, IsCommitted, committed_is, IsFirstReply, first_reply, IsSecondReply, second_reply, clash_is, IsDiscarded, live_without, outlived_is}
use Rattle.plain_store.proofs.Steps.{Happens, refused, put_begun, get_begun, find_begun, moved, Moving, waits, decides, finishes, asks, begins_reading, reads, lists, lists_none, restarts, fails}
use Rattle.plain_store.proofs.StaysTrue.{at_is, running_is, logged_sent, IsSent, failed}
use Rattle.plain_store.proofs.Seen.{in_sorted}
use Rattle.plain_store.proofs.Sound.{IsRecordOf, SoundCall, SoundFirst, SoundSecond, SoundReply, Sound}
use Rattle.std.specs.Prelude.{bytes_eq, Option}
use Rattle.stamps.specs.Bounds.{IsClient}
use Rattle.stamps.specs.Limits.{max_found}
use Rattle.stamps.specs.Stamp.{counter_of, client_of}
use Rattle.stamps.specs.RecordLaws.{record_eq-Decides}
use Rattle.stamps.specs.WriteSet.{contains_key}

pub record Kept (setup : Setup) (history : History) : Type 0 where
  pub one : (stamp : Stamp) (items others : List Item) → Wrote history stamp items → Wrote history stamp others → items ≡ others
  pub known : (stamp : Stamp) (items : List Item) → Wrote history stamp items → counter_of stamp ≤ counter history (client_of stamp)
  pub distinct : (stamp : Stamp) (items : List Item) → Wrote history stamp items → one_twice (keys_written items) ≡ false
  -- a stamp names the client that wrote under it
  pub owned : (transaction : Transaction) (stamp : Stamp) (items : List Item) → transaction ∈ transactions history → transaction.request ≡ Writes stamp items → client_of stamp ≡ transaction.client
  pub bounded : (transaction : Transaction) → transaction ∈ transactions history → transaction.ticket ≤ tickets history transaction.client
  -- a client and a ticket name one transaction
  pub single : (one other : Transaction) → one ∈ transactions history → other ∈ transactions history → one.client ≡ other.client → one.ticket ≡ other.ticket → one ≡ other
  pub positive : (stamp : Stamp) (items : List Item) → Wrote history stamp items → 0 < stamp
  pub was_put : (stamp : Stamp) → stamp ∈ decided history → (items : List Item) × Wrote history stamp items
  pub sound : (message : Message) → message ∈ messages history → Sound setup history message
  pub prepared : (stamp : Stamp) (items : List Item) (key : Key) → stamp ∈ decided history → Wrote history stamp items → key ∈ keys_written items → HasVersion (log_at setup history (home setup key)) key stamp
  pub gave_up : (stamp : Stamp) → stamp ∈ failed history → (items : List Item) × Wrote history stamp items
  -- a running writer has not dropped
  pub stays_open : (client : ℕ) (transaction : Transaction) (stamp : Stamp) (items : List Item) → running history client ≡ Some transaction → transaction.request ≡ Writes stamp items → stamp ∈ failed history → ⊥
  -- a decided writer has each PREPARE answered
  pub answered : (client : ℕ) (transaction : Transaction) (stamp : Stamp) (items : List Item) → running history client ≡ Some transaction → transaction.request ≡ Writes stamp items → stamp ∈ decided history
      → all_prepared stamp items (taken_in history transaction) ≡ true
  -- no stamp is decided and dropped
  pub apart : (stamp : Stamp) → stamp ∈ decided history → stamp ∈ failed history → ⊥
  -- a running writer's stamp is the greatest of its client's
  pub newest : (client : ℕ) (transaction : Transaction) (stamp : Stamp) (items : List Item) (other : Stamp) (others : List Item) → running history client ≡ Some transaction → transaction.request ≡ Writes stamp items
      → Wrote history other others → client_of other ≡ client → other ≤ stamp

-- ---- what a step adds

pub moves_begin_nothing : (older : History) (row : ℕ) (transaction : Transaction) (move : Move) → begun_by (moves older (Deliver row) transaction move).act (moves older (Deliver row) transaction move).answer ≡ None
moves_begin_nothing older row transaction (Fails why []) = refl
moves_begin_nothing older row transaction (Fails why (out ∷ outs)) = refl
moves_begin_nothing older row transaction _ = refl

abbrev pub NewWrite : History → Moment → Stamp → List Item → Type 0
NewWrite older m stamp items =
    (client : ℕ) × (m.act ≡ Put client items) × (stamp ≡ next_stamp older client) × (are_bad (keys_written items) ≡ false) × (counter (m ∷ older) client ≡ max (counter_of stamp) (counter older client)) × IsClient client × (running older client ≡ None)

abbrev pub NewBegun : History → Moment → Transaction → Type 0
NewBegun older m transaction =
    (begun : ℕ × Intent) × (begun_by m.act m.answer ≡ Some begun) × (transaction ≡ record { client = begun.0; ticket = tickets older begun.0 + 1; begun = length older; request = begun.1 })

-- a transaction of a longer history is an older one or begins now, with the next ticket
pub begun_cases : (m : Moment) (older : History) (transaction : Transaction) → transaction ∈ transactions (m ∷ older) → (transaction ∈ transactions older) ⊎ NewBegun older m transaction
begun_cases m older transaction h = go (begun_by m.act m.answer) refl (in_cases (option_to_list (transaction_of older (begun_by m.act m.answer))) (transactions older) transaction h)
  where
    go : (o : Option (ℕ × Intent)) → begun_by m.act m.answer ≡ o → (transaction ∈ option_to_list (transaction_of older (begun_by m.act m.answer))) ⊎ (transaction ∈ transactions older) → (transaction ∈ transactions older) ⊎ NewBegun older m transaction
    go o b (inr k) = inl k
    go None b (inl k) = absurd (subst (λ x. transaction ∈ option_to_list (transaction_of older x)) b k)
    go (Some begun) b (inl k) = one (subst (λ x. transaction ∈ option_to_list (transaction_of older x)) b k)
      where
        one : transaction ∈ (record { client = begun.0; ticket = tickets older begun.0 + 1; begun = length older; request = begun.1 } ∷ []) → (transaction ∈ transactions older) ⊎ NewBegun older m transaction
        one (inl e) = inr (begun, b, e)
        one (inr n) = absurd n

-- a write that begins now
pub begun_stamp : (setup : Setup) (older : History) (m : Moment) (begun : ℕ × Intent) (stamp : Stamp) (items : List Item) → Happens setup older m → begun_by m.act m.answer ≡ Some begun → begun.1 ≡ Writes stamp items
    → (stamp ≡ next_stamp older begun.0) × IsClient begun.0 × NewWrite older m stamp items
begun_stamp setup older m begun stamp items (put_begun client is valid idle good) b e =
    let same : (client, Writes (next_stamp older client) is) ≡ begun = cc in
    let c : client ≡ begun.0 = ap (λ (x : ℕ × Intent). x.0) same in
    let r : Writes (next_stamp older client) is ≡ Writes stamp items = ap (λ (x : ℕ × Intent). x.1) same ∙ e in
    let s : next_stamp older client ≡ stamp = cc in
    let i : is ≡ items = cc in
    let counted : (client == client) ≡ true = eq-eqb client client refl in (
      sym s ∙ ap (next_stamp older) c,
      subst IsClient c valid,
      (
        client,
        ap (Put client) i,
        sym s,
        subst (λ (x : List Item). are_bad (keys_written x) ≡ false) i good,
        ap (λ b. max (cond b (counter_of (next_stamp older client)) 0) (counter older client)) counted ∙ ap (λ (x : Stamp). max (counter_of x) (counter older client)) s,
        valid,
        idle,
      ),
    )
begun_stamp setup older m begun stamp items (get_begun client keys idle) b e = let same : (client, Gets keys) ≡ begun = cc in let r : Gets keys ≡ Writes stamp items = ap (λ (x : ℕ × Intent). x.1) same ∙ e in cc
begun_stamp setup older m begun stamp items (find_begun client tag idle) b e = let same : (client, Finds tag) ≡ begun = cc in let r : Finds tag ≡ Writes stamp items = ap (λ (x : ℕ × Intent). x.1) same ∙ e in cc
begun_stamp setup older m begun stamp items (moved row message reply transaction move at f r wanted how) b e = let n = moves_begin_nothing older row transaction move in cc
begun_stamp setup older m begun stamp items (refused act why) b e = go act b
  where
    go : (act : Act) → begun_by act (Refused why) ≡ Some begun → (stamp ≡ next_stamp older begun.0) × IsClient begun.0 × NewWrite older (moment act (Refused why) []) stamp items
    go (Hello client base) b = cc
    go _ b = cc
begun_stamp setup older m begun stamp items _ b e = cc

pub new_request : (older : History) (m : Moment) (transaction : Transaction) (stamp : Stamp) (items : List Item) → (n : NewBegun older m transaction) → transaction.request ≡ Writes stamp items → n.0.1 ≡ Writes stamp items
new_request older m transaction stamp items n e = ap (λ (t : Transaction). t.request) (sym n.2) ∙ e

pub wrote_cases : (setup : Setup) (older : History) (m : Moment) (stamp : Stamp) (items : List Item) → Happens setup older m → Wrote (m ∷ older) stamp items → Wrote older stamp items ⊎ NewWrite older m stamp items
wrote_cases setup older m stamp items how w = go (begun_cases m older w.0 w.1)
  where
    go : (w.0 ∈ transactions older) ⊎ NewBegun older m w.0 → Wrote older stamp items ⊎ NewWrite older m stamp items
    go (inl t) = inl (w.0, t, w.2)
    go (inr n) = inr (begun_stamp setup older m n.0 stamp items how n.1 (new_request older m w.0 stamp items n w.2)).2

pub is_of_wanted : (older : History) (message : Message) (transaction : Transaction) → running older message.client ≡ Some transaction → is_wanted older transaction message ≡ true → is_of transaction message ≡ true
is_of_wanted older message transaction r w =
    let p = and_parts (message.ticket == transaction.ticket) (not (is_answered (taken_in older transaction) message.partition message.call)) w in
    and_from (message.client == transaction.client) (message.ticket == transaction.ticket) (eq-eqb message.client transaction.client (sym (running_is older message.client transaction r).1)) p.0

abbrev pub NewDecision : History → Moment → Stamp → Type 0
NewDecision older m stamp =
    (message : Message) × (transaction : Transaction) × (items : List Item) × (message ∈ messages older) × (running older message.client ≡ Some transaction)
    × (transaction.request ≡ Writes stamp items) × (all_prepared stamp items (taken_in older transaction ++ message ∷ []) ≡ true)
    × (message ∈ taken (m ∷ older)) × (is_of transaction message ≡ true) × ((rows : Rows) × (m.answer ≡ Decided stamp rows))

pub decided_cases : (setup : Setup) (older : History) (m : Moment) (stamp : Stamp) → Happens setup older m → stamp ∈ decided (m ∷ older) → (stamp ∈ decided older) ⊎ NewDecision older m stamp
decided_cases setup older m stamp (moved row message reply transaction move at e r wanted how) d = go move how d
  where
    go : (move : Move) → Moving setup transaction.request (taken_in older transaction ++ message ∷ []) message move → stamp ∈ decided (moves older (Deliver row) transaction move ∷ older) → (stamp ∈ decided older) ⊎ NewDecision older (moves older (Deliver row) transaction move) stamp
    go move waits d = inl d
    go move (decides s items request all) (inl same) =
        inr (
          message,
          transaction,
          items,
          at_is older row message at,
          r,
          request ∙ ap (λ q. Writes q items) (sym same),
          subst (λ q. all_prepared q items (taken_in older transaction ++ message ∷ []) ≡ true) (sym same) all,
          in_right (taken older) (option_to_list (message_at older row)) message (subst (λ o. message ∈ option_to_list o) (sym at) (inl refl)),
          is_of_wanted older message transaction r wanted,
          (next_rows older (length (commit_calls setup s items)), ap (λ q. Decided q (next_rows older (length (commit_calls setup s items)))) (sym same)),
        )
    go move (decides s items request all) (inr k) = inl k
    go move (finishes s items request all) d = inl d
    go move (asks keys) d = inl d
    go move (begins_reading keys) d = inl d
    go move (reads keys readable) d = inl d
    go move (lists tag keys readable) d = inl d
    go move lists_none d = inl d
    go move (restarts key s floor c f above) d = inl d
    go move (fails why [] failing) d = inl d
    go move (fails why (out ∷ outs) failing) d = inl d
decided_cases setup older m stamp _ d = inl d

-- ---- what a log holds is what was sent

log_record : (setup : Setup) (history : History) (partition : ℕ) (version : Record) → Kept setup history → version ∈ versions (log_at setup history partition)
    → IsRecordOf history version × (partition ≡ home setup version.key)
log_record setup history partition version kept h =
    go (logged_sent setup history partition (record { call = Prepare version; reply = ToPrepare Prepared }) (version_accepted (log_at setup history partition) version h))
  where
    go : ((keep : ℕ) × (Prepare version ≡ Collect keep)) ⊎ IsSent history partition (record { call = Prepare version; reply = ToPrepare Prepared }) → IsRecordOf history version × (partition ≡ home setup version.key)
    go (inl c) = let same = c.1 in cc
    go (inr s) =
        let sound : Sound setup history s.0 = kept.sound s.0 s.1 in
        let c : SoundCall setup history s.0 (Prepare version) = subst (λ x. SoundCall setup history s.0 x) s.3 sound.call in
        (c.0, sym s.2 ∙ c.1)

log_decided : (setup : Setup) (history : History) (partition : ℕ) (stamp : Stamp) → Kept setup history → IsCommitted (log_at setup history partition) stamp → stamp ∈ decided history
log_decided setup history partition stamp kept c = go (logged_sent setup history partition c.0 c.1)
  where
    go : ((keep : ℕ) × (c.0.call ≡ Collect keep)) ⊎ IsSent history partition c.0 → stamp ∈ decided history
    go (inl k) = let a = c.2 in let b = k.1 in cc
    go (inr s) = let sound : Sound setup history s.0 = kept.sound s.0 s.1 in (subst (λ x. SoundCall setup history s.0 x) (s.3 ∙ c.2) sound.call).0

pub log_failed : (setup : Setup) (history : History) (partition : ℕ) (stamp : Stamp) → Kept setup history → IsDiscarded (log_at setup history partition) stamp → stamp ∈ failed history
log_failed setup history partition stamp kept d = go (logged_sent setup history partition d.0 d.1)
  where
    go : ((keep : ℕ) × (d.0.call ≡ Collect keep)) ⊎ IsSent history partition d.0 → stamp ∈ failed history
    go (inl k) = let a = d.2 in let b = k.1 in cc
    go (inr s) = let sound : Sound setup history s.0 = kept.sound s.0 s.1 in (subst (λ x. SoundCall setup history s.0 x) (s.3 ∙ d.2) sound.call).0

-- the stamp of a decided writer's item is live at its partition
pub decided_live : (setup : Setup) (history : History) (stamp : Stamp) (items : List Item) (key : Key) → Kept setup history → stamp ∈ decided history → Wrote history stamp items → key ∈ keys_written items
    → is_live (log_at setup history (home setup key)) key stamp ≡ true
decided_live setup history stamp items key kept d w h =
    live_without (log_at setup history (home setup key)) key stamp (λ x. kept.apart stamp d (log_failed setup history (home setup key) stamp kept x)) (kept.prepared stamp items key d w h)

-- ---- one record for an item and stamp

-- of distinct keys one item has each
one_item : (items : List Item) (a b : Item) → one_twice (keys_written items) ≡ false → a ∈ items → b ∈ items → a.key ≡ b.key → a ≡ b
one_item [] a b d h k e = absurd h
one_item (i ∷ is) a b d h k e = go h k (or_parts (contains_key (keys_written is) i.key) (one_twice (keys_written is)) d) (λ d' h' k'. one_item is a b d' h' k' e)
  where
    twice : (x : Item) → x ∈ is → x.key ≡ i.key → contains_key (keys_written is) i.key ≡ true
    twice x m same = any_from (λ y. bytes_eq y i.key) (keys_written is) x.key (map_in (λ (item : Item). item.key) is x m) (is_key x.key i.key same)

    go : a ∈ (i ∷ is) → b ∈ (i ∷ is) → (contains_key (keys_written is) i.key ≡ false) × (one_twice (keys_written is) ≡ false)
        → (one_twice (keys_written is) ≡ false → a ∈ is → b ∈ is → a ≡ b) → a ≡ b
    go (inl p) (inl q) d rest = p ∙ sym q
    go (inl p) (inr q) d rest = let t = twice b q (sym e ∙ ap (λ (x : Item). x.key) p) in let f = d.0 in cc
    go (inr p) (inl q) d rest = let t = twice a p (e ∙ ap (λ (x : Item). x.key) q) in let f = d.0 in cc
    go (inr p) (inr q) d rest = rest d.1 p q

pub same_version : (setup : Setup) (history : History) (a b : Record) → Kept setup history → IsRecordOf history a → IsRecordOf history b → a.key ≡ b.key → a.stamp ≡ b.stamp → a ≡ b
same_version setup history a b kept ra rb k s =
    let items : ra.0 ≡ rb.0 = kept.one b.stamp ra.0 rb.0 (subst (λ q. Wrote history q ra.0) s ra.1) rb.1 in
    let item : item_of a ≡ item_of b = one_item rb.0 (item_of a) (item_of b) (kept.distinct b.stamp rb.0 rb.1) (subst (λ is. item_of a ∈ is) items ra.2) rb.2 k in
    let writes : a.writes ≡ b.writes = ra.3 ∙ ap (λ is. sorted_keys (keys_written is)) items ∙ sym rb.3 in
    λ i. record { key = (item i).key; tag = (item i).tag; value = (item i).value; stamp = s i; writes = writes i }

-- ---- a partition's replies

in_distinct : (keys : List Key) (key : Key) → key ∈ distinct keys → key ∈ keys
in_distinct [] key h = h
in_distinct (k ∷ ks) key h = go (list_any (bytes_eq k) ks) h (in_distinct ks key)
  where
    go : (b : Bool) → key ∈ cond b (distinct ks) (k ∷ distinct ks) → (key ∈ distinct ks → key ∈ ks) → key ∈ (k ∷ ks)
    go true m rest = inr (rest m)
    go false (inl e) rest = inl e
    go false (inr m) rest = inr (rest m)

in_take : {X : Type 0} (n : ℕ) (xs : List X) (x : X) → x ∈ take n xs → x ∈ xs
in_take zero [] x h = absurd h
in_take (suc n) [] x h = absurd h
in_take zero (a ∷ xs) x h = absurd h
in_take (suc n) (a ∷ xs) x (inl e) = inl e
in_take (suc n) (a ∷ xs) x (inr h) = inr (in_take n xs x h)

under_version : (log : Log) (tag : Tag) (key : Key) → key ∈ under log tag → (version : Record) × (version ∈ versions log) × (version.key ≡ key)
unfolding under
under_version log tag key h =
    let f = in_filter (is_under log tag) (items log) key h in
    let i = in_map (λ (v : Record). v.key) (versions log) key (in_distinct (map (λ (v : Record). v.key) (versions log)) key f.0) in
    (i.0, i.1, sym i.2)

pub reply_sound : (setup : Setup) (history : History) (message : Message) (call : Call) → Kept setup history → SoundCall setup history message call
    → SoundReply setup history message call (Some (reply_after setup.room (log_at setup history message.partition) call))
unfolding reply_after
reply_sound setup history message (Prepare version) kept s = go (prepare_reply setup.room (log_at setup history message.partition) version) refl
  where
    go : (r : PrepareReply) → prepare_reply setup.room (log_at setup history message.partition) version ≡ r → SoundReply setup history message (Prepare version) (Some (ToPrepare r))
    go Prepared e = tt
    go FullSlots e = tt
    go FullItems e = tt
    go Discarded e =
        let o = outlived_is setup.room (log_at setup history message.partition) version (kept.positive version.stamp s.0.0 s.0.1) e in
        (o.0, log_failed setup history message.partition o.0 kept o.1, o.2, o.3)
    go Clash e =
        let c = clash_is setup.room (log_at setup history message.partition) version e in
        let old = log_record setup history message.partition c.0 kept c.1 in
        let same = (record_eq-Decides c.0 version).1 (same_version setup history c.0 version kept old.0 s.0 c.2 c.3) in
        let differs = c.4 in cc
reply_sound setup history message (Commit stamp) kept s = tt
reply_sound setup history message (Get key None) kept s = go (get_reply (log_at setup history message.partition) key None) (first_reply (log_at setup history message.partition) key)
  where
    go : (r : ReadReply) → IsFirstReply (log_at setup history message.partition) key r → SoundFirst history key r
    go (Version version) f =
        ((log_record setup history message.partition version kept f.0).0, f.1, log_decided setup history message.partition version.stamp kept (committed_is (log_at setup history message.partition) key version.stamp f.2).0)
    go Initial f = tt
    go (Collected floor) f = f
    go Unknown f = f
reply_sound setup history message (Get key (Some stamp)) kept s =
    go (get_reply (log_at setup history message.partition) key (Some stamp)) (second_reply (log_at setup history message.partition) key stamp has live)
  where
    has : HasVersion (log_at setup history message.partition) key stamp
    has = subst (λ p. HasVersion (log_at setup history p) key stamp) (sym s.0) (kept.prepared stamp s.2.0 key s.1 s.2.1 s.2.2)

    live : is_live (log_at setup history message.partition) key stamp ≡ true
    live = live_without (log_at setup history message.partition) key stamp (λ d. kept.apart stamp s.1 (log_failed setup history message.partition stamp kept d)) has

    go : (r : ReadReply) → IsSecondReply (log_at setup history message.partition) key stamp r → SoundSecond history key stamp r
    go (Version version) f = ((log_record setup history message.partition version kept f.0).0, f.1, f.2)
    go Initial f = f
    go (Collected floor) f = f.1
    go Unknown f = f
reply_sound setup history message (Found tag) kept s =
    λ key h.
    let log = log_at setup history message.partition in
    let v = under_version log tag key (in_sorted (under log tag) key (in_take max_found (sorted_keys (under log tag)) key h)) in
    ap (home setup) (sym v.2) ∙ sym (log_record setup history message.partition v.0 kept v.1).1
reply_sound setup history message (Collect keep) kept s = absurd s
reply_sound setup history message (Discard stamp) kept s = tt
