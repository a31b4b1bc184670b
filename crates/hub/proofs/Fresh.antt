-- What a seat reads misses nothing that was committed as it began: for the laws of reads.
use Rattle.std.proofs.Common.{◌≡◌, ◌⊎◌, ◌∙◌, ◌≤◌, ◌++◌, ◌∷◌, [], ◌&&◌, ◌==◌, ℕ, List, Bool, true, false, Option, Some, None, cond, is_some, not, nat_lt, inl, inr, refl, sym, ap, subst, arith, append_assoc}
use Rattle.std.specs.List.{list_any}
use Rattle.std.proofs.Math.Bridge.{le_prop}
use Rattle.std.proofs.Math.Logic.{∥∥₁_elim}
use Rattle.std.proofs.lemmas.Bool.{ltb-true}
use mathlib.Core.List.{IsPrefix}
use Rattle.stamps.specs.Limits.{max_found}
use Rattle.plain_store.specs.declared.calls.Call.{Call}
use Rattle.plain_store.specs.declared.calls.Call.TheVariants.{Prepare, Commit, Get, Found, Collect, Discard}
use Rattle.plain_store.specs.declared.calls.ReadReply.{ReadReply}
use Rattle.plain_store.specs.declared.calls.ReadReply.TheVariants.{Version, Initial, Collected, Unknown}
use Rattle.plain_store.specs.declared.calls.Reply.{Reply}
use Rattle.plain_store.specs.declared.calls.Reply.TheVariants.{Get as ToGet, Found as ToFound}
use Rattle.plain_store.specs.declared.message.Message.{Message}
use Rattle.plain_store.specs.declared.reading.Reading.{Reading}
use Rattle.plain_store.specs.declared.refusal.Refusal.TheVariants.{Torn, TooMany}
use Rattle.plain_store.specs.Finding.{all_found, all_keys_found, carrying, total_found}
use Rattle.plain_store.specs.History.{Intent as Asked, Gets, Finds}
use Rattle.plain_store.specs.Moves.{Asks, Begins, Fails, Lists, Move, Reads, Restarts, Waits, find_move, read_move, search_move}
use Rattle.plain_store.specs.Rounds.{first_calls, first_stamp, flat, is_false_first, is_false_second, is_late, is_shown, late_keys, needed, reading_of, readings, round_one_complete, round_two_complete, second_calls, seen_first, seen_second, stamp_seen, version_read}
use Rattle.plain_store.specs.Words.{◌∈◌, Key, Record, Setup, Stamp, Tag, home, is_tagged}
use Rattle.plain_store.proofs.Cells.{stamp_shown}
use Rattle.plain_store.proofs.Members.{all_at, filter_in, in_filter, in_map}
use Rattle.plain_store.proofs.Seen.{ShowsFirst, seen_first_shows, seen_second_is}
use Rattle.plain_store.proofs.Stamps.{≤_refl, ≤_trans}
use Rattle.plain_store.proofs.Steps.{IsReadable}
use Rattle.get_all.specs.Finding.{find_answer}
use Rattle.get_all.specs.Finding.{is_wanted as is_wanted_found}
use Rattle.get_all.specs.Reading.{read_answer}
use Rattle.get_all.specs.Reading.{is_wanted as is_wanted_read}
use Rattle.entry_list.specs.declared.kinds.Entry.{Entry}
use Rattle.entry_list.specs.declared.kinds.Entry.TheVariants as kinds
use Rattle.history.specs.declared.entry.HistoryEntry.{HistoryEntry}
use Rattle.history.specs.declared.entry.HistoryEntry.TheVariants.{Opened, Joined, Arrived, Began, Decided, GivenUp, ReadBegan, Drew, Passed, Served}
use Rattle.history.specs.Fresh.{IsCommittedIn}
use Rattle.history.specs.Legal.{HasParts, IsLegal}
use Rattle.history.proofs.Fresh.{committed_in_later, first_get_fresh}
use Rattle.history.proofs.Lists.{prefix_join, prefix_of_itself}
use Rattle.shard.specs.Journals.{served_call}
use Rattle.traced_client.specs.Clients.{HasWith}
use Rattle.hub.specs.Fresh.{IsReadFresh}
use Rattle.hub.specs.Replies.{AreAmong, IsListOf, IsReadOf, IsReplyIn}
use Rattle.hub.specs.Sights.{OperationSight}
use Rattle.hub.proofs.Atomic.{AreOfStamps, carries, get_for, key_told, list_stamps, read_stamps, IsToldAt}
use Rattle.hub.proofs.Evidence.{reply_of}

-- ---- both rounds are complete

-- of what a read or a search reports at its end
readable_of : (setup : Setup) (keys : List Key) (replies : List Message) (tells : List Reading → Move) (told : Move) (call : Call) (reply : Option Reply) → IsToldAt told
    → read_move setup keys replies tells call reply ≡ told → IsReadable keys replies
readable_of setup keys replies tells told (Get key None) (Some (ToGet reply)) ends is =
    go (is_false_first key reply) (round_one_complete keys replies) refl (round_two_complete keys replies) refl is
  where
    go : (a b : Bool) → round_one_complete keys replies ≡ b → (c : Bool) → round_two_complete keys replies ≡ c
        → cond a (Fails Torn []) (cond (not b) Waits (cond c (tells (readings keys replies)) (Asks (second_calls setup keys replies)))) ≡ told → IsReadable keys replies
    go true b one c two e = absurd (subst IsToldAt (sym e) ends)
    go false false one c two e = absurd (subst IsToldAt (sym e) ends)
    go false true one false two e = absurd (subst IsToldAt (sym e) ends)
    go false true one true two e = (one, two)
readable_of setup keys replies tells told (Get key (Some stamp)) (Some (ToGet (Version version))) ends is =
    go (is_false_second replies key stamp (Version version)) (round_one_complete keys replies) refl (round_two_complete keys replies) refl is
  where
    go : (a b : Bool) → round_one_complete keys replies ≡ b → (c : Bool) → round_two_complete keys replies ≡ c
        → cond a (Fails Torn []) (cond (b && c) (tells (readings keys replies)) Waits) ≡ told → IsReadable keys replies
    go true b one c two e = absurd (subst IsToldAt (sym e) ends)
    go false false one c two e = absurd (subst IsToldAt (sym e) ends)
    go false true one false two e = absurd (subst IsToldAt (sym e) ends)
    go false true one true two e = (one, two)
readable_of setup keys replies tells told (Get key (Some stamp)) (Some (ToGet (Collected floor))) ends is = go (nat_lt stamp floor) is
  where
    go : (b : Bool) → cond b (Restarts key floor) (Fails Torn []) ≡ told → IsReadable keys replies
    go true e = absurd (subst IsToldAt (sym e) ends)
    go false e = absurd (subst IsToldAt (sym e) ends)
readable_of setup keys replies tells told (Get key (Some stamp)) (Some (ToGet Initial)) ends is = absurd (subst IsToldAt (sym is) ends)
readable_of setup keys replies tells told (Get key (Some stamp)) (Some (ToGet Unknown)) ends is = absurd (subst IsToldAt (sym is) ends)
readable_of setup keys replies tells told _ _ ends is = absurd (subst IsToldAt (sym is) ends)

read_readable : (setup : Setup) (keys : List Key) (taken : List Message) (last : Message) (told : List Reading) → read_answer setup keys Reads taken last ≡ Some (Reads told) → IsReadable keys (taken ++ last ∷ [])
read_readable setup keys taken last told answers = go (is_wanted_read keys taken last) answers
  where
    go : (b : Bool) → cond b (Some (read_move setup keys (taken ++ last ∷ []) Reads last.call last.reply)) None ≡ Some (Reads told) → IsReadable keys (taken ++ last ∷ [])
    go false is = cc
    go true is =
        let e : read_move setup keys (taken ++ last ∷ []) Reads last.call last.reply ≡ Reads told = cc in
        readable_of setup keys (taken ++ last ∷ []) Reads (Reads told) last.call last.reply tt e

-- a search that lists something has read it
found_readable : (setup : Setup) (tag : Tag) (replies : List Message) (at : Message) (told : List Reading) → find_move setup tag replies at.partition at.call at.reply ≡ Lists told
    → (told ≡ []) ⊎ IsReadable (all_keys_found replies) replies
found_readable setup tag replies at told is = go at.call at.reply is
  where
    keys : List Key
    keys = all_keys_found replies

    searched : (a b : Bool) → cond a (Fails TooMany []) (cond b (Lists []) (Begins (first_calls setup keys))) ≡ Lists told → told ≡ []
    searched true b e = cc
    searched false true e = cc
    searched false false e = cc

    found : (a b : Bool) → cond a (Fails Torn []) (cond b (search_move setup (total_found replies) keys) Waits) ≡ Lists told → told ≡ []
    found true b e = cc
    found false false e = cc
    found false true e = searched (nat_lt max_found (total_found replies)) (total_found replies == 0) e

    read : (call : Call) (reply : Option Reply) → read_move setup keys replies (carries tag) call reply ≡ Lists told → (told ≡ []) ⊎ IsReadable keys replies
    read call reply e = inr (readable_of setup keys replies (carries tag) (Lists told) call reply tt e)

    go : (call : Call) (reply : Option Reply) → find_move setup tag replies at.partition call reply ≡ Lists told → (told ≡ []) ⊎ IsReadable keys replies
    go (Found g) (Some (ToFound there)) e = inl (found (list_any (λ key. not (home setup key == at.partition)) there.keys) (all_found setup replies) e)
    go (Found g) reply e = read (Found g) reply e
    go (Get key stamp) reply e = read (Get key stamp) reply e
    go (Prepare version) reply e = read (Prepare version) reply e
    go (Commit stamp) reply e = read (Commit stamp) reply e
    go (Collect keep) reply e = read (Collect keep) reply e
    go (Discard stamp) reply e = read (Discard stamp) reply e

list_readable : (setup : Setup) (tag : Tag) (taken : List Message) (last : Message) (told : List Reading) → find_answer setup tag taken last ≡ Some (Lists told)
    → (told ≡ []) ⊎ IsReadable (all_keys_found (taken ++ last ∷ [])) (taken ++ last ∷ [])
list_readable setup tag taken last told answers = go (is_wanted_found setup taken last) answers
  where
    go : (b : Bool) → cond b (Some (find_move setup tag (taken ++ last ∷ []) last.partition last.call last.reply)) None ≡ Some (Lists told)
        → (told ≡ []) ⊎ IsReadable (all_keys_found (taken ++ last ∷ [])) (taken ++ last ∷ [])
    go false is = cc
    go true is =
        let e : find_move setup tag (taken ++ last ∷ []) last.partition last.call last.reply ≡ Lists told = cc in
        found_readable setup tag (taken ++ last ∷ []) last told e

-- ---- no key is read below what was shown of it in round one

first_≤_read : (keys : List Key) (replies : List Message) (key : Key) → AreOfStamps replies → IsReadable keys replies → key ∈ keys
    → stamp_seen (seen_first replies key) ≤ (reading_of key (version_read keys replies key)).stamp
unfolding first_stamp
first_≤_read keys replies key stamps readable k = go (is_late keys replies key) refl
  where
    shown : (o : Option (Option Record)) → stamp_seen o ≤ (reading_of key (flat o)).stamp
    shown None = ≤_refl 0
    shown (Some None) = ≤_refl 0
    shown (Some (Some v)) = ≤_refl v.stamp

    came : is_late keys replies key ≡ true → is_some (seen_second replies key (needed keys replies key)) ≡ true
    came late = all_at (λ j. is_some (seen_second replies j (needed keys replies j))) (late_keys keys replies) key readable.1 (filter_in (is_late keys replies) keys key k late)

    below : nat_lt (stamp_seen (seen_first replies key)) (needed keys replies key) ≡ true → stamp_seen (seen_first replies key) ≤ needed keys replies key
    below late = let less = ltb-true (stamp_seen (seen_first replies key)) (needed keys replies key) late in omega arith

    second : is_late keys replies key ≡ true → (o : Option Record) → seen_second replies key (needed keys replies key) ≡ o → is_some o ≡ true → stamp_seen (seen_first replies key) ≤ (reading_of key o).stamp
    second late None e some = cc
    second late (Some v) e some =
        let m = seen_second_is replies key (needed keys replies key) v e in
        subst (λ q. stamp_seen (seen_first replies key) ≤ q) (sym (stamps m.0 key (needed keys replies key) v m.1 m.2 m.3)) (below late)

    go : (b : Bool) → is_late keys replies key ≡ b
        → stamp_seen (seen_first replies key) ≤ (reading_of key (cond b (seen_second replies key (needed keys replies key)) (flat (seen_first replies key)))).stamp
    go true late = second late (seen_second replies key (needed keys replies key)) refl (came late)
    go false late = shown (seen_first replies key)

-- ---- the replies stand behind what had been committed

-- what a legal history begins with is one, where it has the opening
pub legal_before : (v log : List HistoryEntry) (parts : ℕ) → HasParts v parts → IsPrefix v log → IsLegal log → IsLegal v
legal_before [] log parts has pre legal = absurd has
legal_before (Opened setting ∷ rest) log parts has pre legal = record {
  setting = setting;
  rest = rest;
  opens = refl;
  each = λ before e after is. legal.each before e (after ++ pre.0) (sym pre.1 ∙ ap (λ l. l ++ pre.0) is ∙ append_assoc before (e ∷ after) pre.0);
}
legal_before (Joined member ∷ rest) log parts has pre legal = absurd has
legal_before (Arrived word ∷ rest) log parts has pre legal = absurd has
legal_before (Began write ∷ rest) log parts has pre legal = absurd has
legal_before (Decided decision ∷ rest) log parts has pre legal = absurd has
legal_before (GivenUp decision ∷ rest) log parts has pre legal = absurd has
legal_before (ReadBegan word ∷ rest) log parts has pre legal = absurd has
legal_before (Drew drawn ∷ rest) log parts has pre legal = absurd has
legal_before (Passed tenant ∷ rest) log parts has pre legal = absurd has
legal_before (Served served ∷ rest) log parts has pre legal = absurd has

module _ (sight : OperationSight) (legal : IsLegal sight.seen) (before : List HistoryEntry) (since : HasWith sight.mark sight.seen before)
    (asked : Asked) (replies : List Message) (entries : List Entry) (among : AreAmong sight asked replies entries) where
  reply_fresh : (key : Key) (stamp : Stamp) → IsCommittedIn before sight.tenant key stamp → (message : Message) (reply : ReadReply) → message.call ≡ Get key None → message.reply ≡ Some (ToGet reply)
      → (entry : Entry) → IsReplyIn sight asked message entry → stamp ≤ stamp_shown reply
  reply_fresh key stamp c message reply call has (kinds.Began act) is = absurd is
  reply_fresh key stamp c message reply call has (kinds.Answered answer) is = absurd is
  reply_fresh key stamp c message reply call has (kinds.Took number partition place told) is =
      let told_is : told ≡ ToGet reply = (let e : Some told ≡ Some (ToGet reply) = sym is.0 ∙ has in cc) in
      ∥∥₁_elim is.1 le_prop (λ given.
      let get = get_for given.0 message.call key None call given.1 in
      let s = given.3.stands in
      let pre : IsPrefix s.before sight.seen = (Served (served_call partition sight.tenant sight.seat number given.0) ∷ s.after, sym s.stands) in
      let behind = since s.before sight.seen (prefix_of_itself sight.seen) pre given.3.late in
      let was = legal_before before sight.seen c.home.parts c.home.there (prefix_join before s.before sight.seen behind pre) legal in
      first_get_fresh sight.seen (served_call partition sight.tenant sight.seat number given.0) place key told reply stamp legal (get.is ∙ ap (Get key) (get.first refl)) told_is s
      (committed_in_later before s.before sight.tenant key stamp was behind c))

  shown_fresh : (key : Key) (stamp : Stamp) → IsCommittedIn before sight.tenant key stamp → (o : Option (Option Record)) → seen_first replies key ≡ o → is_some o ≡ true → stamp ≤ stamp_seen o
  shown_fresh key stamp c None is some = cc
  shown_fresh key stamp c (Some seen) is some =
      let f = seen_first_shows replies key seen is in
      let h : ShowsFirst key f.0.call f.0.reply seen = f.2 in
      let found = reply_of sight asked replies entries f.0 among f.1 in
      subst (λ q. stamp ≤ q) h.3 (reply_fresh key stamp c f.0 h.0 h.1 h.2 found.0 found.1)

  readings_fresh : (keys : List Key) → AreOfStamps replies → IsReadable keys replies → IsReadFresh before sight.tenant (readings keys replies)
  readings_fresh keys stamps readable reading stamp has c =
      let i = in_map (λ (key : Key). reading_of key (version_read keys replies key)) keys reading has in
      let shown = all_at (is_shown replies) keys i.0 readable.0 i.1 in
      let P : Key → Type 0 = λ k. IsCommittedIn before sight.tenant k stamp in
      let Q : Reading → Type 0 = λ r. stamp ≤ r.stamp in
      ∥∥₁_elim (key_told sight legal asked replies entries among keys i.0 (version_read keys replies i.0) refl) le_prop (λ same.
      subst Q (sym i.2)
      (≤_trans stamp (stamp_seen (seen_first replies i.0)) (reading_of i.0 (version_read keys replies i.0)).stamp
      (shown_fresh i.0 stamp (subst P (ap (λ (r : Reading). r.item.key) i.2 ∙ same) c) (seen_first replies i.0) refl shown) (first_≤_read keys replies i.0 stamps readable i.1)))

-- so is a part of it
part_fresh : (before : List HistoryEntry) (tenant : ℕ) (part whole : List Reading) → ((reading : Reading) → reading ∈ part → reading ∈ whole) → IsReadFresh before tenant whole → IsReadFresh before tenant part
part_fresh before tenant part whole within fresh reading stamp has c = fresh reading stamp (within reading has) c

-- what a seat reads is fresh
pub reads_fresh : (sight : OperationSight) (before : List HistoryEntry) (keys : List Key) (start entries : List Entry) (told : List Reading) → IsLegal sight.seen → HasWith sight.mark sight.seen before
    → IsReadOf sight keys start entries told → IsReadFresh before sight.tenant told
reads_fresh sight before keys start entries told legal since from =
    let setup : Setup = record { partitions = 1; room = record { slots = 0; items = 0; clients = 0 }; keep = 0 } in
    let replies = from.taken ++ from.last ∷ [] in
    let answers = from.answers.answers setup in
    let P : List Reading → Type 0 = λ rs. IsReadFresh before sight.tenant rs in
    subst P (sym from.answers.whole.shown)
    (readings_fresh sight legal before since (Gets keys) replies from.more from.among keys (read_stamps setup keys from.taken from.last told answers) (read_readable setup keys from.taken from.last told answers))

-- and so is what a seat lists
pub lists_fresh : (sight : OperationSight) (before : List HistoryEntry) (setup : Setup) (tag : Tag) (start entries : List Entry) (told : List Reading) → IsLegal sight.seen → HasWith sight.mark sight.seen before
    → IsListOf sight setup tag start entries told → IsReadFresh before sight.tenant told
lists_fresh sight before setup tag start entries told legal since from =
    go (list_stamps setup tag from.taken from.last told from.answers.answers) (list_readable setup tag from.taken from.last told from.answers.answers)
  where
    replies : List Message
    replies = from.taken ++ from.last ∷ []

    keys : List Key
    keys = all_keys_found replies

    P : List Reading → Type 0
    P rs = IsReadFresh before sight.tenant rs

    nothing : told ≡ [] → P told
    nothing none = subst P (sym none) (λ reading stamp has. absurd has)

    go : (told ≡ []) ⊎ AreOfStamps replies → (told ≡ []) ⊎ IsReadable keys replies → P told
    go (inl none) readable = nothing none
    go (inr stamps) (inl none) = nothing none
    go (inr stamps) (inr readable) =
        subst P (sym from.answers.whole.shown)
        (part_fresh before sight.tenant (carrying tag (readings keys replies)) (readings keys replies) (λ reading has. (in_filter (λ (r : Reading). is_tagged tag r.item.tag) (readings keys replies) reading has).0)
        (readings_fresh sight legal before since (Finds tag) replies from.more from.among keys stamps readable))
