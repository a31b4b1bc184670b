-- What a GET is reported, in a legal history.
use Rattle.std.proofs.Common.{◌≡◌, ◌⊎◌, ◌∙◌, ℕ, ◌==◌, ◌&&◌, Bool, true, false, cond, List, [], ◌∷◌, ◌++◌, map, reverse, find, filter_map, Option, Some, None, refl, ap, sym, subst, inl, inr, nat_lt, eqb-true}
use Rattle.std.specs.List.{cons_option}
use Rattle.std.proofs.lemmas.Bool.{and_parts}
use Rattle.std.proofs.lemmas.List.{reverse-append}
use Rattle.std.proofs.Math.Logic.{∥∥₁_map, ∥∥₁_map₂}
use Rattle.stamps.specs.Key.{home_of}
use Rattle.plain_store.specs.Words.{◌∈◌, Item, Key, Record, Room, Stamp}
use Rattle.plain_store.specs.declared.calls.Call.{Call}
use Rattle.plain_store.specs.declared.calls.Call.TheVariants.{Prepare, Commit, Get}
use Rattle.plain_store.specs.declared.calls.PrepareReply.TheVariants.{Prepared}
use Rattle.plain_store.specs.declared.calls.ReadReply.{ReadReply}
use Rattle.plain_store.specs.declared.calls.ReadReply.TheVariants.{Version, Initial, Collected, Unknown}
use Rattle.plain_store.specs.declared.calls.Reply.TheVariants.{Get as ToGet, Prepare as ToPrepare}
use Rattle.plain_store.specs.Log.{Exchange, Log, is_version, versions, floor, is_kept, kept}
use Rattle.plain_store.specs.Replies.{get_reply, found_or, reply_after, reply_to, log_of}
use Rattle.plain_store.specs.Writing.{record_for}
use Rattle.plain_store.proofs.Members.{in_left, in_right, in_cases, in_map, in_filter, found_is}
use Rattle.plain_store.proofs.Cells.{version_accepted, committed_is, first_reply, IsFirstReply}
use Rattle.plain_store.proofs.Logs.{is_version-parts}
use Rattle.history.specs.declared.entry.HistoryEntry.{HistoryEntry}
use Rattle.history.specs.declared.entry.HistoryEntry.TheVariants.{Opened, Joined, Arrived, Began, Decided, GivenUp, ReadBegan, Drew, Passed, Served}
use Rattle.history.specs.declared.entry.ServedCall.{ServedCall}
use Rattle.history.specs.declared.entry.Write.{Write}
use Rattle.history.specs.Entries.{parts_of, room_of, served_to, served_at, calls_served, StandsInHistory}
use Rattle.history.specs.Legal.{IsOfWrite, IsAccepted, IsDecided, IsKeyHome, IsAtHome, AreAtHome, MayServe, IsLegal, ShowsWrites, ShowsDecided}
use Rattle.history.proofs.Lists.{split_at}
use Rattle.history.proofs.Following.{at_home_later, of_write_later, decided_later, of_its_write, parts_as_opened}

in_reverse : {A : Type 0} (xs : List A) (x : A) → x ∈ reverse xs → x ∈ xs
in_reverse [] x h = h
in_reverse {A} (a ∷ xs) x h = go (in_cases (reverse xs) (a ∷ []) x (subst (λ l. x ∈ l) (reverse-append (a ∷ []) xs) h)) (in_reverse xs x)
  where
    go : (x ∈ reverse xs) ⊎ (x ∈ (a ∷ [])) → (x ∈ reverse xs → x ∈ xs) → x ∈ (a ∷ xs)
    go (inl k) rest = inr (rest k)
    go (inr (inl e)) rest = inl e
    go (inr (inr none)) rest = absurd none

in_filter_map : {A B : Type 0} (f : A → Option B) (xs : List A) (y : B) → y ∈ filter_map f xs → (x : A) × (x ∈ xs) × (f x ≡ Some y)
in_filter_map f [] y h = absurd h
in_filter_map {A} {B} f (a ∷ xs) y h = go (f a) refl h (in_filter_map f xs y)
  where
    go : (o : Option B) → f a ≡ o → y ∈ cons_option o (filter_map f xs) → (y ∈ filter_map f xs → (x : A) × (x ∈ xs) × (f x ≡ Some y))
        → (x : A) × (x ∈ (a ∷ xs)) × (f x ≡ Some y)
    go None e k rest = let r = rest k in (r.0, inr r.1, r.2)
    go (Some z) e (inl same) rest = (a, inl refl, e ∙ ap Some (sym same))
    go (Some z) e (inr k) rest = let r = rest k in (r.0, inr r.1, r.2)

-- the call of an entry that is one of the tenant's at the partition
abbrev IsServing : ℕ → ℕ → HistoryEntry → ServedCall → Type 0
IsServing tenant partition e served = (e ≡ Served served) × (served.tenant ≡ tenant) × (served.partition ≡ partition)

served_to_is : (tenant partition : ℕ) (e : HistoryEntry) (served : ServedCall) → served_to tenant partition e ≡ Some served → IsServing tenant partition e served
served_to_is tenant partition (Opened setting) served is = cc
served_to_is tenant partition (Joined member) served is = cc
served_to_is tenant partition (Arrived word) served is = cc
served_to_is tenant partition (ReadBegan word) served is = cc
served_to_is tenant partition (Drew drawn) served is = cc
served_to_is tenant partition (Passed whose) served is = cc
served_to_is tenant partition (Began write) served is = cc
served_to_is tenant partition (Decided decision) served is = cc
served_to_is tenant partition (GivenUp decision) served is = cc
served_to_is tenant partition (Served s) served is = go (s.tenant == tenant && s.partition == partition) refl is
  where
    go : (b : Bool) → (s.tenant == tenant && s.partition == partition) ≡ b → cond b (Some s) None ≡ Some served → IsServing tenant partition (Served s) served
    go true t e =
        let same : s ≡ served = cc in
        let p = and_parts (s.tenant == tenant) (s.partition == partition) t in (
          ap Served same,
          ap (λ (c : ServedCall). c.tenant) (sym same) ∙ eqb-true s.tenant tenant p.0,
          ap (λ (c : ServedCall). c.partition) (sym same) ∙ eqb-true s.partition partition p.1,
        )
    go false t e = cc

-- a call that was served stands in the history
pub called : (tenant partition : ℕ) (log : List HistoryEntry) (call : Call) → call ∈ calls_served tenant partition log
    → (served : ServedCall) × (Served served ∈ log) × (served.tenant ≡ tenant) × (served.call ≡ call)
called tenant partition log call h =
    let calls = map (λ (s : ServedCall). s.call) (served_at tenant partition log) in
    let m = in_map (λ (s : ServedCall). s.call) (served_at tenant partition log) call (in_reverse calls call h) in
    let f = in_filter_map (served_to tenant partition) log m.0 m.1 in
    let s = served_to_is tenant partition f.0 m.0 f.2 in
    (m.0, subst (λ (e : HistoryEntry). e ∈ log) s.0 f.1, s.1, sym m.2)

-- each exchange of the log that calls make is one of these calls
pub logged : (room : Room) (calls : List Call) (e : Exchange) → e ∈ log_of room calls → e.call ∈ calls
unfolding log_of
logged room [] e h = absurd h
logged room (call ∷ before) e (inl same) = inl (ap (λ (x : Exchange). x.call) same)
logged room (call ∷ before) e (inr h) = inr (logged room before e h)

-- what a legal history shows of a call that was served: it was right to serve it
pub was_right : (log : List HistoryEntry) (served : ServedCall) → IsLegal log → Served served ∈ log
    → (before : List HistoryEntry) × (after : List HistoryEntry) × (log ≡ before ++ Served served ∷ after) × ∥ MayServe before served.partition served.tenant served.call ∥₁
was_right log served legal has =
    let s = split_at log (Served served) has in
    (s.0, s.1.0, s.1.1, legal.each s.0 (Served served) s.1.0 s.1.1)

-- a version that was accepted is of a write
pub accepted_written : (log : List HistoryEntry) (tenant : ℕ) (served : ServedCall) (version : Record) → IsLegal log → Served served ∈ log → served.tenant ≡ tenant
    → served.call ≡ Prepare version → ∥ IsOfWrite log tenant version ∥₁
accepted_written log tenant served version legal has its call =
    let r = was_right log served legal has in
    let may : ∥ MayServe r.0 served.partition served.tenant (Prepare version) ∥₁ = subst (λ (c : Call). ∥ MayServe r.0 served.partition served.tenant c ∥₁) call r.3 in
    let of : MayServe r.0 served.partition served.tenant (Prepare version) → IsOfWrite log served.tenant version =
    λ m. of_write_later r.0 log served.tenant version (Served served ∷ r.1, sym r.2) m.put in
    subst (λ (t : ℕ). ∥ IsOfWrite log t version ∥₁) its (∥∥₁_map may of)

committed_decided : (log : List HistoryEntry) (tenant : ℕ) (served : ServedCall) (stamp : Stamp) → IsLegal log → Served served ∈ log → served.tenant ≡ tenant
    → served.call ≡ Commit stamp → ∥ IsDecided log tenant stamp ∥₁
committed_decided log tenant served stamp legal has its call =
    let r = was_right log served legal has in
    let may : ∥ MayServe r.0 served.partition served.tenant (Commit stamp) ∥₁ = subst (λ (c : Call). ∥ MayServe r.0 served.partition served.tenant c ∥₁) call r.3 in
    let of : MayServe r.0 served.partition served.tenant (Commit stamp) → IsDecided log served.tenant stamp =
    λ m. decided_later r.0 log served.tenant stamp (Served served ∷ r.1, sym r.2) m.put in
    subst (λ (t : ℕ). ∥ IsDecided log t stamp ∥₁) its (∥∥₁_map may of)

-- each call that stands in a legal history was served at home
pub are_at_home : (log : List HistoryEntry) → IsLegal log → AreAtHome log
are_at_home log legal served has =
    let r = was_right log served legal has in
    let at : MayServe r.0 served.partition served.tenant served.call → IsAtHome log served.partition served.call =
    λ m. at_home_later r.0 log served.partition served.call (Served served ∷ r.1, sym r.2) m.home in
    ∥∥₁_map r.3 at

-- the version of a reply to a GET was accepted, and is one of the key
abbrev IsShown : Log → Key → ReadReply → Type 0
IsShown log key (Version version) = (version ∈ versions log) × (version.key ≡ key)
IsShown log key Initial = Unit {0}
IsShown log key (Collected bound) = Unit {0}
IsShown log key Unknown = Unit {0}

first_shown : (log : Log) (key : Key) (reply : ReadReply) → IsFirstReply log key reply → IsShown log key reply
first_shown log key (Version version) first = (first.0, first.1)
first_shown log key Initial first = tt
first_shown log key (Collected bound) first = tt
first_shown log key Unknown first = tt

shown : (log : Log) (key : Key) (stamp : Option Stamp) → IsShown log key (get_reply log key stamp)
unfolding get_reply
shown log key None = first_shown log key (get_reply log key None) (first_reply log key)
shown log key (Some stamp) = go (nat_lt stamp (floor log key))
  where
    by : (o : Option Record) → find (is_version key stamp) (kept log) ≡ o → IsShown log key (found_or Unknown o)
    by None e = tt
    by (Some version) e =
        let f = found_is (is_version key stamp) (kept log) version e in
        ((in_filter (is_kept log) (versions log) version f.0).0, (is_version-parts key stamp version f.1).0)

    go : (b : Bool) → IsShown log key (cond b (Collected (floor log key)) (found_or Unknown (find (is_version key stamp) (kept log))))
    go true = tt
    go false = by (find (is_version key stamp) (kept log)) refl

-- the reply to a GET is the one after the log
pub get_is : (room : Room) (log : Log) (key : Key) (stamp : Option Stamp) (reply : ReadReply) → ToGet reply ≡ reply_after room log (Get key stamp)
    → get_reply log key stamp ≡ reply
unfolding reply_after
get_is room log key stamp reply is = cc

pub to_is : (room : Room) (calls : List Call) (call : Call) → reply_to room calls call ≡ reply_after room (log_of room calls) call
unfolding reply_to
to_is room calls call = refl

module _ (log : List HistoryEntry) (legal : IsLegal log) (served : ServedCall) (place : ℕ) (key : Key) (version : Record) where
  -- the log of the tenant's cell just before the call
  log_before : (stamp : Option Stamp) → served.call ≡ Get key stamp → (s : StandsInHistory log served place (ToGet (Version version)))
      → get_reply (log_of (room_of s.before served.tenant) (calls_served served.tenant served.partition s.before)) key stamp ≡ Version version
  log_before stamp call s =
      let room = room_of s.before served.tenant in
      let calls = calls_served served.tenant served.partition s.before in
      get_is room (log_of room calls) key stamp (Version version)
      (s.reply_is ∙ ap (reply_to room calls) call ∙ to_is room calls (Get key stamp))

  -- a call of the cell's log stands in the history
  stands : (s : StandsInHistory log served place (ToGet (Version version))) (e : Exchange)
      → e ∈ log_of (room_of s.before served.tenant) (calls_served served.tenant served.partition s.before)
      → (c : ServedCall) × (Served c ∈ log) × (c.tenant ≡ served.tenant) × (c.call ≡ e.call)
  stands s e has =
      let calls = calls_served served.tenant served.partition s.before in
      let c = called served.tenant served.partition s.before e.call (logged (room_of s.before served.tenant) calls e has) in
      (c.0, subst (λ l. Served c.0 ∈ l) (sym s.stands) (in_left s.before (Served served ∷ s.after) (Served c.0) c.1), c.2, c.3)

  writes_shown : (stamp : Option Stamp) → served.call ≡ Get key stamp → StandsInHistory log served place (ToGet (Version version))
      → ∥ IsOfWrite log served.tenant version ∥₁ × (version.key ≡ key)
  writes_shown stamp call s =
      let cell = log_of (room_of s.before served.tenant) (calls_served served.tenant served.partition s.before) in
      let seen : IsShown cell key (Version version) = subst (IsShown cell key) (log_before stamp call s) (shown cell key stamp) in
      let accepted = version_accepted cell version seen.0 in
      let c = stands s _ accepted in
      (accepted_written log served.tenant c.0 version legal c.1 c.2 c.3, seen.1)

  decided_shown : served.call ≡ Get key None → StandsInHistory log served place (ToGet (Version version)) → ∥ IsDecided log served.tenant version.stamp ∥₁
  decided_shown call s =
      let cell = log_of (room_of s.before served.tenant) (calls_served served.tenant served.partition s.before) in
      let seen : IsFirstReply cell key (Version version) = subst (IsFirstReply cell key) (log_before None call s) (first_reply cell key) in
      let committed = (committed_is cell key version.stamp seen.2).0 in
      let c = stands s committed.0 committed.1 in
      committed_decided log served.tenant c.0 version.stamp legal c.1 c.2 (c.3 ∙ committed.2)

pub shows_writes : (log : List HistoryEntry) → IsLegal log → ShowsWrites log
shows_writes log legal served place key stamp version call s = writes_shown log legal served place key version stamp call s

pub shows_decided : (log : List HistoryEntry) → IsLegal log → ShowsDecided log
shows_decided log legal served place key version call s = decided_shown log legal served place key version call s

-- ---- what a write is decided by

-- a PREPARE of an item of the write that was accepted is that of what the write writes there, at the home of its key
module _ (log : List HistoryEntry) (legal : IsLegal log) (write : Write) (began : Began write ∈ log)
    (apart : (one other : Item) → one ∈ write.items → other ∈ write.items → one.key ≡ other.key → one ≡ other)
    (item : Item) (among : item ∈ write.items) (served : ServedCall) (place : ℕ) (version : Record) where
  -- the version is what the write writes there
  its_version : version.key ≡ item.key → (other : Item) → other ∈ write.items → version ≡ record_for write.stamp write.items other → version ≡ record_for write.stamp write.items item
  its_version key other has is =
      let same : other ≡ item = apart other item has among (sym (ap (λ (v : Record). v.key) is) ∙ key) in
      is ∙ ap (record_for write.stamp write.items) same

  -- and the partition is the home of its key
  its_home : version.key ≡ item.key → IsKeyHome log version.key served.partition → served.partition ≡ home_of item.key (parts_of log)
  its_home key home =
      let parts : home.parts ≡ parts_of log = sym (parts_as_opened log home.parts home.there) in
      sym home.home ∙ ap (λ (k : Key). home_of k home.parts) key ∙ ap (home_of item.key) parts

  pub accepted_of_item : served.call ≡ Prepare version → served.tenant ≡ write.tenant → version.key ≡ item.key → version.stamp ≡ write.stamp
      → StandsInHistory log served place (ToPrepare Prepared)
      → ∥ IsAccepted log write.tenant (home_of item.key (parts_of log)) (record_for write.stamp write.items item) ∥₁
  accepted_of_item call tenant key stamp s =
      let has : Served served ∈ log = subst (λ l. Served served ∈ l) (sym s.stands) (in_right s.before (Served served ∷ s.after) (Served served) (inl refl)) in
      let written = accepted_written log write.tenant served version legal has tenant call in
      let of = of_its_write log legal write.tenant version write written began refl (sym stamp) in
      let home : ∥ IsAtHome log served.partition (Prepare version) ∥₁ = subst (λ (c : Call). ∥ IsAtHome log served.partition c ∥₁) call (are_at_home log legal served has) in
      ∥∥₁_map₂ of home (λ o h. record {
        served = served;
        place = place;
        its = (tenant, its_home key h, call ∙ ap Prepare (its_version key o.0 o.1 o.2));
        accepts = s;
      })
