-- What was committed is committed later, and a first GET behind it misses none of it.
use Rattle.std.proofs.Common.{◌≡◌, ◌∙◌, ◌≤◌, ℕ, true, List, [], ◌∷◌, ◌++◌, map, reverse, None, refl, ap, sym, subst, inl}
use Rattle.std.proofs.Math.Logic.{∥∥₁_elim}
use Rattle.std.proofs.lemmas.List.{map-append, reverse-append}
use Rattle.std.proofs.lemmas.List.Elements.{filter_map-append}
use Rattle.std.specs.Coded.{Coded-set, coded_ℕ}
use mathlib.Core.List.{IsPrefix}
use Rattle.stamps.specs.Key.{home_of}
use Rattle.plain_store.specs.Words.{◌∈◌, Key, Room, Stamp}
use Rattle.plain_store.specs.declared.calls.Call.{Call}
use Rattle.plain_store.specs.declared.calls.Call.TheVariants.{Get}
use Rattle.plain_store.specs.declared.calls.ReadReply.{ReadReply}
use Rattle.plain_store.specs.declared.calls.Reply.{Reply}
use Rattle.plain_store.specs.declared.calls.Reply.TheVariants.{Get as ToGet}
use Rattle.plain_store.specs.Log.{is_committed}
use Rattle.plain_store.specs.Replies.{log_of, reply_after, reply_to}
use Rattle.plain_store.proofs.Cells.{committed_stays, first_reply_fresh, stamp_shown}
use Rattle.plain_store.proofs.Members.{in_right}
use Rattle.history.specs.declared.entry.HistoryEntry.{HistoryEntry}
use Rattle.history.specs.declared.entry.HistoryEntry.TheVariants.{Served}
use Rattle.history.specs.declared.entry.ServedCall.{ServedCall}
use Rattle.history.specs.Entries.{calls_of, calls_served, room_of, served_at, served_to, StandsInHistory}
use Rattle.history.specs.Fresh.{IsCommittedIn, log_in}
use Rattle.history.specs.Legal.{IsAtHome, IsKeyHome, IsLegal}
use Rattle.history.proofs.Following.{key_home_later, parts_as_opened}
use Rattle.history.proofs.Servings.{room_later}
use Rattle.history.proofs.Shown.{are_at_home, get_is, to_is}

-- a key has one home
pub one_home : (log : List HistoryEntry) (key : Key) (one other : ℕ) → IsKeyHome log key one → IsKeyHome log key other → one ≡ other
one_home log key one other a b =
    let parts : a.parts ≡ b.parts = sym (parts_as_opened log a.parts a.there) ∙ parts_as_opened log b.parts b.there in
    sym a.home ∙ ap (home_of key) parts ∙ b.home

-- later calls stand before those so far
pub calls_behind : (v rest : List HistoryEntry) (tenant partition : ℕ) → calls_served tenant partition (v ++ rest) ≡ calls_served tenant partition rest ++ calls_served tenant partition v
calls_behind v rest tenant partition =
    let f : ServedCall → Call = λ s. s.call in
    let one = served_at tenant partition v in
    let other = served_at tenant partition rest in
    ap calls_of (filter_map-append (served_to tenant partition) v rest) ∙ ap reverse (map-append f one other) ∙ reverse-append (map f one) (map f other)

-- what calls commit stays so with later ones
pub committed_behind : (room : Room) (later calls : List Call) (key : Key) (stamp : Stamp) → is_committed (log_of room calls) key stamp ≡ true → is_committed (log_of room (later ++ calls)) key stamp ≡ true
unfolding log_of
committed_behind room [] calls key stamp is = is
committed_behind room (call ∷ later) calls key stamp is =
    committed_stays (record { call = call; reply = reply_after room (log_of room (later ++ calls)) call }) (log_of room (later ++ calls)) key stamp (committed_behind room later calls key stamp is)

pub committed_in_later : (v log : List HistoryEntry) (tenant : ℕ) (key : Key) (stamp : Stamp) → IsLegal v → IsPrefix v log → IsCommittedIn v tenant key stamp → IsCommittedIn log tenant key stamp
committed_in_later v log tenant key stamp legal pre c =
    let room = room_of v tenant in
    let calls = calls_served tenant c.partition v in
    let more = calls_served tenant c.partition pre.0 in
    let P : Room → Type 0 = λ r. is_committed (log_of r (calls_served tenant c.partition log)) key stamp ≡ true in
    let Q : List Call → Type 0 = λ l. is_committed (log_of room l) key stamp ≡ true in
    let R : List HistoryEntry → Type 0 = λ l. Q (calls_served tenant c.partition l) in
    record {
      partition = c.partition;
      home = key_home_later v log key c.partition pre c.home;
      committed = subst P (room_later v log tenant legal pre) (subst R pre.1 (subst Q (sym (calls_behind v pre.0 tenant c.partition)) (committed_behind room more calls key stamp c.committed)));
    }

-- a GET of the latest version is reported none below what was committed before it
pub first_get_fresh : (log : List HistoryEntry) (served : ServedCall) (place : ℕ) (key : Key) (told : Reply) (reply : ReadReply) (stamp : Stamp) → IsLegal log → served.call ≡ Get key None → told ≡ ToGet reply
    → (s : StandsInHistory log served place told) → IsCommittedIn s.before served.tenant key stamp → stamp ≤ stamp_shown reply
first_get_fresh log served place key told reply stamp legal call told_is s c =
    let room = room_of s.before served.tenant in
    let calls = calls_served served.tenant served.partition s.before in
    let has : Served served ∈ log = subst (λ l. Served served ∈ l) (sym s.stands) (in_right s.before (Served served ∷ s.after) (Served served) (inl refl)) in
    let home = subst (λ (k : Call). ∥ IsAtHome log served.partition k ∥₁) call (are_at_home log legal served has) in
    let pre : IsPrefix s.before log = (Served served ∷ s.after, sym s.stands) in
    let here : c.partition ≡ served.partition = ∥∥₁_elim home (Coded-set coded_ℕ _ _) (λ at. one_home log key c.partition served.partition (key_home_later s.before log key c.partition pre c.home) at) in
    let P : ℕ → Type 0 = λ p. is_committed (log_in s.before served.tenant p) key stamp ≡ true in
    let shown = get_is room (log_of room calls) key None reply (sym told_is ∙ s.reply_is ∙ ap (reply_to room calls) call ∙ to_is room calls (Get key None)) in
    subst (λ (r : ReadReply). stamp ≤ stamp_shown r) shown (first_reply_fresh (log_of room calls) key stamp (subst P here c.committed))
