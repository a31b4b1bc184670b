-- A put ends once, and a COMMIT of it commits each of its keys.
use Rattle.std.proofs.Common.{◌≡◌, ◌⊎◌, ◌∙◌, ℕ, ◌==◌, ◌&&◌, Bool, true, false, cond, List, [], ◌∷◌, ◌++◌, Option, Some, None, refl, ap, sym, subst, inl, inr, append_assoc}
use Rattle.std.specs.List.{cons_option}
use Rattle.std.proofs.lemmas.Bool.{and_from}
use Rattle.std.proofs.Math.Logic.{∥∥₁_map, ∥∥₁_map₂, ∥∥₁_elim, ∥∥₁_prop}
use Rattle.std.specs.Coded.{Coded-set, coded_bool}
use mathlib.Core.List.{IsPrefix}
use mathlib.Core.HLevel.{⊥_prop}
use Rattle.stamps.specs.Key.{home_of}
use Rattle.plain_store.specs.Words.{◌∈◌, Item, Key, Record, Room, Stamp}
use Rattle.plain_store.specs.declared.calls.Call.{Call}
use Rattle.plain_store.specs.declared.calls.Call.TheVariants.{Prepare, Commit, Discard}
use Rattle.plain_store.specs.declared.calls.PrepareReply.TheVariants.{Prepared}
use Rattle.plain_store.specs.declared.calls.Reply.{Reply}
use Rattle.plain_store.specs.declared.calls.Reply.TheVariants.{Prepare as ToPrepare}
use Rattle.plain_store.specs.Log.{Exchange, is_committed, is_live}
use Rattle.plain_store.specs.Replies.{log_of, reply_after, reply_to}
use Rattle.plain_store.specs.Writing.{record_for}
use Rattle.plain_store.proofs.Cells.{HasVersion, IsDiscarded, accepted_version, commit_commits, live_without}
use Rattle.plain_store.proofs.Cells.{IsAccepted as IsAcceptedAt}
use Rattle.plain_store.proofs.Members.{filter_in, in_filter}
use Rattle.history.specs.declared.entry.HistoryEntry.{HistoryEntry}
use Rattle.history.specs.declared.entry.HistoryEntry.TheVariants.{Opened, Joined, Arrived, Began, Decided, GivenUp, ReadBegan, Drew, Passed, Served}
use Rattle.history.specs.declared.entry.Decision.{Decision}
use Rattle.history.specs.declared.entry.ServedCall.{ServedCall}
use Rattle.history.specs.declared.entry.Write.{Write}
use Rattle.history.specs.Entries.{calls_of, calls_served, is_of, own, parts_of, room_of, served_to, StandsInHistory}
use Rattle.history.specs.Fresh.{CommitsKeys, log_in}
use Rattle.history.specs.Legal.{IsAccepted, IsDecided, IsGivenUp, IsKeyHome, IsLegal, KeepsDecided, MayDecide, MayEnd, MayFollow, MayServe}
use Rattle.history.proofs.Lists.{StandsAfter, order, prefix_has, split_at}
use Rattle.history.proofs.Counts.{equal_test, test_equal}
use Rattle.history.proofs.Following.{decided_later, given_up_later, one_write, parts_as_opened, parts_later, served_later}
use Rattle.history.proofs.Fresh.{calls_behind, committed_behind}
use Rattle.history.proofs.Servings.{room_later}
use Rattle.history.proofs.Shown.{called, logged, to_is, was_right}

-- ---- what stands before an entry of a legal history is legal

abbrev opens : HistoryEntry → Bool
opens (Opened setting) = true
opens (Joined member) = false
opens (Arrived word) = false
opens (Began write) = false
opens (Decided decision) = false
opens (GivenUp decision) = false
opens (ReadBegan word) = false
opens (Drew drawn) = false
opens (Passed tenant) = false
opens (Served served) = false

legal_before : (log before : List HistoryEntry) (e : HistoryEntry) (after : List HistoryEntry) → IsLegal log → log ≡ before ++ e ∷ after → opens e ≡ false → IsLegal before
legal_before log [] e after legal is other =
    let first : e ∷ after ≡ Opened legal.setting ∷ legal.rest = sym is ∙ legal.opens in
    let same : e ≡ Opened legal.setting = cc in
    let no : true ≡ false = sym (ap opens same) ∙ other in
    absurd (cc no)
legal_before log (b ∷ before) e after legal is other =
    let first : b ∷ (before ++ e ∷ after) ≡ Opened legal.setting ∷ legal.rest = sym is ∙ legal.opens in
    let same : b ≡ Opened legal.setting = cc in
    record {
      setting = legal.setting;
      rest = before;
      opens = ap (λ x. x ∷ before) same;
      each = λ l d more at. legal.each l d (more ++ e ∷ after) (is ∙ ap (λ (xs : List HistoryEntry). xs ++ e ∷ after) at ∙ append_assoc l (d ∷ more) (e ∷ after));
    }

-- ---- a put ends once

-- the entry with which a put ends
abbrev IsEnd : HistoryEntry → Decision → Type 0
IsEnd e d = (e ≡ Decided d) ⊎ (e ≡ GivenUp d)

may_end : (before : List HistoryEntry) (e : HistoryEntry) (d : Decision) → IsEnd e d → MayFollow before before e → MayEnd (own d.word before) d
may_end before e d (inl is) may =
    let both : MayFollow before before (Decided d) = subst (λ (x : HistoryEntry). MayFollow before before x) is may in both.0
may_end before e d (inr is) may = subst (λ (x : HistoryEntry). MayFollow before before x) is may

-- the put that ends so
abbrev HasPut : List HistoryEntry → Decision → Type 0
HasPut log d = (write : Write) × (Began write ∈ log) × (write.word ≡ d.word) × (write.tenant ≡ d.tenant) × (write.stamp ≡ d.stamp)

end_put : (log : List HistoryEntry) (e : HistoryEntry) (d : Decision) → IsLegal log → IsEnd e d → e ∈ log → ∥ HasPut log d ∥₁
end_put log e d legal is has =
    let s = split_at log e has in
    let of : MayFollow s.0 s.0 e → HasPut log d = λ may.
    let m = may_end s.0 e d is may in
    let f = in_filter (is_of d.word) s.0 (Began m.write) m.began in
    (m.write, prefix_has s.0 log (Began m.write) (e ∷ s.1.0, sym s.1.1) f.0, test_equal m.write.word d.word f.1, m.its.0, m.its.1) in
    ∥∥₁_map (legal.each s.0 e s.1.0 s.1.1) of

-- of one word no end of a put stands behind another
no_second_end : (log : List HistoryEntry) (x y : HistoryEntry) (a b : Decision) → IsLegal log → IsEnd x a → IsEnd y b → a.word ≡ b.word → a.stamp ≡ b.stamp → StandsAfter log x y → ⊥
no_second_end log x y a b legal first second word stamp s =
    let at : is_of b.word (Decided a) ≡ true = equal_test a.word b.word word in
    let stands : IsEnd x a → (Decided a ∈ own b.word s.0) ⊎ (GivenUp a ∈ own b.word s.0) = λ is. find is at in
    let no : MayFollow s.0 s.0 y → ⊥ = λ may. (may_end s.0 y b second may).unended a (stands first) stamp in
    ∥∥₁_elim (legal.each s.0 y s.2.0 s.2.1) ⊥_prop no
  where
    find : IsEnd x a → (a.word == b.word) ≡ true → (Decided a ∈ own b.word s.0) ⊎ (GivenUp a ∈ own b.word s.0)
    find (inl is) at = inl (filter_in (is_of b.word) s.0 (Decided a) (subst (λ (e : HistoryEntry). e ∈ s.0) is s.1) at)
    find (inr is) at = inr (filter_in (is_of b.word) s.0 (GivenUp a) (subst (λ (e : HistoryEntry). e ∈ s.0) is s.1) at)

pub ends_once : (log : List HistoryEntry) (d g : Decision) → IsLegal log → Decided d ∈ log → GivenUp g ∈ log → d.tenant ≡ g.tenant → d.stamp ≡ g.stamp → ⊥
ends_once log d g legal decided given tenant stamp =
    ∥∥₁_elim (∥∥₁_map₂ (end_put log (Decided d) d legal (inl refl) decided) (end_put log (GivenUp g) g legal (inr refl) given) both) ⊥_prop (λ no. no)
  where
    go : d.word ≡ g.word → (Decided d ≡ GivenUp g) ⊎ (StandsAfter log (Decided d) (GivenUp g) ⊎ StandsAfter log (GivenUp g) (Decided d)) → ⊥
    go word (inl same) = cc same
    go word (inr (inl s)) = no_second_end log (Decided d) (GivenUp g) d g legal (inl refl) (inr refl) word stamp s
    go word (inr (inr s)) = no_second_end log (GivenUp g) (Decided d) g d legal (inr refl) (inl refl) (sym word) (sym stamp) s

    both : HasPut log d → HasPut log g → ⊥
    both p q =
        let same : p.0 ≡ q.0 = one_write log legal p.0 q.0 p.1 q.1 (p.3 ∙ tenant ∙ sym q.3) (p.4 ∙ stamp ∙ sym q.4) in
        go (sym p.2 ∙ ap (λ (w : Write). w.word) same ∙ q.2) (order log (Decided d) (GivenUp g) decided given)

pub keeps_decided : (log : List HistoryEntry) → IsLegal log → KeepsDecided log
keeps_decided log legal served stamp has call decided =
    let r = was_right log served legal has in
    let may : ∥ MayServe r.0 served.partition served.tenant (Discard stamp) ∥₁ = subst (λ (c : Call). ∥ MayServe r.0 served.partition served.tenant c ∥₁) call r.3 in
    let no : MayServe r.0 served.partition served.tenant (Discard stamp) → IsDecided log served.tenant stamp → ⊥ = λ m d.
    let g : IsGivenUp log served.tenant stamp = given_up_later r.0 log served.tenant stamp (Served served ∷ r.1, sym r.2) m.put in
    ends_once log d.decision g.decision legal d.stands g.stands (d.its.0 ∙ sym g.its.0) (d.its.1 ∙ sym g.its.1) in
    ∥∥₁_elim (∥∥₁_map₂ may decided no) ⊥_prop (λ x. x)

-- ---- a COMMIT commits each key

-- the calls that a partition served for a tenant, with one of them among the others
calls_with : (log before after : List HistoryEntry) (c : ServedCall) → log ≡ before ++ Served c ∷ after
    → calls_served c.tenant c.partition log ≡ calls_served c.tenant c.partition after ++ c.call ∷ calls_served c.tenant c.partition before
calls_with log before after c is =
    let t = c.tenant in
    let p = c.partition in
    let b : (t == t && p == p) ≡ true = and_from (t == t) (p == p) (equal_test t t refl) (equal_test p p refl) in
    let it : served_to t p (Served c) ≡ Some c = ap (λ (x : Bool). cond x (Some c) None) b in
    let one : calls_served t p (Served c ∷ []) ≡ c.call ∷ [] = ap (λ (o : Option ServedCall). calls_of (cons_option o [])) it in
    let own_calls = calls_served t p before in
    let later = calls_served t p after in
    ap (calls_served t p) is ∙ calls_behind before (Served c ∷ after) t p ∙ ap (λ (l : List Call). l ++ own_calls) (calls_behind (Served c ∷ []) after t p)
    ∙ ap (λ (l : List Call). (later ++ l) ++ own_calls) one ∙ append_assoc later (c.call ∷ []) own_calls

-- an exchange stands in the log that its call and later ones make
in_log : (room : Room) (later : List Call) (call : Call) (calls : List Call) (reply : Reply) → reply ≡ reply_after room (log_of room calls) call
    → record { call = call; reply = reply } ∈ log_of room (later ++ call ∷ calls)
unfolding log_of
in_log room [] call calls reply is = inl (ap (λ (r : Reply). let e : Exchange = record { call = call; reply = r } in e) is)
in_log room (l ∷ later) call calls reply is = inr (in_log room later call calls reply is)

-- a PREPARE that was accepted stands in the cell's log
accepted_in : (log : List HistoryEntry) (c : ServedCall) (place : ℕ) (version : Record) → IsLegal log → c.call ≡ Prepare version → StandsInHistory log c place (ToPrepare Prepared)
    → IsAcceptedAt (log_in log c.tenant c.partition) version
accepted_in log c place version legal call s =
    let room = room_of log c.tenant in
    let calls = calls_served c.tenant c.partition s.before in
    let later = calls_served c.tenant c.partition s.after in
    let before : IsLegal s.before = legal_before log s.before (Served c) s.after legal s.stands refl in
    let same : room_of s.before c.tenant ≡ room = room_later s.before log c.tenant before (Served c ∷ s.after, sym s.stands) in
    let reply : ToPrepare Prepared ≡ reply_after room (log_of room calls) c.call =
    s.reply_is ∙ ap (λ (r : Room). reply_to r calls c.call) same ∙ to_is room calls c.call in
    let P : List Call → Type 0 = λ l. record { call = c.call; reply = ToPrepare Prepared } ∈ log_of room l in
    let Q : Call → Type 0 = λ k. record { call = k; reply = ToPrepare Prepared } ∈ log_in log c.tenant c.partition in
    subst Q call (subst P (sym (calls_with log s.before s.after c s.stands)) (in_log room later c.call calls (ToPrepare Prepared) reply))

-- what is live is committed by the COMMIT that comes next
committed_by : (room : Room) (calls : List Call) (call : Call) (key : Key) (stamp : Stamp) → call ≡ Commit stamp → is_live (log_of room calls) key stamp ≡ true
    → is_committed (log_of room (call ∷ calls)) key stamp ≡ true
unfolding log_of
committed_by room calls call key stamp is live = commit_commits (log_of room calls) (record { call = call; reply = reply_after room (log_of room calls) call }) key stamp is live

module _ (log : List HistoryEntry) (legal : IsLegal log) (served : ServedCall) (write : Write) (item : Item) (began : Began write ∈ log)
    (tenant : write.tenant ≡ served.tenant) (among : item ∈ write.items) (home : IsKeyHome log item.key served.partition)
    (before after : List HistoryEntry) (stands : log ≡ before ++ Served served ∷ after) (decided : IsDecided before served.tenant write.stamp) where
  abbrev cell : List Exchange
  cell = log_in before served.tenant served.partition

  shorter : IsPrefix before log
  shorter = (Served served ∷ after, sym stands)

  was_legal : IsLegal before
  was_legal = legal_before log before (Served served) after legal stands refl

  -- no DISCARD came before it
  never : IsDiscarded cell write.stamp → ⊥
  never d =
      let calls = calls_served served.tenant served.partition before in
      let c = called served.tenant served.partition before d.0.call (logged (room_of before served.tenant) calls d.0 d.1) in
      let there : IsDecided log c.0.tenant write.stamp = subst (λ (t : ℕ). IsDecided log t write.stamp) (sym c.2) (decided_later before log served.tenant write.stamp shorter decided) in
      keeps_decided log legal c.0 write.stamp (prefix_has before log (Served c.0) shorter c.1) (c.3 ∙ d.2) ∣ there ∣₁

  -- the PREPARE of the item was accepted there
  prepared_by : (made : Write) → made ≡ write → (b : List HistoryEntry) → IsLegal b → IsPrefix b before
      → IsAccepted b made.tenant (home_of item.key (parts_of b)) (record_for made.stamp made.items item) → HasVersion cell item.key write.stamp
  prepared_by made same b legal_b pre a =
      let version = record_for made.stamp made.items item in
      let c = a.served in
      let parts : parts_of b ≡ home.parts = parts_later b before legal_b pre ∙ parts_later before log was_legal shorter ∙ parts_as_opened log home.parts home.there in
      let at : c.partition ≡ served.partition = a.its.1 ∙ ap (home_of item.key) parts ∙ home.home in
      let of : c.tenant ≡ served.tenant = a.its.0 ∙ ap (λ (w : Write). w.tenant) same ∙ tenant in
      let here = accepted_in before c a.place version was_legal a.its.2 (served_later b before c a.place (ToPrepare Prepared) pre a.accepts) in
      let P : ℕ → Type 0 = λ t. IsAcceptedAt (log_in before t c.partition) version in
      let Q : ℕ → Type 0 = λ p. IsAcceptedAt (log_in before served.tenant p) version in
      let has : HasVersion cell item.key made.stamp = accepted_version cell version (subst Q at (subst P of here)) in
      subst (λ (s : Stamp). HasVersion cell item.key s) (ap (λ (w : Write). w.stamp) same) has

  is_prepared_there : ∥ HasVersion cell item.key write.stamp ∥₁
  is_prepared_there =
      let d = decided.decision in
      let s = split_at before (Decided d) decided.stands in
      let whole : log ≡ s.0 ++ Decided d ∷ (s.1.0 ++ Served served ∷ after) =
      stands ∙ ap (λ (l : List HistoryEntry). l ++ Served served ∷ after) s.1.1 ∙ append_assoc s.0 (Decided d ∷ s.1.0) (Served served ∷ after) in
      let legal_b : IsLegal s.0 = legal_before log s.0 (Decided d) (s.1.0 ++ Served served ∷ after) legal whole refl in
      let pre : IsPrefix s.0 before = (Decided d ∷ s.1.0, sym s.1.1) in
      let of : MayEnd (own d.word s.0) d × MayDecide s.0 d → ∥ HasVersion cell item.key write.stamp ∥₁ = λ may.
      let made = may.1.write in
      let has : Began made ∈ log = prefix_has s.0 log (Began made) (Decided d ∷ (s.1.0 ++ Served served ∷ after), sym whole) may.1.began in
      let same : made ≡ write = one_write log legal made write has began (may.1.its.0 ∙ decided.its.0 ∙ sym tenant) (may.1.its.1 ∙ decided.its.1) in
      let there : item ∈ made.items = subst (λ (w : Write). item ∈ w.items) (sym same) among in
      ∥∥₁_map (may.1.accepted item there) (prepared_by made same s.0 legal_b pre) in
      ∥∥₁_elim (legal.each s.0 (Decided d) (s.1.0 ++ Served served ∷ after) whole) ∥∥₁_prop of

  commits_there : served.call ≡ Commit write.stamp → is_committed (log_in log served.tenant served.partition) item.key write.stamp ≡ true
  commits_there call =
      let room = room_of log served.tenant in
      let calls = calls_served served.tenant served.partition before in
      let later = calls_served served.tenant served.partition after in
      let same : room_of before served.tenant ≡ room = room_later before log served.tenant was_legal shorter in
      let by : HasVersion cell item.key write.stamp → is_committed (log_in log served.tenant served.partition) item.key write.stamp ≡ true = λ has.
      let P : Room → Type 0 = λ r. is_live (log_of r calls) item.key write.stamp ≡ true in
      let live : P room = subst P same (live_without cell item.key write.stamp never has) in
      let Q : List Call → Type 0 = λ l. is_committed (log_of room l) item.key write.stamp ≡ true in
      subst Q (sym (calls_with log before after served stands)) (committed_behind room later (served.call ∷ calls) item.key write.stamp (committed_by room calls served.call item.key write.stamp call live)) in
      ∥∥₁_elim is_prepared_there (Coded-set coded_bool _ _) by

pub commits_keys : (log : List HistoryEntry) → IsLegal log → CommitsKeys log
commits_keys log legal served write item has call began tenant among home =
    let r = was_right log served legal has in
    let may : ∥ MayServe r.0 served.partition served.tenant (Commit write.stamp) ∥₁ = subst (λ (c : Call). ∥ MayServe r.0 served.partition served.tenant c ∥₁) call r.3 in
    record {
      partition = served.partition;
      home = home;
      committed = ∥∥₁_elim may (Coded-set coded_bool _ _) (λ m. commits_there log legal served write item began tenant among home r.0 r.1 r.2 m.put call);
    }
