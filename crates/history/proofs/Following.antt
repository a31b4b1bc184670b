-- What may follow what was seen may follow a longer history, and a legal history stays legal with it.
use Rattle.std.proofs.Common.{◌≡◌, ◌⊎◌, ◌∙◌, ℕ, true, List, [], ◌∷◌, ◌++◌, refl, ap, sym, subst, inl, inr, arith, append_assoc}
use Rattle.std.proofs.Math.Logic.{∥∥₁_map, ∥∥₁_map₂, ∥∥₁_elim}
use Rattle.std.specs.Coded.{Coded-set, coded_ℕ}
use mathlib.Core.List.{IsPrefix}
use mathlib.Core.HLevel.{⊥_prop}
use Rattle.stamps.specs.Key.{home_of}
use Rattle.stamps.specs.Stamp.{client_of}
use Rattle.plain_store.specs.Words.{◌∈◌, Key, Record, Stamp}
use Rattle.plain_store.specs.declared.calls.Call.{Call}
use Rattle.plain_store.specs.declared.calls.Call.TheVariants.{Prepare, Commit, Get, Found, Collect, Discard}
use Rattle.plain_store.specs.declared.calls.Reply.{Reply}
use Rattle.plain_store.specs.declared.calls.Reply.TheVariants.{Prepare as ToPrepare}
use Rattle.plain_store.specs.declared.calls.PrepareReply.TheVariants.{Prepared}
use Rattle.plain_store.specs.Writing.{record_for}
use Rattle.history.specs.declared.entry.HistoryEntry.{HistoryEntry}
use Rattle.history.specs.declared.entry.HistoryEntry.TheVariants.{Opened, Joined, Arrived, Began, Decided, GivenUp, ReadBegan, Drew, Passed, Served}
use Rattle.history.specs.declared.entry.Decision.{Decision}
use Rattle.history.specs.declared.entry.JoinedClient.{JoinedClient}
use Rattle.history.specs.declared.entry.ServedCall.{ServedCall}
use Rattle.history.specs.declared.entry.StoreOpening.{StoreOpening}
use Rattle.history.specs.declared.entry.Write.{Write}
use Rattle.history.specs.Entries.{clock_of, is_of, own, parts_of, StandsInHistory}
use Rattle.history.specs.Legal.{MayJoin, MayBegin, MayEnd, IsOfWrite, IsAccepted, MayDraw, MayDecide, IsDecided, IsGivenUp, IsOfPut, HasParts, IsKeyHome, IsAtHome, MayServe, MayFollow, IsLegal, HasOneWrite, AreOfTheirWrites}
use Rattle.history.specs.Rules.{is_opening}
use Rattle.plain_store.proofs.Members.{in_left, filter_in}
use Rattle.history.proofs.Lists.{prefix_has, StandsBehind, StandsAfter, split_last, split_at, order}
use Rattle.history.proofs.Counts.{test_equal, equal_test}

-- ---- a longer history

pub parts_later : (v log : List HistoryEntry) → IsLegal v → IsPrefix v log → parts_of v ≡ parts_of log
parts_later v log legal pre =
    let whole : Opened legal.setting ∷ (legal.rest ++ pre.0) ≡ log = ap (λ l. l ++ pre.0) (sym legal.opens) ∙ pre.1 in
    ap parts_of legal.opens ∙ ap parts_of whole

abbrev pub served_later : (v log : List HistoryEntry) (served : ServedCall) (place : ℕ) (reply : Reply) → IsPrefix v log → StandsInHistory v served place reply
    → StandsInHistory log served place reply
served_later v log served place reply pre s = record {
  before = s.before;
  after = s.after ++ pre.0;
  stands = sym pre.1 ∙ ap (λ l. l ++ pre.0) s.stands ∙ append_assoc s.before (Served served ∷ s.after) pre.0;
  place_is = s.place_is;
  reply_is = s.reply_is;
}

pub accepted_later : (v log : List HistoryEntry) (tenant partition : ℕ) (version : Record) → IsPrefix v log → IsAccepted v tenant partition version
    → IsAccepted log tenant partition version
accepted_later v log tenant partition version pre a = record {
  served = a.served;
  place = a.place;
  its = a.its;
  accepts = served_later v log a.served a.place (ToPrepare Prepared) pre a.accepts;
}

pub of_write_later : (v log : List HistoryEntry) (tenant : ℕ) (version : Record) → IsPrefix v log → IsOfWrite v tenant version → IsOfWrite log tenant version
of_write_later v log tenant version pre w = record {
  write = w.write;
  began = prefix_has v log (Began w.write) pre w.began;
  its = w.its;
  item = w.item;
  among = w.among;
  is = w.is;
}

pub decided_later : (v log : List HistoryEntry) (tenant : ℕ) (stamp : Stamp) → IsPrefix v log → IsDecided v tenant stamp → IsDecided log tenant stamp
decided_later v log tenant stamp pre d = record {
  decision = d.decision;
  stands = prefix_has v log (Decided d.decision) pre d.stands;
  its = d.its;
}

pub given_up_later : (v log : List HistoryEntry) (tenant : ℕ) (stamp : Stamp) → IsPrefix v log → IsGivenUp v tenant stamp → IsGivenUp log tenant stamp
given_up_later v log tenant stamp pre d = record {
  decision = d.decision;
  stands = prefix_has v log (GivenUp d.decision) pre d.stands;
  its = d.its;
}

pub of_put_later : (v log : List HistoryEntry) (tenant : ℕ) (call : Call) → IsPrefix v log → IsOfPut v tenant call → IsOfPut log tenant call
of_put_later v log tenant (Prepare version) pre may = of_write_later v log tenant version pre may
of_put_later v log tenant (Commit stamp) pre may = decided_later v log tenant stamp pre may
of_put_later v log tenant (Get key stamp) pre may = tt
of_put_later v log tenant (Found tag) pre may = tt
of_put_later v log tenant (Collect keep) pre may = tt
of_put_later v log tenant (Discard stamp) pre may = given_up_later v log tenant stamp pre may

parts_before : (v rest : List HistoryEntry) (parts : ℕ) → HasParts v parts → HasParts (v ++ rest) parts
parts_before [] rest parts has = absurd has
parts_before (Opened setting ∷ v) rest parts has = has
parts_before (Joined member ∷ v) rest parts has = absurd has
parts_before (Arrived word ∷ v) rest parts has = absurd has
parts_before (Began write ∷ v) rest parts has = absurd has
parts_before (Decided decision ∷ v) rest parts has = absurd has
parts_before (GivenUp decision ∷ v) rest parts has = absurd has
parts_before (ReadBegan word ∷ v) rest parts has = absurd has
parts_before (Drew drawn ∷ v) rest parts has = absurd has
parts_before (Passed tenant ∷ v) rest parts has = absurd has
parts_before (Served served ∷ v) rest parts has = absurd has

pub has_parts_later : (v log : List HistoryEntry) (parts : ℕ) → IsPrefix v log → HasParts v parts → HasParts log parts
has_parts_later v log parts pre has = subst (λ l. HasParts l parts) pre.1 (parts_before v pre.0 parts has)

-- they are as many
pub parts_as_opened : (v : List HistoryEntry) (parts : ℕ) → HasParts v parts → parts_of v ≡ parts
parts_as_opened [] parts has = absurd has
parts_as_opened (Opened setting ∷ v) parts has = has
parts_as_opened (Joined member ∷ v) parts has = absurd has
parts_as_opened (Arrived word ∷ v) parts has = absurd has
parts_as_opened (Began write ∷ v) parts has = absurd has
parts_as_opened (Decided decision ∷ v) parts has = absurd has
parts_as_opened (GivenUp decision ∷ v) parts has = absurd has
parts_as_opened (ReadBegan word ∷ v) parts has = absurd has
parts_as_opened (Drew drawn ∷ v) parts has = absurd has
parts_as_opened (Passed tenant ∷ v) parts has = absurd has
parts_as_opened (Served served ∷ v) parts has = absurd has

pub key_home_later : (v log : List HistoryEntry) (key : Key) (partition : ℕ) → IsPrefix v log → IsKeyHome v key partition → IsKeyHome log key partition
key_home_later v log key partition pre h = record { parts = h.parts; there = has_parts_later v log h.parts pre h.there; home = h.home }

pub at_home_later : (v log : List HistoryEntry) (partition : ℕ) (call : Call) → IsPrefix v log → IsAtHome v partition call → IsAtHome log partition call
at_home_later v log partition (Prepare version) pre home = key_home_later v log version.key partition pre home
at_home_later v log partition (Get key stamp) pre home = key_home_later v log key partition pre home
at_home_later v log partition (Commit stamp) pre home = tt
at_home_later v log partition (Found tag) pre home = tt
at_home_later v log partition (Collect keep) pre home = tt
at_home_later v log partition (Discard stamp) pre home = tt

pub serve_later : (v log : List HistoryEntry) (partition tenant : ℕ) (call : Call) → IsPrefix v log → MayServe v partition tenant call
    → MayServe log partition tenant call
serve_later v log partition tenant call pre may = record {
  put = of_put_later v log tenant call pre may.put;
  home = at_home_later v log partition call pre may.home;
}

decide_later : (v log : List HistoryEntry) (decision : Decision) → IsLegal v → IsPrefix v log → MayDecide v decision → MayDecide log decision
decide_later v log decision legal pre may = record {
  write = may.write;
  began = prefix_has v log (Began may.write) pre may.began;
  its = may.its;
  accepted = λ item among.
      let version = record_for may.write.stamp may.write.items item in
      let tenant = may.write.tenant in
      let P : ℕ → Type 0 = λ parts. ∥ IsAccepted log tenant (home_of item.key parts) version ∥₁ in
      let further : IsAccepted v tenant (home_of item.key (parts_of v)) version → IsAccepted log tenant (home_of item.key (parts_of v)) version =
      λ a. accepted_later v log tenant (home_of item.key (parts_of v)) version pre a in
      subst P (parts_later v log legal pre) (∥∥₁_map (may.accepted item among) further);
}

end_later : (k : ℕ) (mine log : List HistoryEntry) (decision : Decision) → decision.word ≡ k → own k mine ≡ own k log → MayEnd (own decision.word mine) decision
    → MayEnd (own decision.word log) decision
end_later k mine log decision word same may =
    subst (λ l. MayEnd l decision) (subst (λ (w : ℕ). own w mine ≡ own w log) (sym word) same) may

own_of_word : (k word : ℕ) (mine log : List HistoryEntry) → word ≡ k → own k mine ≡ own k log → own word mine ≡ own word log
own_of_word k word mine log is same = subst (λ (w : ℕ). own w mine ≡ own w log) (sym is) same

-- where a history has the same entries of the entry's word, and has what was seen, the entry may follow it
pub may_later : (k : ℕ) (mine seen log : List HistoryEntry) (e : HistoryEntry) → is_of k e ≡ true → own k mine ≡ own k log → IsLegal seen → IsPrefix seen log
    → MayFollow mine seen e → MayFollow log log e
may_later k mine seen log (Opened setting) is same legal pre may = absurd (cc is)
may_later k mine seen log (Joined member) is same legal pre may =
    let word : 0 ≡ k = test_equal 0 k is in
    subst (λ l. MayJoin l member) (subst (λ (w : ℕ). own w mine ≡ own w log) (sym word) same) may
may_later k mine seen log (Arrived word) is same legal pre may = tt
may_later k mine seen log (ReadBegan word) is same legal pre may = tt
may_later k mine seen log (Drew drawn) is same legal pre may =
    subst (λ l. MayDraw l drawn) (own_of_word k (clock_of drawn.tenant) mine log (test_equal (clock_of drawn.tenant) k is) same) may
may_later k mine seen log (Passed tenant) is same legal pre may = tt
may_later k mine seen log (Began write) is same legal pre may =
    let word : write.word ≡ k = test_equal write.word k is in
    let mine_is : own write.word mine ≡ own write.word log = subst (λ (w : ℕ). own w mine ≡ own w log) (sym word) same in
    record {
      joined = prefix_has seen log (Joined (record { word = write.word; tenant = write.tenant; client = client_of write.stamp })) pre may.joined;
      above = λ other has. may.above other (subst (λ l. Began other ∈ l) (sym mine_is) has);
    }
may_later k mine seen log (Decided decision) is same legal pre may =
    (end_later k mine log decision (test_equal decision.word k is) same may.0, decide_later seen log decision legal pre may.1)
may_later k mine seen log (GivenUp decision) is same legal pre may = end_later k mine log decision (test_equal decision.word k is) same may
may_later k mine seen log (Served served) is same legal pre may = serve_later seen log served.partition served.tenant served.call pre may

-- ---- a legal history

each_more : (log : List HistoryEntry) (e : HistoryEntry) → IsLegal log → ∥ MayFollow log log e ∥₁ → (before : List HistoryEntry) (d : HistoryEntry)
    → StandsBehind log before d ⊎ ((before ≡ log) × (d ≡ e)) → ∥ MayFollow before before d ∥₁
each_more log e legal may before d (inl s) = legal.each before d s.0 s.1
each_more log e legal may before d (inr same) =
    subst (λ l. ∥ MayFollow l l d ∥₁) (sym same.0) (subst (λ (x : HistoryEntry). ∥ MayFollow log log x ∥₁) (sym same.1) may)

-- it stays legal with an entry that may follow
pub legal_more : (log : List HistoryEntry) (e : HistoryEntry) → IsLegal log → ∥ MayFollow log log e ∥₁ → IsLegal (log ++ e ∷ [])
legal_more log e legal may = record {
  setting = legal.setting;
  rest = legal.rest ++ e ∷ [];
  opens = ap (λ l. l ++ e ∷ []) legal.opens;
  each = λ before d after is. each_more log e legal may before d (split_last log e before d after is);
}

opening_each : (setting : StoreOpening) (before : List HistoryEntry) (d : HistoryEntry)
    → StandsBehind [] before d ⊎ ((before ≡ []) × (d ≡ Opened setting)) → ∥ MayFollow before before d ∥₁
opening_each setting [] d (inl s) = absurd (cc (s.1))
opening_each setting (b ∷ before) d (inl s) = absurd (cc (s.1))
opening_each setting before d (inr same) = subst (λ (x : HistoryEntry). ∥ MayFollow before before x ∥₁) (sym same.1) ∣ same.0 ∣₁

-- a store that was just opened has a legal history
pub opening_legal : (log : List HistoryEntry) → is_opening log ≡ true → IsLegal log
opening_legal [] is = absurd (cc is)
opening_legal (Opened setting ∷ []) is = record {
  setting = setting;
  rest = [];
  opens = refl;
  each = λ before d after same. opening_each setting before d (split_last [] (Opened setting) before d after same);
}
opening_legal (Opened setting ∷ (e ∷ log)) is = absurd (cc is)
opening_legal (Joined member ∷ log) is = absurd (cc is)
opening_legal (Arrived word ∷ log) is = absurd (cc is)
opening_legal (ReadBegan word ∷ log) is = absurd (cc is)
opening_legal (Drew drawn ∷ log) is = absurd (cc is)
opening_legal (Passed tenant ∷ log) is = absurd (cc is)
opening_legal (Began write ∷ log) is = absurd (cc is)
opening_legal (Decided decision ∷ log) is = absurd (cc is)
opening_legal (GivenUp decision ∷ log) is = absurd (cc is)
opening_legal (Served served ∷ log) is = absurd (cc is)

-- ---- one write for each stamp

-- the client of a write
abbrev member_of : Write → JoinedClient
member_of write = record { word = write.word; tenant = write.tenant; client = client_of write.stamp }

-- no client joins twice
joined_apart : (log : List HistoryEntry) (one other : JoinedClient) → IsLegal log → one.tenant ≡ other.tenant → one.client ≡ other.client
    → StandsAfter log (Joined one) (Joined other) → ⊥
joined_apart log one other legal tenant client s =
    let may : ∥ MayJoin (own 0 s.0) other ∥₁ = legal.each s.0 (Joined other) s.2.0 s.2.1 in
    ∥∥₁_elim may ⊥_prop (λ m. m.new one (filter_in (is_of 0) s.0 (Joined one) s.1 refl) tenant client)

one_joined : (log : List HistoryEntry) (one other : JoinedClient) → IsLegal log → one.tenant ≡ other.tenant → one.client ≡ other.client
    → (Joined one ≡ Joined other) ⊎ (StandsAfter log (Joined one) (Joined other) ⊎ StandsAfter log (Joined other) (Joined one)) → one.word ≡ other.word
one_joined log one other legal tenant client (inl same) = let is : one ≡ other = cc same in ap (λ m. m.word) is
one_joined log one other legal tenant client (inr (inl s)) = absurd (joined_apart log one other legal tenant client s)
one_joined log one other legal tenant client (inr (inr s)) = absurd (joined_apart log other one legal (sym tenant) (sym client) s)

-- a write's client has joined
has_joined : (log : List HistoryEntry) (write : Write) → IsLegal log → Began write ∈ log → ∥ Joined (member_of write) ∈ log ∥₁
has_joined log write legal has =
    let s = split_at log (Began write) has in
    let may : ∥ MayBegin (own write.word s.0) s.0 write ∥₁ = legal.each s.0 (Began write) s.1.0 s.1.1 in
    let joined : MayBegin (own write.word s.0) s.0 write → Joined (member_of write) ∈ log =
    λ m. subst (λ l. Joined (member_of write) ∈ l) (sym s.1.1) (in_left s.0 (Began write ∷ s.1.0) (Joined (member_of write)) m.joined) in
    ∥∥₁_map may joined

-- two writes of one stamp are of one word
one_word : (log : List HistoryEntry) (one other : Write) → IsLegal log → Began one ∈ log → Began other ∈ log → one.tenant ≡ other.tenant
    → one.stamp ≡ other.stamp → one.word ≡ other.word
one_word log one other legal a b tenant stamp =
    let same : Joined (member_of one) ∈ log → Joined (member_of other) ∈ log → one.word ≡ other.word =
    λ j k. one_joined log (member_of one) (member_of other) legal tenant (ap client_of stamp)
    (order log (Joined (member_of one)) (Joined (member_of other)) j k) in
    ∥∥₁_elim (∥∥₁_map₂ (has_joined log one legal a) (has_joined log other legal b) same) (Coded-set coded_ℕ _ _) (λ e. e)

-- of one word none behind has the stamp of the other
writes_apart : (log : List HistoryEntry) (one other : Write) → IsLegal log → one.word ≡ other.word → one.stamp ≡ other.stamp
    → StandsAfter log (Began one) (Began other) → ⊥
writes_apart log one other legal word stamp s =
    let may : ∥ MayBegin (own other.word s.0) s.0 other ∥₁ = legal.each s.0 (Began other) s.2.0 s.2.1 in
    let no : MayBegin (own other.word s.0) s.0 other → ⊥ = λ m.
    let less = m.above one (filter_in (is_of other.word) s.0 (Began one) s.1 (equal_test one.word other.word word)) in
    omega (arith, less, stamp) in
    ∥∥₁_elim may ⊥_prop no

one_of_two : (log : List HistoryEntry) (one other : Write) → IsLegal log → one.word ≡ other.word → one.stamp ≡ other.stamp
    → (Began one ≡ Began other) ⊎ (StandsAfter log (Began one) (Began other) ⊎ StandsAfter log (Began other) (Began one)) → one ≡ other
one_of_two log one other legal word stamp (inl same) = cc same
one_of_two log one other legal word stamp (inr (inl s)) = absurd (writes_apart log one other legal word stamp s)
one_of_two log one other legal word stamp (inr (inr s)) = absurd (writes_apart log other one legal (sym word) (sym stamp) s)

-- a stamp of a tenant has one write
pub one_write : (log : List HistoryEntry) → IsLegal log → HasOneWrite log
one_write log legal one other a b tenant stamp =
    one_of_two log one other legal (one_word log one other legal a b tenant stamp) stamp (order log (Began one) (Began other) a b)

-- a version is of the one write of its stamp
pub of_its_write : (log : List HistoryEntry) → IsLegal log → AreOfTheirWrites log
of_its_write log legal tenant version write of began its stamp =
    ∥∥₁_map of (λ w.
    let written : version.stamp ≡ w.write.stamp = ap (λ (v : Record). v.stamp) w.is in
    let same : w.write ≡ write = one_write log legal w.write write w.began began (w.its ∙ sym its) (sym written ∙ sym stamp) in
    (w.item, subst (λ (x : Write). w.item ∈ x.items) same w.among, w.is ∙ ap (λ (x : Write). record_for x.stamp x.items w.item) same))
