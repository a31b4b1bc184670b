-- The tests of equality of calls and replies decide it.
use Rattle.std.proofs.Common.{◌≡◌, Bool, true, false, Some, None, bytes_eq, refl, ap, eqb-true, eq-eqb, ◌==◌}
use Rattle.std.proofs.lemmas.Bool.{and_parts, and_from}
use Rattle.std.proofs.lemmas.Slice.Eq.{bytes_eq-Decides}
use Rattle.stamps.specs.RecordLaws.{record_eq-Decides}
use Rattle.plain_store.specs.FoundLaws.{found_eq-Decides}
use Rattle.plain_store.specs.contracts.calls.PrepareReplyPartialEq.TheImpl as prepare
use Rattle.plain_store.specs.contracts.calls.ReadReplyPartialEq.TheImpl as read
use Rattle.plain_store.specs.contracts.calls.DiscardReplyPartialEq.TheImpl as discard
use Rattle.plain_store.specs.contracts.calls.ReplyPartialEq.TheImpl as reply
use Rattle.plain_store.specs.contracts.calls.CallPartialEq.TheImpl as call
use Rattle.plain_store.specs.declared.calls.Call.{Call}
use Rattle.plain_store.specs.declared.calls.Call.TheVariants.{Prepare, Commit, Get, Found, Collect, Discard}
use Rattle.plain_store.specs.declared.calls.Reply.{Reply}
use Rattle.plain_store.specs.declared.calls.Reply.TheVariants.{Prepare as ToPrepare, Committed as ToCommit}
use Rattle.plain_store.specs.declared.calls.Reply.TheVariants.{Get as ToGet, Found as ToFound, Freed as ToCollect}
use Rattle.plain_store.specs.declared.calls.Reply.TheVariants.{Discard as ToDiscard}
use Rattle.plain_store.specs.declared.calls.PrepareReply.{PrepareReply}
use Rattle.plain_store.specs.declared.calls.PrepareReply.TheVariants.{Prepared, FullSlots, FullItems, Clash, Discarded}
use Rattle.plain_store.specs.declared.calls.DiscardReply.{DiscardReply}
use Rattle.plain_store.specs.declared.calls.DiscardReply.TheVariants.{Dropped, FullMarks}
use Rattle.plain_store.specs.declared.calls.ReadReply.{ReadReply}
use Rattle.plain_store.specs.declared.calls.ReadReply.TheVariants.{Version, Initial, Collected, Unknown}

abbrev pub prepare_eq : PrepareReply → PrepareReply → Bool
prepare_eq = (prepare.ghosts).eq

pub prepare_same : (x y : PrepareReply) → prepare_eq x y ≡ true → x ≡ y
prepare_same Prepared Prepared h = refl
prepare_same FullSlots FullSlots h = refl
prepare_same FullItems FullItems h = refl
prepare_same Clash Clash h = refl
prepare_same Discarded Discarded h = refl
prepare_same x y h = cc

pub prepare_self : (x : PrepareReply) → prepare_eq x x ≡ true
prepare_self Prepared = refl
prepare_self _ = refl

abbrev pub read_eq : ReadReply → ReadReply → Bool
read_eq = (read.ghosts).eq

pub read_same : (x y : ReadReply) → read_eq x y ≡ true → x ≡ y
read_same (Version v) (Version w) h = ap Version ((record_eq-Decides v w).0 h)
read_same Initial Initial h = refl
read_same (Collected s) (Collected t) h = ap Collected (eqb-true s t h)
read_same Unknown Unknown h = refl
read_same x y h = cc

pub read_self : (x : ReadReply) → read_eq x x ≡ true
read_self (Version v) = (record_eq-Decides v v).1 refl
read_self Initial = refl
read_self (Collected s) = eq-eqb s s refl
read_self Unknown = refl

abbrev pub discard_eq : DiscardReply → DiscardReply → Bool
discard_eq = (discard.ghosts).eq

pub discard_same : (x y : DiscardReply) → discard_eq x y ≡ true → x ≡ y
discard_same (Dropped n) (Dropped m) h = ap Dropped (eqb-true n m h)
discard_same FullMarks FullMarks h = refl
discard_same x y h = cc

pub discard_self : (x : DiscardReply) → discard_eq x x ≡ true
discard_self (Dropped n) = eq-eqb n n refl
discard_self FullMarks = refl

abbrev pub reply_eq : Reply → Reply → Bool
reply_eq = (reply.ghosts).eq

pub reply_same : (x y : Reply) → reply_eq x y ≡ true → x ≡ y
reply_same (ToPrepare p) (ToPrepare q) h = ap ToPrepare (prepare_same p q h)
reply_same (ToCommit n) (ToCommit m) h = ap ToCommit (eqb-true n m h)
reply_same (ToGet r) (ToGet s) h = ap ToGet (read_same r s h)
reply_same (ToFound f) (ToFound g) h = ap ToFound ((found_eq-Decides f g).0 h)
reply_same (ToCollect n) (ToCollect m) h = ap ToCollect (eqb-true n m h)
reply_same (ToDiscard x) (ToDiscard y) h = ap ToDiscard (discard_same x y h)
reply_same x y h = cc

pub reply_self : (x : Reply) → reply_eq x x ≡ true
reply_self (ToPrepare p) = prepare_self p
reply_self (ToCommit n) = eq-eqb n n refl
reply_self (ToGet r) = read_self r
reply_self (ToFound f) = (found_eq-Decides f f).1 refl
reply_self (ToCollect n) = eq-eqb n n refl
reply_self (ToDiscard x) = discard_self x

abbrev pub call_eq : Call → Call → Bool
call_eq = (call.ghosts).eq

pub call_same : (x y : Call) → call_eq x y ≡ true → x ≡ y
call_same (Prepare v) (Prepare w) h = ap Prepare ((record_eq-Decides v w).0 h)
call_same (Commit s) (Commit t) h = ap Commit (eqb-true s t h)
call_same (Get k None) (Get j None) h = ap (λ x. Get x None) ((bytes_eq-Decides k j).0 (and_parts (bytes_eq k j) true h).0)
call_same (Get k (Some s)) (Get j (Some t)) h = let p = and_parts (bytes_eq k j) (s == t) h in (λ i. Get ((bytes_eq-Decides k j).0 p.0 i) (Some (eqb-true s t p.1 i)))
call_same (Get k None) (Get j (Some t)) h = absurd (let p = and_parts (bytes_eq k j) false h in cc)
call_same (Get k (Some s)) (Get j None) h = absurd (let p = and_parts (bytes_eq k j) false h in cc)
call_same (Found g) (Found t) h = ap Found ((bytes_eq-Decides g t).0 h)
call_same (Collect a) (Collect b) h = ap Collect (eqb-true a b h)
call_same (Discard s) (Discard t) h = ap Discard (eqb-true s t h)
call_same x y h = cc

pub call_self : (x : Call) → call_eq x x ≡ true
call_self (Prepare v) = (record_eq-Decides v v).1 refl
call_self (Commit s) = eq-eqb s s refl
call_self (Get k None) = and_from (bytes_eq k k) true ((bytes_eq-Decides k k).1 refl) refl
call_self (Get k (Some s)) = and_from (bytes_eq k k) (s == s) ((bytes_eq-Decides k k).1 refl) (eq-eqb s s refl)
call_self (Found g) = (bytes_eq-Decides g g).1 refl
call_self (Collect a) = eq-eqb a a refl
call_self (Discard s) = eq-eqb s s refl
