-- The tests of equality of answers decide it.
use Rattle.std.proofs.Common.{◌≡◌, Bool, false, true, Some, None, bytes_eq, refl, ap, eqb-true, eq-eqb, ◌==◌}
use denote.Enum.Bare.{same_true, true_same}
use Rattle.std.proofs.lemmas.Bool.{and_parts, and_from}
use Rattle.std.proofs.lemmas.Slice.Eq.{bytes_eq-Decides}
use Rattle.plain_store.specs.ReadingLaws.{readings_eq-Decides}
use Rattle.plain_store.specs.contracts.refusal.RefusalPartialEq.TheImpl as refusal
use Rattle.plain_store.specs.contracts.answer.RowsPartialEq.TheImpl as rows
use Rattle.plain_store.specs.contracts.answer.AnswerPartialEq.TheImpl as answer
use Rattle.plain_store.specs.declared.answer.Answer.TheVariants.{Refused, Ready, PutBegun, GetBegun, FindBegun, Replied, Ignored, Wait, Decided, Done, Ask, BeginsRead, Read, Listed, Restart, Ended, Lost, Stopped as IsStopped, Sent, Freed, Keeps}
use Rattle.plain_store.specs.declared.refusal.Refusal.{Refusal}
use Rattle.plain_store.specs.contracts.refusal.Refusal.{the_type}
use Rattle.plain_store.specs.declared.answer.Rows.{Rows}
use Rattle.plain_store.specs.declared.answer.Answer.{Answer}
use Rattle.plain_store.proofs.EqualReplies.{reply_eq, reply_same, reply_self}

abbrev pub refusal_eq : Refusal → Refusal → Bool
refusal_eq = (refusal.ghosts).eq

pub refusal_same : (x y : Refusal) → refusal_eq x y ≡ true → x ≡ y
refusal_same x y h = same_true the_type tt x y h

pub refusal_self : (x : Refusal) → refusal_eq x x ≡ true
refusal_self x = true_same the_type x x refl

abbrev pub rows_eq : Rows → Rows → Bool
rows_eq = (rows.ghosts).eq

pub rows_same : (x y : Rows) → rows_eq x y ≡ true → x ≡ y
rows_same x y h =
    let p = and_parts (x.first == y.first) (x.last == y.last) h in
    λ i. record { first = eqb-true x.first y.first p.0 i; last = eqb-true x.last y.last p.1 i }

pub rows_self : (x : Rows) → rows_eq x x ≡ true
rows_self x = and_from (x.first == x.first) (x.last == x.last) (eq-eqb x.first x.first refl) (eq-eqb x.last x.last refl)

apart : false ≡ true → ⊥
apart h = cc

abbrev pub answer_eq : Answer → Answer → Bool
answer_eq = (answer.ghosts).eq

pub answer_same : (x y : Answer) → answer_eq x y ≡ true → x ≡ y
answer_same (Refused a) (Refused b) h = ap Refused (refusal_same a b h)
answer_same (Ready a) (Ready b) h = ap Ready (eqb-true a b h)
answer_same (PutBegun a c) (PutBegun b d) h = let p = and_parts (a == b) (rows_eq c d) h in (λ i. PutBegun (eqb-true a b p.0 i) (rows_same c d p.1 i))
answer_same (GetBegun a) (GetBegun b) h = ap GetBegun (rows_same a b h)
answer_same (FindBegun a) (FindBegun b) h = ap FindBegun (rows_same a b h)
answer_same (Replied a c) (Replied b d) h = let p = and_parts (a == b) (reply_eq c d) h in (λ i. Replied (eqb-true a b p.0 i) (reply_same c d p.1 i))
answer_same Ignored Ignored h = refl
answer_same Wait Wait h = refl
answer_same (Decided a c) (Decided b d) h = let p = and_parts (a == b) (rows_eq c d) h in (λ i. Decided (eqb-true a b p.0 i) (rows_same c d p.1 i))
answer_same (Done a) (Done b) h = ap Done (eqb-true a b h)
answer_same (Ask a) (Ask b) h = ap Ask (rows_same a b h)
answer_same (BeginsRead a) (BeginsRead b) h = ap BeginsRead (rows_same a b h)
answer_same (Read a) (Read b) h = ap Read ((readings_eq-Decides a b).0 h)
answer_same (Listed a) (Listed b) h = ap Listed ((readings_eq-Decides a b).0 h)
answer_same (Restart a c) (Restart b d) h = let p = and_parts (bytes_eq a b) (c == d) h in (λ i. Restart ((bytes_eq-Decides a b).0 p.0 i) (eqb-true c d p.1 i))
answer_same (Ended a None) (Ended b None) h = let p = and_parts _ _ h in ap (λ x. Ended x None) (refusal_same a b p.0)
answer_same (Ended a None) (Ended b (Some d)) h = absurd (let p = and_parts (refusal_eq a b) false h in let bad : false ≡ true = p.1 in cc)
answer_same (Ended a (Some c)) (Ended b None) h = absurd (let p = and_parts (refusal_eq a b) false h in let bad : false ≡ true = p.1 in cc)
answer_same (Ended a (Some c)) (Ended b (Some d)) h = let p = and_parts _ _ h in (λ i. Ended (refusal_same a b p.0 i) (Some (rows_same c d p.1 i)))
answer_same Lost Lost h = refl
answer_same IsStopped IsStopped h = refl
answer_same (Freed a) (Freed b) h = ap Freed (eqb-true a b h)
answer_same (Keeps a) (Keeps b) h = ap Keeps (eqb-true a b h)
answer_same (Sent None) (Sent None) h = refl
answer_same (Sent (Some a)) (Sent (Some b)) h = ap (λ x. Sent (Some x)) (rows_same a b h)
answer_same x y h = absurd (apart h)

pub answer_self : (x : Answer) → answer_eq x x ≡ true
answer_self (Refused a) = refusal_self a
answer_self (Ready a) = eq-eqb a a refl
answer_self (PutBegun a c) = and_from (a == a) (rows_eq c c) (eq-eqb a a refl) (rows_self c)
answer_self (GetBegun a) = rows_self a
answer_self (FindBegun a) = rows_self a
answer_self (Replied a c) = and_from (a == a) (reply_eq c c) (eq-eqb a a refl) (reply_self c)
answer_self (Decided a c) = and_from (a == a) (rows_eq c c) (eq-eqb a a refl) (rows_self c)
answer_self (Done a) = eq-eqb a a refl
answer_self (Ask a) = rows_self a
answer_self (BeginsRead a) = rows_self a
answer_self (Read a) = (readings_eq-Decides a a).1 refl
answer_self (Listed a) = (readings_eq-Decides a a).1 refl
answer_self (Restart a c) = and_from (bytes_eq a a) (c == c) ((bytes_eq-Decides a a).1 refl) (eq-eqb c c refl)
answer_self (Ended a None) = and_from _ _ (refusal_self a) refl
answer_self (Ended a (Some c)) = and_from _ _ (refusal_self a) (rows_self c)
answer_self (Freed a) = eq-eqb a a refl
answer_self (Keeps a) = eq-eqb a a refl
answer_self (Sent None) = refl
answer_self (Sent (Some a)) = rows_self a
answer_self _ = refl
