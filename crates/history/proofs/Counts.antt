-- How many entries a word has, and what stays of them in a longer history.
use Rattle.std.proofs.Common.{◌≡◌, ◌≢◌, ◌∙◌, ℕ, ◌+◌, ◌<◌, ◌==◌, true, false, List, [], ◌∷◌, ◌++◌, length, refl, ap, sym, arith, length-append}
use Rattle.std.proofs.lemmas.Bool.Decides.{nat_tests}
use Rattle.std.proofs.lemmas.List.{append-nil}
use Rattle.std.proofs.lemmas.List.Elements.{filter-append}
use mathlib.Core.List.{IsPrefix}
use Rattle.history.specs.declared.entry.HistoryEntry.{HistoryEntry}
use Rattle.history.specs.declared.entry.HistoryEntry.TheVariants.{Opened, Joined, Arrived, Began, Decided, GivenUp, ReadBegan, Drew, Passed, Served}
use Rattle.history.specs.Entries.{HasMark, clock_of, is_of, own, count}
use Rattle.history.specs.declared.entry.Mark.{Mark}
use Rattle.history.proofs.Lists.{none_of_none}

pub equal_test : (a b : ℕ) → a ≡ b → (a == b) ≡ true
equal_test a b e = grind (arith, nat_tests)

pub other_test : (a b : ℕ) → a ≢ b → (a == b) ≡ false
other_test a b e = grind (arith, nat_tests)

pub test_equal : (a b : ℕ) → (a == b) ≡ true → a ≡ b
test_equal a b e = grind (arith, nat_tests)

-- no entry is of two words
no_other : (a k p : ℕ) → (a == p) ≡ true → k ≢ p → (a == k) ≡ false
no_other a k p is apart = other_test a k (λ e. apart (sym e ∙ test_equal a p is))

pub of_no_other : (k p : ℕ) (e : HistoryEntry) → is_of p e ≡ true → k ≢ p → is_of k e ≡ false
of_no_other k p (Opened setting) is apart = absurd (cc is)
of_no_other k p (Joined member) is apart = no_other 0 k p is apart
of_no_other k p (Arrived word) is apart = no_other word k p is apart
of_no_other k p (ReadBegan word) is apart = no_other word k p is apart
of_no_other k p (Drew drawn) is apart = no_other (clock_of drawn.tenant) k p is apart
of_no_other k p (Passed tenant) is apart = no_other (clock_of tenant) k p is apart
of_no_other k p (Began write) is apart = no_other write.word k p is apart
of_no_other k p (Decided decision) is apart = no_other decision.word k p is apart
of_no_other k p (GivenUp decision) is apart = no_other decision.word k p is apart
of_no_other k p (Served served) is apart = no_other (served.partition + 1) k p is apart

pub own_append : (k : ℕ) (xs ys : List HistoryEntry) → own k (xs ++ ys) ≡ own k xs ++ own k ys
own_append k xs ys = filter-append (is_of k) xs ys

pub count_append : (k : ℕ) (xs ys : List HistoryEntry) → count k (xs ++ ys) ≡ count k xs + count k ys
count_append k xs ys = ap length (own_append k xs ys) ∙ length-append (own k xs) (own k ys)

pub own_one : (k : ℕ) (e : HistoryEntry) → is_of k e ≡ true → own k (e ∷ []) ≡ e ∷ []
own_one k e is = rw is refl

pub own_no_one : (k : ℕ) (e : HistoryEntry) → is_of k e ≡ false → own k (e ∷ []) ≡ []
own_no_one k e is = rw is refl

pub count_more : (k : ℕ) (log : List HistoryEntry) (e : HistoryEntry) → is_of k e ≡ true → count k (log ++ e ∷ []) ≡ count k log + 1
count_more k log e is = count_append k log (e ∷ []) ∙ ap (λ n. count k log + n) (ap length (own_one k e is))

pub own_still : (k : ℕ) (log : List HistoryEntry) (e : HistoryEntry) → is_of k e ≡ false → own k (log ++ e ∷ []) ≡ own k log
own_still k log e is = own_append k log (e ∷ []) ∙ ap (λ l. own k log ++ l) (own_no_one k e is) ∙ append-nil (own k log)

pub count_still : (k : ℕ) (log : List HistoryEntry) (e : HistoryEntry) → is_of k e ≡ false → count k (log ++ e ∷ []) ≡ count k log
count_still k log e is = ap length (own_still k log e is)

-- a longer history has no fewer entries of a word
pub count_later : (k : ℕ) (v log : List HistoryEntry) (pre : IsPrefix v log) → count k log ≡ count k v + count k pre.0
count_later k v log pre = ap (count k) (sym pre.1) ∙ count_append k v pre.0

pub some_later : (k : ℕ) (v log : List HistoryEntry) → IsPrefix v log → 0 < count k v → 0 < count k log
some_later k v log pre some = omega (arith, count_later k v log pre, some)

-- where it has as many, it has the same
pub own_same : (k : ℕ) (v log : List HistoryEntry) → IsPrefix v log → count k v ≡ count k log → own k v ≡ own k log
own_same k v log pre same =
    let none : own k pre.0 ≡ [] = none_of_none (own k pre.0) (omega (arith, count_later k v log pre, same)) in
    sym (append-nil (own k v)) ∙ ap (λ l. own k v ++ l) (sym none) ∙ sym (own_append k v pre.0) ∙ ap (own k) pre.1

-- what has a mark has it later
pub mark_later : (v log : List HistoryEntry) (mark : Mark) → IsPrefix v log → HasMark v mark → HasMark log mark
mark_later v log mark pre has = omega (arith, count_later mark.word v log pre, has)
