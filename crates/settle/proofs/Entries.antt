-- Entries one after the other.
use Rattle.std.proofs.Common.{◌++◌, ◌-◌, append_assoc, ◌≡◌, ◌<◌, ◌≤◌, ◌+◌, ℕ, zero, suc, List, [], ◌∷◌, drop, get_or, length, slice_get, Option, Some, None, refl, sym, ap, ◌∙◌, arith}
use Rattle.std.specs.Prelude.{option_and_then}
use Rattle.std.proofs.lemmas.Option.{get_or_from_slice_get, slice_get_within}
use Rattle.std.proofs.lemmas.List.{drop_more}
use Rattle.entry_list.specs.declared.kinds.Entry.{Entry}
use Rattle.entry_list.specs.declared.kinds.Entry.TheVariants.{Began, Took, Answered}
use Rattle.entry_list.specs.declared.kinds.Taken.{Taken}
use Rattle.entry_list.specs.PackedEntries.{taken_of, answer_of}
use Rattle.settle.specs.Words.{Answer}
use Rattle.settle.specs.Program.{noted, items_of}
use Rattle.settle.specs.Trace.{at_seat, numbers_from}
use Rattle.settle.specs.Standing.{AreAll}
use Rattle.settle.proofs.Words.{some_is}

-- what is left at a place begins with the element there
pub drop_here : {X : Type 0} (xs : List X) (i : ℕ) (x : X) → i < length xs → x ≡ get_or xs i x → drop i xs ≡ x ∷ drop (i + 1) xs
drop_here xs i x within is = drop_more xs i x within ∙ ap (λ y. y ∷ drop (i + 1) xs) (sym is)

pub all_first : (answer first : Answer) (rest : List Answer) → AreAll answer (first ∷ rest) → first ≡ at_seat answer
all_first answer first rest all = all 0 first (omega arith)

pub all_rest : (answer first : Answer) (rest : List Answer) → AreAll answer (first ∷ rest) → AreAll answer rest
all_rest answer first rest all k d h = all (suc k) d (omega (arith, h))

pub all_more : (answer first : Answer) (rest : List Answer) → first ≡ at_seat answer → AreAll answer rest → AreAll answer (first ∷ rest)
all_more answer first rest is all zero d h = is
all_more answer first rest is all (suc k) d h = all k d (omega (arith, h))

-- what a list of entries reports of a place

pub taken_there : (o : Option Entry) (t : Taken) → Some t ≡ option_and_then taken_of o → o ≡ Some (Took t.number t.partition t.place t.reply)
taken_there None t is = absurd (let bad : Some t ≡ None = is in cc)
taken_there (Some (Began act)) t is = absurd (let bad : Some t ≡ None = is in cc)
taken_there (Some (Took number partition place reply)) t is =
    let same : t ≡ record { number = number; partition = partition; place = place; reply = reply } = some_is t (record { number = number; partition = partition; place = place; reply = reply }) is in
    ap (λ (x : Taken). Some (Took x.number x.partition x.place x.reply)) (sym same)
taken_there (Some (Answered answer)) t is = absurd (let bad : Some t ≡ None = is in cc)

pub answer_there : (o : Option Entry) (answer : Answer) → Some answer ≡ option_and_then answer_of o → o ≡ Some (Answered answer)
answer_there None answer is = absurd (let bad : Some answer ≡ None = is in cc)
answer_there (Some (Began act)) answer is = absurd (let bad : Some answer ≡ None = is in cc)
answer_there (Some (Took number partition place reply)) answer is = absurd (let bad : Some answer ≡ None = is in cc)
answer_there (Some (Answered other)) answer is = ap (λ (a : Answer). Some (Answered a)) (sym (some_is answer other is))

-- an entry that notes no answer is something that was done
pub none_here : (entries : List Entry) (place : ℕ) → None ≡ option_and_then answer_of (slice_get entries place) → noted (drop place entries) ≡ []
none_here [] zero is = refl
none_here [] (suc place) is = refl
none_here (Began act ∷ entries) zero is = refl
none_here (Took number partition at reply ∷ entries) zero is = refl
none_here (Answered answer ∷ entries) zero is = absurd (let bad : None ≡ Some answer = is in cc)
none_here (entry ∷ entries) (suc place) is = none_here entries place is

-- the noted answer at a place is the first of those from there on
module _ (entries : List Entry) (place : ℕ) (answer : Answer) (at : slice_get entries place ≡ Some (Answered answer)) where
  here : drop place entries ≡ Answered answer ∷ drop (place + 1) entries
  here = drop_here entries place (Answered answer) (slice_get_within entries place (Answered answer) at) (sym (get_or_from_slice_get entries place (Answered answer) (Answered answer) at))

  pub noted_here : noted (drop place entries) ≡ answer ∷ noted (drop (place + 1) entries)
  noted_here = ap noted here

  pub items_here : items_of (drop place entries) ≡ items_of (drop (place + 1) entries)
  items_here = ap items_of here

-- ---- rows

pub numbers_more : (row last : ℕ) → row ≤ last → numbers_from row (last + 1 - row) ≡ row ∷ numbers_from (row + 1) (last + 1 - (row + 1))
numbers_more row last h = let e : last + 1 - row ≡ suc (last + 1 - (row + 1)) = omega (arith, h) in ap (numbers_from row) e

pub numbers_pushed : (old new whole : List ℕ) (row last : ℕ) → row ≤ last → new ≡ old ++ row ∷ [] → old ++ numbers_from row (last + 1 - row) ≡ whole → new ++ numbers_from (row + 1) (last + 1 - (row + 1)) ≡ whole
numbers_pushed old new whole row last h pushed is =
    ap (λ rows. rows ++ numbers_from (row + 1) (last + 1 - (row + 1))) pushed ∙ append_assoc old (row ∷ []) (numbers_from (row + 1) (last + 1 - (row + 1))) ∙ ap (λ rows. old ++ rows) (sym (numbers_more row last h)) ∙ is
