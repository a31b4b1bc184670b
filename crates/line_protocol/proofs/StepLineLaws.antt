-- What is read is spelled so, and what is spelled so is read: for whole step lines.
use Rattle.std.proofs.Common.{◌≡◌, ℕ, List, ◌∷◌, ◌++◌, Option, Some, None, Result, Ok, Err, refl, sym, ap, subst, ◌∙◌, arith, inl, inr, ◌⊎◌}
use Rattle.std.specs.Prelude.{IfOk, IfErr}
use Rattle.std.proofs.lemmas.Bool.{cases_order}
use Rattle.std.proofs.lemmas.Option.{same_Some, none-some}
use Rattle.stamps.specs.Limits.{max_name_len}
use Rattle.stamps.specs.declared.record.Item.{Item}
use Rattle.plain_store.specs.declared.refusal.Refusal.{Refusal}
use Rattle.plain_store.specs.declared.refusal.Refusal.TheVariants.{NoTenant, BadLine, OutOfMemory}
use Rattle.plain_store.specs.declared.step.Act.{Act}
use Rattle.plain_store.specs.declared.step.Act.TheVariants.{Put, Get}
use Rattle.plain_store.specs.declared.step.Step.{Step}
use Rattle.line_protocol.specs.Reading.{◌>>=◌, split_first, key_at, part_at, parts_in, each_at}
use Rattle.line_protocol.specs.StepSpelling.{is_tenant_byte, IsNumberOf, IsNobody, IsStepLine, AsksFor, AsksStranger, AsksNothing, HasList, Refuses}
use Rattle.line_protocol.specs.StepReading.{client_at, item_at, put_at, get_at, act_at, name_at, step_at, FindsAct}
use Rattle.line_protocol.proofs.Splits.{bind_some, split_first-joined, split_first-parts}
use Rattle.line_protocol.proofs.Laws.{Lacks-allowed, text_reader}
use Rattle.line_protocol.proofs.ActLaws.{act_found, act_again}

abbrev IsAsked : List ℕ → List ℕ × Act → Type 0
IsAsked line asked = IsStepLine asked.0 asked.1 line

-- what was made is what was found
step_made : (line : List ℕ) (made found : List ℕ × Act) → Some made ≡ Some found → IsAsked line made → IsAsked line found
step_made line made found same = subst (IsAsked line) (same_Some made found same)

step_found : (line name : List ℕ) (act : Act) → step_at line ≡ Some (name, act) → IsStepLine name act line
unfolding step_at
step_found line name act e =
    let p = bind_some (split_first 32 line) (λ p. name_at p.0 >>= λ name. act_at p.1 >>= λ act. Some (name, act)) (name, act) e in
    let n = bind_some (name_at p.0.0) (λ name. act_at p.0.1 >>= λ act. Some (name, act)) (name, act) p.2 in
    let a = bind_some (act_at p.0.1) (λ act. Some (n.0, act)) (name, act) n.2 in
    let named = (text_reader is_tenant_byte 1 max_name_len).found p.0.0 n.0 n.1 in
    let asked = act_found p.0.1 a.0 a.1 in
    step_made line (n.0, a.0) (name, act) a.2
    (record { named = named.0; in_range = asked.0; spelled = (p.0.1, (split_first-parts 32 line p.0.0 p.0.1 p.1).parts ∙ ap (λ (t : List ℕ). t ++ 32 ∷ p.0.1) named.1, asked.1) })

step_again : (line name : List ℕ) (act : Act) → IsStepLine name act line → step_at line ≡ Some (name, act)
unfolding step_at
step_again line name act h =
    let text = h.spelled.0 in
    rw (
      h.spelled.1,
      split_first-joined 32 name text (Lacks-allowed is_tenant_byte 32 refl name h.named.all_allowed),
      (text_reader is_tenant_byte 1 max_name_len).again name h.named,
      act_again text act h.in_range h.spelled.2,
    ) refl

-- ---- the lists of a put and of a get

pub put_lists : (words front : List ℕ) (rest : Option (List ℕ)) (client : ℕ) (first : Item) (more : List Item) → (front, rest) ≡ part_at 32 words → Some client ≡ client_at front
    → each_at item_at (parts_in 32 rest) ≡ Some (first ∷ more) → (act : Act) × (put_at words ≡ Some act) × HasList act
unfolding put_at
put_lists words front rest client first more parts c e = (Put client (first ∷ more), rw (← parts, ← c, e) refl, omega arith)

pub get_lists : (words front : List ℕ) (rest : Option (List ℕ)) (client : ℕ) (first : List ℕ) (more : List (List ℕ)) → (front, rest) ≡ part_at 32 words → Some client ≡ client_at front
    → each_at key_at (parts_in 32 rest) ≡ Some (first ∷ more) → (act : Act) × (get_at words ≡ Some act) × HasList act
unfolding get_at
get_lists words front rest client first more parts c e = (Get client (first ∷ more), rw (← parts, ← c, e) refl, omega arith)

-- ---- the answers to a line

-- what the clauses of `read_step_line` say
pub record IsAnswer (names : List (List ℕ)) (line : List ℕ) (result : Result Step Refusal) : Type 0 where
  pub found : IfOk result (λ step. AsksFor names line step.tenant step.act)
  pub only : (number : ℕ) (act : Act) → AsksFor names line number act → (result ≡ Ok (record { tenant = number; act = act })) ⊎ ((result ≡ Err OutOfMemory) × HasList act)
  pub error : IfErr result (Refuses names line)
  pub no_tenant : AsksStranger names line → result ≡ Err NoTenant
  pub bad_line : AsksNothing line → result ≡ Err BadLine

-- the name and the act of a line are given by it
same_step : (line name other : List ℕ) (act more : Act) → step_at line ≡ Some (name, act) → IsStepLine other more line → (name ≡ other) × (act ≡ more)
same_step line name other act more e h =
    let same = same_Some (name, act) (other, more) (sym e ∙ step_again line other more h) in
    (ap (λ (p : List ℕ × Act). p.0) same, ap (λ (p : List ℕ × Act). p.1) same)

same_number : (names : List (List ℕ)) (name : List ℕ) (n m : ℕ) → IsNumberOf names name n → IsNumberOf names name m → n ≡ m
same_number names name n m h k =
    elim (cases_order n m) [
      | inl e ↦ e
      | inr (inl lt) ↦ absurd (k.first n lt h.there)
      | inr (inr lt) ↦ absurd (h.first m lt k.there)
    ]

pub answers_bad : (names : List (List ℕ)) (line : List ℕ) → step_at line ≡ None → IsAnswer names line (Err BadLine)
answers_bad names line e = record {
  found = tt;
  only = λ number act asks. absurd (none-some (asks.0, act) (sym e ∙ step_again line asks.0 act asks.2));
  error = λ name act asks. none-some (name, act) (sym e ∙ step_again line name act asks);
  no_tenant = λ asks. absurd (none-some (asks.0, asks.1) (sym e ∙ step_again line asks.0 asks.1 asks.3));
  bad_line = λ none. refl;
}

pub answers_stranger : (names : List (List ℕ)) (line name : List ℕ) (act : Act) → step_at line ≡ Some (name, act) → IsNobody names name → IsAnswer names line (Err NoTenant)
answers_stranger names line name act e unknown = record {
  found = tt;
  only = λ number more asks. absurd (unknown number (subst (λ (n : List ℕ). IsNumberOf names n number) (sym (same_step line name asks.0 act more e asks.2).0) asks.1));
  error = (name, act, unknown, step_found line name act e);
  no_tenant = λ asks. refl;
  bad_line = λ none. absurd (none name act (step_found line name act e));
}

known : (names : List (List ℕ)) (line name : List ℕ) (number : ℕ) (act : Act) → step_at line ≡ Some (name, act) → IsNumberOf names name number → AsksStranger names line → ⊥
known names line name number act e is asks = asks.2 number (subst (λ (n : List ℕ). IsNumberOf names n number) (same_step line name asks.0 act asks.1 e asks.3).0 is)

-- the tenant's number and the act are given by the line
same_asked : (names : List (List ℕ)) (line name : List ℕ) (number other : ℕ) (act more : Act) → step_at line ≡ Some (name, act) → IsNumberOf names name number → AsksFor names line other more → (number ≡ other) × (act ≡ more)
same_asked names line name number other act more e is asks =
    let same = same_step line name asks.0 act more e asks.2 in
    (same_number names name number other is (subst (λ (n : List ℕ). IsNumberOf names n other) (sym same.0) asks.1), same.1)

abbrev step_of : ℕ → Act → Result Step Refusal
step_of number act = Ok (record { tenant = number; act = act })

made : (number other : ℕ) (act more : Act) → number ≡ other → act ≡ more → step_of number act ≡ step_of other more
made number other act more n a = ap (λ (m : ℕ). step_of m act) n ∙ ap (λ (b : Act). step_of other b) a

pub answers_step : (names : List (List ℕ)) (line name : List ℕ) (number : ℕ) (act : Act) → step_at line ≡ Some (name, act) → IsNumberOf names name number → IsAnswer names line (Ok (record { tenant = number; act = act }))
answers_step names line name number act e is = record {
  found = (name, is, step_found line name act e);
  only = λ other more asks. let same = same_asked names line name number other act more e is asks in inl (made number other act more same.0 same.1);
  error = tt;
  no_tenant = λ asks. absurd (known names line name number act e is asks);
  bad_line = λ none. absurd (none name act (step_found line name act e));
}

pub answers_memory : (names : List (List ℕ)) (line name : List ℕ) (number : ℕ) (act : Act) → step_at line ≡ Some (name, act) → IsNumberOf names name number → HasList act → IsAnswer names line (Err OutOfMemory)
answers_memory names line name number act e is list = record {
  found = tt;
  only = λ other more asks. inr (refl, subst HasList (same_asked names line name number other act more e is asks).1 list);
  error = (number, act, (name, is, step_found line name act e), list);
  no_tenant = λ asks. absurd (known names line name number act e is asks);
  bad_line = λ none. absurd (none name act (step_found line name act e));
}

-- ---- what `read_step_line` finds, part by part

pub no_space : (line : List ℕ) → split_first 32 line ≡ None → step_at line ≡ None
unfolding step_at
no_space line e = rw e refl

pub no_name : (line front back : List ℕ) → Some (front, back) ≡ split_first 32 line → name_at front ≡ None → step_at line ≡ None
unfolding step_at
no_name line front back parts e = rw (← parts, e) refl

pub no_act : (line front back name : List ℕ) → Some (front, back) ≡ split_first 32 line → Some name ≡ name_at front → act_at back ≡ None → step_at line ≡ None
unfolding step_at
no_act line front back name parts n e = rw (← parts, ← n, e) refl

pub named_act : (line front back name : List ℕ) (act : Act) → Some (front, back) ≡ split_first 32 line → Some name ≡ name_at front → act_at back ≡ Some act → step_at line ≡ Some (name, act)
unfolding step_at
named_act line front back name act parts n e = rw (← parts, ← n, e) refl

-- an act was found, though there may have been no memory for it
pub found_act : {E : Type 0} (found : Option Act) (r : Result Act E) → FindsAct found (Some r) → (act : Act) × (found ≡ Some act)
found_act found (Ok act) h = (act, h)
found_act found (Err e) h = (h.0, h.1)
