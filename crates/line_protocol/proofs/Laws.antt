-- What is read is spelled so, and what is spelled so is read: for the parts of a line.
use Rattle.std.proofs.Common.{◌≡◌, ℕ, ◌-◌, ◌^◌, ◌<◌, ◌≤◌, Bool, true, false, ◌&&◌, cond, eqb, ltb, List, [], ◌∷◌, ◌++◌, length, Option, Some, None, refl, sym, ap, subst, ◌∙◌, arith, inl, inr}
use Rattle.std.specs.Prelude.{decimal, bytes_eq, map}
use Rattle.std.specs.List.{list_all, AllByRecursion}
use Rattle.std.proofs.lemmas.Bool.{and_parts, and_from, and_left, eqb-true, ne_eqb, le-leb, lt-leb, ltb-true, lt-ltb, cases_lt, false≢true}
use Rattle.std.proofs.lemmas.Option.{cond_some, same_Some}
use Rattle.std.proofs.lemmas.Fmt.{digits_decimal}
use Rattle.std.proofs.lemmas.Slice.Eq.{bytes_eq-Decides}
use Rattle.stamps.specs.Limits.{max_tag_len, max_counter}
use Rattle.stamps.specs.Text.{IsText, is_between, is_name_byte}
use Rattle.stamps.specs.Tag.{IsTag}
use Rattle.stamps.specs.Stamp.{stamp, counter_of, client_of, IsStamp}
use Rattle.stamps.specs.StampLaws.{counter_of-stamp, client_of-stamp}
use Rattle.line_protocol.specs.Spelling.{stamp_text, same_text}
use Rattle.stamps.specs.Making.{text_from}
use Rattle.stamps.proofs.MakingLemmas.{text_from-is, text_from-found}
use Rattle.line_protocol.specs.Reading.{◌>>=◌, split_first, number_at, stamp_from, stamp_at, tag_at, each_at}
use Rattle.line_protocol.proofs.Splits.{Lacks, bind_some, chosen, split_first-joined, split_first-parts}
use Rattle.line_protocol.proofs.Numbers.{own, number_found, number_again}

-- a reader reads what is spelled, and nothing else
pub record IsReader {A : Type 0} (text_of : A → List ℕ) (Is : A → Type 0) (read : List ℕ → Option A) : Type 0 where
  pub found : (text : List ℕ) (a : A) → read text ≡ Some a → Is a × (text ≡ text_of a)
  pub again : (a : A) → Is a → read (text_of a) ≡ Some a

-- ---- which bytes a text lacks

pub Lacks-allowed : (allowed : ℕ → Bool) (byte : ℕ) → allowed byte ≡ false → (text : List ℕ) → list_all allowed text ≡ true → Lacks byte text
Lacks-allowed allowed byte not [] h = tt
Lacks-allowed allowed byte not (x ∷ xs) h =
    let p = and_parts (allowed x) (list_all allowed xs) h in
    (unequal (eqb x byte) (λ e. false≢true (sym not ∙ ap allowed (sym (eqb-true x byte e)) ∙ p.0)), Lacks-allowed allowed byte not xs p.1)
  where
    unequal : (b : Bool) → (b ≡ true → ⊥) → b ≡ false
    unequal true f = absurd (f refl)
    unequal false f = refl

pub Lacks-decimal : (byte n : ℕ) → is_between 48 57 byte ≡ false → n < 2 ^ 64 → Lacks byte (decimal n)
Lacks-decimal byte n not lt = Lacks-allowed (is_between 48 57) byte not (decimal n) (digits_decimal own n lt)

-- ---- texts of an alphabet

pub text_reader : (allowed : ℕ → Bool) (least most : ℕ) → IsReader same_text (IsText allowed least most) (text_from allowed least most)
text_reader allowed least most = record {
  found = λ text a e. text_from-found allowed least most text a e;
  again = λ a h. text_from-is allowed least most a h;
}

-- a text of at least one byte
pub text_from-some : (allowed : ℕ → Bool) (most : ℕ) (text : List ℕ) → 0 < length text → text_from allowed 0 most text ≡ text_from allowed 1 most text
unfolding text_from
text_from-some allowed most text h = rw (le-leb 0 (length text) (omega arith), le-leb 1 (length text) h) refl

pub text_from-none : (allowed : ℕ → Bool) (most : ℕ) (text : List ℕ) → length text ≡ 0 → text_from allowed 1 most text ≡ None
unfolding text_from
text_from-none allowed most text h = rw (lt-leb 1 (length text) (omega arith)) refl

-- a tag that is written has a byte at least
pub written_tag : (tag : List ℕ) → IsText is_name_byte 1 max_tag_len tag → IsTag tag × (0 < length tag)
written_tag tag h = let some = h.at_least in (record { at_least = omega arith; at_most = h.at_most; all_allowed = h.all_allowed }, omega arith)

pub tag_again : (tag : List ℕ) → IsTag tag × (0 < length tag) → tag_at tag ≡ Some tag
tag_again tag h = text_from-is is_name_byte 1 max_tag_len tag (record { at_least = h.1; at_most = h.0.at_most; all_allowed = h.0.all_allowed })

-- ---- lists of parts

pub each_found : {A : Type 0} (text_of : A → List ℕ) (Is : A → Type 0) (at : List ℕ → Option A) → IsReader text_of Is at → (parts : List (List ℕ)) (all : List A) → each_at at parts ≡ Some all → AllByRecursion Is all × (parts ≡ map text_of all)
unfolding each_at
each_found {A} text_of Is at reader [] all e = subst (λ (xs : List A). AllByRecursion Is xs × ([] ≡ map text_of xs)) (same_Some [] all e) (tt, refl)
each_found {A} text_of Is at reader (part ∷ parts) all e =
    let a = bind_some (at part) (λ a. each_at at parts >>= λ more. Some (a ∷ more)) all e in
    let more = bind_some (each_at at parts) (λ more. Some (a.0 ∷ more)) all a.2 in
    let first = reader.found part a.0 a.1 in
    let rest = each_found text_of Is at reader parts more.0 more.1 in
    subst (λ (xs : List A). AllByRecursion Is xs × (part ∷ parts ≡ map text_of xs)) (same_Some (a.0 ∷ more.0) all more.2)
    ((first.0, rest.0), ap (λ (w : List ℕ). w ∷ parts) first.1 ∙ ap (λ (ws : List (List ℕ)). text_of a.0 ∷ ws) rest.1)

pub each_again : {A : Type 0} (text_of : A → List ℕ) (Is : A → Type 0) (at : List ℕ → Option A) → IsReader text_of Is at → (all : List A) → AllByRecursion Is all → each_at at (map text_of all) ≡ Some all
unfolding each_at
each_again text_of Is at reader [] h = refl
each_again text_of Is at reader (a ∷ all) h = rw (reader.again a h.0, each_again text_of Is at reader all h.1) refl

-- ---- commands

-- a test that some value did not meet
pub not_chosen : {A : Type 0} (b : Bool) (o : Option A) (y : A) → cond b None o ≡ Some y → (b ≡ false) × (o ≡ Some y)
not_chosen true o y e = absurd cc
not_chosen false o y e = (refl, e)

-- one command or another
pub either_command : {A : Type 0} (IsAsked : List ℕ → Type 0) (command name : List ℕ) (asked other : Option A) (a : A) → (asked ≡ Some a → IsAsked name) → (other ≡ Some a → IsAsked command)
    → cond (bytes_eq command name) asked other ≡ Some a → IsAsked command
either_command {A} IsAsked command name asked other a h k e = go (bytes_eq command name) ((bytes_eq-Decides command name).0) e
  where
    go : (b : Bool) → (b ≡ true → command ≡ name) → cond b asked other ≡ Some a → IsAsked command
    go true same e = subst IsAsked (sym (same refl)) (h e)
    go false same e = k e

-- ---- stamps

zero_stamp : IsStamp 0
zero_stamp = record { small = omega arith; whole = λ h. absurd (omega arith) }

made_stamp : (counter client : ℕ) → counter ≤ max_counter → client < 2 ^ 16 → 0 < counter → 0 < client → IsStamp (stamp counter client)
made_stamp counter client small narrow c k = record {
  small = rw (counter_of-stamp counter client narrow) small;
  whole = λ h. rw (counter_of-stamp counter client narrow, client_of-stamp counter client narrow) (c, k);
}

pub stamp_from-found : (counter client s : ℕ) → counter ≤ max_counter → client < 2 ^ 16 → stamp_from counter client ≡ Some s → IsStamp s × (stamp counter client ≡ s)
stamp_from-found counter client s small narrow e =
    elim (chosen (eqb counter 0 && eqb client 0) 0 (cond (ltb 0 counter && ltb 0 client) (Some (stamp counter client)) None) s e) [
      | inl h ↦
          let p = and_parts (eqb counter 0) (eqb client 0) h.0 in
          let c = eqb-true counter 0 p.0 in
          let k = eqb-true client 0 p.1 in
          (subst IsStamp h.1 zero_stamp, rw (c, k) h.1)
      | inr h ↦
          let g = cond_some (ltb 0 counter && ltb 0 client) (stamp counter client) s h.1 in
          let p = and_parts (ltb 0 counter) (ltb 0 client) g.0 in
          (subst IsStamp g.1 (made_stamp counter client small narrow (ltb-true 0 counter p.0) (ltb-true 0 client p.1)), g.1)
    ]

pub stamp_from-again : (s : ℕ) → IsStamp s → stamp_from (counter_of s) (client_of s) ≡ Some s
stamp_from-again s h =
    elim (cases_lt 0 s) [
      | inl above ↦
          let w = h.whole above in
          let c : (eqb (counter_of s) 0 && eqb (client_of s) 0) ≡ false = and_left (eqb (counter_of s) 0) (eqb (client_of s) 0) (ne_eqb (counter_of s) 0 (λ e. omega (arith, w.0, e))) in
          let d : (ltb 0 (counter_of s) && ltb 0 (client_of s)) ≡ true = and_from (ltb 0 (counter_of s)) (ltb 0 (client_of s)) (lt-ltb 0 (counter_of s) w.0) (lt-ltb 0 (client_of s) w.1) in
          let same : stamp (counter_of s) (client_of s) ≡ s = omega arith in
          rw (c, d) (ap Some same)
      | inr le ↦ let z : s ≡ 0 = omega arith in rw z refl
    ]

-- what stands round a dot is the text of a stamp
stamp_spelled : (text front back : List ℕ) (counter client s : ℕ) → text ≡ front ++ 46 ∷ back → front ≡ decimal counter → back ≡ decimal client → client < 2 ^ 16 → stamp counter client ≡ s → text ≡ stamp_text s
stamp_spelled text front back counter client s parts c k narrow same =
    subst (λ (n : ℕ). text ≡ stamp_text n) same (rw (counter_of-stamp counter client narrow, client_of-stamp counter client narrow, ← c, ← k) parts)

stamp_found : (text : List ℕ) (s : ℕ) → stamp_at text ≡ Some s → IsStamp s × (text ≡ stamp_text s)
unfolding stamp_at
stamp_found text s e =
    let p = bind_some (split_first 46 text) (λ p. number_at max_counter p.0 >>= λ counter. number_at (2 ^ 16 - 1) p.1 >>= λ client. stamp_from counter client) s e in
    let c = bind_some (number_at max_counter p.0.0) (λ counter. number_at (2 ^ 16 - 1) p.0.1 >>= λ client. stamp_from counter client) s p.2 in
    let k = bind_some (number_at (2 ^ 16 - 1) p.0.1) (λ client. stamp_from c.0 client) s c.2 in
    let parted = split_first-parts 46 text p.0.0 p.0.1 p.1 in
    let counter = number_found max_counter p.0.0 c.0 (omega arith) c.1 in
    let client = number_found (2 ^ 16 - 1) p.0.1 k.0 (omega arith) k.1 in
    let made = stamp_from-found c.0 k.0 s (omega (arith, counter.0)) (omega (arith, client.0)) k.2 in (
      made.0,
      stamp_spelled text p.0.0 p.0.1 c.0 k.0 s parted.parts counter.1 client.1 (omega (arith, client.0)) made.1,
    )

stamp_again : (s : ℕ) → IsStamp s → stamp_at (stamp_text s) ≡ Some s
unfolding stamp_at
stamp_again s h =
    let small = h.small in
    let narrow : client_of s < 65536 = omega arith in
    rw (
      split_first-joined 46 (decimal (counter_of s)) (decimal (client_of s)) (Lacks-decimal 46 (counter_of s) refl (omega arith)),
      number_again max_counter (counter_of s) (omega arith) (omega arith),
      number_again (2 ^ 16 - 1) (client_of s) (omega arith) (omega arith),
    )
    (stamp_from-again s h)

pub stamp_reader : IsReader stamp_text IsStamp stamp_at
stamp_reader = record { found = stamp_found; again = stamp_again }
