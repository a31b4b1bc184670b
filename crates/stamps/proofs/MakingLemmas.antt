-- What the constructors of texts, write sets and records answer, and what these are made of.
use Rattle.std.proofs.Common.{◌≡◌, ℕ, zero, suc, ◌<◌, Bool, true, false, ◌&&◌, ◌||◌, cond, leb, ltb, List, [], ◌∷◌, length, get_or, Option, Some, None, refl, sym, ap, subst, ◌∙◌, arith}
use Rattle.std.specs.Prelude.{bytes_eq, Contains, IsSome, IfSome, ◌↔◌}
use Rattle.std.specs.List.{list_all, list_any}
use Rattle.std.specs.Ordering.{is_lt}
use Rattle.std.specs.declared.cmp.Ordering.TheVariants.{Less, Equal, Greater}
use Rattle.std.proofs.lemmas.Bool.{and_parts, and_from, leb-true, le-leb, ltb-true, lt-ltb, false≢true}
use Rattle.std.proofs.lemmas.Option.{cond_some}
use Rattle.std.proofs.lemmas.Slice.Eq.{bytes_eq-Decides}
use Rattle.stamps.specs.Text.{IsText}
use Rattle.stamps.specs.Key.{key_cmp, IsKeyBelow, IsAscending}
use Rattle.stamps.specs.Limits.{max_keys}
use Rattle.stamps.specs.WriteSet.{IsWriteSet}
use Rattle.stamps.specs.Record.{Record}
use Rattle.stamps.specs.Making.{text_from, is_ascending, writes_from, record_from}
use Rattle.stamps.proofs.KeyLemmas.{IsKeyBelow-trans}

-- ---- texts of an alphabet

pub text_from-is : (allowed : ℕ → Bool) (least most : ℕ) (text : List ℕ) → IsText allowed least most text → text_from allowed least most text ≡ Some text
unfolding text_from
text_from-is allowed least most text h =
    let all : list_all allowed text ≡ true = h.all_allowed in
    rw (le-leb least (length text) h.at_least, le-leb (length text) most h.at_most, all) refl

pub text_from-found : (allowed : ℕ → Bool) (least most : ℕ) (text a : List ℕ) → text_from allowed least most text ≡ Some a → IsText allowed least most a × (text ≡ a)
unfolding text_from
text_from-found allowed least most text a e =
    let g = cond_some (leb least (length text) && leb (length text) most && list_all allowed text) text a e in
    let p = and_parts (leb least (length text) && leb (length text) most) (list_all allowed text) g.0 in
    let q = and_parts (leb least (length text)) (leb (length text) most) p.0 in
    subst (λ (b : List ℕ). IsText allowed least most b × (text ≡ b)) g.1
    (record { at_least = leb-true least (length text) q.0; at_most = leb-true (length text) most q.1; all_allowed = p.1 }, refl)

-- what the constructors of keys, tags and values answer
pub text_from-read : (allowed : ℕ → Bool) (least most : ℕ) (text : List ℕ) (r : Option (List ℕ)) → (IsSome r ↔ IsText allowed least most text) → IfSome r (λ a. a ≡ text) → r ≡ text_from allowed least most text
text_from-read allowed least most text (Some a) exact value = ap Some value ∙ sym (text_from-is allowed least most text (exact.0 refl))
text_from-read allowed least most text None exact value = none (text_from allowed least most text)
    (λ a e. let t = text_from-found allowed least most text a e in false≢true (exact.1 (subst (IsText allowed least most) (sym t.1) t.0)))
  where
    none : (o : Option (List ℕ)) → ((a : List ℕ) → o ≡ Some a → ⊥) → None ≡ o
    none None f = refl
    none (Some a) f = absurd (f a refl)

-- ---- keys in byte order, as a test on neighbours

below_from : (j k : List ℕ) → is_lt (key_cmp j k) ≡ true → IsKeyBelow j k
below_from j k test =
    let less_only = elim (key_cmp j k) as (λ r. is_lt r ≡ true → r ≡ Less) [ Less ↦ λ _. refl | Equal ↦ λ e. cc | Greater ↦ λ e. cc ] in
    record { less = less_only test }

-- a key below the first of those that ascend is below each
below_all : (j k : List ℕ) (keys : List (List ℕ)) → IsKeyBelow j k → IsAscending (k ∷ keys) → (i : ℕ) (d : List ℕ) → i < length (k ∷ keys) → IsKeyBelow j (get_or (k ∷ keys) i d)
below_all j k keys first ascending zero d lt = first
below_all j k keys first ascending (suc i) d lt = IsKeyBelow-trans j k (get_or keys i d) first (ascending 0 (suc i) d (omega arith) lt)

pub ascending_from : (keys : List (List ℕ)) → is_ascending keys ≡ true → IsAscending keys
ascending_from [] h i j d before within = absurd (omega arith)
ascending_from (key ∷ []) h i j d before within = absurd (omega arith)
ascending_from (j ∷ k ∷ keys) h a b d before within =
    let p = and_parts (is_lt (key_cmp j k)) (is_ascending (k ∷ keys)) h in
    go a b before within (below_from j k p.0) (ascending_from (k ∷ keys) p.1)
  where
    go : (a b : ℕ) → a < b → b < length (j ∷ k ∷ keys) → IsKeyBelow j k → IsAscending (k ∷ keys) → IsKeyBelow (get_or (j ∷ k ∷ keys) a d) (get_or (j ∷ k ∷ keys) b d)
    go zero zero before within first rest = absurd (omega arith)
    go zero (suc b) before within first rest = below_all j k keys first rest b d (omega arith)
    go (suc a) zero before within first rest = absurd (omega arith)
    go (suc a) (suc b) before within first rest = rest a b d (omega arith) (omega arith)

pub ascending_to : (keys : List (List ℕ)) → IsAscending keys → is_ascending keys ≡ true
ascending_to [] h = refl
ascending_to (key ∷ []) h = refl
ascending_to (j ∷ k ∷ keys) h =
    and_from (is_lt (key_cmp j k)) (is_ascending (k ∷ keys)) (ap is_lt (h 0 1 [] (omega arith) (omega arith)).less)
    (ascending_to (k ∷ keys) (λ a b d before within. h (suc a) (suc b) d (omega arith) (omega arith)))

-- what the constructor of write sets answers
pub writes_from-read : (keys : List (List ℕ)) (r : Option (List (List ℕ))) → 0 < length keys → (IsSome r ↔ IsWriteSet keys) → IfSome r (λ w. w ≡ keys) → r ≡ writes_from keys
unfolding writes_from
writes_from-read keys (Some w) some exact is =
    let h = exact.0 refl in rw (le-leb (length keys) max_keys h.at_most, ascending_to keys h.ascending) (ap (λ (x : List (List ℕ)). Some x) is)
writes_from-read keys None some exact is = go (leb (length keys) max_keys && is_ascending keys) refl
  where
    go : (b : Bool) → (leb (length keys) max_keys && is_ascending keys) ≡ b → None ≡ cond b (Some keys) None
    go true e =
        let t = and_parts (leb (length keys) max_keys) (is_ascending keys) e in
        absurd (false≢true (exact.1 (record { not_empty = some; at_most = leb-true (length keys) max_keys t.0; ascending = ascending_from keys t.1 })))
    go false e = refl

-- ---- records

-- the test that a key is in the set
pub member_from : (key : List ℕ) (keys : List (List ℕ)) → list_any (bytes_eq key) keys ≡ true → Contains keys key
member_from key [] h = absurd (false≢true h)
member_from key (k ∷ keys) h = go (bytes_eq key k) ((bytes_eq-Decides key k).0) h (member_from key keys)
  where
    go : (b : Bool) → (b ≡ true → key ≡ k) → (b || list_any (bytes_eq key) keys) ≡ true → (list_any (bytes_eq key) keys ≡ true → Contains keys key) → Contains (k ∷ keys) key
    go true same h later = (0, omega arith, sym (same refl))
    go false same h later = let m = later h in (suc m.0, (let lt = m.1 in omega arith), m.2)

or_true : (b : Bool) → (b || true) ≡ true
or_true true = refl
or_true false = refl

member_at : (key : List ℕ) (keys : List (List ℕ)) (i : ℕ) → i < length keys → get_or keys i key ≡ key → list_any (bytes_eq key) keys ≡ true
member_at key [] i lt is = absurd (omega arith)
member_at key (k ∷ keys) zero lt is = rw ((bytes_eq-Decides key k).1 (sym is)) refl
member_at key (k ∷ keys) (suc i) lt is = rw (member_at key keys i (omega arith) is) (or_true (bytes_eq key k))

pub member_to : (key : List ℕ) (keys : List (List ℕ)) → Contains keys key → list_any (bytes_eq key) keys ≡ true
member_to key keys h = member_at key keys h.0 h.1 h.2

-- what the constructor of records answers
pub record_from-read : (key tag value : List ℕ) (stamp : ℕ) (writes : List (List ℕ)) (r : Option Record) → (IsSome r ↔ (0 < stamp) × Contains writes key)
    → IfSome r (λ x. x ≡ record { key = key; tag = tag; value = value; stamp = stamp; writes = writes }) → r ≡ record_from key tag value stamp writes
record_from-read key tag value stamp writes (Some x) exact is =
    let h = exact.0 refl in rw (lt-ltb 0 stamp h.0, member_to key writes h.1) (ap Some is)
record_from-read key tag value stamp writes None exact is = go (ltb 0 stamp && list_any (bytes_eq key) writes) refl
  where
    made : Record
    made = record { key = key; tag = tag; value = value; stamp = stamp; writes = writes }

    go : (b : Bool) → (ltb 0 stamp && list_any (bytes_eq key) writes) ≡ b → None ≡ cond b (Some made) None
    go true e = let t = and_parts (ltb 0 stamp) (list_any (bytes_eq key) writes) e in absurd (false≢true (exact.1 (ltb-true 0 stamp t.0, member_from key writes t.1)))
    go false e = refl
