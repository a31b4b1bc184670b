use Rattle.std.proofs.Common.{◌≡◌, ◌<◌, ℕ, List, length, length-take-le, take, get_or, arith, sym, ◌∙◌, ap, inl, inr}
use Rattle.std.specs.Prelude.{Contains}
use Rattle.std.proofs.lemmas.Bool.{both_ways, cases_lt}
use Rattle.std.proofs.lemmas.List.{get_or-take, get_or_default}
use Rattle.stamps.proofs.write_set.are_apart.Goals as goal

-- one that stands among the first of these keys stands at a place below
below : (keys : List (List ℕ)) (i : ℕ) (key : List ℕ) → i < length keys → Contains (take i keys) key → (k : ℕ) × (k < i) × (get_or keys k key ≡ key)
below keys i key within among =
    let less : among.0 < i = omega (arith, among.1, length-take-le i keys (omega (arith, within))) in
    (among.0, less, sym (get_or-take i keys among.0 key less) ∙ among.2)

among_from : (keys : List (List ℕ)) (i a : ℕ) (key d : List ℕ) → i < length keys → a < i → get_or keys a d ≡ key → Contains (take i keys) key
among_from keys i a key d within less is = (
  a,
  omega (arith, less, length-take-le i keys (omega (arith, within))),
  get_or-take i keys a key less ∙ get_or_default keys a key d (omega (arith, less, within)) ∙ is,
)

pub returns-then-is_among : goal.returns-then-is_among
returns-then-is_among c =
    let keys = c.args.keys.now in
    let i = c.loop-i.i in
    let key = c.index-keys-i.result in
    let found = below keys i key c.loop-i-test.true (c.is_among.ensures.member.0 c.if-is_among.true) in (
      λ yes. cc,
      λ apart. absurd (apart found.0 i key found.1 c.loop-i-test.true (found.2 ∙ c.index-keys-i.is)),
    )

pub loop-i-preserved : goal.loop-i-preserved
loop-i-preserved c =
    let keys = c.args.keys.now in
    let i = c.loop-i.i in
    let key = c.index-keys-i.result in
    λ a b d before within. λ same. elim (cases_lt b i) [
      | inl inside ↦ c.loop-i.invariant a b d before inside same
      | inr at_end ↦
          let here : b ≡ i = omega arith in
          let less : a < i = omega arith in
          let is : get_or keys a d ≡ key = same ∙ ap (λ n. get_or keys n d) here ∙ get_or_default keys i d key c.loop-i-test.true ∙ sym c.index-keys-i.is in
          absurd (both_ways c.is_among.result c.if-is_among.false (c.is_among.ensures.member.1 (among_from keys i a key d c.loop-i-test.true less is)))
    ]
