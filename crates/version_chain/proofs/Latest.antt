-- For `Chains`. The latest committed version of a chain, after a change.
use Rattle.std.proofs.Common.{◌≡◌, ◌≢◌, inl, inr, ℕ, ◌≤◌, ◌&&◌, Bool, true, false, cond, nat_lt, List, [], ◌∷◌, ◌++◌, length, Option, Some, None, refl, sym, ap, subst, ◌∙◌, arith}
use Rattle.std.specs.Prelude.{slice_get}
use Rattle.std.proofs.lemmas.Bool.{cases_Bool, lt-ltb, le-ltb, ltb-true, eq-eqb, eqb-true}
use Rattle.stamps.specs.Record.{Record}
use Rattle.version_arena.specs.Arena.{entry}
use Rattle.version_chain.specs.Node.{Node}
use Rattle.version_chain.specs.declared.version.Version.{Version}
use Rattle.version_chain.specs.Heads.{Heads, latest_slot}
use Rattle.version_chain.specs.Chain.{Cells, FallsBelow, Falls, KeepsLatest, committed_records}
use Rattle.version_chain.specs.Place.{is_past, is_at}
use Rattle.version_chain.proofs.Committed.{committed-skip, committed-take}
use Rattle.version_chain.proofs.Falling.{EachAbove, Falls-before, Falls-after}

-- ---- the first committed record

abbrev pub first_committed : List Version → Option Record
first_committed versions = slice_get (committed_records versions) 0

pub first_unmarked : (v : Version) (rest : List Version) → v.committed ≡ false → first_committed (v ∷ rest) ≡ first_committed rest
first_unmarked v rest no_mark = ap (λ records. slice_get records 0) (committed-skip v rest no_mark)

pub first_here : (v : Version) (rest : List Version) → v.committed ≡ true → first_committed (v ∷ rest) ≡ Some v.prepared
first_here v rest is = ap (λ records. slice_get records 0) (committed-take v rest is)

first_cons : (a : Version) (xs ys : List Version) → first_committed xs ≡ first_committed ys → first_committed (a ∷ xs) ≡ first_committed (a ∷ ys)
first_cons a xs ys same = elim (cases_Bool a.committed) [
  | inl e ↦ first_here a xs e ∙ sym (first_here a ys e)
  | inr e ↦ first_unmarked a xs e ∙ same ∙ sym (first_unmarked a ys e)
]

-- those below a bound
below_past : (bound stamp : ℕ) (vs : List Version) → FallsBelow bound vs → bound ≤ stamp → is_past (first_committed vs) stamp ≡ true
below_past bound stamp [] falls less = refl
below_past bound stamp (v ∷ rest) falls less = elim (cases_Bool v.committed) [
  | inl e ↦ ap (λ r. is_past r stamp) (first_here v rest e) ∙ lt-ltb v.prepared.stamp stamp (omega (arith, falls.0))
  | inr e ↦ ap (λ r. is_past r stamp) (first_unmarked v rest e) ∙ below_past v.prepared.stamp stamp rest falls.1 (omega (arith, falls.0))
]

-- the latest, where this version is committed beside those of which this is the latest
abbrev with_this : Version → Option Record → Option Record
with_this v found = cond (is_past found v.prepared.stamp) (Some v.prepared) found

above_this : (v a : Version) → v.prepared.stamp ≤ a.prepared.stamp → with_this v (Some a.prepared) ≡ Some a.prepared
above_this v a more = ap (λ (b : Bool). cond b (Some v.prepared) (Some a.prepared)) (le-ltb a.prepared.stamp v.prepared.stamp more)

below_this : (v : Version) (below : List Version) → FallsBelow v.prepared.stamp below → with_this v (first_committed below) ≡ Some v.prepared
below_this v below falls = ap (λ (b : Bool). cond b (Some v.prepared) (first_committed below)) (below_past v.prepared.stamp v.prepared.stamp below falls (omega arith))

first_more : (above below : List Version) (v : Version) → v.committed ≡ true → EachAbove v.prepared.stamp above → FallsBelow v.prepared.stamp below → first_committed (above ++ v ∷ below) ≡ with_this v (first_committed (above ++ below))
first_more [] below v is each falls = first_here v below is ∙ sym (below_this v below falls)
first_more (a ∷ above) below v is each falls = elim (cases_Bool a.committed) [
  | inl e ↦
      first_here a (above ++ v ∷ below) e
      ∙ sym (above_this v a (omega (arith, each.0)))
      ∙ sym (ap (with_this v) (first_here a (above ++ below) e))
  | inr e ↦
      first_unmarked a (above ++ v ∷ below) e
      ∙ first_more above below v is each.1 falls
      ∙ sym (ap (with_this v) (first_unmarked a (above ++ below) e))
]

first_skip : (above below : List Version) (v : Version) → v.committed ≡ false → first_committed (above ++ v ∷ below) ≡ first_committed (above ++ below)
first_skip [] below v no_mark = first_unmarked v below no_mark
first_skip (a ∷ above) below v no_mark = first_cons a (above ++ v ∷ below) (above ++ below) (first_skip above below v no_mark)

-- where a version is marked
first_marked : (above below : List Version) (v w : Version) → w.committed ≡ true → w.prepared ≡ v.prepared → EachAbove v.prepared.stamp above → FallsBelow v.prepared.stamp below → first_committed (above ++ w ∷ below) ≡ with_this v (first_committed (above ++ v ∷ below))
first_marked [] below v w is same each falls = first_here w below is ∙ ap Some same ∙ elim (cases_Bool v.committed) [
  | inl e ↦ sym (above_this v v (omega arith)) ∙ sym (ap (with_this v) (first_here v below e))
  | inr e ↦ sym (below_this v below falls) ∙ sym (ap (with_this v) (first_unmarked v below e))
]
first_marked (a ∷ above) below v w is same each falls = elim (cases_Bool a.committed) [
  | inl e ↦
      first_here a (above ++ w ∷ below) e
      ∙ sym (above_this v a (omega (arith, each.0)))
      ∙ sym (ap (with_this v) (first_here a (above ++ v ∷ below) e))
  | inr e ↦
      first_unmarked a (above ++ w ∷ below) e
      ∙ first_marked above below v w is same each.1 falls
      ∙ sym (ap (with_this v) (first_unmarked a (above ++ v ∷ below) e))
]

same_record : (r s : Record) → Some r ≡ Some s → r ≡ s
same_record r s e = cc

true_false : (b : Bool) → b ≡ true → b ≡ false → ⊥
true_false b is none = absurd (let g : true ≡ false = sym is ∙ none in cc)

-- it is not of a stamp between them
first_apart : (above below : List Version) (stamp : ℕ) (r : Record) → EachAbove stamp above → FallsBelow stamp below → first_committed (above ++ below) ≡ Some r → r.stamp ≢ stamp
first_apart [] below stamp r each falls is = λ same.
    let past : nat_lt r.stamp stamp ≡ true = ap (λ f. is_past f stamp) (sym is) ∙ below_past stamp stamp below falls (omega arith) in
    let less = ltb-true r.stamp stamp past in
    absurd (omega (arith, less, same))
first_apart (a ∷ above) below stamp r each falls is = elim (cases_Bool a.committed) [
  | inl e ↦ λ same.
      let this = ap (λ (x : Record). x.stamp) (same_record a.prepared r (sym (first_here a (above ++ below) e) ∙ is)) in
      absurd (omega (arith, each.0, this, same))
  | inr e ↦ first_apart above below stamp r each.1 falls (sym (first_unmarked a (above ++ below) e) ∙ is)
]

-- without a version, where it was the latest committed one, and where it was not
pub first_below : (above below : List Version) (v : Version) → EachAbove v.prepared.stamp above → is_at (first_committed (above ++ v ∷ below)) v.prepared.stamp ≡ true → first_committed (above ++ below) ≡ first_committed below
first_below [] below v each at = refl
first_below (a ∷ above) below v each at = elim (cases_Bool a.committed) [
  | inl e ↦
      let same = eqb-true a.prepared.stamp v.prepared.stamp (ap (λ f. is_at f v.prepared.stamp) (sym (first_here a (above ++ v ∷ below) e)) ∙ at) in
      absurd (omega (arith, each.0, same))
  | inr e ↦ first_unmarked a (above ++ below) e ∙ first_below above below v each.1 (ap (λ f. is_at f v.prepared.stamp) (sym (first_unmarked a (above ++ v ∷ below) e)) ∙ at)
]

pub first_stays : (above below : List Version) (v : Version) → is_at (first_committed (above ++ v ∷ below)) v.prepared.stamp ≡ false → first_committed (above ++ below) ≡ first_committed (above ++ v ∷ below)
first_stays [] below v other = elim (cases_Bool v.committed) [
  | inl e ↦ absurd (true_false (is_at (first_committed (v ∷ below)) v.prepared.stamp) (ap (λ f. is_at f v.prepared.stamp) (first_here v below e) ∙ eq-eqb v.prepared.stamp v.prepared.stamp refl) other)
  | inr e ↦ sym (first_unmarked v below e)
]
first_stays (a ∷ above) below v other = elim (cases_Bool a.committed) [
  | inl e ↦ first_here a (above ++ below) e ∙ sym (first_here a (above ++ v ∷ below) e)
  | inr e ↦
      first_unmarked a (above ++ below) e
      ∙ first_stays above below v (ap (λ f. is_at f v.prepared.stamp) (sym (first_unmarked a (above ++ v ∷ below) e)) ∙ other)
      ∙ sym (first_unmarked a (above ++ v ∷ below) e)
]

-- ---- the slot that is kept

-- the cell holds a version of a chain, of this record
abbrev pub Holds : Cells → ℕ → ℕ → ℕ → Record → Type 0
Holds cells tenant chain slot found =
    (version : Version) × (next : Option ℕ) × (version.prepared ≡ found) × (entry cells slot ≡ Some (record { tenant = tenant; chain = chain; version = version }, next))

-- each cell of a chain holds its record still, but the one at `here`
abbrev pub HoldsBut : Cells → Cells → ℕ → ℕ → ℕ → Type 0
HoldsBut old new here tenant chain =
    (slot : ℕ) (version : Version) (next : Option ℕ) → slot ≢ here → entry old slot ≡ Some (record { tenant = tenant; chain = chain; version = version }, next) → Holds new tenant chain slot version.prepared

abbrev pub StillHolds : Cells → Cells → ℕ → ℕ → Type 0
StillHolds old new tenant chain =
    (slot : ℕ) (version : Version) (next : Option ℕ) → entry old slot ≡ Some (record { tenant = tenant; chain = chain; version = version }, next) → Holds new tenant chain slot version.prepared

pub keeps_as : (cells : Cells) (tenant other chain : ℕ) (vs us : List Version) (kept also : Option ℕ) → tenant ≡ other → vs ≡ us → kept ≡ also → KeepsLatest cells tenant chain vs kept → KeepsLatest cells other chain us also
keeps_as cells tenant other chain vs us kept also whose are is keeps =
    subst (λ k. KeepsLatest cells other chain us k) is (subst (λ x. KeepsLatest cells other chain x kept) are (subst (λ t. KeepsLatest cells t chain vs kept) whose keeps))

pub keeps_same : (cells : Cells) (tenant chain : ℕ) (vs us : List Version) (kept : Option ℕ) → first_committed us ≡ first_committed vs → KeepsLatest cells tenant chain vs kept → KeepsLatest cells tenant chain us kept
keeps_same cells tenant chain vs us None same keeps = same ∙ keeps
keeps_same cells tenant chain vs us (Some slot) same keeps = (keeps.0, keeps.1, keeps.2, same ∙ keeps.3)

pub keeps_held : (old new : Cells) (tenant chain : ℕ) (vs : List Version) (kept : Option ℕ) → StillHolds old new tenant chain → KeepsLatest old tenant chain vs kept → KeepsLatest new tenant chain vs kept
keeps_held old new tenant chain vs None held keeps = keeps
keeps_held old new tenant chain vs (Some slot) held keeps =
    let at = held slot keeps.0 keeps.1 keeps.2 in (at.0, at.1, at.3, keeps.3 ∙ ap Some (sym at.2))

-- the latest committed versions of the chains after a change of one of them
pub record LatestKept (old_cells new_cells : Cells) (old new : Heads) (chain : ℕ) (now : List Version) : Type 0 where
  pub long : length new.latest ≡ length old.latest
  pub here : KeepsLatest new_cells old.tenant chain now (latest_slot new chain)
  pub others : (other : ℕ) → other ≢ chain → latest_slot new other ≡ latest_slot old other
  pub held : (other : ℕ) → other ≢ chain → StillHolds old_cells new_cells old.tenant other

and_false : (a b : Bool) → (a && b) ≡ false → a ≡ true → b ≡ false
and_false true b e is = e
and_false false b e is = absurd (let g : false ≡ true = is in cc)

and_both : (a b : Bool) → (a && b) ≡ true → (a ≡ true) × (b ≡ true)
and_both true b e = (refl, e)
and_both false b e = absurd (let g : false ≡ true = e in cc)

module _ (old new : Cells) (tenant chain slot : ℕ) (above below : List Version) (v : Version) (next kept : Option ℕ) (falls : Falls (above ++ v ∷ below)) (held : StillHolds old new tenant chain) where
  -- where a version came
  pub latest_more : entry new slot ≡ Some (record { tenant = tenant; chain = chain; version = v }, next) → KeepsLatest old tenant chain (above ++ below) kept → (rises : Bool) → rises ≡ (v.committed && is_past (first_committed (above ++ below)) v.prepared.stamp)
      → KeepsLatest new tenant chain (above ++ v ∷ below) (cond rises (Some slot) kept)
  latest_more there keeps true is =
      let both = and_both v.committed (is_past (first_committed (above ++ below)) v.prepared.stamp) (sym is) in
      let first_is = first_more above below v both.0 (Falls-before above v below falls) (Falls-after above v below falls) ∙ ap (λ (b : Bool). cond b (Some v.prepared) (first_committed (above ++ below))) both.1 in
      (v, next, there, first_is)
  latest_more there keeps false is =
      keeps_held old new tenant chain (above ++ v ∷ below) kept held
      (keeps_same old tenant chain (above ++ below) (above ++ v ∷ below) kept (elim (cases_Bool v.committed) [
        | inl e ↦
            first_more above below v e (Falls-before above v below falls) (Falls-after above v below falls)
            ∙ ap (λ (b : Bool). cond b (Some v.prepared) (first_committed (above ++ below))) (and_false v.committed (is_past (first_committed (above ++ below)) v.prepared.stamp) (sym is) e)
        | inr e ↦ first_skip above below v e
      ]) keeps)

  -- where one is marked
  pub latest_marked : (w : Version) → w.committed ≡ true → w.prepared ≡ v.prepared → entry new slot ≡ Some (record { tenant = tenant; chain = chain; version = w }, next) → KeepsLatest old tenant chain (above ++ v ∷ below) kept
      → (rises : Bool) → rises ≡ is_past (first_committed (above ++ v ∷ below)) v.prepared.stamp → KeepsLatest new tenant chain (above ++ w ∷ below) (cond rises (Some slot) kept)
  latest_marked w marked same there keeps true is =
      let first_is = first_marked above below v w marked same (Falls-before above v below falls) (Falls-after above v below falls) ∙ ap (λ (b : Bool). cond b (Some v.prepared) (first_committed (above ++ v ∷ below))) (sym is) in
      (w, next, there, first_is ∙ ap Some (sym same))
  latest_marked w marked same there keeps false is =
      keeps_held old new tenant chain (above ++ w ∷ below) kept held
      (keeps_same old tenant chain (above ++ v ∷ below) (above ++ w ∷ below) kept
      (first_marked above below v w marked same (Falls-before above v below falls) (Falls-after above v below falls) ∙ ap (λ (b : Bool). cond b (Some v.prepared) (first_committed (above ++ v ∷ below))) (sym is)) keeps)

abbrev stamp_in : Option (Node × Option ℕ) → ℕ
stamp_in None = 0
stamp_in (Some cell) = cell.0.version.prepared.stamp

-- where one is gone
pub latest_less : (old new : Cells) (tenant chain here : ℕ) (above below : List Version) (v : Version) (next kept : Option ℕ) → Falls (above ++ v ∷ below) → HoldsBut old new here tenant chain → entry old here ≡ Some (record { tenant = tenant; chain = chain; version = v }, next)
    → KeepsLatest old tenant chain (above ++ below) kept → KeepsLatest new tenant chain (above ++ below) kept
latest_less old new tenant chain here above below v next None falls held there keeps = keeps
latest_less old new tenant chain here above below v next (Some slot) falls held there keeps =
    let apart = first_apart above below v.prepared.stamp keeps.0.prepared (Falls-before above v below falls) (Falls-after above v below falls) keeps.3 in
    let other : slot ≢ here = λ same. apart (ap stamp_in (sym keeps.2 ∙ ap (entry old) same ∙ there)) in
    let at = held slot keeps.0 keeps.1 other keeps.2 in (at.0, at.1, at.3, keeps.3 ∙ ap Some (sym at.2))
