-- The clock of a tenant rises, and what is told at a number is seen by who looked at that number or later.
use Rattle.std.proofs.Common.{◌≡◌, ◌⊎◌, ◌∙◌, ℕ, zero, suc, ◌+◌, ◌<◌, Bool, true, false, MatchBool, List, [], ◌∷◌, ◌++◌, refl, ap, sym, subst, inl, inr, arith, append_assoc}
use Rattle.std.proofs.lemmas.List.{append-nil}
use Rattle.std.proofs.Math.Logic.{∥∥₁_elim}
use Rattle.std.specs.Coded.{Coded-set, coded_ℕ}
use mathlib.Core.List.{IsPrefix}
use Rattle.plain_store.specs.Words.{◌∈◌}
use Rattle.history.specs.declared.entry.HistoryEntry.{HistoryEntry}
use Rattle.history.specs.declared.entry.HistoryEntry.TheVariants.{Drew, Passed}
use Rattle.history.specs.declared.entry.Draw.{Draw}
use Rattle.history.specs.Clock.{DrawsRise, IsDrawnBehind, IsToldAt, SeesTold}
use Rattle.history.specs.Entries.{but_last, clock_of, is_of, own, count}
use Rattle.history.specs.Legal.{IsLegal, MayDraw}
use Rattle.history.specs.Rules.{IsAdded, IsOvertaken}
use Rattle.history.proofs.Steps.{before_added}
use Rattle.history.proofs.Lists.{prefix_join, prefix_of_more, prefixes_compare, split_at}
use Rattle.history.proofs.Counts.{count_append, count_later, count_more, equal_test}

-- ---- draws rise

-- a draw's counter is its ordinal
ordinal : (log before after : List HistoryEntry) (drawn : Draw) → IsLegal log → log ≡ before ++ Drew drawn ∷ after
    → drawn.counter ≡ count (clock_of drawn.tenant) before + 1
ordinal log before after drawn legal is =
    let may : ∥ MayDraw (own (clock_of drawn.tenant) before) drawn ∥₁ = legal.each before (Drew drawn) after is in
    ∥∥₁_elim may (Coded-set coded_ℕ _ _) (λ e. e)

-- what is before has more entries of the clock than what is before one of them
more_behind : (k : ℕ) (before b rest : List HistoryEntry) (e : HistoryEntry) → is_of k e ≡ true → before ≡ b ++ e ∷ rest → count k b < count k before
more_behind k before b rest e its is =
    let whole : before ≡ (b ++ e ∷ []) ++ rest = is ∙ sym (append_assoc b (e ∷ []) rest) in
    omega (arith, ap (count k) whole, count_append k (b ++ e ∷ []) rest, count_more k b e its)

draw_below : (log before after : List HistoryEntry) (drawn other : Draw) → IsLegal log → log ≡ before ++ Drew drawn ∷ after → Drew other ∈ before
    → other.tenant ≡ drawn.tenant → other.counter < drawn.counter
draw_below log before after drawn other legal is has tenant =
    let k = clock_of drawn.tenant in
    let s = split_at before (Drew other) has in
    let whole : log ≡ s.0 ++ Drew other ∷ (s.1.0 ++ Drew drawn ∷ after) =
    is ∙ ap (λ (l : List HistoryEntry). l ++ Drew drawn ∷ after) s.1.1 ∙ append_assoc s.0 (Drew other ∷ s.1.0) (Drew drawn ∷ after) in
    let its : is_of k (Drew other) ≡ true = equal_test (clock_of other.tenant) k (ap clock_of tenant) in
    let a : other.counter ≡ count k s.0 + 1 = subst (λ (t : ℕ). other.counter ≡ count (clock_of t) s.0 + 1) tenant (ordinal log s.0 _ other legal whole) in
    let b : drawn.counter ≡ count k before + 1 = ordinal log before after drawn legal is in
    omega (arith, a, b, more_behind k before s.0 s.1.0 (Drew other) its s.1.1)

pub draws_rise : (log : List HistoryEntry) → IsLegal log → DrawsRise log
draws_rise log legal before after drawn is other has tenant = draw_below log before after drawn other legal is has tenant

-- what was added behind the evidence is drawn behind it
pub drawn_behind : (k entries : ℕ) (evidence v now : List HistoryEntry) (drawn : Draw) → IsPrefix evidence (but_last now) → IsAdded k entries (Drew drawn) v now
    → IsDrawnBehind evidence now drawn
drawn_behind k entries evidence v now drawn pre a = record {
  before = v ++ a.0;
  after = [];
  stands = a.1;
  behind = subst (λ (l : List HistoryEntry). IsPrefix evidence l) (before_added k entries (Drew drawn) v now a) pre;
  above = draws_rise now a.3 (v ++ a.0) [] drawn a.1;
}

pub drawn_if : (k entries : ℕ) (evidence v now : List HistoryEntry) (drawn : Draw) (b : Bool) → b ≡ true
    → MatchBool b (IsAdded k entries (Drew drawn) v now) (IsOvertaken k entries now) → (b ≡ true → IsPrefix evidence (but_last now)) → IsDrawnBehind evidence now drawn
drawn_if k entries evidence v now drawn true is a pre = drawn_behind k entries evidence v now drawn (pre refl) a
drawn_if k entries evidence v now drawn false is a pre = absurd (cc is)

-- ---- who looks sees what was told

-- what was added behind the evidence was told behind it
told_behind : (tenant entries : ℕ) (evidence v now : List HistoryEntry) → IsPrefix evidence (but_last now) → IsAdded (clock_of tenant) entries (Passed tenant) v now
    → IsToldAt evidence now tenant (entries + 1)
told_behind tenant entries evidence v now pre a = record {
  before = v ++ a.0;
  after = [];
  stands = a.1;
  behind = subst (λ (l : List HistoryEntry). IsPrefix evidence l) (before_added (clock_of tenant) entries (Passed tenant) v now a) pre;
  place_is = ap (λ (n : ℕ). n + 1) (sym a.2);
}

pub told_if : (k tenant entries : ℕ) (evidence v now : List HistoryEntry) (b : Bool) → b ≡ true → k ≡ clock_of tenant
    → MatchBool b (IsAdded k entries (Passed tenant) v now) (IsOvertaken k entries now) → (b ≡ true → IsPrefix evidence (but_last now)) → IsToldAt evidence now tenant (entries + 1)
told_if k tenant entries evidence v now true is clock a pre =
    told_behind tenant entries evidence v now (pre refl) (subst (λ (w : ℕ). IsAdded w entries (Passed tenant) v now) clock a)
told_if k tenant entries evidence v now false is clock a pre = absurd (cc is)

pub sees_told : (log : List HistoryEntry) → SeesTold log
sees_told log evidence told seen tenant place tells sees at low = go (prefixes_compare (at.before ++ e ∷ []) seen log first sees)
  where
    e : HistoryEntry
    e = Passed tenant

    through : IsPrefix (at.before ++ e ∷ []) told
    through = (at.after, append_assoc at.before (e ∷ []) at.after ∙ sym at.stands)

    first : IsPrefix (at.before ++ e ∷ []) log
    first = prefix_join (at.before ++ e ∷ []) told log through tells

    -- the clock has fewer entries before it
    short : IsPrefix seen at.before → ⊥
    short p = omega (arith, count_later (clock_of tenant) seen at.before p, at.place_is, low)

    whole : IsPrefix (at.before ++ e ∷ []) seen → IsPrefix evidence seen
    whole p = prefix_join evidence at.before seen at.behind (prefix_join at.before (at.before ++ e ∷ []) seen (e ∷ [], refl) p)

    last : (seen ≡ at.before ++ e ∷ []) ⊎ IsPrefix seen at.before → IsPrefix evidence seen
    last (inl is) = whole ([], append-nil (at.before ++ e ∷ []) ∙ sym is)
    last (inr p) = absurd (short p)

    go : IsPrefix (at.before ++ e ∷ []) seen ⊎ IsPrefix seen (at.before ++ e ∷ []) → IsPrefix evidence seen
    go (inl p) = whole p
    go (inr p) = last (prefix_of_more seen at.before e p)

-- a word that has other entries than it had has more
pub overtaken_by : (k entries : ℕ) (e : HistoryEntry) (v now : List HistoryEntry) (b : Bool) → b ≡ false → count k v ≡ entries → IsPrefix v now
    → MatchBool b (IsAdded k entries e v now) (IsOvertaken k entries now) → count k v < count k now
overtaken_by k entries e v now true is counted pre a = absurd (cc is)
overtaken_by k entries e v now false is counted pre a = go (count k pre.0) (count_later k v now pre)
  where
    go : (more : ℕ) → count k now ≡ count k v + more → count k v < count k now
    go zero same = let none : count k now ≡ entries = omega (arith, same, counted) in absurd (a.0 none)
    go (suc more) same = omega (arith, same)
