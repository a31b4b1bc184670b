-- What one log leaves is one base alone.
use Rattle.std.proofs.Common.{◌≡◌, inl, inr, ℕ, List, [], ◌∷◌, map, refl, sym, ap, ◌∙◌, arith}
use Rattle.std.specs.FinMap as fin
use Rattle.std.specs.FinMap.{entries, same_map, entries-from_sorted, nat_cmp-IsAntisymmetric}
use Rattle.std.specs.Ordering.{nat_cmp}
use Rattle.std.specs.declared.cmp.Ordering.TheVariants.{Less}
use Rattle.std.proofs.lemmas.Cmp.{nat_cmp_total}
use Rattle.stamps.specs.Key.{key_cmp}
use Rattle.stamps.proofs.KeyLemmas.{key_cmp_total, IsKeyBelow-irrefl}
use Rattle.plain_store.specs.Log.{Log}
use Rattle.secondary_index.specs.Ordered.{IsInOrder}
use Rattle.secondary_index.proofs.Ordered.{T-from_IsTrue}
use Rattle.version_chain.specs.declared.version.Version.{Version}
use Rattle.prepare_commit.specs.declared.items.KnownItem.{KnownItem}
use Rattle.prepare_commit.specs.Bases.{Frozen, Leaves, IsBase, IsBefore, IsEntryBefore}
use Rattle.prepare_commit.specs.Marks.{Marks, mark_row, marks_of}
use Rattle.prepare_commit.proofs.Freezing.{same_ordered}
use Rattle.prepare_commit.proofs.OwnChains.{less_apart}
use Rattle.prepare_commit.proofs.Members.{same_version, same_version-true, same_version-own, same_entry, same_entry-true, same_entry-own}

-- ---- no element is before itself

not_both : (j k : List ℕ) → key_cmp j k ≡ Less → key_cmp k j ≡ Less → ⊥
not_both j k below above = IsKeyBelow-irrefl j (record { less = key_cmp_total.trans j k j below above })

pub version_one_way : (v w : Version) → IsBefore v w → IsBefore w v → ⊥
version_one_way v w (inl below) (inl above) = not_both v.prepared.key w.prepared.key below above
version_one_way v w (inl below) (inr later) = less_apart v.prepared.key w.prepared.key below (sym later.0)
version_one_way v w (inr later) (inl above) = less_apart w.prepared.key v.prepared.key above (sym later.0)
version_one_way v w (inr later) (inr earlier) = omega (arith, later.1, earlier.1)

entry_one_way : (e f : KnownItem) → IsEntryBefore e f → IsEntryBefore f e → ⊥
entry_one_way e f below above = not_both e.key f.key below above

-- ---- marks in order are reported by their map

marks_back : (stamps : List ℕ) → map (λ (row : ℕ × ℕ). row.1) (map mark_row stamps) ≡ stamps
marks_back [] = refl
marks_back (s ∷ stamps) = ap (λ rest. s ∷ rest) (marks_back stamps)

rows_of : (stamps : List ℕ) → IsInOrder nat_cmp mark_row stamps → entries (marks_of stamps) ≡ map mark_row stamps
rows_of stamps order = entries-from_sorted nat_cmp (map mark_row stamps) (T-from_IsTrue _ order)

same_marks : (one two : List ℕ) → IsInOrder nat_cmp mark_row one → IsInOrder nat_cmp mark_row two
    → ((client : ℕ) → fin.get (marks_of one) client ≡ fin.get (marks_of two) client) → one ≡ two
same_marks one two order other same =
    let maps : marks_of one ≡ marks_of two = same_map nat_cmp_total nat_cmp-IsAntisymmetric (marks_of one) (marks_of two) same in
    let rows : map mark_row one ≡ map mark_row two = sym (rows_of one order) ∙ ap (λ (m : Marks). entries m) maps ∙ rows_of two other in
    sym (marks_back one) ∙ ap (λ (rows : List (ℕ × ℕ)). map (λ (row : ℕ × ℕ). row.1) rows) rows ∙ marks_back two

-- ---- the law

pub bases_of_one_log_are_equal : (b c : Frozen) (log : Log) → IsBase b → IsBase c → b.room ≡ c.room → Leaves b log → Leaves c log → b ≡ c
bases_of_one_log_are_equal b c log is other room left too =
    let versions : b.versions ≡ c.versions =
    same_ordered IsBefore version_one_way same_version same_version-true same_version-own b.versions c.versions is.versions_ordered other.versions_ordered
    (λ t. left.versions t ∙ sym (too.versions t)) in
    let held : b.entries ≡ c.entries =
    same_ordered IsEntryBefore entry_one_way same_entry same_entry-true same_entry-own b.entries c.entries is.entries_ordered other.entries_ordered
    (λ t. left.entries t ∙ sym (too.entries t)) in
    let marks : b.marks ≡ c.marks = same_marks b.marks c.marks is.marks_ordered other.marks_ordered (λ client. left.marks client ∙ sym (too.marks client)) in
    λ i. record { room = room i; versions = versions i; entries = held i; marks = marks i }
