-- The live rows of a map.
use Rattle.std.proofs.Common.{◌≡◌, ℕ, Bool, true, false, cond, List, [], ◌∷◌, Option, Some, None, nat_eq, refl, sym, ◌∙◌, ap}
use Rattle.std.specs.FinMap as fin
use Rattle.std.specs.FinMap.Entries.{find}
use Rattle.std.specs.Ordering.{nat_cmp, eq_by_cmp}
use Rattle.std.specs.Cmp.{unsigned_tied, nat_cmp_total}
use Rattle.std.proofs.lemmas.Cmp.{nat_eq_equiv}
use Rattle.indexmap.specs.IndexMap.{IndexMap, get}
use Rattle.std.specs.Map.{lookup}
use Rattle.message_table.specs.Layout.{live_in}

find_live : {X : Type 0} (es : List (ℕ × X)) (row : ℕ) → find nat_cmp row es ≡ lookup (nat_eq row) es
find_live [] row = refl
find_live (e ∷ es) row = ap (λ b. cond b (Some e.1) (find nat_cmp row es)) (unsigned_tied row e.0) ∙ ap (λ o. cond (nat_eq row e.0) (Some e.1) o) (find_live es row)

module _ {X S : Type 0} where
  -- a row is live where it is in the map
  pub get_live : (rows : IndexMap ℕ X S) → (row : ℕ) → fin.get (live_in rows.entries) row ≡ get nat_eq rows row
  get_live rows row = fin.get-from_entries nat_cmp_total rows.entries row ∙ find_live rows.entries row

  module _ (old new : IndexMap ℕ X S) where
    -- a message that is written to a row
    pub live_insert : (row : ℕ) (x : X) → ((q : ℕ) → get nat_eq new q ≡ cond (nat_eq row q) (Some x) (get nat_eq old q)) → live_in new.entries ≡ fin.insert (live_in old.entries) row x
    live_insert row x told = fin.same_map nat_cmp_total fin.nat_cmp-IsAntisymmetric _ _ (λ q.
        get_live new q ∙ told q ∙ at q (nat_eq row q) refl ∙ sym (fin.get-insert nat_cmp_total (live_in old.entries) row x q))
      where
        at : (q : ℕ) (b : Bool) → nat_eq row q ≡ b → cond b (Some x) (get nat_eq old q) ≡ cond (eq_by_cmp nat_cmp q row) (Some x) (fin.get (live_in old.entries) q)
        at q true same = sym (ap (λ b. cond b (Some x) (fin.get (live_in old.entries) q)) (unsigned_tied q row ∙ nat_eq_equiv.symm q row ∙ same))
        at q false other = sym (get_live old q) ∙ sym (ap (λ b. cond b (Some x) (fin.get (live_in old.entries) q)) (unsigned_tied q row ∙ nat_eq_equiv.symm q row ∙ other))

    -- a row that is taken out
    pub live_remove : (row : ℕ) → ((q : ℕ) → get nat_eq new q ≡ cond (nat_eq row q) None (get nat_eq old q)) → live_in new.entries ≡ fin.remove (live_in old.entries) row
    live_remove row told = fin.same_map nat_cmp_total fin.nat_cmp-IsAntisymmetric _ _ (λ q.
        get_live new q ∙ told q ∙ at q (nat_eq row q) refl ∙ sym (fin.get-remove nat_cmp_total (live_in old.entries) row q))
      where
        at : (q : ℕ) (b : Bool) → nat_eq row q ≡ b → cond b None (get nat_eq old q) ≡ cond (eq_by_cmp nat_cmp q row) None (fin.get (live_in old.entries) q)
        at q true same = sym (ap (λ b. cond b None (fin.get (live_in old.entries) q)) (unsigned_tied q row ∙ nat_eq_equiv.symm q row ∙ same))
        at q false other = sym (get_live old q) ∙ sym (ap (λ b. cond b None (fin.get (live_in old.entries) q)) (unsigned_tied q row ∙ nat_eq_equiv.symm q row ∙ other))
