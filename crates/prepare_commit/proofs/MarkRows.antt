-- For `marks`. The list of marks as a finite map, after one was raised.
use Rattle.std.proofs.Common.{◌≡◌, ℕ, max, List, map, Some, None, inl, inr, sym, ap, ◌∙◌, subst, arith}
use Rattle.std.specs.Prelude.{slice_index_or, slice_set, insert, unwrap_or}
use Rattle.std.specs.FinMap as fin
use Rattle.std.specs.FinMap.{entries, nat_cmp-IsAntisymmetric}
use Rattle.std.specs.FinMap.Entries.{put}
use Rattle.std.specs.Ordering.{nat_cmp}
use Rattle.std.proofs.lemmas.Bool.{cases_lt}
use Rattle.std.proofs.lemmas.Cmp.{nat_cmp_total}
use Rattle.stamps.specs.Stamp.{client_of}
use Rattle.secondary_index.specs.Ordered.{IsInOrder, StandsAt, BelongsAt}
use Rattle.secondary_index.proofs.Ordered.{put-StandsAt, put-BelongsAt, find-StandsAt, find-BelongsAt, get-map_of, entries_put}
use Rattle.prepare_commit.specs.Marks.{mark_row, marks_of, mark_in, raised_mark}

module _ (marks : List ℕ) (place stamp : ℕ) (order : IsInOrder nat_cmp mark_row marks) where
  -- a mark that stands in the list
  module _ (at : StandsAt nat_cmp mark_row (client_of stamp) marks place) (some : ℕ) where
    abbrev old : ℕ
    old = slice_index_or marks place some

    pub stands_marked : fin.get (marks_of marks) (client_of stamp) ≡ Some old
    stands_marked =
        get-map_of nat_cmp nat_cmp_total nat_cmp-IsAntisymmetric mark_row marks order (client_of stamp)
        ∙ find-StandsAt nat_cmp nat_cmp_total nat_cmp-IsAntisymmetric mark_row marks place (client_of stamp) order at some

    pub raised_at : (new : ℕ) → new ≡ max stamp old → entries (raised_mark (marks_of marks) stamp) ≡ map mark_row (slice_set marks place new)
    raised_at new is =
        entries_put nat_cmp nat_cmp_total nat_cmp-IsAntisymmetric mark_row marks (slice_set marks place new) (client_of stamp) (max stamp (mark_in (marks_of marks) (client_of stamp))) order
        ((λ i. put nat_cmp (sym client i) (value i) (map mark_row marks))
        ∙ put-StandsAt nat_cmp nat_cmp_total nat_cmp-IsAntisymmetric mark_row marks place new order (subst (λ k. StandsAt nat_cmp mark_row k marks place) (sym client) at))
      where
        value : max stamp (mark_in (marks_of marks) (client_of stamp)) ≡ new
        value = ap (λ o. max stamp (unwrap_or o 0)) stands_marked ∙ sym is

        client : client_of new ≡ client_of stamp
        client = elim (cases_lt stamp old) [
          | inl less ↦ let one : new ≡ old = omega (arith, is, less) in ap client_of one ∙ at.is some
          | inr more ↦ let one : new ≡ stamp = omega (arith, is, more) in ap client_of one
        ]

  -- a mark that is new
  module _ (at : BelongsAt nat_cmp mark_row (client_of stamp) marks place) where
    pub none_marked : fin.get (marks_of marks) (client_of stamp) ≡ None
    none_marked =
        get-map_of nat_cmp nat_cmp_total nat_cmp-IsAntisymmetric mark_row marks order (client_of stamp)
        ∙ find-BelongsAt nat_cmp nat_cmp_total nat_cmp-IsAntisymmetric mark_row marks place (client_of stamp) at

    pub added_at : entries (raised_mark (marks_of marks) stamp) ≡ map mark_row (insert marks place stamp)
    added_at =
        entries_put nat_cmp nat_cmp_total nat_cmp-IsAntisymmetric mark_row marks (insert marks place stamp) (client_of stamp) (max stamp (mark_in (marks_of marks) (client_of stamp))) order
        (ap (λ x. put nat_cmp (client_of stamp) x (map mark_row marks)) value ∙ put-BelongsAt nat_cmp nat_cmp_total nat_cmp-IsAntisymmetric mark_row marks place stamp at)
      where
        value : max stamp (mark_in (marks_of marks) (client_of stamp)) ≡ stamp
        value = let none = ap (λ o. unwrap_or o 0) none_marked in omega (arith, none)
