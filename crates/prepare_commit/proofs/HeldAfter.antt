-- How much a cell holds: for `Cell::holdings`, and for whoever knows for which log it stands.
use Rattle.std.proofs.Common.{◌≡◌, ℕ, List, map, length, sym, ap, ◌∙◌}
use Rattle.std.specs.FinMap.{entries-from_sorted, len, len-entries}
use Rattle.std.specs.Ordering.{nat_cmp}
use Rattle.std.proofs.lemmas.List.{length-map}
use Rattle.secondary_index.specs.Ordered.{IsInOrder}
use Rattle.secondary_index.proofs.Ordered.{T-from_IsTrue}
use Rattle.plain_store.specs.Log.{Log, items, kept}
use Rattle.version_chain.specs.Chain.{Cells}
use Rattle.prepare_commit.specs.declared.holdings.Holdings.{Holdings}
use Rattle.prepare_commit.specs.Content.{Content}
use Rattle.prepare_commit.specs.HowMuch.{IsHeldAfter, IsHeldIn}
use Rattle.prepare_commit.specs.InBlock.{LiesIn, Parts, content_in}
use Rattle.prepare_commit.specs.Marks.{mark_row, marks_of}
use Rattle.prepare_commit.specs.Serving.{StandsFor, floored, marked_versions}
use Rattle.prepare_commit.proofs.Members.{same_length}

-- as many marks as their list has
marks_many : (marks : List ℕ) → IsInOrder nat_cmp mark_row marks → len (marks_of marks) ≡ length marks
marks_many marks order =
    len-entries (marks_of marks) ∙ ap length (entries-from_sorted nat_cmp (map mark_row marks) (T-from_IsTrue _ order)) ∙ length-map marks mark_row

-- the counts of a cell are those of what it holds
pub counted_in : (block : Cells) (cell : Parts) (holdings : Holdings) → LiesIn block cell → IsInOrder nat_cmp mark_row cell.marks
    → holdings.versions ≡ cell.chains.used → holdings.items ≡ length cell.items → holdings.marks ≡ length cell.marks → IsHeldIn (content_in block cell) holdings
counted_in block cell holdings lies order versions its marks = record {
  versions = versions ∙ lies.holds.counted;
  items = its ∙ sym (length-map cell.items _);
  marks = marks ∙ sym (marks_many cell.marks order);
}

-- what the cell holds is what the log leaves
pub held_after : (cell : Content) (log : Log) (holdings : Holdings) → StandsFor cell log → IsHeldIn cell holdings → IsHeldAfter log holdings
held_after cell log holdings stands is = record {
  versions = is.versions ∙ same_length cell.versions (marked_versions log) stands.versions ∙ length-map (kept log) _;
  items = is.items ∙ same_length cell.entries (floored log) stands.entries ∙ length-map (items log) _;
  marks = is.marks ∙ stands.clients;
}
