-- For the callers of `Cell` whose tenants share a block. A cell after a call of another tenant.
use Rattle.std.proofs.Common.{◌≡◌, ◌≢◌, ℕ, List, sym, ap, subst}
use Rattle.version_chain.specs.declared.version.Version.{Version}
use Rattle.version_chain.specs.Chain.{Cells, OthersKept}
use Rattle.version_chain.proofs.Neighbours.{versions_kept, Stands-kept}
use Rattle.version_chain.proofs.SharedBlock.{lists_kept}
use Rattle.prepare_commit.specs.Begun.{IsKeptSince}
use Rattle.prepare_commit.specs.Content.{Content}
use Rattle.prepare_commit.specs.Layout.{chain_lists, together, item_chains, entries_of, HoldsTogether}
use Rattle.prepare_commit.specs.InBlock.{Parts, content_in, LiesIn}
use Rattle.prepare_commit.specs.Marks.{marks_of}
use Rattle.prepare_commit.specs.Remembered.{Remembers, in_either}
use Rattle.prepare_commit.proofs.Chaining.{chains_same}

module _ (old new : Cells) (tenant : ℕ) (others : OthersKept old new tenant) (cell : Parts) (different : cell.chains.tenant ≢ tenant) (lies : LiesIn old cell) where
  same_lists : chain_lists new cell.chains ≡ chain_lists old cell.chains
  same_lists = chains_same old new cell.chains (λ i known. versions_kept old new tenant others cell.chains different lies.versions.stands i known)

  -- it holds what it held
  pub content_kept : content_in new cell ≡ content_in old cell
  content_kept =
      ap {B = Content} (λ (lists : List (List Version)). record { room = cell.room; versions = together (item_chains cell.items lists); entries = entries_of cell.items; tags = cell.index.tags; marks = marks_of cell.marks }) same_lists

  -- and it lies there as before
  pub lies_kept : LiesIn new cell
  lies_kept = record {
    versions = record {
      stands = Stands-kept old new tenant others cell.chains different lies.versions.stands;
      listed = lists_kept old new tenant others cell.chains different lies.versions.listed;
    };
    remembers = subst (λ (lists : List (List Version)). Remembers cell.last cell.changed cell.items lists) (sym same_lists) lies.remembers;
    remembers_least = subst (λ (lists : List (List Version)). Remembers cell.least (in_either cell.left cell.changed) cell.items lists) (sym same_lists) lies.remembers_least;
    since = subst (λ (lists : List (List Version)). IsKeptSince cell.begun cell.since cell.items lists) (sym same_lists) lies.since;
    holds =
        subst (λ (lists : List (List Version)). HoldsTogether cell.room.slots cell.room.items cell.items (record { share = cell.chains.share; used = cell.chains.used; chains = lists }) cell.index)
        (sym same_lists) lies.holds;
  }
