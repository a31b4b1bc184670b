-- A tenant's parts where its epoch is cut: what the cell holds is where the next one begins.
use Rattle.std.proofs.Common.{◌≡◌, ℕ, List, [], ◌∷◌, ◌++◌, map, Option, Some, None, nat_eq, count_by, length, sym, ap, ◌∙◌, subst}
use Rattle.std.specs.Prelude.{slice_get, reverse}
use Rattle.std.specs.FinMap as fin
use Rattle.indexmap.specs.IndexMap.{IndexMap, IsUnique, get}
use Rattle.plain_store.specs.Log.{Log}
use Rattle.plain_store.specs.Replies.{IsSound}
use Rattle.plain_store.specs.Words.{Room}
use Rattle.std.proofs.lemmas.List.{length-map}
use Rattle.prepare_commit.specs.Content.{Content}
use Rattle.prepare_commit.specs.InBlock.{content_in}
use Rattle.prepare_commit.specs.Marks.{Marks}
use Rattle.prepare_commit.specs.Serving.{StandsFor as CellStandsFor}
use Rattle.prepare_commit.specs.Bases.{Frozen, Leaves}
use Rattle.partition.specs.Events.{Event}
use Rattle.partition.specs.Journals.{EachFollowsFrom, IsEnd, log_after, event_exchange}
use Rattle.partition.specs.Shelf.{ShelfCells, contents, tenants, room_in, room_of, StandsIn, StandsFor, OtherCellsKept, IsBaseOf, IsBaseIn, IsBaseAt, HasLogAt}
use Rattle.partition.specs.Accounts.{Account, next_account}
use Rattle.partition.specs.Books.{IsKept}
use Rattle.partition.proofs.OneCell.{stands_too, cell_there, cell_room}

-- the calls of a sound epoch, after a sound log of its base, make a sound log
sound_log : (base : Frozen) (log : Log) → IsSound base.room log → Leaves base log → (before : List Event) → EachFollowsFrom base before → IsSound base.room (map event_exchange before ++ log)
sound_log base log sound leaves [] each = sound
sound_log base log sound leaves (e ∷ before) each = (each.0.reply log leaves, sound_log base log sound leaves before each.1)

-- what holds the content of a cell is left by each log that the cell stands for
pub leaves_held : (cell : Content) (base : Frozen) (log : Log) → IsBaseOf cell base → CellStandsFor cell log → Leaves base log
leaves_held cell base log holds s = record {
  versions = λ t. ap (count_by t) holds.versions ∙ s.versions t;
  entries = λ t. ap (count_by t) holds.entries ∙ s.entries t;
  marks = λ client. ap (λ (m : Marks). fin.get m client) holds.marks ∙ s.marks client;
  clients = ap (λ (m : Marks). fin.len m) holds.marks ∙ s.clients;
}

-- the base of a cell that is there
pub base_there : (cells : ShelfCells) (tenant : ℕ) (base : Frozen) (cell : Content) → IsBaseAt cells tenant base → slice_get (contents cells) tenant ≡ Some cell → IsBaseOf cell base
unfolding IsBaseAt
base_there cells tenant base cell told is = subst (λ (o : Option Content). IsBaseIn o base) is told

module _ {S : Type 0} (cells : ShelfCells) (tenant : ℕ) (account : Account) (lasts : IndexMap ℕ ℕ S) (kept : IsKept cells tenant account lasts) where
  abbrev log_now : Log
  log_now = log_after account.events ++ kept.has_log.0

  stands_now : StandsFor cells tenant log_now
  stands_now = kept.stands kept.has_log.0 kept.has_log.2

  sound_now : IsSound account.start.base.room log_now
  sound_now = sound_log account.start.base kept.has_log.0 kept.has_log.1 kept.has_log.2 (reverse account.events) kept.sound

  pub cell_has_log : HasLogAt cells tenant
  cell_has_log = (log_now, subst (λ (room : Room). IsSound room log_now) (kept.base_room ∙ sym kept.room) sound_now, stands_now)

  module _ (base : Frozen) (told : IsBaseAt cells tenant base) where
    base_room_is : base.room ≡ account.start.base.room
    base_room_is =
        let there = cell_there cells tenant log_now stands_now in
        (base_there cells tenant base there.0 told there.1).room ∙ sym (cell_room cells tenant there.0 there.1) ∙ kept.room ∙ sym kept.base_room

    leaves_base : (history : Log) → StandsFor cells tenant history → Leaves base history
    leaves_base history s =
        let there = cell_there cells tenant history s in
        leaves_held there.0 base history (base_there cells tenant base there.0 told there.1) there.2

    pub ended : IsEnd account.start.base account.events base
    ended = record { room = base_room_is; leaves = λ log leaves. leaves_base (log_after account.events ++ log) (kept.stands log leaves) }

    pub next_kept : (lasts' : IndexMap ℕ ℕ S) → IsUnique nat_eq lasts' → ((seat : ℕ) → get nat_eq lasts' seat ≡ None) → IsKept cells tenant (next_account account base) lasts'
    next_kept lasts' unique none = record {
      sound = tt;
      room = kept.room;
      base_room = base_room_is ∙ kept.base_room;
      has_log = (log_now, subst (λ (room : Room). IsSound room log_now) (sym base_room_is) sound_now, leaves_base log_now stands_now);
      stands = λ log leaves. stands_too cells tenant base log_now log stands_now (leaves_base log_now stands_now) leaves;
      table = record { unique = unique; lasts = none };
    }

-- what the cells hold alone counts
pub same_kept : {S : Type 0} (old new : ShelfCells) (tenant : ℕ) (account : Account) (lasts : IndexMap ℕ ℕ S) → contents new ≡ contents old → IsKept old tenant account lasts → IsKept new tenant account lasts
unfolding room_of StandsFor
same_kept old new tenant account lasts same kept = record {
  sound = kept.sound;
  room = ap (λ (cells : List Content). room_in (slice_get cells tenant)) same ∙ kept.room;
  base_room = kept.base_room;
  has_log = kept.has_log;
  stands = λ log leaves. subst (λ (cells : List Content). StandsIn (slice_get cells tenant) (log_after account.events ++ log)) (sym same) (kept.stands log leaves);
  table = kept.table;
}

pub same_others : (old new : ShelfCells) (tenant : ℕ) → contents new ≡ contents old → OtherCellsKept old new tenant
unfolding room_of StandsFor
same_others old new tenant same other different = (
  ap (λ (cells : List Content). room_in (slice_get cells other)) same,
  λ history stands. subst (λ (cells : List Content). StandsIn (slice_get cells other) history) (sym same) stands,
)

pub same_tenants : (old new : ShelfCells) → contents new ≡ contents old → tenants new ≡ tenants old
unfolding tenants
same_tenants old new same =
    sym (length-map new.cells (content_in new.block)) ∙ ap (λ (cells : List Content). length cells) same ∙ length-map old.cells (content_in old.block)
