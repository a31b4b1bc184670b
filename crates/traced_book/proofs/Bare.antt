-- The accounts of cells without journals, from one call to the next.
use Rattle.std.proofs.Common.{◌≡◌, ◌∙◌, ℕ, zero, suc, ◌+◌, ◌<◌, List, [], ◌∷◌, ◌++◌, length, map, set, false, Option, Some, None, ⊎_elim, refl, ap, sym, subst, arith}
use Rattle.std.specs.Prelude.{◌^◌, slice_get, IsSomeAnd}
use Rattle.std.proofs.lemmas.Bool.Decides.{eqb_tells}
use Rattle.std.proofs.lemmas.List.{length-map, length-set}
use Rattle.std.proofs.lemmas.Option.{same_Some, slice_get_cases, slice_get_within}
use Rattle.stamps.specs.declared.bounds.Limits.{Limits}
use Rattle.plain_store.specs.Log.{Log}
use Rattle.plain_store.specs.Replies.{IsSound, reply_after}
use Rattle.plain_store.specs.Words.{Room}
use Rattle.plain_store.specs.declared.calls.Call.{Call}
use Rattle.plain_store.specs.declared.calls.Reply.{Reply}
use Rattle.prepare_commit.specs.Bases.{HasStood, Leaves, base_of, empty_base}
use Rattle.prepare_commit.specs.InBlock.{Parts, content_in}
use Rattle.prepare_commit.specs.Serving.{Serves}
use Rattle.prepare_commit.specs.Serving.{StandsFor as CellStandsFor}
use Rattle.prepare_commit.proofs.Freezing.{nothing_left}
use Rattle.prepare_commit.proofs.Served.{has_stood}
use Rattle.prepare_commit.proofs.Standing.{one_content}
use Rattle.partition.specs.Accounts.{Account, IsEntered, IsReplyInEpoch, account_room, base_at, base_in, before_at, before_in, events_at, events_in, new_account, places, with_event}
use Rattle.partition.specs.Accounts.{room_in as room_of_account}
use Rattle.partition.specs.Events.{Event, event}
use Rattle.partition.specs.Journals.{IsLate, log_after, room_for}
use Rattle.partition.specs.Shelf.{OtherCellsKept, ServesTenant, ShelfCells, StandsFor, StandsIn, room_in, room_of, tenants}
use Rattle.partition.proofs.OneCell.{mapped_at, slice_get-mapped, slice_get-set_other, slice_get-set_same}
use Rattle.traced_book.specs.Bare.{IsBare, IsCellOf, bare_account, bare_accounts, new_tenant}
use Rattle.traced_book.specs.Forgetting.{AreBegunAnew, BeginsAnew, IsTaken}
use Rattle.traced_book.specs.declared.bare_shelf.BareTenant.{BareTenant}

-- ---- one account for each tenant

pub account_at : (shelf : ShelfCells) (all : List BareTenant) (cells : List Parts) (tenant : ℕ) (its : BareTenant) (cell : Parts)
    → slice_get all tenant ≡ Some its → slice_get cells tenant ≡ Some cell → slice_get (bare_accounts shelf all cells) tenant ≡ Some (bare_account shelf its cell)
account_at shelf [] cells tenant its cell there at = absurd (cc)
account_at shelf (t ∷ all) [] tenant its cell there at = absurd (cc)
account_at shelf (t ∷ all) (c ∷ cells) zero its cell there at =
    let one = same_Some t its there in
    let other = same_Some c cell at in
    λ i. Some (bare_account shelf (one i) (other i))
account_at shelf (t ∷ all) (c ∷ cells) (suc n) its cell there at = account_at shelf all cells n its cell there at

pub at_account : (shelf : ShelfCells) (all : List BareTenant) (cells : List Parts) (tenant : ℕ) (account : Account) → slice_get (bare_accounts shelf all cells) tenant ≡ Some account
    → (its : BareTenant) × (cell : Parts) × (slice_get all tenant ≡ Some its) × (slice_get cells tenant ≡ Some cell) × (bare_account shelf its cell ≡ account)
at_account shelf [] cells tenant account is = absurd (cc)
at_account shelf (t ∷ all) [] tenant account is = absurd (cc)
at_account shelf (t ∷ all) (c ∷ cells) zero account is = (t, c, refl, refl, same_Some (bare_account shelf t c) account is)
at_account shelf (t ∷ all) (c ∷ cells) (suc n) account is = at_account shelf all cells n account is

pub as_many_accounts : (shelf : ShelfCells) (all : List BareTenant) (cells : List Parts) → length all ≡ length cells → length (bare_accounts shelf all cells) ≡ length cells
as_many_accounts shelf [] [] same = refl
as_many_accounts shelf [] (c ∷ cells) same = absurd (omega (arith, same))
as_many_accounts shelf (t ∷ all) [] same = absurd (omega (arith, same))
as_many_accounts shelf (t ∷ all) (c ∷ cells) same = ap suc (as_many_accounts shelf all cells (omega (arith, same)))

-- none has an event
pub no_event : (shelf : ShelfCells) (all : List BareTenant) (cells : List Parts) (tenant : ℕ) → events_at (bare_accounts shelf all cells) tenant ≡ []
unfolding events_at
no_event shelf [] cells tenant = refl
no_event shelf (t ∷ all) [] tenant = refl
no_event shelf (t ∷ all) (c ∷ cells) zero = refl
no_event shelf (t ∷ all) (c ∷ cells) (suc n) = no_event shelf all cells n

-- so no number of a seat is late
pub never_late : (shelf : ShelfCells) (all : List BareTenant) (tenant seat number : ℕ) → IsLate (events_at (bare_accounts shelf all shelf.cells) tenant) seat number → ⊥
never_late shelf all tenant seat number late = subst (λ (es : List Event). IsLate es seat number) (no_event shelf all shelf.cells tenant) late

cell_at : (cells : List Parts) (tenant : ℕ) → tenant < length cells → (cell : Parts) × (slice_get cells tenant ≡ Some cell)
cell_at cells tenant there = ⊎_elim (λ h. (h.0, h.2)) (λ h. absurd (omega (arith, h.0, there))) (slice_get_cases cells tenant).1

pub tenants_there : (shelf : ShelfCells) (all : List BareTenant) → IsBare shelf all → tenants shelf ≡ length (bare_accounts shelf all shelf.cells)
unfolding tenants
tenants_there shelf all bare = sym (as_many_accounts shelf all shelf.cells bare.as_many)

-- ---- one cell

-- a log that a cell stands for leaves what it holds
leaves_by : (shelf : ShelfCells) (cell : Parts) (log : Log) → CellStandsFor (content_in shelf.block cell) log → Leaves (base_of shelf.block cell) log
leaves_by shelf cell log s = record { versions = s.versions; entries = s.entries; marks = s.marks; clients = s.clients }

-- and a cell stands for each log that leaves that
stands_by : (shelf : ShelfCells) (cell : Parts) (log : Log) → HasStood shelf.block cell → Leaves (base_of shelf.block cell) log → CellStandsFor (content_in shelf.block cell) log
stands_by shelf cell log stood left =
    one_content (content_in shelf.block cell) (base_of shelf.block cell) stood.0 log stood.2 (leaves_by shelf cell stood.0 stood.2) left

module _ (shelf : ShelfCells) (tenant : ℕ) (cell : Parts) (at : slice_get shelf.cells tenant ≡ Some cell) where
  stands_there : (log : Log) → StandsFor shelf tenant log → CellStandsFor (content_in shelf.block cell) log
  unfolding StandsFor
  stands_there log s = subst (λ o. StandsIn o log) (slice_get-mapped (content_in shelf.block) shelf.cells tenant cell at) s

  stands_here : (log : Log) → CellStandsFor (content_in shelf.block cell) log → StandsFor shelf tenant log
  unfolding StandsFor
  stands_here log s = subst (λ o. StandsIn o log) (sym (slice_get-mapped (content_in shelf.block) shelf.cells tenant cell at)) s

  room_there : room_of shelf tenant ≡ cell.room
  unfolding room_of
  room_there = ap room_in (slice_get-mapped (content_in shelf.block) shelf.cells tenant cell at)

  -- what holds of each log that the cell stands for holds of each that leaves what it holds
  pub of_each_left : (P : Log → Type 0) → HasStood shelf.block cell → ((log : Log) → StandsFor shelf tenant log → P log) → (log : Log) → Leaves (base_of shelf.block cell) log → P log
  of_each_left P stood each log left = each log (stands_here log (stands_by shelf cell log stood left))

-- ---- a call that is served

with_event_at : List Account → ℕ → Event → List Account
with_event_at [] n e = []
with_event_at (a ∷ accounts) zero e = with_event a e ∷ accounts
with_event_at (a ∷ accounts) (suc n) e = a ∷ with_event_at accounts n e

event_own : (accounts : List Account) (tenant : ℕ) (e : Event) (account : Account) → slice_get accounts tenant ≡ Some account
    → slice_get (with_event_at accounts tenant e) tenant ≡ Some (with_event account e)
unfolding with_event_at
event_own [] tenant e account is = absurd (cc)
event_own (a ∷ accounts) zero e account is = ap (λ (b : Account). Some (with_event b e)) (same_Some a account is)
event_own (a ∷ accounts) (suc n) e account is = event_own accounts n e account is

event_others : (accounts : List Account) (tenant : ℕ) (e : Event) (other : ℕ) → (other ≡ tenant → ⊥)
    → slice_get (with_event_at accounts tenant e) other ≡ slice_get accounts other
unfolding with_event_at
event_others [] tenant e other apart = refl
event_others (a ∷ accounts) zero e zero apart = absurd (apart refl)
event_others (a ∷ accounts) zero e (suc other) apart = refl
event_others (a ∷ accounts) (suc n) e zero apart = refl
event_others (a ∷ accounts) (suc n) e (suc other) apart = event_others accounts n e other (λ is. apart (ap suc is))

event_tenants : (accounts : List Account) (tenant : ℕ) (e : Event) → length (with_event_at accounts tenant e) ≡ length accounts
unfolding with_event_at
event_tenants [] tenant e = refl
event_tenants (a ∷ accounts) zero e = refl
event_tenants (a ∷ accounts) (suc n) e = ap suc (event_tenants accounts n e)

event_entered : (accounts : List Account) (tenant : ℕ) (e : Event) → IsEntered accounts (with_event_at accounts tenant e) tenant e
event_entered accounts tenant e = record { own = event_own accounts tenant e; others = event_others accounts tenant e; tenants = event_tenants accounts tenant e }

begins_as : (one two now : Account) → one ≡ two → BeginsAnew one now → BeginsAnew two now
begins_as one two now same = subst (λ (a : Account). BeginsAnew a now) same

module _ (old new : ShelfCells) (before after : List BareTenant) (tenant : ℕ) (its : BareTenant) (bare : IsBare old before) (there : slice_get before tenant ≡ Some its)
    (is : after ≡ set before tenant (record { limits = its.limits; served = its.served + 1 })) (others : OtherCellsKept old new tenant) (many : tenants new ≡ tenants old)
    (seat number : ℕ) (call : Call) where
  abbrev accounts_before : List Account
  accounts_before = bare_accounts old before old.cells

  abbrev accounts_after : List Account
  accounts_after = bare_accounts new after new.cells

  within : tenant < length before
  within = slice_get_within before tenant its there

  as_many : length new.cells ≡ length old.cells
  unfolding tenants
  as_many = many

  as_long : length after ≡ length new.cells
  as_long = ap length is ∙ length-set before tenant (record { limits = its.limits; served = its.served + 1 }) ∙ bare.as_many ∙ sym as_many

  own_after : slice_get after tenant ≡ Some (record { limits = its.limits; served = its.served + 1 })
  own_after = ap (λ (all : List BareTenant). slice_get all tenant) is ∙ slice_get-set_same before tenant (record { limits = its.limits; served = its.served + 1 }) within

  other_after : (other : ℕ) → (other ≡ tenant → ⊥) → slice_get after other ≡ slice_get before other
  other_after other apart =
      ap (λ (all : List BareTenant). slice_get all other) is ∙ slice_get-set_other before tenant other (record { limits = its.limits; served = its.served + 1 }) apart

  -- another tenant's cell
  module _ (other : ℕ) (apart : other ≡ tenant → ⊥) (cell now : Parts) (was : slice_get old.cells other ≡ Some cell) (at : slice_get new.cells other ≡ Some now) where
    other_room : now.room ≡ cell.room
    other_room = sym (room_there new other now at) ∙ (others other apart).0 ∙ room_there old other cell was

    other_stands : (log : Log) → CellStandsFor (content_in old.block cell) log → CellStandsFor (content_in new.block now) log
    other_stands log s = stands_there new other now at log ((others other apart).1 log (stands_here old other cell was log s))

    other_begins : (its : BareTenant) → IsCellOf old its cell → BeginsAnew (bare_account old its cell) (bare_account new its now)
    other_begins its of = record {
      limits = refl;
      number = refl;
      places = omega arith;
      content = record {
        room = other_room;
        leaves = λ log left. leaves_by new now log (other_stands log (stands_by old cell log of.stood left));
      };
      none = refl;
    }

    other_of : (its : BareTenant) → IsCellOf old its cell → IsCellOf new its now
    other_of its of = record {
      room = other_room ∙ of.room;
      stood = (of.stood.0, subst (λ (room : Room). IsSound room of.stood.0) (sym other_room) of.stood.1, other_stands of.stood.0 of.stood.2);
    }

  -- the tenant's own
  module _ (r : Reply) (serves : ServesTenant old new tenant call r) where
    module _ (cell now : Parts) (was : slice_get old.cells tenant ≡ Some cell) (at : slice_get new.cells tenant ≡ Some now) where
      cell_serves : Serves (content_in old.block cell) (content_in new.block now) call r
      cell_serves = record {
        room = sym (room_there new tenant now at) ∙ serves.room ∙ room_there old tenant cell was;
        reply = λ log s. serves.reply log (stands_here old tenant cell was log s) ∙ ap (λ (room : Room). reply_after room log call) (room_there old tenant cell was);
        history = λ log s. stands_there new tenant now at (record { call = call; reply = r } ∷ log) (serves.history log (stands_here old tenant cell was log s));
      }

      own_begins : IsCellOf old its cell
          → BeginsAnew (with_event (bare_account old its cell) (event seat number call r)) (bare_account new (record { limits = its.limits; served = its.served + 1 }) now)
      own_begins of = record {
        limits = refl;
        number = refl;
        places = omega arith;
        content = record {
          room = cell_serves.room;
          leaves = λ log left. leaves_by new now (record { call = call; reply = r } ∷ log) (cell_serves.history log (stands_by old cell log of.stood left));
        };
        none = refl;
      }

      own_of : IsCellOf old its cell → IsCellOf new (record { limits = its.limits; served = its.served + 1 }) now
      own_of of = record { room = cell_serves.room ∙ of.room; stood = has_stood old.block new.block cell now call of.stood (Some r) cell_serves }

    own_cell : (cell : Parts) × (slice_get old.cells tenant ≡ Some cell)
    own_cell = cell_at old.cells tenant (omega (arith, within, bare.as_many))

    -- each cell is its tenant's still
    still_bare : IsBare new after
    still_bare = record {
      as_many = as_long;
      each = λ other whose now is_of at.
          ⊎_elim
          (λ same.
          let here : slice_get new.cells tenant ≡ Some now = ap (slice_get new.cells) (sym same.1) ∙ at in
          let same_its = same_Some (record { limits = its.limits; served = its.served + 1 }) whose (sym own_after ∙ ap (slice_get after) (sym same.1) ∙ is_of) in
          subst (λ (t : BareTenant). IsCellOf new t now) same_its
          (own_of own_cell.0 now own_cell.1 here (bare.each tenant its own_cell.0 there own_cell.1)))
          (λ apart.
          let was = cell_at old.cells other (omega (arith, slice_get_within new.cells other now at, as_many)) in
          other_of other apart.1 was.0 now was.1 at whose (bare.each other whose was.0 (sym (other_after other apart.1) ∙ is_of) was.1))
          (eqb_tells other tenant);
    }

    -- no account keeps the event
    begun_anew : AreBegunAnew (with_event_at accounts_before tenant (event seat number call r)) accounts_after
    begun_anew = record {
      each = λ other account at.
          ⊎_elim
          (λ same.
          let own : slice_get accounts_before tenant ≡ Some (bare_account old its own_cell.0) = account_at old before old.cells tenant its own_cell.0 there own_cell.1 in
          let now = cell_at new.cells tenant (omega (arith, within, bare.as_many, as_many)) in
          let same_account = same_Some (with_event (bare_account old its own_cell.0) (event seat number call r)) account
          (sym (event_own accounts_before tenant (event seat number call r) (bare_account old its own_cell.0) own) ∙ ap (slice_get (with_event_at accounts_before tenant (event seat number call r))) (sym same.1) ∙ at) in
          let more : BareTenant = record { limits = its.limits; served = its.served + 1 } in (
            bare_account new more now.0,
            begins_as _ account _ same_account (own_begins own_cell.0 now.0 own_cell.1 now.1 (bare.each tenant its own_cell.0 there own_cell.1)),
            ap (slice_get accounts_after) same.1 ∙ account_at new after new.cells tenant more now.0 own_after now.1,
          ))
          (λ apart.
          let stood = at_account old before old.cells other account (sym (event_others accounts_before tenant (event seat number call r) other apart.1) ∙ at) in
          let now = cell_at new.cells other (omega (arith, slice_get_within old.cells other stood.1 stood.3, as_many)) in (
            bare_account new stood.0 now.0,
            begins_as _ account _ stood.4 (other_begins other apart.1 stood.1 now.0 stood.3 now.1 stood.0 (bare.each other stood.0 stood.1 stood.2 stood.3)),
            account_at new after new.cells other stood.0 now.0 (other_after other apart.1 ∙ stood.2) now.1,
          ))
          (eqb_tells other tenant);
      tenants = as_many_accounts new after new.cells as_long ∙ as_many ∙ sym (as_many_accounts old before old.cells bare.as_many)
          ∙ sym (event_tenants accounts_before tenant (event seat number call r));
    }

    taken_so : IsTaken false accounts_before accounts_after tenant (event seat number call r)
    taken_so = (with_event_at accounts_before tenant (event seat number call r), event_entered accounts_before tenant (event seat number call r), begun_anew)

    told_so : IsReplyInEpoch accounts_before tenant call r
    unfolding events_at base_at account_room
    told_so =
        let of = bare.each tenant its own_cell.0 there own_cell.1 in
        let at : slice_get accounts_before tenant ≡ Some (bare_account old its own_cell.0) = account_at old before old.cells tenant its own_cell.0 there own_cell.1 in
        let Q : Option Account → Type 0 = λ o. (log : Log) → Leaves (base_in o) log → r ≡ reply_after (room_of_account o) (log_after (events_in o) ++ log) call in
        subst Q (sym at)
        (λ log left.
        serves.reply log (stands_here old tenant own_cell.0 own_cell.1 log (stands_by old own_cell.0 log of.stood left))
        ∙ ap (λ (room : Room). reply_after room log call) (room_there old tenant own_cell.0 own_cell.1 ∙ of.room))

  -- what the buffer has is the reply
  pub bare_still : (reply : Option Reply) → IsSomeAnd reply (λ told. ServesTenant old new tenant call told) → IsBare new after
  bare_still None serves = absurd serves
  bare_still (Some r) serves = still_bare r serves

  pub bare_taken : (reply : Option Reply) → IsSomeAnd reply (λ told. ServesTenant old new tenant call told)
      → IsSomeAnd reply (λ told. IsTaken false accounts_before accounts_after tenant (event seat number call told))
  bare_taken None serves = absurd serves
  bare_taken (Some r) serves = taken_so r serves

  pub bare_told : (reply : Option Reply) → IsSomeAnd reply (λ told. ServesTenant old new tenant call told) → IsSomeAnd reply (λ told. IsReplyInEpoch accounts_before tenant call told)
  bare_told None serves = absurd serves
  bare_told (Some r) serves = told_so r serves

-- the place of the next call
pub bare_place : (shelf : ShelfCells) (all : List BareTenant) (tenant : ℕ) (its : BareTenant) → IsBare shelf all → slice_get all tenant ≡ Some its
    → its.served + 1 ≡ before_at (bare_accounts shelf all shelf.cells) tenant + length (events_at (bare_accounts shelf all shelf.cells) tenant) + 1
unfolding before_at events_at
bare_place shelf all tenant its bare there =
    let cell = cell_at shelf.cells tenant (omega (arith, slice_get_within all tenant its there, bare.as_many)) in
    let P : Option Account → Type 0 = λ o. its.served + 1 ≡ before_in o + length (events_in o) + 1 in
    subst P (sym (account_at shelf all shelf.cells tenant its cell.0 there cell.1)) (omega arith)

-- no more were served than places were given
pub few_served : (shelf : ShelfCells) (all : List BareTenant) (tenant : ℕ) (its : BareTenant) → IsBare shelf all → slice_get all tenant ≡ Some its
    → ((account : Account) → slice_get (bare_accounts shelf all shelf.cells) tenant ≡ Some account → places account < 2 ^ 63) → its.served < 2 ^ 63
few_served shelf all tenant its bare there few =
    let cell = cell_at shelf.cells tenant (omega (arith, slice_get_within all tenant its there, bare.as_many)) in
    let told : its.served + 0 < 2 ^ 63 = few (bare_account shelf its cell.0) (account_at shelf all shelf.cells tenant its cell.0 there cell.1) in
    omega (arith, told)

-- ---- cells that were opened

module _ (shelf : ShelfCells) (limits : List Limits) (many : tenants shelf ≡ length limits)
    (rooms : (tenant : ℕ) (its : Limits) → slice_get limits tenant ≡ Some its → room_of shelf tenant ≡ record { slots = its.slots; items = its.items; clients = its.clients })
    (empty : (tenant : ℕ) → tenant < length limits → StandsFor shelf tenant []) where
  as_limits : length shelf.cells ≡ length limits
  unfolding tenants
  as_limits = many

  opened_of : (tenant : ℕ) (its : Limits) (cell : Parts) → slice_get limits tenant ≡ Some its → slice_get shelf.cells tenant ≡ Some cell → IsCellOf shelf (new_tenant its) cell
  opened_of tenant its cell is at = record {
    room = sym (room_there shelf tenant cell at) ∙ rooms tenant its is;
    stood = ([], tt, stands_there shelf tenant cell at [] (empty tenant (slice_get_within limits tenant its is)));
  }

  pub opened_bare : (all : List BareTenant) → all ≡ map new_tenant limits → IsBare shelf all
  opened_bare all is = record {
    as_many = ap length is ∙ length-map limits new_tenant ∙ sym as_limits;
    each = λ tenant whose cell there at.
        let its = mapped_at new_tenant limits tenant whose (ap (λ (l : List BareTenant). slice_get l tenant) (sym is) ∙ there) in
        subst (λ (t : BareTenant). IsCellOf shelf t cell) its.2 (opened_of tenant its.0 cell its.1 at);
  }

  pub opened_anew : (all : List BareTenant) → all ≡ map new_tenant limits → AreBegunAnew (map new_account limits) (bare_accounts shelf all shelf.cells)
  unfolding opened_of
  opened_anew all is = record {
    each = λ tenant account at.
        let its = mapped_at new_account limits tenant account at in
        let cell = cell_at shelf.cells tenant (omega (arith, as_limits, slice_get_within limits tenant its.0 its.1)) in
        let of = opened_of tenant its.0 cell.0 its.1 cell.1 in
        let there : slice_get all tenant ≡ Some (new_tenant its.0) = ap (λ (l : List BareTenant). slice_get l tenant) is ∙ slice_get-mapped new_tenant limits tenant its.0 its.1 in (
          bare_account shelf (new_tenant its.0) cell.0,
          begins_as _ account _ its.2 (record {
            limits = refl;
            number = refl;
            places = omega arith;
            content = record {
              room = of.room;
              leaves = λ log left. leaves_by shelf cell.0 log
                  (one_content (content_in shelf.block cell.0) (empty_base (room_for its.0)) [] log of.stood.2 (nothing_left (room_for its.0)) left);
            };
            none = refl;
          }),
          account_at shelf all shelf.cells tenant (new_tenant its.0) cell.0 there cell.1,
        );
    tenants = as_many_accounts shelf all shelf.cells (ap length is ∙ length-map limits new_tenant ∙ sym as_limits) ∙ as_limits ∙ sym (length-map limits new_account);
  }
