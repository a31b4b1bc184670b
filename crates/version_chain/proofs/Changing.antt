-- For the calls of `Chains` and their callers. What each call leaves, whatever it was asked for.
use Rattle.std.proofs.Common.{ℕ, Option, refl, ◌∙◌, arith}
use Rattle.version_chain.specs.declared.stamp_list.Kept.{Kept}
use Rattle.version_chain.specs.declared.version.Version.{Version}
use Rattle.std.specs.Prelude.{List}
use Rattle.version_chain.specs.Heads.{Heads}
use Rattle.version_chain.specs.Chain.{Cells, HoldsChains, HasShare}
use Rattle.version_chain.specs.Changes.{ChangesChain, GivesUp, HasChain, HasRoomFor, HaveOneMore}
use Rattle.version_chain.specs.Listed.{with_kept}
use Rattle.version_chain.specs.Place.{IsPlace}
use Rattle.version_chain.specs.Sharing.{ChangesOwn}
use Rattle.version_chain.proofs.Listing.{stands_with}

-- nothing
pub own_none : (cells : Cells) (heads : Heads) → ChangesOwn cells cells heads heads
own_none cells heads = record {
  shape = record { tenant = refl; share = refl; long = refl };
  others = record { long = refl; cells = λ other slot different. refl };
  live = refl;
}

pub changes_none : (cells : Cells) (heads : Heads) (chain : ℕ) → HoldsChains cells heads → ChangesChain cells heads cells heads chain
changes_none cells heads chain stands = record { own = own_none cells heads; stands = stands; others = λ other known different. refl }

pub gives_none : (cells : Cells) (heads : Heads) → GivesUp 0 cells heads cells heads
gives_none cells heads = record { used = omega arith; none = λ e. (refl, refl) }

-- one call after another
pub own_next : (first mid last : Cells) (old half new : Heads) → ChangesOwn first mid old half → ChangesOwn mid last half new → ChangesOwn first last old new
own_next first mid last old half new before after = record {
  shape = record {
    tenant = after.shape.tenant ∙ before.shape.tenant;
    share = after.shape.share ∙ before.shape.share;
    long = after.shape.long ∙ before.shape.long;
  };
  others = record {
    long = after.others.long ∙ before.others.long;
    cells = λ other slot different. after.others.cells other slot (λ e. different (e ∙ before.shape.tenant)) ∙ before.others.cells other slot different;
  };
  live = omega (arith, before.live, after.live);
}

pub changes_next : (first mid last : Cells) (old half new : Heads) (chain : ℕ) → ChangesChain first old mid half chain → ChangesChain mid half last new chain → ChangesChain first old last new chain
changes_next first mid last old half new chain before after = record {
  own = own_next first mid last old half new before.own after.own;
  stands = after.stands;
  others = λ other known different. after.others other (omega (arith, known, before.own.shape.long)) different ∙ before.others other known different;
}

-- each chain is still there
pub still_chain : (old_cells new_cells : Cells) (old new : Heads) (chain other : ℕ) → ChangesChain old_cells old new_cells new chain → HasChain old_cells old other → HasChain new_cells new other
still_chain old_cells new_cells old new chain other changed has = record { known = omega (arith, has.known, changed.own.shape.long); stands = changed.stands }

-- the tenant's share is still there
pub share_kept : (old_cells new_cells : Cells) (old new : Heads) → ChangesOwn old_cells new_cells old new → HasShare old_cells old → HasShare new_cells new
share_kept old_cells new_cells old new own share = omega (arith, own.shape.share, own.others.long, own.live, share)

-- beside another list
module _ (old_cells new_cells : Cells) (old new : Heads) (kept : List Kept) where
  pub own_listed : ChangesOwn old_cells new_cells old new → ChangesOwn old_cells new_cells old (with_kept new kept)
  own_listed own = record {
    shape = record { tenant = own.shape.tenant; share = own.shape.share; long = own.shape.long };
    others = own.others;
    live = own.live;
  }

  pub changes_listed : (chain : ℕ) → ChangesChain old_cells old new_cells new chain → ChangesChain old_cells old new_cells (with_kept new kept) chain
  changes_listed chain changed = record { own = own_listed changed.own; stands = stands_with new_cells new kept changed.stands; others = changed.others }

  pub more_listed : (chain : ℕ) (version : Version) → HaveOneMore old_cells old new_cells new chain version → HaveOneMore old_cells old new_cells (with_kept new kept) chain version
  more_listed chain version more = record { inserted = more.inserted; used = more.used }

-- what holds of the same chains beside another list
module _ (cells : Cells) (chains : Heads) (kept : List Kept) (chain : ℕ) where
  pub place_beside : (stamp : ℕ) (last here : Option ℕ) → IsPlace cells chains chain stamp last here → IsPlace cells (with_kept chains kept) chain stamp last here
  place_beside stamp last here place = record { above = place.above; below = place.below; all = place.all; ends = place.ends; goes_on = place.goes_on; not_less = place.not_less; less = place.less }

  pub room_beside : (stamp : ℕ) → HasRoomFor cells chains chain stamp → HasRoomFor cells (with_kept chains kept) chain stamp
  room_beside stamp room = record { share = room.share; room = room.room; missing = room.missing }

  pub changes_from : (new_cells : Cells) (new : Heads) → ChangesChain cells (with_kept chains kept) new_cells new chain → ChangesChain cells chains new_cells new chain
  changes_from new_cells new changed = record {
    own = record { shape = record { tenant = changed.own.shape.tenant; share = changed.own.shape.share; long = changed.own.shape.long }; others = changed.own.others; live = changed.own.live };
    stands = changed.stands;
    others = changed.others;
  }

  pub more_from : (new_cells : Cells) (new : Heads) (version : Version) → HaveOneMore cells (with_kept chains kept) new_cells new chain version → HaveOneMore cells chains new_cells new chain version
  more_from new_cells new version more = record { inserted = more.inserted; used = more.used }
