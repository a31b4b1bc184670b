-- A block of places may cross threads where its values may, and where its allocator frees blocks on any thread.
use Rattle.std.proofs.Common.{List, [], ◌∷◌, Option, Some, None, length}
use base.Fml.{ftrue}
use base.Shift.{Keyless}
use mir.Raw.{raw}
use mir.Syntax.{ty_array}
use denote.Builtin.{RawPtr}
use denote.Memory.{lone}
use denote.Param.Send.{IsSend, Frees, sendable, owning_send, struct_send}
use denote.RattleType.{RattleType}
use denote.RawPtr.{Ptr, block_ptr, null_ptr, in_block, ◌+ₚ◌}
use denote.Struct.Owning.{shape, fields, to}
use denote.Struct.Struct.{exits_of}
use Rattle.core.specs.Mem.{type_size}
use Rattle.core.specs.contracts.marker.PhantomData as PhantomData
use Rattle.core.specs.declared.alloc.Allocator.{Ghosts}
use Rattle.std_alloc.proofs.SendSync.{lies, quiet}
use Rattle.version_arena.specs.Ownership.{place_at, places_at}
use Rattle.version_arena.specs.contracts.raw_cells.RawCells.{the_row, the_type}

not_null : (p : Ptr) → Keyless (in_block p ftrue)
not_null (block_ptr b o) = tt
not_null null_ptr = tt

module _ (C : RattleType) (C-send : IsSend C) where
  place_keyless : (p : Ptr) (place : Option C.Denot) → Keyless (place_at C p place)
  place_keyless (block_ptr b o) None = tt
  place_keyless null_ptr None = tt
  place_keyless p (Some value) = lies C C-send p value

  places_keyless : (p : Ptr) (places : List (Option C.Denot)) → Keyless (places_at C p places)
  places_keyless p [] = tt
  places_keyless p (place ∷ places) = (place_keyless p place, places_keyless (p +ₚ type_size C) places)

pub send : (C A : RattleType) (g : Ghosts A.Denot) → IsSend C → IsSend A → Frees g g.dealloc_token → IsSend (the_row C A g)
send C A g C-send A-send anywhere =
    let O = the_type C A g in let pointer : IsSend RawPtr = search sendable in let phantom : IsSend (PhantomData.the_field A).row = search sendable in
    owning_send O (pointer, (phantom, tt))
    (λ d. (tt, (not_null d.at, (places_keyless C C-send d.at d.held, anywhere.frees d.alloc (raw (ty_array (lone C.mir) (length d.held))) d.at))))
    (λ k. quiet (to O) (exits_of k (fields O)) ((struct_send (shape O) (pointer, (phantom, tt))).leaving k))
