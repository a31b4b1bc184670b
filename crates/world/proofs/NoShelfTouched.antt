-- Acts that touch no shelf: for `Tenant::step`.
use Rattle.std.proofs.Common.{◌≡◌, ℕ, List, refl, sym, subst, Result}
use Rattle.plain_store.specs.declared.step.Act.{Act}
use Rattle.plain_store.specs.declared.answer.Answer.{Answer}
use Rattle.plain_store.specs.declared.out_of_memory.OutOfMemory.{OutOfMemory}
use Rattle.plain_store.specs.Run.{moment_of}
use Rattle.partition.specs.declared.shelf.Shelf.{Shelf}
use Rattle.world.specs.declared.tenant.Tenant.{Tenant}
use Rattle.world.specs.Standing.{TakesOrStays, ServesOrStays}
use Rattle.world.proofs.Results.{match_map}
use Rattle.world.proofs.QuietLogs.{IsOffShelf, off_shelf_silent}
use Rattle.world.proofs.Cells.{cells_silent}

-- where the tenant takes such an act, the cells still stand for their logs
pub serves_off : (old new : Tenant) (shelves : List Shelf) (number : ℕ) (act own : Act) (result : Result Answer OutOfMemory) → act ≡ own → TakesOrStays old new own result → IsOffShelf own → ServesOrStays old new shelves shelves number act result
serves_off old new shelves number act own result is takes off = subst (λ a. ServesOrStays old new shelves shelves number a result) (sym is) (λ setup history its run stands cells.
    match_map result _ _ _ _
    (λ answer took. (took, cells_silent setup history (moment_of setup history own) shelves number (λ partition. off_shelf_silent setup history partition own off) cells))
    (λ error still. (still, refl))
    (takes setup history run stands))
