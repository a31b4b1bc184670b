use Rattle.partition.proofs.Paired.{same_get, same_found}
use Rattle.partition.proofs.journal.is_reply.Goals as goal

pub returns-in-Get-Get : goal.returns-in-Get-Get
returns-in-Get-Get c = rw (c.in-Get-Get.is-0, c.in-Get-Get.is-1) (same_get c.eq-in-Get-Get.result c.in-Get-Get.own c.in-Get-Get.other c.eq-in-Get-Get.ensures)

pub returns-in-Found-Found : goal.returns-in-Found-Found
returns-in-Found-Found c = rw (c.in-Found-Found.is-0, c.in-Found-Found.is-1) (same_found c.eq-in-Found-Found.result c.in-Found-Found.found c.in-Found-Found.other c.eq-in-Found-Found.ensures)
