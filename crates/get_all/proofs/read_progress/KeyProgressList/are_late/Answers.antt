use Rattle.std.proofs.Common.{◌&&◌, ℕ, List, ap, ◌∙◌}
use Rattle.std.specs.Prelude.{nat_lt}
use Rattle.std.specs.List.{list_any}
use Rattle.stamps.specs.Stamp.{greatest_by}
use Rattle.plain_store.specs.Rounds.{stamp_seen}
use Rattle.get_all.specs.ReadProgress.{is_late_by}
use Rattle.get_all.specs.declared.read_progress.KeyProgress.{KeyProgress}
use Rattle.get_all.proofs.Lateness.{late_below_newest}
use Rattle.get_all.proofs.read_progress.KeyProgressList.are_late.Goals as goal

pub returns : goal.returns
returns c =
    let self = c.args.self.now in
    let late_below = λ (n : ℕ). list_any (λ (slot : KeyProgress). nat_lt (stamp_seen slot.first) n && is_late_by self slot) self in
    let newest_of = λ (slots : List KeyProgress). greatest_by (λ (slot : KeyProgress). stamp_seen slot.first) slots in
    c.are_late_below.ensures ∙ ap late_below (c.newest.ensures ∙ ap newest_of c.as_slice.ensures.value) ∙ late_below_newest self
