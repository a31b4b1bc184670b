use Rattle.std.proofs.Common.{ℕ, List, ap, sym, ◌∙◌}
use Rattle.std.specs.Prelude.{nat_lt}
use Rattle.std.specs.List.{list_any}
use Rattle.plain_store.specs.Rounds.{stamp_for, stamp_seen}
use Rattle.get_all.specs.declared.read_progress.KeyProgress.{KeyProgress}
use Rattle.get_all.proofs.Lateness.{below_greatest}
use Rattle.get_all.proofs.read_progress.KeyProgressList.is_late.Goals as goal

pub returns : goal.returns
returns c =
    let self = c.args.self.now in
    let key = c.args.slot.now.key in
    let any_above = λ (n : ℕ) (slots : List KeyProgress). list_any (λ (slot : KeyProgress). nat_lt n (stamp_for key slot.first)) slots in
    c.outdate.ensures ∙ ap (any_above c.first_stamp-stamp.result) c.as_slice.ensures.value ∙ ap (λ n. any_above n self) c.first_stamp-stamp.ensures
    ∙ sym (below_greatest (stamp_seen c.args.slot.now.first) (λ (slot : KeyProgress). stamp_for key slot.first) self)
