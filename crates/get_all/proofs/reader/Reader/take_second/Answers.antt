use Rattle.std.proofs.Common.{true, false, ◌&&◌, ◌==◌, ℕ, [], ◌∷◌, ◌++◌, not, refl, ap, sym, ◌∙◌, cond, Some}
use Rattle.std.specs.Prelude.{bytes_eq}
use Rattle.std.specs.List.{list_any, list_all}
use Rattle.plain_store.specs.declared.calls.ReadReply.TheVariants.{Version, Initial, Collected, Unknown}
use Rattle.plain_store.specs.declared.refusal.Refusal.TheVariants.{Torn as IsTorn}
use Rattle.plain_store.specs.Moves.{Restarts, Fails}
use Rattle.get_all.specs.Reader.{told_by}
use Rattle.get_all.specs.declared.reader.ReadMove.TheVariants.{Restart, Torn}
use Rattle.get_all.specs.ReadProgress.{awaits_second, first_shows, is_answered_by, readings_by}
use Rattle.get_all.specs.declared.read_progress.KeyProgress.{KeyProgress}
use Rattle.plain_store.specs.Rounds.{needed}
use Rattle.get_all.proofs.Steps.{wanted_second, ignores, named_second, takes_second, ends_second, false_second, floor_above, torn_version}
use Rattle.get_all.proofs.CallsLeft.{second_few}
use Rattle.get_all.proofs.reader.Reader.take_second.Goals as goal
use Rattle.get_all.proofs.reader.Reader.take_second.Goals.{then-not-are_shown-via-then-not-are_shown, then-not-are_shown-via-else-not-are_shown+then-not-await_second}

pub returns-then-not-are_shown-clause-takes : goal.returns-then-not-are_shown-clause-takes
returns-then-not-are_shown-clause-takes c = λ keys taken message s is.
    let r = c.args.self.now in
    let waits = list_any (awaits_second r.slots c.args.key.now) r.slots in
    let wanted = wanted_second keys taken message r s c.requires c.args.key.now c.args.reply.now is in
    ignores keys taken message r s
    (elim c.then-not-are_shown.branch [
      | then-not-are_shown-via-then-not-are_shown w ↦ wanted ∙ ap (λ b. b && waits) (sym c.are_shown.ensures ∙ w.if-not-are_shown.true)
      | then-not-are_shown-via-else-not-are_shown+then-not-await_second w ↦
          wanted ∙ ap (λ b. b && waits) (sym c.are_shown.ensures ∙ w.if-not-are_shown.false)
          ∙ sym w.await_second.ensures ∙ w.if-not-await_second.true
    ])

pub returns-then-is_needed-clause-takes : goal.returns-then-is_needed-clause-takes
returns-then-is_needed-clause-takes c = λ keys taken message s is.
    let r = c.args.self.now in
    let version = c.in-Version.version in
    let got = named_second keys taken message c.args.key.now c.args.reply.now (Version version) is c.in-Version.is in
    let slot_test = λ (t : ℕ). bytes_eq version.key c.args.key.now && ((version.stamp == t) && list_any (λ (slot : KeyProgress). first_shows t version.writes slot.first) r.slots) in
    let verdict = false_second keys taken message r s c.requires c.args.key.now version got ∙ ap (λ t. not (slot_test t)) (sym c.needed-needed.ensures) ∙ ap not (sym c.is_needed.ensures ∙ c.if-is_needed.true) in
    takes_second keys taken message r c.show_second.new.self s c.requires c.args.key.now version got verdict
    (sym c.are_shown.ensures ∙ c.if-not-are_shown.false) (sym c.await_second.ensures ∙ c.if-not-await_second.false)
    c.show_second.ensures.slots c.show_second.ensures.ended (told_by c.show_second.new.self c.show_second.result) c.show_second.ensures.answer

pub returns-else-is_needed-clause-takes : goal.returns-else-is_needed-clause-takes
returns-else-is_needed-clause-takes c = λ keys taken message s is.
    let r = c.args.self.now in
    let version = c.in-Version.version in
    let got = named_second keys taken message c.args.key.now c.args.reply.now (Version version) is c.in-Version.is in
    let slot_test = λ (t : ℕ). bytes_eq version.key c.args.key.now && ((version.stamp == t) && list_any (λ (slot : KeyProgress). first_shows t version.writes slot.first) r.slots) in
    let verdict = false_second keys taken message r s c.requires c.args.key.now version got ∙ ap (λ t. not (slot_test t)) (sym c.needed-needed.ensures) ∙ ap not (sym c.is_needed.ensures ∙ c.if-is_needed.false) in
    ends_second keys taken message r c.end.new.self s c.requires c.args.key.now c.args.reply.now (Version version) is c.in-Version.is
    (sym c.are_shown.ensures ∙ c.if-not-are_shown.false) (sym c.await_second.ensures ∙ c.if-not-await_second.false)
    verdict Torn
    (λ setup tells. ap Some (sym (torn_version keys (taken ++ message ∷ []) tells c.args.key.now (needed keys taken c.args.key.now) version verdict)))
    refl tt (ap (λ after. after.has_ended) c.end.ensures.ended)

pub returns-then-lt-clause-takes : goal.returns-then-lt-clause-takes
returns-then-lt-clause-takes c = λ keys taken message s is.
    let above = floor_above keys taken message c.args.self.now s c.requires c.args.key.now c.needed-needed.result c.in-Collected.floor true c.needed-needed.ensures (sym c.lt.ensures ∙ c.if-lt.true) in
    ends_second keys taken message c.args.self.now c.end-then-lt.new.self s c.requires c.args.key.now c.args.reply.now (Collected c.in-Collected.floor) is c.in-Collected.is
    (sym c.are_shown.ensures ∙ c.if-not-are_shown.false) (sym c.await_second.ensures ∙ c.if-not-await_second.false)
    refl (Restart c.args.key.now c.in-Collected.floor) (λ setup tells. ap Some (sym (ap (λ b. cond b (Restarts c.args.key.now c.in-Collected.floor) (Fails IsTorn [])) above)))
    refl tt (ap (λ after. after.has_ended) c.end-then-lt.ensures.ended)

pub returns-else-lt-clause-takes : goal.returns-else-lt-clause-takes
returns-else-lt-clause-takes c = λ keys taken message s is.
    let above = floor_above keys taken message c.args.self.now s c.requires c.args.key.now c.needed-needed.result c.in-Collected.floor false c.needed-needed.ensures (sym c.lt.ensures ∙ c.if-lt.false) in
    ends_second keys taken message c.args.self.now c.end-else-lt.new.self s c.requires c.args.key.now c.args.reply.now (Collected c.in-Collected.floor) is c.in-Collected.is
    (sym c.are_shown.ensures ∙ c.if-not-are_shown.false) (sym c.await_second.ensures ∙ c.if-not-await_second.false)
    refl Torn (λ setup tells. ap Some (sym (ap (λ b. cond b (Restarts c.args.key.now c.in-Collected.floor) (Fails IsTorn [])) above)))
    refl tt (ap (λ after. after.has_ended) c.end-else-lt.ensures.ended)

pub returns-in-Initial-clause-takes : goal.returns-in-Initial-clause-takes
returns-in-Initial-clause-takes c = λ keys taken message s is.
    ends_second keys taken message c.args.self.now c.end-in-Initial.new.self s c.requires c.args.key.now c.args.reply.now Initial is c.in-Initial.is
    (sym c.are_shown.ensures ∙ c.if-not-are_shown.false) (sym c.await_second.ensures ∙ c.if-not-await_second.false)
    refl Torn (λ setup tells. refl) refl tt (ap (λ after. after.has_ended) c.end-in-Initial.ensures.ended)

pub returns-in-Unknown-clause-takes : goal.returns-in-Unknown-clause-takes
returns-in-Unknown-clause-takes c = λ keys taken message s is.
    ends_second keys taken message c.args.self.now c.end-in-Unknown.new.self s c.requires c.args.key.now c.args.reply.now Unknown is c.in-Unknown.is
    (sym c.are_shown.ensures ∙ c.if-not-are_shown.false) (sym c.await_second.ensures ∙ c.if-not-await_second.false)
    refl Torn (λ setup tells. refl) refl tt (ap (λ after. after.has_ended) c.end-in-Unknown.ensures.ended)

pub returns-then-is_needed-clause-few : goal.returns-then-is_needed-clause-few
returns-then-is_needed-clause-few c =
    let after = c.show_second.new.self in
    second_few c.args.self.now.has_ended c.args.self.now.slots c.args.key.now c.in-Version.version (sym c.are_shown.ensures ∙ c.if-not-are_shown.false)
    after c.show_second.ensures.slots _ (list_all (is_answered_by after.slots) after.slots) (readings_by after.slots) c.show_second.ensures.answer
