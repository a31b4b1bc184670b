use Rattle.std.proofs.Common.{◌≤◌, length, subst, Option, ◌≡◌, ap, sym, ◌∙◌, Some, None, inl, inr, refl, arith}
use Rattle.std.proofs.lemmas.Bool.{both_ways}
use Rattle.plain_store.specs.declared.calls.Reply.{Reply}
use Rattle.plain_store.specs.declared.calls.Call.TheVariants.{Get, Found}
use Rattle.plain_store.specs.declared.calls.Reply.TheVariants.{Get as ToGet, Found as ToFound}
use Rattle.plain_store.specs.Finding.{all_keys_found, keys_found, count_found}
use Rattle.plain_store.specs.Rounds.{needed}
use Rattle.tenant_sessions.specs.Running.{is_reply_of}
use Rattle.tenant_sessions.proofs.Offers.{find_asked, get_offered, is_found_reply, is_get_reply, of_found, of_get}
use Rattle.tenant_sessions.proofs.Shown.{as_it_is, found_as, offered_found}
use Rattle.tenant_sessions.proofs.running_search.offer_reply.Goals as goal
use Rattle.tenant_sessions.proofs.running_search.offer_reply.Goals.{in_default-via-in-Found+in_default, in_default-via-in-Get+in_default, in_default-via-in_default}

few_so : {o : Option Reply} {r : Reply} → o ≡ Some r → length (keys_found (Some r)) ≤ count_found (Some r) → length (keys_found o) ≤ count_found o
few_so is few = subst (λ (r : Option Reply). length (keys_found r) ≤ count_found r) (sym is) few

pub returns-in-Found-Found : goal.returns-in-Found-Found
returns-in-Found-Found c = λ replied.
    let message = c.args.message.now in
    let asked = c.in-Found-Found.is-0 in
    let to = replied ∙ ap Some c.in-Found-Found.is-1 in
    let few = few_so replied c.read_keys.ensures in
    record {
      few = few;
      takes = λ setup tag taken s is.
          c.take_found.ensures.takes setup tag taken message s (record { tag = c.in-Found-Found.field-0-0; call = asked; at = refl; replied = to });
      shown = λ setup tag taken s.
          found_as setup tag taken message c.args.search.now c.args.reader.now c.take_found.new.self c.take_found.new.reader _ s few message (as_it_is message)
          (c.take_found.ensures.takes setup tag taken message s (record { tag = c.in-Found-Found.field-0-0; call = asked; at = refl; replied = to }));
      foreign = λ other. absurd (both_ways _ other (of_found message.call message.reply _ _ asked to));
      calls = c.take_found.ensures.few;
    }

pub returns-in-Get-Get : goal.returns-in-Get-Get
returns-in-Get-Get c = λ replied.
    let message = c.args.message.now in
    let asked = c.in-Get-Get.is-0 in
    let to = replied ∙ ap Some c.in-Get-Get.is-1 in
    let few = few_so replied c.read_keys.ensures in
    record {
      few = few;
      takes = λ setup tag taken s is.
          elim (find_asked setup taken message tag is) [
            | inl found ↦ let calls : Get c.in-Get-Get.key c.in-Get-Get.field-1-0 ≡ Found tag = sym asked ∙ found.1 in absurd cc
            | inr get ↦
                elim (get_offered setup taken message (all_keys_found taken) c.in-Get-Get.key c.in-Get-Get.field-1-0 c.in-Get-Get.reply get.1 asked to) [
                  | inl first ↦ c.take.ensures.first setup tag taken message (c.round.ensures ∙ first.0) s first.1
                  | inr second ↦ c.take.ensures.second setup tag taken message (c.round.ensures ∙ second.0) s second.1
                ]
          ];
      shown = λ setup tag taken s.
          offered_found setup tag taken message c.args.search.now c.args.reader.now c.take.new.self c.take.new.reader _ s few c.in-Get-Get.key c.in-Get-Get.reply c.in-Get-Get.field-1-0 asked to
          (λ round m first. c.take.ensures.first setup tag taken m (c.round.ensures ∙ round) s first)
          (λ round m second. c.take.ensures.second setup tag taken m (c.round.ensures ∙ round) s second);
      foreign = λ other. absurd (both_ways _ other (of_get message.call message.reply _ _ _ asked to));
      calls = c.take.ensures.few;
    }

pub returns-in_default : goal.returns-in_default
returns-in_default c = λ replied.
    let message = c.args.message.now in
    record {
      few = few_so replied c.read_keys.ensures;
      shown = λ setup tag taken s. inl (refl, s);
      foreign = λ other. (refl, refl, refl);
      calls = omega arith;
      takes = λ setup tag taken s is.
          elim c.in_default.branch [
            | in_default-via-in-Found+in_default w ↦
                let d = w.in_default in
                let f = is_found_reply d.field-0-0 message.reply (ap (λ call. is_reply_of call message.reply) (sym d.is-0) ∙ is.of_kind) in
                let two : Some c.args.reply.now ≡ Some (ToFound f.0) = sym replied ∙ f.1 in
                let same : c.args.reply.now ≡ ToFound f.0 = cc in
                absurd (d.not-Found-1 f.0 same)
            | in_default-via-in-Get+in_default w ↦
                let d = w.in_default in
                let f = is_get_reply d.field-0-0 d.field-1-0 message.reply (ap (λ call. is_reply_of call message.reply) (sym d.is-0) ∙ is.of_kind) in
                let two : Some c.args.reply.now ≡ Some (ToGet f.0) = sym replied ∙ f.1 in
                let same : c.args.reply.now ≡ ToGet f.0 = cc in
                absurd (d.not-Get-1 f.0 same)
            | in_default-via-in_default w ↦
                elim (find_asked setup taken message tag is) [
                  | inl found ↦ absurd (w.in_default.not-Found-0 tag found.1)
                  | inr get ↦
                      elim get.1 [
                        | inl first ↦ absurd (w.in_default.not-Get-0 first.0 None first.2)
                        | inr second ↦ absurd (w.in_default.not-Get-0 second.0 (Some (needed (all_keys_found taken) taken second.0)) second.3)
                      ]
                ]
          ];
    }
