use Rattle.std.proofs.Common.{◌≡◌, true, false, not, refl, ap, sym, ◌∙◌, Some, None}
use Rattle.std.specs.Prelude.{is_some, bytes_eq}
use Rattle.plain_store.specs.declared.calls.ReadReply.{ReadReply}
use Rattle.plain_store.specs.declared.calls.ReadReply.TheVariants.{Version, Initial, Collected, Unknown}
use Rattle.plain_store.specs.declared.calls.Reply.TheVariants.{Get as ToGet}
use Rattle.get_all.specs.Reading.{IsFirst}
use Rattle.get_all.specs.Reader.{told_by}
use Rattle.get_all.specs.declared.reader.ReadMove.TheVariants.{Torn}
use Rattle.get_all.proofs.OneSlot.{awaits_found}
use Rattle.get_all.proofs.Steps.{wanted_first, ignores, takes_first, torn_first}
use Rattle.std.specs.List.{list_all}
use Rattle.get_all.specs.ReadProgress.{awaits_first, is_answered_by, readings_by}
use Rattle.get_all.proofs.CallsLeft.{first_few}
use Rattle.get_all.proofs.reader.Reader.take_first.Goals as goal

pub returns-in_default-clause-takes : goal.returns-in_default-clause-takes
returns-in_default-clause-takes c = λ keys taken message s is.
    let r = c.args.self.now in
    ignores keys taken message r s
    (wanted_first keys taken message r s c.requires c.args.key.now c.args.reply.now is
    ∙ awaits_found (awaits_first c.args.key.now) r.slots ∙ ap is_some (sym c.first_place.ensures ∙ c.in_default.is))

pub returns-then-is_of-clause-takes : goal.returns-then-is_of-clause-takes
returns-then-is_of-clause-takes c = λ keys taken message s is.
    let r = c.args.self.now in
    let version = c.in-Version.version in
    let key_is : bytes_eq version.key c.args.key.now ≡ true = sym c.is_of.ensures ∙ c.if-is_of.true in
    let got : IsFirst c.args.key.now (Version c.in-Version.version) message = record { call = is.call; replied = is.replied ∙ ap (λ (r : ReadReply). Some (ToGet r)) c.in-Version.is } in
    takes_first keys taken message r c.show_first.new.self s c.requires c.args.key.now (Version version) got (Some version) (λ k. refl) (λ t ws. refl)
    (ap not key_is) (awaits_found (awaits_first c.args.key.now) c.args.self.now.slots ∙ ap is_some (sym c.first_place.ensures ∙ c.in-Some.is))
    c.show_first.ensures.slots c.show_first.ensures.ended (told_by c.show_first.new.self c.show_first.new.kind) c.show_first.ensures.answer

pub returns-else-is_of-clause-takes : goal.returns-else-is_of-clause-takes
returns-else-is_of-clause-takes c = λ keys taken message s is.
    let r = c.args.self.now in
    let version = c.in-Version.version in
    let key_is : bytes_eq version.key c.args.key.now ≡ false = sym c.is_of.ensures ∙ c.if-is_of.false in
    let got : IsFirst c.args.key.now (Version c.in-Version.version) message = record { call = is.call; replied = is.replied ∙ ap (λ (r : ReadReply). Some (ToGet r)) c.in-Version.is } in
    torn_first keys taken message r c.end.new.self s c.requires c.args.key.now (Version version) got
    (ap not key_is) (awaits_found (awaits_first c.args.key.now) c.args.self.now.slots ∙ ap is_some (sym c.first_place.ensures ∙ c.in-Some.is))
    (ap (λ after. after.has_ended) c.end.ensures.ended) Torn refl

pub returns-in-Initial-clause-takes : goal.returns-in-Initial-clause-takes
returns-in-Initial-clause-takes c = λ keys taken message s is.
    let r = c.args.self.now in
    let got : IsFirst c.args.key.now (Initial) message = record { call = is.call; replied = is.replied ∙ ap (λ (r : ReadReply). Some (ToGet r)) c.in-Initial.is } in
    takes_first keys taken message r c.show_first-in-Initial.new.self s c.requires c.args.key.now Initial got None (λ k. refl) (λ t ws. refl)
    refl (awaits_found (awaits_first c.args.key.now) c.args.self.now.slots ∙ ap is_some (sym c.first_place.ensures ∙ c.in-Some.is))
    c.show_first-in-Initial.ensures.slots c.show_first-in-Initial.ensures.ended (told_by c.show_first-in-Initial.new.self c.show_first-in-Initial.new.kind) c.show_first-in-Initial.ensures.answer

pub returns-in-Collected-clause-takes : goal.returns-in-Collected-clause-takes
returns-in-Collected-clause-takes c = λ keys taken message s is.
    let r = c.args.self.now in
    let got : IsFirst c.args.key.now (Collected c.in-Collected.field-0) message = record { call = is.call; replied = is.replied ∙ ap (λ (r : ReadReply). Some (ToGet r)) c.in-Collected.is } in
    torn_first keys taken message r c.end-in-Collected.new.self s c.requires c.args.key.now (Collected c.in-Collected.field-0) got
    refl (awaits_found (awaits_first c.args.key.now) c.args.self.now.slots ∙ ap is_some (sym c.first_place.ensures ∙ c.in-Some.is))
    (ap (λ after. after.has_ended) c.end-in-Collected.ensures.ended) Torn refl

pub returns-in-Unknown-clause-takes : goal.returns-in-Unknown-clause-takes
returns-in-Unknown-clause-takes c = λ keys taken message s is.
    let r = c.args.self.now in
    let got : IsFirst c.args.key.now (Unknown) message = record { call = is.call; replied = is.replied ∙ ap (λ (r : ReadReply). Some (ToGet r)) c.in-Unknown.is } in
    torn_first keys taken message r c.end-in-Unknown.new.self s c.requires c.args.key.now (Unknown) got
    refl (awaits_found (awaits_first c.args.key.now) c.args.self.now.slots ∙ ap is_some (sym c.first_place.ensures ∙ c.in-Some.is))
    (ap (λ after. after.has_ended) c.end-in-Unknown.ensures.ended) Torn refl

pub returns-then-is_of-clause-few : goal.returns-then-is_of-clause-few
returns-then-is_of-clause-few c =
    let after = c.show_first.new.self in
    first_few c.args.self.now.has_ended c.args.self.now.slots c.args.key.now (Some c.in-Version.version) c.requires (awaits_found (awaits_first c.args.key.now) c.args.self.now.slots ∙ ap is_some (sym c.first_place.ensures ∙ c.in-Some.is))
    after c.show_first.ensures.slots _ (list_all (is_answered_by after.slots) after.slots) (readings_by after.slots) c.show_first.ensures.answer

pub returns-in-Initial-clause-few : goal.returns-in-Initial-clause-few
returns-in-Initial-clause-few c =
    let after = c.show_first-in-Initial.new.self in
    first_few c.args.self.now.has_ended c.args.self.now.slots c.args.key.now None c.requires (awaits_found (awaits_first c.args.key.now) c.args.self.now.slots ∙ ap is_some (sym c.first_place.ensures ∙ c.in-Some.is))
    after c.show_first-in-Initial.ensures.slots _ (list_all (is_answered_by after.slots) after.slots) (readings_by after.slots) c.show_first-in-Initial.ensures.answer
