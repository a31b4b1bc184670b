use Rattle.std.proofs.Common.{◌+◌, ◌≤◌, ◌||◌, false, ap, sym, ◌∙◌, subst}
use Rattle.std.proofs.Common.{Option, None, Some}
use Rattle.std.proofs.lemmas.Bool.{both_ways}
use Rattle.plain_store.specs.Words.{Stamp}
use Rattle.plain_store.specs.Rounds.{needed}
use Rattle.plain_store.specs.Finding.{all_keys_found}
use Rattle.get_all.specs.Reader.{is_last}
use Rattle.get_all.specs.TagSearch.{listed, calls_asked, calls_left}
use Rattle.get_all.specs.declared.tag_search.FindMove.{FindMove}
use Rattle.get_all.proofs.CallsLeft.{found_reads}
use Rattle.get_all.proofs.SearchReads.{stands_read, reads}
use Rattle.get_all.proofs.tag_search.TagSearch.take.Goals as goal

pub returns : goal.returns
returns c =
    let f = c.args.self.now in
    let still = ap (λ a. a.reads) c.tell.ensures.ended ∙ c.if-not-self.false in
    record {
      first = λ setup tag taken message round s is.
          let asked : Option Stamp = None in
          let stands = stands_read setup tag taken message c.args.key.now asked c.args.reply.now is.call is.replied f c.args.reader.now s c.if-self.false c.if-not-self.false in
          let took = c.take-answer.ensures.first (all_keys_found taken) taken message round stands is in
          reads setup tag taken message c.args.key.now asked c.args.reply.now is.call is.replied f c.args.reader.now s c.if-self.false c.if-not-self.false c.take-answer.result _ took c.tell.new.self
          (ap (λ a. a.tag) c.tell.ensures.ended) (ap (λ a. a.parts) c.tell.ensures.ended) (ap (λ a. a.asked) c.tell.ensures.ended) still
          (ap (λ a. a.has_ended) c.tell.ensures.ended) c.tell.result c.tell.ensures.answer;
      second = λ setup tag taken message round s is.
          let asked : Option Stamp = (Some (needed (all_keys_found taken) taken c.args.key.now)) in
          let stands = stands_read setup tag taken message c.args.key.now asked c.args.reply.now is.call is.replied f c.args.reader.now s c.if-self.false c.if-not-self.false in
          let took = c.take-answer.ensures.second (all_keys_found taken) taken message round stands is in
          reads setup tag taken message c.args.key.now asked c.args.reply.now is.call is.replied f c.args.reader.now s c.if-self.false c.if-not-self.false c.take-answer.result _ took c.tell.new.self
          (ap (λ a. a.tag) c.tell.ensures.ended) (ap (λ a. a.parts) c.tell.ensures.ended) (ap (λ a. a.asked) c.tell.ensures.ended) still
          (ap (λ a. a.has_ended) c.tell.ensures.ended) c.tell.result c.tell.ensures.answer;
      no_round = λ first second.
          let left = c.take-answer.ensures.no_round first second in
          let over = ap (λ a. f.has_ended || is_last a) left.0 ∙ ap (λ b. b || false) c.if-self.false ∙ sym c.if-self.false in
          (c.tell.ensures.answer ∙ ap (λ a. listed f.tag a) left.0, c.tell.ensures.ended ∙ ap (λ b. record f { has_ended = b }) over, left.1);
      ended = λ over. absurd (both_ways _ c.if-self.false over);
      few =
          let P : FindMove → Type 0 = λ m. calls_asked m + calls_left c.tell.new.self c.take-answer.new.self ≤ calls_left f c.args.reader.now in
          subst P (sym c.tell.ensures.answer)
          (found_reads f c.args.reader.now c.take-answer.new.self f.tag c.take-answer.result c.if-self.false c.if-not-self.false c.take-answer.ensures.few
          c.tell.new.self still (ap (λ a. a.asked) c.tell.ensures.ended));
    }
