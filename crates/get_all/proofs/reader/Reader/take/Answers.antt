use Rattle.std.proofs.Common.{◌+◌, ◌≤◌, sym, ◌∙◌, subst}
use Rattle.get_all.specs.Reader.{TakesRead, calls_asked, calls_left}
use Rattle.get_all.specs.declared.reader.ReadMove.{ReadMove}
use Rattle.get_all.proofs.reader.Reader.take.Goals as goal

pub returns : goal.returns
returns c =
    let kind = c.take_kind.ensures in
    record {
      first = λ keys taken message round stands is.
          let P : ReadMove → Type 0 = λ a. TakesRead keys taken message a c.take_kind.new.self in
          subst P (sym c.told.ensures) (kind.first keys taken message round stands is);
      second = λ keys taken message round stands is.
          let P : ReadMove → Type 0 = λ a. TakesRead keys taken message a c.take_kind.new.self in
          subst P (sym c.told.ensures) (kind.second keys taken message round stands is);
      no_round = λ first second.
          let left = kind.no_round first second in
          (c.told.ensures ∙ left.0, left.1);
      ended = λ end.
          let left = kind.ended end in
          (c.told.ensures ∙ left.0, left.1);
      few =
          let P : ReadMove → Type 0 = λ a. calls_asked a + calls_left c.take_kind.new.self ≤ calls_left c.args.self.now in
          subst P (sym c.told.ensures) kind.few;
    }
