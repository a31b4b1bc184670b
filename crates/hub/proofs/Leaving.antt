-- What is kept of a client once its session ended.
use Rattle.std.proofs.Common.{◌≡◌, ◌∙◌, ℕ, Bool, true, false, Option, Some, cond, nat_eq, max, eq-eqb, ap, refl, sym, subst, arith}
use Rattle.std.proofs.Math.Nat.{le-max_left, le-max_right}
use Rattle.std.specs.Option.{option_map}
use Rattle.hub.specs.declared.register.KnownClient.{KnownClient}
use Rattle.hub.specs.Registered.{IsFreeFrom, SetsFree, after_session}

free_row : (turn counter ticket : ℕ) (row : KnownClient) (is_its : Bool) → is_its ≡ true
    → IsFreeFrom counter (Some (cond is_its (record row { is_open = false; counter = max row.counter counter; ticket = ticket }) row))
free_row turn counter ticket row true is =
    (refl, λ seats base. omega (arith, le-max_right row.counter counter, le-max_left (max row.counter counter) base))
free_row turn counter ticket row false is = absurd (cc is)

pub set_free : (turn counter ticket : ℕ) (old new : Option KnownClient) → new ≡ option_map (after_session turn counter ticket) old → SetsFree turn counter old new
set_free turn counter ticket old new is row was its =
    let now : new ≡ Some (after_session turn counter ticket row) = is ∙ ap (option_map (after_session turn counter ticket)) was in
    subst (IsFreeFrom counter) (sym now) (free_row turn counter ticket row (nat_eq row.turn turn) (eq-eqb row.turn turn its))
