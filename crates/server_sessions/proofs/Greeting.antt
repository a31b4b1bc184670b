-- What a hello is answered: for `hello`.
use Rattle.std.proofs.Common.{◌≡◌, ◌<◌, ◌≤◌, ◌⊎◌, ℕ, Bool, true, List, length, Option, Some, None, Result, Ok, Err, refl, sym, ap, subst, ◌∙◌, inl, inr, arith}
use Rattle.std.specs.Prelude.{IfSome, ◌↔◌}
use Rattle.stamps.specs.declared.bounds.Limits.{Limits}
use Rattle.plain_store.specs.declared.refusal.Refusal.{Refusal}
use Rattle.plain_store.specs.declared.refusal.Refusal.TheVariants.{NoTenant}
use Rattle.hub.specs.Registered.{is_unopened}
use Rattle.hub.specs.Seats.{SeatView}
use Rattle.line_protocol.specs.StepSpelling.{IsNumberOf}
use Rattle.shard.specs.declared.seat_name.SeatName.{SeatName}
use Rattle.server_sessions.specs.Answering.{Greets, IsGreeted, IsUngreeted, OpensSeat, told_of}
use Rattle.server_sessions.specs.Said.{Said, said_line, said_ready}
use Rattle.server_sessions.specs.Telling.{IsSeated, Tells}
use Rattle.server_sessions.proofs.ToldOf.{Tells-ready, Tells-refused}

below_or_past : (tenants tenant : ℕ) → (tenants ≤ tenant) ⊎ (tenant < tenants)
below_or_past tenants tenant = grind arith

-- the tenant that goes by the name is there where a seat is refused for another cause
pub ungreeted : (tenants tenant : ℕ) (names : List (List ℕ)) (name : List ℕ) (cause : Refusal) → IsNumberOf names name tenant → ((cause ≡ NoTenant) ↔ (tenants ≤ tenant))
    → (cause ≡ NoTenant) ⊎ (is_unopened cause ≡ true) → IsUngreeted tenants names name cause
ungreeted tenants tenant names name cause number exact (inl same) = inr (tenant, number, inl (exact.0 same, same))
ungreeted tenants tenant names name cause number exact (inr unopened) = elim (below_or_past tenants tenant) [
  | inl past ↦ inr (tenant, number, inl (past, exact.1 past))
  | inr below ↦ inr (tenant, number, inr (below, unopened))
]

err_is : (opened : Result SeatView Refusal) (cause other : Refusal) → opened ≡ Err cause → opened ≡ Err other → cause ≡ other
err_is opened cause other one two = let same : Err cause ≡ Err other = sym one ∙ two in cc

-- where a client is told, it is that of the seat
own_told : (client : Option ℕ) (name : SeatName) → IfSome (told_of client name) (λ told. told ≡ name.client)
own_told (Some client) name = tt
own_told None name = refl

pub greeted : (epoch : ℕ) (limits : List Limits) (tenant : ℕ) (client : Option ℕ) (base : ℕ) (names : List (List ℕ)) (name : List ℕ) (opened : Result SeatView Refusal) (told : Option ℕ) (said : Said) (old new : Option SeatView)
    → IsNumberOf names name tenant → old ≡ None → OpensSeat epoch limits tenant client base opened told → Greets opened told said old new → IsGreeted limits names name client base said new
greeted epoch limits tenant client base names name (Ok seat) told said old new number none opens greets =
    subst (IsGreeted limits names name client base said) (sym greets.ready.1) (
      greets.ready.0 ∙ ap (λ (c : Option ℕ). said_ready seat.name.counter c) opens.told_is,
      record {
        of_tenant = subst (IsNumberOf names name) (sym opens.of_tenant.0) number;
        of_client = opens.of_client;
        from_base = opens.of_tenant.1;
        goes_on = opens.fresh.0;
        no_entries = opens.fresh.2;
      },
    )
greeted epoch limits tenant client base names name (Err cause) told said old new number none opens greets =
    let exact : (cause ≡ NoTenant) ↔ (length limits ≤ tenant) = (λ same. opens.no_tenant.0 (ap Err same), λ past. err_is (Err cause) cause NoTenant refl (opens.no_tenant.1 past)) in
    subst (IsGreeted limits names name client base said) (sym (greets.refused.1 ∙ none)) (cause, greets.refused.0, ungreeted (length limits) tenant names name cause number exact opens.refusals)

pub greeting_told : (newest : Bool) (epoch : ℕ) (limits : List Limits) (tenant : ℕ) (client : Option ℕ) (base : ℕ) (opened : Result SeatView Refusal) (told : Option ℕ) (said : Said) (old new : Option SeatView)
    → old ≡ None → OpensSeat epoch limits tenant client base opened told → Greets opened told said old new → Tells newest epoch None new (said_line said)
greeting_told newest epoch limits tenant client base (Ok seat) told said old new none opens greets =
    rw (greets.ready.0, greets.ready.1)
    (Tells-ready newest epoch seat told (opens.fresh.2, opens.fresh.1, opens.fresh.0, opens.records) (subst (λ (c : Option ℕ). IfSome c (λ its. its ≡ seat.name.client)) (sym opens.told_is) (own_told client seat.name)))
greeting_told newest epoch limits tenant client base (Err cause) told said old new none opens greets =
    rw (greets.refused.0, greets.refused.1 ∙ none) (Tells-refused newest epoch cause)

pub greeting_seated : (epoch : ℕ) (limits : List Limits) (tenant : ℕ) (client : Option ℕ) (base : ℕ) (names : List (List ℕ)) (name : List ℕ) (opened : Result SeatView Refusal) (told : Option ℕ) (said : Said) (old new : Option SeatView)
    → IsNumberOf names name tenant → old ≡ None → OpensSeat epoch limits tenant client base opened told → Greets opened told said old new → IsSeated new names
greeting_seated epoch limits tenant client base names name (Ok seat) told said old new number none opens greets =
    rw greets.ready.1 (name, subst (IsNumberOf names name) (sym opens.of_tenant.0) number)
greeting_seated epoch limits tenant client base names name (Err cause) told said old new number none opens greets = rw (greets.refused.1 ∙ none) tt
