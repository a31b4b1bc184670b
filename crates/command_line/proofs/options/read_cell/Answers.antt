use Rattle.std.proofs.Common.{refl, inl}
use Rattle.command_line.proofs.options.read_cell.Goals as goal

pub returns-in_default-clause-error : goal.returns-in_default-clause-error
returns-in_default-clause-error c = inl (refl, λ slots items clients room. c.in_default.ensures.none slots room.of_slots)

pub returns-in_default-read_number-clause-error : goal.returns-in_default-read_number-clause-error
returns-in_default-read_number-clause-error c = inl (refl, λ slots items clients room. c.in_default-read_number.ensures.none items room.of_items)

pub returns-in_default-read_number-2-clause-error : goal.returns-in_default-read_number-2-clause-error
returns-in_default-read_number-2-clause-error c = inl (refl, λ slots items clients room. c.in_default-read_number-2.ensures.none clients room.of_clients)
