use Rattle.std.proofs.Common.{◌≡◌, Some, codes, refl}
use Rattle.std.specs.Prelude.{IsSome}
use Rattle.std.proofs.lemmas.Result.{IfErr-weaker}
use Rattle.clap.specs.Words.{found_of, rows_of, subcommand_rows_of}
use Rattle.command_line.proofs.WordsRead.{fault_weaker, met_whole, nothing_of_cell, nothing_of_load, nothing_of_serve, nothing_of_sim}
use Rattle.command_line.proofs.options.read_matches.Goals as goal

pub returns-in-Some-clause-error : goal.returns-in-Some-clause-error
returns-in-Some-clause-error c =
    let rows = rows_of (found_of c.in-Some.cell.now) in
    let some : IsSome c.subcommand_matches.result = rw c.in-Some.is refl in
    let met : subcommand_rows_of c.args.matches.now ≡ Some (codes "cell", rows) = met_whole _ _ _ (codes "cell") rows (c.subcommand_matches.ensures.found.0 some) c.in-Some.ensures.rows in
    IfErr-weaker c.read_cell.result _ _ (fault_weaker _ _ (nothing_of_cell (subcommand_rows_of c.args.matches.now) rows met)) c.read_cell.ensures.error

pub returns-in-Some-subcommand_matches-clause-error : goal.returns-in-Some-subcommand_matches-clause-error
returns-in-Some-subcommand_matches-clause-error c =
    let rows = rows_of (found_of c.in-Some-subcommand_matches.sim.now) in
    let some : IsSome c.subcommand_matches-2.result = rw c.in-Some-subcommand_matches.is refl in
    let met : subcommand_rows_of c.args.matches.now ≡ Some (codes "sim", rows) = met_whole _ _ _ (codes "sim") rows (c.subcommand_matches-2.ensures.found.0 some) c.in-Some-subcommand_matches.ensures.rows in
    IfErr-weaker c.read_sim.result _ _ (fault_weaker _ _ (nothing_of_sim (subcommand_rows_of c.args.matches.now) rows met)) c.read_sim.ensures.error

pub returns-in-Some-subcommand_matches-2-clause-error : goal.returns-in-Some-subcommand_matches-2-clause-error
returns-in-Some-subcommand_matches-2-clause-error c =
    let rows = rows_of (found_of c.in-Some-subcommand_matches-2.serve.now) in
    let some : IsSome c.subcommand_matches-3.result = rw c.in-Some-subcommand_matches-2.is refl in
    let met : subcommand_rows_of c.args.matches.now ≡ Some (codes "serve", rows) = met_whole _ _ _ (codes "serve") rows (c.subcommand_matches-3.ensures.found.0 some) c.in-Some-subcommand_matches-2.ensures.rows in
    IfErr-weaker c.read_serve.result _ _ (fault_weaker _ _ (nothing_of_serve (subcommand_rows_of c.args.matches.now) rows met)) c.read_serve.ensures.error

pub returns-in-Some-subcommand_matches-3-clause-error : goal.returns-in-Some-subcommand_matches-3-clause-error
returns-in-Some-subcommand_matches-3-clause-error c =
    let rows = rows_of (found_of c.in-Some-subcommand_matches-3.load.now) in
    let some : IsSome c.subcommand_matches-4.result = rw c.in-Some-subcommand_matches-3.is refl in
    let met : subcommand_rows_of c.args.matches.now ≡ Some (codes "load", rows) = met_whole _ _ _ (codes "load") rows (c.subcommand_matches-4.ensures.found.0 some) c.in-Some-subcommand_matches-3.ensures.rows in
    IfErr-weaker c.read_load.result _ _ (fault_weaker _ _ (nothing_of_load (subcommand_rows_of c.args.matches.now) rows met)) c.read_load.ensures.error
