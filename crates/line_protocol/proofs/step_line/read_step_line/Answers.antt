use Rattle.std.proofs.Common.{sym}
use Rattle.line_protocol.specs.StepReading.{act_at}
use Rattle.line_protocol.proofs.StepLineLaws.{no_space, no_name, no_act, named_act, found_act, answers_bad, answers_stranger, answers_step, answers_memory}
use Rattle.line_protocol.proofs.step_line.read_step_line.Goals as goal

pub returns-in_default : goal.returns-in_default
returns-in_default c =
    let a = answers_bad c.args.names.now c.args.line.now (no_space c.args.line.now (sym c.in_default.ensures)) in
    record { found = tt; only = a.only; error = a.error; no_tenant = a.no_tenant; bad_line = a.bad_line }

pub returns-in_default-read_name : goal.returns-in_default-read_name
returns-in_default-read_name c =
    let a = answers_bad c.args.names.now c.args.line.now (no_name c.args.line.now c.in-Some.name.now c.in-Some.text.now c.in-Some.ensures (sym c.in_default-read_name.ensures)) in
    record { found = tt; only = a.only; error = a.error; no_tenant = a.no_tenant; bad_line = a.bad_line }

pub returns-in_default-read_act : goal.returns-in_default-read_act
returns-in_default-read_act c =
    let none = no_act c.args.line.now c.in-Some.name.now c.in-Some.text.now c.in-Some-read_name.name c.in-Some.ensures c.in-Some-read_name.ensures c.in_default-read_act.ensures in
    let a = answers_bad c.args.names.now c.args.line.now none in
    record { found = tt; only = a.only; error = a.error; no_tenant = a.no_tenant; bad_line = a.bad_line }

pub returns-in_default-tenant_number : goal.returns-in_default-tenant_number
returns-in_default-tenant_number c =
    let act = found_act (act_at c.in-Some.text.now) c.in-Some-read_act.act c.in-Some-read_act.ensures in
    let asked = named_act c.args.line.now c.in-Some.name.now c.in-Some.text.now c.in-Some-read_name.name act.0 c.in-Some.ensures c.in-Some-read_name.ensures act.1 in
    let a = answers_stranger c.args.names.now c.args.line.now c.in-Some-read_name.name act.0 asked c.in_default-tenant_number.ensures.none in
    record { found = tt; only = a.only; error = a.error; no_tenant = a.no_tenant; bad_line = a.bad_line }

pub returns-in-Ok : goal.returns-in-Ok
returns-in-Ok c =
    let act = rw c.in-Ok.is at c.in-Some-read_act.ensures in
    let asked = named_act c.args.line.now c.in-Some.name.now c.in-Some.text.now c.in-Some-read_name.name c.in-Ok.act c.in-Some.ensures c.in-Some-read_name.ensures act in
    let a = answers_step c.args.names.now c.args.line.now c.in-Some-read_name.name c.in-Some-tenant_number.tenant c.in-Ok.act asked c.in-Some-tenant_number.ensures.some in
    record { found = a.found; only = a.only; error = a.error; no_tenant = a.no_tenant; bad_line = a.bad_line }

pub returns-in-Err : goal.returns-in-Err
returns-in-Err c =
    let act = rw c.in-Err.is at c.in-Some-read_act.ensures in
    let asked = named_act c.args.line.now c.in-Some.name.now c.in-Some.text.now c.in-Some-read_name.name act.0 c.in-Some.ensures c.in-Some-read_name.ensures act.1 in
    let a = answers_memory c.args.names.now c.args.line.now c.in-Some-read_name.name c.in-Some-tenant_number.tenant act.0 asked c.in-Some-tenant_number.ensures.some act.2 in
    record { found = tt; only = a.only; error = a.error; no_tenant = a.no_tenant; bad_line = a.bad_line }
