use Rattle.std.proofs.Common.{refl}
use Rattle.wc_world.specs.WorldViews.{world_view}
use Rattle.wcplan_inputs.specs.Arguments.{command_view}
use Rattle.wc_program.specs.Files.{store_change}
use Rattle.wc_program.specs.Screen.{Becomes}
use Rattle.wcplan.proofs.RunLemmas.{plan_cause, quiet}
use Rattle.wcplan.proofs.program.run_world.Goals as goal

pub run_plan-requires-clause-planned : goal.run_plan-requires-clause-planned
run_plan-requires-clause-planned g c =
    let made = c.requires.made in
    record { encoder = made.encoder; encodes = made.encodes; world = made.world; servable = c.in-Ok.ensures.servable }

pub returns-in-Err-clause-fault : goal.returns-in-Err-clause-fault
returns-in-Err-clause-fault g c =
    let command = command_view c.args.command.now in
    let store = g.F.FileStore in
    let directories = g.F.DirectoryStore in
    let files = store_change store.held directories.makes store.read_fails directories.make_fails store.write_fails c.args.files.now c.args.files.now in
    let out = Becomes g.O.Screen.ends c.args.out.now c.args.out.now in
    let made = c.requires.made in
    let cause = plan_cause command files.before files.IsFailedRead made.encoder (world_view c.args.world.now) c.in-Err.refused c.plan_fault.result made.encodes
    made.world c.in-Err.ensures.place c.plan_fault.ensures in
    quiet command files out c.plan_fault.result refl refl cause
