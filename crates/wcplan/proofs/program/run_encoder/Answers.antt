use Rattle.std.proofs.Common.{refl, subst, sym}
use Rattle.wc_world.specs.Options.{plain_options}
use Rattle.wc_world.specs.World.{IsWorldOf}
use Rattle.wc_world.specs.WorldViews.{world_view}
use Rattle.wc_world.specs.declared.world.ComponentWorld.{ComponentWorld}
use Rattle.wcplan_inputs.specs.Arguments.{command_view}
use Rattle.wc_program.specs.Files.{store_change}
use Rattle.wc_program.specs.Screen.{Becomes}
use Rattle.wcplan.proofs.RunLemmas.{quiet, world_cause}
use Rattle.wcplan.proofs.program.run_encoder.Goals as goal

pub run_world-requires-clause-made : goal.run_world-requires-clause-made
run_world-requires-clause-made g c =
    let made = subst (λ (w : ComponentWorld). IsWorldOf plain_options c.args.encoder.now (world_view w)) (sym c.deref.ensures) c.in-Ok.ensures.world in
    record { encoder = c.args.encoder.now; encodes = c.requires; world = made }

pub run_world-requires-clause-nameable : goal.run_world-requires-clause-nameable
run_world-requires-clause-nameable g c =
    let made = subst (λ (w : ComponentWorld). IsWorldOf plain_options c.args.encoder.now (world_view w)) (sym c.deref.ensures) c.in-Ok.ensures.world in
    c.worlds_nameable.ensures plain_options (world_view c.deref.result.now) made

pub returns-in-Err-clause-fault : goal.returns-in-Err-clause-fault
returns-in-Err-clause-fault g c =
    let command = command_view c.args.command.now in
    let store = g.F.FileStore in
    let directories = g.F.DirectoryStore in
    let files = store_change store.held directories.makes store.read_fails directories.make_fails store.write_fails c.args.files.now c.args.files.now in
    let out = Becomes g.O.Screen.ends c.args.out.now c.args.out.now in
    let cause = world_cause command files.before files.IsFailedRead c.args.encoder.now c.in-Err.fault c.requires c.in-Err.ensures.fault in
    quiet command files out c.in-Err.fault refl refl cause
