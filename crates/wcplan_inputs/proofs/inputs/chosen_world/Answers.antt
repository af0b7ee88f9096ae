use Rattle.std.proofs.Common.{◌<◌, length, sym, subst}
use Rattle.wc_program.specs.Files.{FailsToRead}
use Rattle.wcplan_inputs.specs.Arguments.{command_view}
use Rattle.wcplan_inputs.proofs.ProgramLemmas.{unchecked_worlds}
use Rattle.wcplan_inputs.proofs.WorldsLemmas.{meant_there}
use Rattle.wcplan_inputs.proofs.inputs.chosen_world.Goals as goal

pub checked_keys-requires : goal.checked_keys-requires
checked_keys-requires g c =
    let there = c.in_ok-metadata.ensures.worlds in
    subst (λ r. c.in_ok-metadata.metadata.world.0 < length r.worlds) (sym there.4)
    (meant_there there.0 (command_view c.args.command.now).world c.in_ok-metadata.metadata.world.0 there.2)

pub returns-clause-fault : goal.returns-clause-fault
returns-clause-fault g c =
    let metadata = c.in_ok-metadata.metadata in
    unchecked_worlds (command_view c.args.command.now) (g.F.FileStore.held c.args.files.now) metadata.resolve metadata.world.0
    c.in_ok-metadata.ensures.worlds (FailsToRead g.F.FileStore.read_fails c.args.files.now) c.in-Err.fault c.in-Err.ensures.fault
