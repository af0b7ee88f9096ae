use Rattle.std.proofs.Common.{map}
use Rattle.wc_selection.specs.Keys.{named_key}
use Rattle.wcplan_inputs.specs.Arguments.{command_view}
use Rattle.wcplan_inputs.proofs.ProgramLemmas.{listed_cause}
use Rattle.wcplan_inputs.proofs.inputs.check_listed.Goals as goal

pub returns-in-Err-clause-fault : goal.returns-in-Err-clause-fault
returns-in-Err-clause-fault c =
    listed_cause (command_view c.args.command.now) (map named_key c.args.keys.now) c.in-Err.fault c.listed_fault.result c.in-Err.ensures.fault
    c.listed_fault.ensures
