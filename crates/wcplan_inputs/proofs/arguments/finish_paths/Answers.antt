use Rattle.std.proofs.Common.{subst}
use Rattle.wc_options.specs.Wrong.{IsReadWithoutMemory}
use Rattle.wcplan_inputs.specs.Arguments.{CommandView, command_view}
use Rattle.wcplan_inputs.specs.Reading.{fitting}
use Rattle.wcplan_inputs.proofs.ReadLemmas.{read_anyhow}
use Rattle.wcplan_inputs.proofs.arguments.finish_paths.Goals as goal

pub returns : goal.returns
returns c =
    read_anyhow c.fitting.result _
    (subst (λ (v : CommandView). IsReadWithoutMemory command_view c.fitting.result (fitting v)) c.command_from.ensures c.fitting.ensures)
