use Rattle.std.proofs.Common.{subst}
use Rattle.std.specs.Prelude.{⊤}
use Rattle.wc_options.specs.Reading.{said_by, texts_in}
use Rattle.wc_options.specs.Wrong.{IsReadWithoutMemory}
use Rattle.wcwhy.specs.Arguments.{CommandView, command_view}
use Rattle.wcwhy.specs.Reading.{apart, command_of, option_table}
use Rattle.wcwhy.proofs.ArgumentLemmas.{read_for}
use Rattle.wcwhy.proofs.arguments.finish_apart.Goals as goal

pub returns-in-Ok : goal.returns-in-Ok
returns-in-Ok c =
    read_for ⊥ ⊤ (λ h. tt) c.apart.result (apart (command_of (said_by option_table (texts_in c.args.arguments.now))))
    (subst (λ (v : CommandView). IsReadWithoutMemory command_view c.apart.result (apart v)) c.in-Ok.ensures c.apart.ensures)
