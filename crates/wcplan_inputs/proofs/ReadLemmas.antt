-- What is read where no memory is asked for is read where it may be.
use Rattle.std.proofs.Common.{Result, Ok, Err}
use Rattle.std.specs.Prelude.{⊤}
use Rattle.wc_options.specs.Wrong.{IsRead, IsReadWithoutMemory, Reading}
use Rattle.wc_options.specs.declared.wrong.NoCommand.{NoCommand}
use Rattle.wc_options.specs.declared.wrong.NoCommand.TheVariants.{Memory, Help, Version, Wrong}
use Rattle.wcplan_inputs.specs.Arguments.{CommandView, command_view}
use Rattle.wcplan_inputs.specs.declared.arguments.Command.{Command}

pub read_anyhow : (r : Result Command NoCommand) (reading : Reading CommandView) → IsReadWithoutMemory command_view r reading
    → IsRead command_view ⊤ r reading
read_anyhow (Ok c) reading h = h
read_anyhow (Err Memory) reading h = absurd h
read_anyhow (Err Help) reading h = h
read_anyhow (Err Version) reading h = h
read_anyhow (Err (Wrong w)) reading h = h
