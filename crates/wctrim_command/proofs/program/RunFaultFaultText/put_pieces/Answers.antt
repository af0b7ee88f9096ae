use Rattle.wctrim_command.proofs.program.RunFaultFaultText.put_pieces.Goals as goal

pub returns-in-CannotRead : goal.returns-in-CannotRead
returns-in-CannotRead g c = rw c.in-CannotRead.is c.put_path.ensures
