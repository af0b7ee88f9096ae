use Rattle.wc_validate.specs.NameScope.{name_scope_of}
use Rattle.wc_validate.proofs.WorldInterfaceLemmas.{interfaces_are}
use Rattle.wc_validate.proofs.validate.interfaces_for.Goals as goal

pub returns : goal.returns
returns c = interfaces_are c.args.encoder.now (name_scope_of c.names_of-names.result) c.in_ok-interfaces.interfaces c.names_of-names.ensures c.in_ok-interfaces.ensures
