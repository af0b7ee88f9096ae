use Rattle.wc_validate.specs.NameScope.{name_scope_of}
use Rattle.wc_validate.proofs.validate.import_context.Goals as goal

pub returns-clause-interfaces : goal.returns-clause-interfaces
returns-clause-interfaces c = c.requires (name_scope_of c.names_of-names.result) c.names_of-names.ensures
