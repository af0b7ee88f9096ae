use Rattle.std.proofs.Common.{true, false}
use Rattle.wc_validate.specs.NameScope.{name_scope_of}
use Rattle.wc_validate.proofs.ScopeLemmas.{keys_in_range}
use Rattle.wc_validate.proofs.name_scope.SchemeInterfaces.indexed.Goals as goal

pub interface_names-requires : goal.interface_names-requires
interface_names-requires g c =
    let e = name_scope_of c.args.names.now in
    keys_in_range e.resolve e.world c.requires.0 true c.well_formedness.ensures c.requires.1

pub interface_names-requires-2 : goal.interface_names-requires-2
interface_names-requires-2 g c =
    let e = name_scope_of c.args.names.now in
    keys_in_range e.resolve e.world c.requires.0 false c.well_formedness.ensures c.requires.1
