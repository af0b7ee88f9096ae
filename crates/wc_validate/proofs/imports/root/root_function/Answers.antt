use Rattle.wc_read.specs.Types.{func_type_value}
use Rattle.wc_validate.specs.Fault.{fault_kind}
use Rattle.wc_validate.specs.NameScope.{name_scope_of}
use Rattle.wc_validate.proofs.ImportRootLemmas.{of_root_function}
use Rattle.wc_validate.proofs.imports.root.root_function.Goals as goal

pub returns : goal.returns
returns g c =
    of_root_function fault_kind (g.N.NameMangling.scheme c.args.scheme.now) (name_scope_of c.args.names.now) c.args.name.now (func_type_value c.args.ty.now) _ _
    _
    c.world_key_name_and_abi-abi.ensures c.lowered_function.ensures
