use Rattle.wc_names.specs.Views.{import_view}
use Rattle.wc_validate.proofs.InstanceLemmas.{entry_put}
use Rattle.wc_validate.proofs.imports.instances.record_import.Goals as goal

pub returns-clause-recorded : goal.returns-clause-recorded
returns-clause-recorded c = λ before is.
    entry_put c.put_import.result before c.args.module_name.now c.args.name.now (import_view c.args.import)
    _ _ is c.put_import.ensures.put c.put_import.ensures.free
