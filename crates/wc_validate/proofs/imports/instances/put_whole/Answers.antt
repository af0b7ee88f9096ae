use Rattle.std.proofs.Common.{map, sym, ap}
use Rattle.wc_adapters.specs.Adapters.{which_view}
use Rattle.wc_validate.specs.Imports.Entries.{all_of}
use Rattle.wc_validate.specs.Imports.Instances.{instance_entry, instance_view}
use Rattle.wc_validate.specs.declared.imports.instances.ImportInstance.TheVariants.{Whole}
use Rattle.wc_validate.proofs.PutLemmas.{record_found, whole_found, whole_new, whole_refused}
use Rattle.wc_validate.proofs.imports.instances.put_whole.Goals as goal

pub returns-in-Some-clause-put : goal.returns-in-Some-clause-put
returns-in-Some-clause-put c =
    whole_found c.check_whole.result (map instance_entry c.args.instances.now.entries) c.args.module_name.now (instance_view c.in-Some.instance.now)
    (which_view c.args.which.now)
    (record_found c.args.instances.now.entries c.args.module_name.now c.in-Some.instance.now (sym c.in-Some.ensures.value)) c.check_whole.ensures.same

pub returns-in-Some-clause-fault : goal.returns-in-Some-clause-fault
returns-in-Some-clause-fault c =
    whole_refused c.check_whole.result (map instance_entry c.args.instances.now.entries) c.args.module_name.now (instance_view c.in-Some.instance.now)
    (which_view c.args.which.now)
    (record_found c.args.instances.now.entries c.args.module_name.now c.in-Some.instance.now (sym c.in-Some.ensures.value)) c.check_whole.ensures.fault

pub returns-clause-put : goal.returns-clause-put
returns-clause-put c =
    whole_new c.args.instances.now.entries c.insert.new.self.entries c.in_ok-from_str.field-0 c.args.module_name.now (which_view c.args.which.now)
    (Whole c.in_ok-clone.field-0)
    c.in_ok-insert.ensures.entries c.in_ok-from_str.ensures.ok c.in_default.ensures.value (ap all_of c.in_ok-clone.ensures)
