use Rattle.std.proofs.Common.{◌∙◌, map, ap, sym, Some}
use Rattle.wc_validate.specs.Imports.Instances.{instance_entry}
use Rattle.wc_names.specs.Views.{import_view}
use Rattle.wc_validate.specs.declared.imports.instances.ImportInstance.{ImportInstance}
use Rattle.wc_validate.specs.declared.imports.instances.ImportInstance.TheVariants.{Names}
use Rattle.wc_validate.proofs.PutLemmas.{all_recorded, name_recorded, free_after, free_new, one_named, put_found, added_is, put_new}
use Rattle.wc_validate.proofs.imports.instances.put_import.Goals as goal

pub returns-in_ok-insert-in-Names-clause-put : goal.returns-in_ok-insert-in-Names-clause-put
returns-in_ok-insert-in-Names-clause-put c =
    ap (map instance_entry) (c.get_mut.follows.holds (Names c.insert.new.self)).0
    ∙ put_found c.args.instances.now.entries c.args.module_name.now c.args.name.now (import_view c.args.import) (Names c.in-Names.names)
    (Names c.insert.new.self)
    (sym c.in-Some.ensures.value ∙ ap (λ (z : ImportInstance). Some z) c.in-Names.is)
    (added_is c.in-Names.names.entries c.insert.new.self.entries c.in_ok-from_str-in-Names.field-0 c.args.import c.args.name.now c.contains_key.result
    c.in_ok-insert-in-Names.ensures.entries c.in_ok-from_str-in-Names.ensures.ok c.contains_key.ensures c.if-contains_key.false)

pub returns-clause-put : goal.returns-clause-put
returns-clause-put c =
    put_new c.args.instances.now.entries c.insert-2.new.self.entries c.in_ok-from_str.field-0 c.args.module_name.now c.args.name.now (import_view c.args.import)
    (Names c.in_ok-names.names)
    (rw c.get_mut.follows.holds-at-none at c.in_ok-insert.ensures.entries) c.in_ok-from_str.ensures.ok c.in_default.ensures.value
    (one_named c.in_ok-names.names.entries c.args.name.now c.args.import c.in_ok-names.ensures)

pub returns-in_ok-insert-in-Names-clause-free : goal.returns-in_ok-insert-in-Names-clause-free
returns-in_ok-insert-in-Names-clause-free c =
    free_after c.args.instances.now.entries c.args.module_name.now c.args.name.now c.in-Names.names
    (sym c.in-Some.ensures.value ∙ ap (λ (z : ImportInstance). Some z) c.in-Names.is)
    (sym c.contains_key.ensures ∙ c.if-contains_key.false)

pub returns-clause-free : goal.returns-clause-free
returns-clause-free c = free_new c.args.instances.now.entries c.args.module_name.now c.args.name.now (sym c.in_default.ensures.value)

pub returns-in-Whole-clause-fault : goal.returns-in-Whole-clause-fault
returns-in-Whole-clause-fault c =
    all_recorded c.args.instances.now.entries c.args.module_name.now c.in-Whole.field-0
    (sym c.in-Some.ensures.value ∙ ap (λ (z : ImportInstance). Some z) c.in-Whole.is)

pub returns-then-contains_key-clause-fault : goal.returns-then-contains_key-clause-fault
returns-then-contains_key-clause-fault c =
    name_recorded c.args.instances.now.entries c.args.module_name.now c.args.name.now c.in-Names.names
    (sym c.in-Some.ensures.value ∙ ap (λ (z : ImportInstance). Some z) c.in-Names.is)
    (sym c.contains_key.ensures ∙ c.if-contains_key.true)
