use Rattle.std.proofs.Common.{◌≡◌, IfOk, [], map, subst, sym, ap, ◌∙◌}
use Rattle.std.specs.Option.{option_map_or}
use Rattle.wc_validate.specs.Imports.FirstFunctions.{position_entries}
use Rattle.wc_validate.specs.Imports.Map.{first_of_names, functions_in, required_entry}
use Rattle.wc_validate.specs.Imports.Instances.{import_entry, instance_view}
use Rattle.wc_validate.proofs.FirstFunctionLemmas.{none_required, required_kept}
use Rattle.wc_validate.proofs.AdapterFunctionLemmas.{required_is, required_none}
use Rattle.wc_validate.proofs.imports.map.ImportMap.required_from_adapter.Goals as goal

pub returns-in-Some : goal.returns-in-Some
returns-in-Some c =
    subst (λ z. IfOk c.required_among.result (λ functions. map required_entry functions.entries ≡ z))
    (required_kept c.self.inside.functions c.self.inside.instances.entries c.args.name.now c.in-Some-Names.field-0.now
    (map import_entry c.in-Some-Names.names.entries) c.self.invariant.1 c.in-Some-Names.ensures.value
    (ap instance_view c.in-Some-Names.field-0-is) c.in-Some.positions.now.entries (ap (λ o. option_map_or position_entries o []) (sym c.in-Some.ensures.value))
    ∙ (ap (λ z. first_of_names (functions_in (instance_view z))) (sym c.in-Some-Names.field-0-is)
    ∙ required_is c.self.inside.instances.entries c.args.self.now c.args.name.now c.in-Some-Names.field-0.now c.in-Some-Names.ensures.value c.self.view_is))
    c.required_among.ensures

pub returns-in-None-get : goal.returns-in-None-get
returns-in-None-get c =
    ap (map required_entry) c.with_hasher.ensures.empty
    ∙ (none_required c.self.inside.functions c.self.inside.instances.entries c.args.name.now c.in-Some-Names.field-0.now
    (map import_entry c.in-Some-Names.names.entries) c.self.invariant.1 c.in-Some-Names.ensures.value
    (ap instance_view c.in-Some-Names.field-0-is) (ap (λ o. option_map_or position_entries o []) (sym c.in-None-get.ensures.value))
    ∙ (ap (λ z. first_of_names (functions_in (instance_view z))) (sym c.in-Some-Names.field-0-is)
    ∙ required_is c.self.inside.instances.entries c.args.self.now c.args.name.now c.in-Some-Names.field-0.now c.in-Some-Names.ensures.value c.self.view_is))

pub returns-in-Some-Whole : goal.returns-in-Some-Whole
returns-in-Some-Whole c =
    ap (map required_entry) c.with_hasher-in-Some-Whole.ensures.empty
    ∙ (ap (λ z. first_of_names (functions_in (instance_view z))) (sym c.in-Some-Whole.field-0-is)
    ∙ required_is c.self.inside.instances.entries c.args.self.now c.args.name.now c.in-Some-Whole.field-0.now c.in-Some-Whole.ensures.value c.self.view_is)

pub returns-in-None : goal.returns-in-None
returns-in-None c =
    ap (map required_entry) c.with_hasher-in-None.ensures.empty
    ∙ required_none c.self.inside.instances.entries c.args.self.now c.args.name.now c.in-None.ensures.value c.self.view_is
