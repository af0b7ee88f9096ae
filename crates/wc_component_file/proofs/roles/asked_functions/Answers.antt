use Rattle.std.proofs.Common.{map, ap, ◌∙◌}
use Rattle.wc_maps.specs.Texts.{text_of, text_pair}
use Rattle.wc_component_file.specs.Files.{core_module_view}
use Rattle.wc_component_file.specs.Serving.{without}
use Rattle.wc_component_file.specs.Told.{told_view}
use Rattle.wc_component_file.proofs.RoleLemmas.{asked_made, few_are}
use Rattle.wc_component_file.proofs.roles.asked_functions.Goals as goal

pub returns-clause-asked : goal.returns-clause-asked
returns-clause-asked c =
    let told = map told_view c.args.told.now in
    let keys = map text_of c.in_ok-names.names.keys in
    asked_made c.args.main (map core_module_view c.args.modules.now) told (map text_pair c.in_ok-functions.functions.items)
    (map text_pair c.in_ok-without.field-0.items) keys c.in_ok-functions.ensures.functions
    (few_are told c.in_ok-functions.functions.items c.deref.result.now c.candidates-count.result c.is_too_many.result c.candidates-count.ensures
    c.deref.ensures.value c.is_too_many.ensures c.if-is_too_many.false)
    c.in_ok-names.ensures (c.in_ok-without.ensures ∙ ap (λ l. without keys (map text_pair l)) c.deref-2.ensures.value)
