use Rattle.std.proofs.Common.{map, ap, ◌∙◌}
use Rattle.wc_read.specs.Imports.{import_value}
use Rattle.wc_read.specs.Modules.{module_value}
use Rattle.wc_maps.specs.Texts.{text_pair}
use Rattle.wc_component_file.specs.Serving.{function_pairs}
use Rattle.wc_component_file.proofs.RoleLemmas.{functions_read, unread_at, unread_in}
use Rattle.wc_component_file.proofs.roles.functions_at.Goals as goal

pub returns-in_ok-function_pairs-in-Ok-clause-functions : goal.returns-in_ok-function_pairs-in-Ok-clause-functions
returns-in_ok-function_pairs-in-Ok-clause-functions c =
    functions_read c.args.modules.now c.args.position _ (module_value c.in-Ok.module) (map text_pair c.in_ok-function_pairs-in-Ok.field-0.items)
    c.requires c.in-Ok.ensures.found (c.in_ok-function_pairs-in-Ok.ensures ∙ ap (λ l. function_pairs (map import_value l)) c.deref.ensures.value)

pub returns-in-Err-clause-refused : goal.returns-in-Err-clause-refused
returns-in-Err-clause-refused c =
    unread_in c.args.modules.now c.args.position _ c.unread.result c.requires
    (unread_at c.args.position _ c.in-Err.refused c.unread.result c.unread.ensures c.in-Err.ensures.refused c.in-Err.ensures.place)
