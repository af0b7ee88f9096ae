use Rattle.std.proofs.Common.{sym, ◌∙◌, rules}
use Rattle.wc_component_file.specs.Files.{core_module_view}
use Rattle.wc_component_file.specs.MainModules.{is_named_main}
use Rattle.wc_component_file.proofs.PickedLemmas.{any_here}
use Rattle.wc_component_file.proofs.main_module.has_main_name.Goals as goal

pub returns-then-is_main_name : goal.returns-then-is_main_name
returns-then-is_main_name c =
    sym (any_here core_module_view c.args.modules.now c.loop-core.core-index _ (search rules) is_named_main (sym c.is_main_name.ensures ∙ c.if-is_main_name.true))
