use Rattle.std.proofs.Common.{◌∙◌, ap, map, subst}
use Rattle.wc_read.specs.Imports.{import_value}
use Rattle.wc_read.specs.Modules.{ModuleValue}
use Rattle.wc_module_ways.specs.Modules.{input_view}
use Rattle.wc_module_ways.specs.Private.Others.{AreOthers}
use Rattle.wc_module_ways.proofs.ModuleLemmas.{modules_made}
use Rattle.wc_module_ways.proofs.modules.read_with.Goals as goal

pub returns-in-Ok-clause-modules : goal.returns-in-Ok-clause-modules
returns-in-Ok-clause-modules c =
    let i = input_view c.args.input.now in
    let others = subst (λ z. AreOthers i z c.in-Ok.others)
    (ap (map import_value) c.deref.ensures.value ∙ ap (λ (m : ModuleValue). m.imports) c.code.ensures) c.in-Ok.ensures.others in
    modules_made i c.args.main c.in-Ok.others c.modules_of.result c.requires.is_main c.requires.whole others c.modules_of.ensures.main c.modules_of.ensures.adapters
    c.modules_of.ensures.core
    c.modules_of.ensures.functions c.modules_of.ensures.names
