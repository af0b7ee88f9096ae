use Rattle.std.proofs.Common.{Some, ap, sym, ◌∙◌}
use Rattle.std.specs.Option.{option_map}
use Rattle.wc_validate.specs.Private.Imports.Arguments.{entry_by}
use Rattle.wc_validate.specs.Imports.Record.{item_entry}
use Rattle.wc_validate.proofs.ArgumentLemmas.{entry_is}
use Rattle.wc_validate.proofs.imports.arguments.Arguments.passed_argument.Goals as goal

pub returns-in-Some-Whole : goal.returns-in-Some-Whole
returns-in-Some-Whole c =
    ap (entry_by c.args.module_name.now c.args.name.now) (sym c.in-Some-Whole.field-0-is)
    ∙ entry_is c.args.self.now.modules.entries c.args.module_name.now c.args.name.now (Some c.in-Some-Whole.field-0.now) c.in-Some-Whole.ensures.value

pub returns-in-Some : goal.returns-in-Some
returns-in-Some c =
    ap (option_map (item_entry c.args.module_name.now c.args.name.now)) c.in-Some.ensures
    ∙ (ap (entry_by c.args.module_name.now c.args.name.now) (sym c.in-Some-Items.field-0-is)
    ∙ entry_is c.args.self.now.modules.entries c.args.module_name.now c.args.name.now (Some c.in-Some-Items.field-0.now) c.in-Some-Items.ensures.value)

pub returns-in-None-item_called : goal.returns-in-None-item_called
returns-in-None-item_called c =
    ap (option_map (item_entry c.args.module_name.now c.args.name.now)) c.in-None-item_called.ensures
    ∙ (ap (entry_by c.args.module_name.now c.args.name.now) (sym c.in-Some-Items.field-0-is)
    ∙ entry_is c.args.self.now.modules.entries c.args.module_name.now c.args.name.now (Some c.in-Some-Items.field-0.now) c.in-Some-Items.ensures.value)

pub returns-in-None : goal.returns-in-None
returns-in-None c = entry_is c.args.self.now.modules.entries c.args.module_name.now c.args.name.now _ c.in-None.ensures.value
