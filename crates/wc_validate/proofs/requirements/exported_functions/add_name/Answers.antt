use Rattle.std.proofs.Common.{◌∙◌}
use Rattle.wc_names.specs.ExportViews.{export_view}
use Rattle.wc_validate.proofs.ExportedFunctionLemmas.{key_shown, name_added, name_passed}
use Rattle.wc_validate.proofs.requirements.exported_functions.add_name.Goals as goal

pub returns-in_default : goal.returns-in_default
returns-in_default c = λ passed name same. name_passed c.args.functions.now.keys passed (name, export_view c.args.export.now) (c.in_default.ensures name) same

pub returns : goal.returns
returns c = λ passed name same.
    name_added c.args.functions.now.keys c.insert_full.new.self.keys passed (name, export_view c.args.export.now)
    (c.in-Some.interface, c.in_ok-from_str.field-0) same
    (key_shown c.in-Some.interface c.in-Some.name.now c.in_ok-from_str.field-0 c.in_ok-from_str.ensures.ok ∙ c.in-Some.ensures name)
    c.in_ok-insert_full.ensures.keys
