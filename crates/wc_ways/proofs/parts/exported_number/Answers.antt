use Rattle.std.proofs.Common.{◌∙◌, ap, option_map, sym}
use Rattle.std.specs.Option.{option_and_then}
use Rattle.wc_import_paths.specs.Rows.{bare_graph}
use Rattle.wc_paths.specs.Items.{counts_of}
use Rattle.wc_paths.specs.Roots.{export_item}
use Rattle.wc_read.specs.Exports.{ExportValue, export_value}
use Rattle.wc_read.specs.Modules.{module_value}
use Rattle.wc_summary.specs.Leads.{as_number}
use Rattle.wc_ways.proofs.parts.exported_number.Goals as goal

pub returns-in-Some : goal.returns-in-Some
returns-in-Some c =
    let g = bare_graph (module_value c.args.«module».now.code) in
    c.as_number.ensures ∙ (λ t. as_number (c.requires.rows.counted t) (c.export_item.ensures t))
    ∙ ap (option_and_then (λ (e : ExportValue). as_number (counts_of g) (export_item e)))
    (sym (ap (option_map export_value) c.in-Some.is) ∙ c.export_named.ensures)

pub returns-in-None : goal.returns-in-None
returns-in-None c =
    let g = bare_graph (module_value c.args.«module».now.code) in
    ap (option_and_then (λ (e : ExportValue). as_number (counts_of g) (export_item e)))
    (sym (ap (option_map export_value) c.in-None.is) ∙ c.export_named.ensures)
