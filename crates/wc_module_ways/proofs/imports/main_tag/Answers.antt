use Rattle.std.proofs.Common.{◌≡◌, Bool, IfOk, subst}
use Rattle.wc_read.specs.Imports.{import_value}
use Rattle.wc_summary.specs.Leads.{tag_view}
use Rattle.wc_module_ways.specs.Tags.{tag_if}
use Rattle.wc_module_ways.proofs.imports.main_tag.Goals as goal

pub returns : goal.returns
returns c given has =
    let i = import_value c.args.import.now in
    subst (λ (b : Bool). IfOk c.tag_if.result (λ t. tag_view t ≡ tag_if b i)) (c.is_of_main.ensures given has) c.tag_if.ensures
