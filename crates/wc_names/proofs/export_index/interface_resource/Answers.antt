use Rattle.std.proofs.Common.{sym}
use Rattle.wc_resolve.specs.Views.{interface_view}
use Rattle.wc_names.proofs.ExportIndexLemmas.{listed_type_in}
use Rattle.wc_names.proofs.export_index.interface_resource.Goals as goal

pub if_resource-requires : goal.if_resource-requires
if_resource-requires c =
    listed_type_in c.args.resolve.now c.args.id.0
    (interface_view c.interface.result.now) c.args.name.now c.in_ok-id.id.0 c.well_formedness.ensures.in_range c.interface.ensures (sym c.in_ok-id.ensures)
