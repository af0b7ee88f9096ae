use Rattle.wc_read.specs.Modules.{module_value}
use Rattle.wcwhy.proofs.NearExportLemmas.{near_in}
use Rattle.wcwhy.proofs.near_exports.near_export_of.Goals as goal

pub returns : goal.returns
returns c =
    near_in c.modules_unique.ensures c.args.bytes.now (module_value c.in-Ok.code) c.in-Ok.ensures.found c.args.name.now c.near_export.result
    (rw c.deref.ensures.value at c.near_export.ensures)
