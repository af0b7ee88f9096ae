use Rattle.std.proofs.Common.{◌≡◌, Some, sym, subst}
use Rattle.std.specs.Prelude.{slice_get}
use Rattle.wc_resolve.specs.WellFormed.{IsWellFormed}
use Rattle.wc_resolve.specs.Kinds.{ResolveView}
use Rattle.wc_names.specs.Laws.{IsExportIn}
use Rattle.wc_names.proofs.ExportRangeLemmas.{classified_export_in}
use Rattle.wc_names.proofs.laws.exports_in_range.Goals as goal

pub returns : goal.returns
returns c = λ e keys x index m same at classified.
    subst (λ (z : ResolveView). IsExportIn z e.world m.export) same
    (classified_export_in e (subst IsWellFormed (sym same) c.well_formedness.ensures) index
    (subst (λ (z : ResolveView). slice_get z.worlds index ≡ Some e.world) (sym same) at) keys x m classified)
