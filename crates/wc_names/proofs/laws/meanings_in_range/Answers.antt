use Rattle.std.proofs.Common.{◌≡◌, Some, sym, subst}
use Rattle.std.specs.Prelude.{slice_get}
use Rattle.wc_resolve.specs.WellFormed.{IsWellFormed}
use Rattle.wc_resolve.specs.Kinds.{ResolveView}
use Rattle.wc_names.specs.Laws.{IsImportIn}
use Rattle.wc_names.specs.Meanings.{means}
use Rattle.wc_names.proofs.MeaningRangeLemmas.{classified_in}
use Rattle.wc_names.proofs.laws.meanings_in_range.Goals as goal

pub returns : goal.returns
returns c = λ e a index i ty same at classified.
    subst (λ (z : ResolveView). IsImportIn z e.world i) same
    (classified_in e (subst IsWellFormed (sym same) c.well_formedness.ensures) index
    (subst (λ (z : ResolveView). slice_get z.worlds index ≡ Some e.world) (sym same) at) a (means i ty) classified)
