use Rattle.std.proofs.Common.{◌∙◌, inl, refl, sym}
use Rattle.std.proofs.lemmas.Slice.Eq.{bytes_eq-Decides}
use Rattle.wc_validate.proofs.BuiltinLemmas.{not_equal}
use Rattle.wc_validate.proofs.ExportKindLemmas.{no_memory}
use Rattle.wc_validate.proofs.ClassificationLemmas.{classified_nothing, classified_unchecked}
use Rattle.wc_validate.specs.Classifications.{of_exports}
use Rattle.wc_validate.specs.Fault.{fault_kind}
use Rattle.wc_validate.proofs.exports.classify.memory_by.Goals as goal

pub returns-then-eq : goal.returns-then-eq
returns-then-eq g c = λ e keys.
    classified_unchecked of_exports fault_kind _ _ _ (inl (
      c.args.ty,
      refl,
      (bytes_eq-Decides c.args.name.now c.export_memory.result.now).0 (sym c.if-eq.ensures)
          ∙ c.export_memory.ensures,
      refl,
    ))

pub returns-else-eq : goal.returns-else-eq
returns-else-eq g c = λ e keys.
    classified_nothing of_exports fault_kind _ _ (no_memory (g.N.NameMangling.scheme c.args.scheme.now) e keys c.args.name.now c.args.ty
    (λ is. not_equal c.args.name.now c.export_memory.result.now (sym c.if-eq.ensures) (is ∙ sym c.export_memory.ensures)))
