use Rattle.std.proofs.Common.{◌∙◌, Some, ℕ, List, inl, inr, refl, sym, ap}
use Rattle.std.proofs.lemmas.Slice.Eq.{bytes_eq-Decides}
use Rattle.wc_read.specs.Types.{func_type_value}
use Rattle.wc_names.specs.Exports.{IsExportKind}
use Rattle.wc_names.specs.Imports.{func_type}
use Rattle.wc_names.proofs.SearchLemmas.{not_first}
use Rattle.wc_validate.specs.Private.Exports.Classify.{fixed_kinds}
use Rattle.wc_validate.proofs.BuiltinLemmas.{equal, not_equal, unequal}
use Rattle.wc_validate.proofs.ExportKindLemmas.{some_is}
use Rattle.wc_validate.proofs.IntrinsicLemmas.{not_found}
use Rattle.wc_validate.proofs.ClassificationLemmas.{classified_export, classified_nothing}
use Rattle.wc_validate.specs.Classifications.{of_exports}
use Rattle.wc_validate.specs.Fault.{fault_kind}
use Rattle.wc_validate.proofs.exports.classify.fixed_export.Goals as goal

pub returns-then-eq : goal.returns-then-eq
returns-then-eq g c = λ e keys.
    classified_export fault_kind _ _ _ (func_type_value c.args.ty.now) _ c.checked.ensures
    (inl (
      func_type_value c.args.ty.now,
      refl,
      (bytes_eq-Decides c.args.name.now c.export_realloc.result.now).0 (sym c.if-eq.ensures)
          ∙ c.export_realloc.ensures,
      refl,
    ))

pub returns-then-eq-2 : goal.returns-then-eq-2
returns-then-eq-2 g c = λ e keys.
    classified_export fault_kind _ _ _ (func_type_value c.args.ty.now) _ c.checked-then-eq-2.ensures
    (inr (
      λ m h. not_equal c.args.name.now c.export_realloc.result.now (sym c.if-eq.ensures) (h.2 ∙ sym c.export_realloc.ensures),
      inl (
        func_type_value c.args.ty.now,
        refl,
        (bytes_eq-Decides c.args.name.now c.export_initialize.result.now).0 (sym c.if-eq-2.ensures)
            ∙ c.export_initialize.ensures,
        refl,
      ),
    ))

pub returns-in_default : goal.returns-in_default
returns-in_default g c = λ e keys.
    classified_nothing of_exports fault_kind _ _ (λ m f. not_first (IsExportKind (g.N.NameMangling.scheme c.args.scheme.now) e keys c.args.name.now
    (func_type (func_type_value c.args.ty.now))) fixed_kinds m (
      λ m h. not_equal c.args.name.now c.export_realloc.result.now (sym c.if-eq.ensures) (h.2 ∙ sym c.export_realloc.ensures),
      (
        λ m h. not_equal c.args.name.now c.export_initialize.result.now (sym c.if-eq-2.ensures)
            (h.2 ∙ sym c.export_initialize.ensures),
        (λ m h. not_found c.args.name.now c.in_default.ensures h.2, tt),
      ),
    ) f)

pub returns-then-ne : goal.returns-then-ne
returns-then-ne g c = λ e keys.
    classified_nothing of_exports fault_kind _ _ (λ m f. not_first (IsExportKind (g.N.NameMangling.scheme c.args.scheme.now) e keys c.args.name.now
    (func_type (func_type_value c.args.ty.now))) fixed_kinds m (
      λ m h. not_equal c.args.name.now c.export_realloc.result.now (sym c.if-eq.ensures) (h.2 ∙ sym c.export_realloc.ensures),
      (
        λ m h. not_equal c.args.name.now c.export_initialize.result.now (sym c.if-eq-2.ensures) (h.2 ∙ sym c.export_initialize.ensures),
        (λ m h. unequal c.args.name.now c.in-Some.hook.now (sym c.if-ne.ensures) (sym (some_is c.in-Some.hook.now c.args.name.now c.in-Some.ensures h.2)), tt),
      ),
    ) f)

pub returns : goal.returns
returns g c = λ e keys.
    classified_export fault_kind _ _ _ (func_type_value c.args.ty.now) _ c.checked-2.ensures
    (inr (
      λ m h. not_equal c.args.name.now c.export_realloc.result.now (sym c.if-eq.ensures) (h.2 ∙ sym c.export_realloc.ensures),
      inr (
        λ m h. not_equal c.args.name.now c.export_initialize.result.now (sym c.if-eq-2.ensures) (h.2 ∙ sym c.export_initialize.ensures),
        inl (
          func_type_value c.args.ty.now,
          refl,
          sym c.in-Some.ensures ∙ ap (λ (z : List ℕ). Some z)
              (sym (equal c.args.name.now c.in-Some.hook.now (sym c.if-ne.ensures))),
          refl,
        ),
      ),
    ))
