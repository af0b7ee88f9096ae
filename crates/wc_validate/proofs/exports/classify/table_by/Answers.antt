use Rattle.std.proofs.Common.{◌∙◌, ℕ, List, Some, inl, inr, refl, sym, ap}
use Rattle.std.proofs.lemmas.Slice.Eq.{bytes_eq-Decides}
use Rattle.wc_validate.proofs.BuiltinLemmas.{not_equal}
use Rattle.wc_validate.proofs.ExportKindLemmas.{no_memory_table, no_table, some_is}
use Rattle.wc_validate.proofs.IntrinsicLemmas.{not_found}
use Rattle.wc_validate.proofs.ClassificationLemmas.{classified_nothing, classified_unchecked}
use Rattle.wc_validate.specs.Classifications.{of_exports}
use Rattle.wc_validate.specs.Fault.{fault_kind}
use Rattle.wc_validate.proofs.exports.classify.table_by.Goals as goal

pub returns-in_default : goal.returns-in_default
returns-in_default g c = λ e keys ty.
    classified_nothing of_exports fault_kind _ _ (no_table (g.N.NameMangling.scheme c.args.scheme.now) e keys c.args.name.now ty
    (λ is. not_found c.args.name.now c.in_default.ensures is))

pub returns-then-eq : goal.returns-then-eq
returns-then-eq g c = λ e keys ty.
    classified_unchecked of_exports fault_kind _ _ _ (inr (
      no_memory_table (g.N.NameMangling.scheme c.args.scheme.now) e keys c.args.name.now ty,
      inl (
        ty,
        refl,
        sym c.in-Some.ensures ∙ ap (λ (z : List ℕ). Some z)
            (sym ((bytes_eq-Decides c.args.name.now c.in-Some.table.now).0 (sym c.if-eq.ensures))),
        refl,
      ),
    ))

pub returns-else-eq : goal.returns-else-eq
returns-else-eq g c = λ e keys ty.
    classified_nothing of_exports fault_kind _ _ (no_table (g.N.NameMangling.scheme c.args.scheme.now) e keys c.args.name.now ty
    (λ is. not_equal c.args.name.now c.in-Some.table.now (sym c.if-eq.ensures) (sym (some_is c.in-Some.table.now c.args.name.now c.in-Some.ensures is))))
