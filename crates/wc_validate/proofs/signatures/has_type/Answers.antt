use Rattle.std.proofs.Common.{◌≡◌, ◌∙◌, refl, sym, true, false}
use Rattle.std.proofs.lemmas.Slice.Eq.{slice_eq-Decides}
use Rattle.wc_read.specs.Types.{func_type_value}
use Rattle.wc_validate.proofs.SignatureLemmas.{vals_law, both_from, params_are, results_are}
use Rattle.wc_validate.proofs.signatures.has_type.Goals as goal

pub returns-then-eq : goal.returns-then-eq
returns-then-eq c =
    let ps : c.params.result.now ≡ c.args.params.now = (slice_eq-Decides vals_law c.params.result.now c.args.params.now true c.if-eq.ensures).0 refl in
    let rs = slice_eq-Decides vals_law c.results.result.now c.args.results.now c.eq-then-eq.result c.eq-then-eq.ensures in (
      (λ t. both_from (func_type_value c.args.ty.now) c.args.params.now c.args.results.now (sym c.params.ensures ∙ ps) (sym c.results.ensures ∙ rs.0 t)),
      (λ e. rs.1 (c.results.ensures ∙ results_are (func_type_value c.args.ty.now) c.args.params.now c.args.results.now e)),
    )

pub returns-else-eq : goal.returns-else-eq
returns-else-eq c =
    let ps = slice_eq-Decides vals_law c.params.result.now c.args.params.now c.eq.result c.eq.ensures in (
      (λ t. absurd (let e : false ≡ true = sym c.if-eq.false ∙ t in let bad : ⊥ = cc e in bad)),
      (λ e. ps.1 (c.params.ensures ∙ params_are (func_type_value c.args.ty.now) c.args.params.now c.args.results.now e)),
    )
