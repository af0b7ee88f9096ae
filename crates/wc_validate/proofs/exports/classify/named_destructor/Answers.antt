use Rattle.wc_read.specs.Types.{func_type_value}
use Rattle.wc_validate.proofs.ExportKindLemmas.{is_destructor_of, no_destructor}
use Rattle.wc_validate.proofs.ClassificationLemmas.{classified_export, classified_nothing}
use Rattle.wc_validate.specs.Classifications.{of_exports}
use Rattle.wc_validate.specs.Fault.{fault_kind}
use Rattle.wc_validate.proofs.exports.classify.named_destructor.Goals as goal

pub returns-in_default : goal.returns-in_default
returns-in_default g c = λ e named.
    classified_nothing of_exports fault_kind _ _ (no_destructor (g.N.NameMangling.scheme c.args.scheme.now) e c.args.exports.now named c.args.name.now
    (func_type_value c.args.ty.now)
    c.lifted-abi.result.0 c.lifted-abi.result.1.now c.lifted-abi.ensures c.in_default.ensures)

pub returns : goal.returns
returns g c = λ e named.
    classified_export fault_kind _ _ _ (func_type_value c.args.ty.now) _ c.checked.ensures
    (is_destructor_of (g.N.NameMangling.scheme c.args.scheme.now) e c.args.exports.now named c.args.name.now (func_type_value c.args.ty.now)
    c.lifted-abi.result.0 c.lifted-abi.result.1.now c.lifted-abi.ensures c.in-Some.resource.0 c.in-Some.ensures)
