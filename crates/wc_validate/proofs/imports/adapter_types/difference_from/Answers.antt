use Rattle.wc_read.specs.Types.{func_type_value}
use Rattle.wc_validate.proofs.AdapterTypeLemmas.{type_test}
use Rattle.wc_validate.proofs.BuiltinLemmas.{not_so}
use Rattle.wc_validate.proofs.imports.adapter_types.difference_from.Goals as goal

pub returns-then-has_type : goal.returns-then-has_type
returns-then-has_type c =
    (type_test c.has_type.result (func_type_value c.args.ty.now) (func_type_value c.args.first.now) c.params.result.now c.results.result.now
    c.params.ensures c.results.ensures c.has_type.ensures).0 c.if-has_type.true

pub returns : goal.returns
returns c = (
  c.in_ok-wanted.ensures,
  c.in_ok-found.ensures,
  not_so _ _
      (type_test c.has_type.result (func_type_value c.args.ty.now) (func_type_value c.args.first.now) c.params.result.now c.results.result.now
      c.params.ensures c.results.ensures c.has_type.ensures) c.if-has_type.false,
)
