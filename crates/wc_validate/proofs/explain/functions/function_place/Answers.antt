use Rattle.wc_validate.proofs.BuiltinLemmas.{not_so}
use Rattle.wc_validate.proofs.MissingLemmas.{function_here}
use Rattle.wc_validate.proofs.explain.functions.function_place.Goals as goal

pub returns : goal.returns
returns c = λ r xs recorded functions same lack.
    function_here r xs recorded functions c.args.index.now.entries c.args.lacking.now.name.now c.args.lacking.now.ty.now c.args.lacking.now.fault
    c.in_ok-place.place same lack (not_so _ _ c.is_memory.ensures c.if-is_memory.false) c.in_ok-place.ensures
