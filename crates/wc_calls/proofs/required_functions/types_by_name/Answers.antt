use Rattle.wc_calls.proofs.RequiredFunctionLemmas.{all_distinct, all_views, passed_again, passed_new}
use Rattle.wc_calls.proofs.required_functions.types_by_name.Goals as goal

pub returns-then-contains_key-clause-repeated : goal.returns-then-contains_key-clause-repeated
returns-then-contains_key-clause-repeated c = λ is.
    passed_again c.loop-function.types.entries c.args.functions.now c.loop-function.function-index _ c.function-item.result c.contains_key.result
    c.loop-function-test.true c.function-item.is c.contains_key.ensures c.loop-function.invariant c.if-contains_key.true

pub loop-function-preserved : goal.loop-function-preserved
loop-function-preserved c =
    passed_new c.loop-function.types.entries c.args.functions.now c.loop-function.function-index _ c.function-item.result c.contains_key.result
    c.loop-function-test.true c.function-item.is c.contains_key.ensures c.loop-function.invariant c.insert.new.self.entries c.in_ok-name.name
    c.in_ok-clone.field-0 c.if-contains_key.false c.in_ok-name.ensures.ok c.in_ok-clone.ensures c.in_ok-insert.ensures.entries

pub returns-clause-types : goal.returns-clause-types
returns-clause-types c =
    all_views c.loop-function.types.entries c.args.functions.now c.loop-function.function-index c.loop-function-test.false c.loop-function.invariant

pub returns-clause-distinct : goal.returns-clause-distinct
returns-clause-distinct c =
    all_distinct c.loop-function.types.entries c.args.functions.now c.loop-function.function-index c.loop-function-test.false c.loop-function.invariant
