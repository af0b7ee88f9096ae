use Rattle.std.proofs.Common.{◌≡◌, List, ℕ, [], cond, subst}
use Rattle.std.specs.Str.{bytes_eq}
use Rattle.wc_validate.specs.Imports.FirstFunctions.{first_functions, positions_under}
use Rattle.wc_validate.specs.Imports.Instances.{instance_view}
use Rattle.wc_validate.proofs.FirstFunctionLemmas.{covered_end, covered_next, covered_start}
use Rattle.wc_validate.proofs.imports.first_functions.FirstFunctions.among.Goals as goal

pub loop-name-init : goal.loop-name-init
loop-name-init c =
    covered_start c.args.instances.now.entries c.iter-name-items.result c.into_iter-name-iterator.result c.new-first.result
    c.into_iter-name-iterator.ensures.into_iter_gives c.iter-name-items.ensures.rest
    c.iter-name-items.ensures.unique c.new-first.ensures

pub loop-name-preserved : goal.loop-name-preserved
loop-name-preserved c =
    covered_next c.args.instances.now.entries c.loop-name.name-iterator c.next.new.self (c.in-Some.name.now, c.in-Some.instance.now)
    c.loop-name.first c.add_module.new.self c.loop-name.invariant c.in-Some.ensures.steps
    (subst (λ z. (m : List ℕ) → positions_under c.loop-name.first z ≡ [] → positions_under c.add_module.new.self m ≡ cond (bytes_eq m z)
    (first_functions (instance_view c.in-Some.instance.now)) (positions_under c.loop-name.first m))
    c.deref.ensures c.in_ok-add_module.ensures)

pub returns : goal.returns
returns c = covered_end c.args.instances.now.entries c.loop-name.name-iterator c.loop-name.first c.loop-name.invariant c.in-None.ensures.steps.0
