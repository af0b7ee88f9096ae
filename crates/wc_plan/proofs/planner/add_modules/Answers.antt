use Rattle.std.proofs.Common.{append-nil, subst, sym, []}
use Rattle.wc_plan.specs.Planner.{IsPlanned, wanted_by_adapters, world_in}
use Rattle.wc_world.specs.Nameable.{IsNameable}
use Rattle.wc_world.proofs.ModuleLemmas.{of_adapters, of_main}
use Rattle.wc_plan.proofs.planner.add_modules.Goals as goal

pub add_module-requires-clause-nameable : goal.add_module-requires-clause-nameable
add_module-requires-clause-nameable c = of_main (IsNameable (world_in c.args.context).encoder.resolve) (world_in c.args.context) c.requires.nameable

pub add_adapters-requires-clause-nameable : goal.add_adapters-requires-clause-nameable
add_adapters-requires-clause-nameable c = of_adapters (IsNameable (world_in c.args.context).encoder.resolve) (world_in c.args.context) c.requires.nameable

pub returns-clause-fault : goal.returns-clause-fault
returns-clause-fault c = λ p.
    c.add_adapters.ensures.fault []
    (subst (λ z. IsPlanned (world_in c.args.context) z c.add_module.new.planner) (sym (append-nil (wanted_by_adapters (world_in c.args.context))))
    (c.in_ok-add_module.ensures.made (wanted_by_adapters (world_in c.args.context)) p))
