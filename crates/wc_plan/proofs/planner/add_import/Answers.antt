use Rattle.std.proofs.Common.{subst}
use Rattle.std.specs.List.{cons_option}
use Rattle.wc_names.specs.Views.{import_view}
use Rattle.wc_plan.specs.Planner.{IsPlanned, world_in}
use Rattle.wc_plan.proofs.ProgressLemmas.{import_wanted}
use Rattle.wc_plan.specs.Planner.{owner_in}
use Rattle.wc_plan.proofs.planner.add_import.Goals as goal

pub returns-in-Some-clause-fault : goal.returns-in-Some-clause-fault
returns-in-Some-clause-fault c = λ rest p.
    c.add_call.ensures.fault rest (subst (λ z. IsPlanned (world_in c.args.context) (cons_option z rest) c.args.planner.now)
    (import_wanted c.args.context.world.now.encoder.now.resolve c.metadata-metadata.result.now.resolve c.args.importer (import_view c.args.import.now) c.in_ok-call.field-0 c.in-Some.call c.metadata-metadata.ensures.resolve
    (c.in_ok-call.ensures (owner_in c.args.importer.owner)) c.in-Some.is) p)
