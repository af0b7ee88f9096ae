use Rattle.wc_resolve.specs.Views.{world_view}
use Rattle.wc_names.specs.Contexts.{context_scope}
use Rattle.wc_names.proofs.PayloadLemmas.{no_type}
use Rattle.wc_names.proofs.payloads.own_name_import.Goals as goal

pub returns-in_default-2 : goal.returns-in_default-2
returns-in_default-2 c =
    no_type c.args.context.now.resolve.now (world_view c.args.context.now.world.now) c.args.context.now.imported
    (context_scope c.args.context.now) c.args.name.now c.in-Some.parts.which.now c.in-Some.parts.function.now c.in-Some.parts.value c.in-Some.parts.operation
    c.args.async_
    c.in-Some.ensures.0 c.in-Some.ensures.1 (rw c.in_default-2.is at c.in_ok-ty.ensures)
