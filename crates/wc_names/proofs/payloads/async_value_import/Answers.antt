use Rattle.wc_names.proofs.PayloadLemmas.{import_after, import_without}
use Rattle.wc_resolve.specs.Views.{world_view}
use Rattle.wc_names.specs.Contexts.{context_scope}
use Rattle.wc_names.proofs.payloads.async_value_import.Goals as goal

pub returns-in-Some : goal.returns-in-Some
returns-in-Some c =
    import_after c.args.context.now.resolve.now (world_view c.args.context.now.world.now) c.args.context.now.imported
    (context_scope c.args.context.now) c.args.name.now c.in-Some.rest.now c.own_name_import.result
    c.in-Some.ensures.found c.own_name_import.ensures

pub returns-in-None : goal.returns-in-None
returns-in-None c =
    import_without c.args.context.now.resolve.now (world_view c.args.context.now.world.now) c.args.context.now.imported
    (context_scope c.args.context.now) c.args.name.now c.own_name_import-in-None.result
    c.in-None.ensures.found c.own_name_import-in-None.ensures
