use Rattle.std.proofs.Common.{sym}
use Rattle.wc_resolve.specs.Views.{world_view}
use Rattle.wc_names.specs.Contexts.{context_scope}
use Rattle.wc_names.proofs.KeyLemmas.{type_in_range}
use Rattle.wc_names.proofs.payloads.PayloadLookupContext.resource.Goals as goal

pub if_resource-requires : goal.if_resource-requires
if_resource-requires c =
    type_in_range c.args.self.now.resolve.now (world_view c.args.self.now.world.now) (context_scope c.args.self.now).interface c.args.name.now c.in-Some.id.0
    c.well_formedness.ensures.in_range c.requires.world (sym (rw c.in-Some.is at c.in_ok-id.ensures))
