use Rattle.std.proofs.Common.{sym}
use Rattle.wc_read.proofs.DistinctNamesLemmas.{texts_differ}
use Rattle.wc_resolve.specs.Views.{world_view}
use Rattle.wc_names.specs.Contexts.{context_scope}
use Rattle.wc_names.specs.Places.{named_view}
use Rattle.wc_names.proofs.PayloadLemmas.{no_number, not_listed}
use Rattle.wc_names.proofs.KeyLemmas.{function_in_range}
use Rattle.wc_names.proofs.payloads.payload_type.Goals as goal

pub returns-in_default : goal.returns-in_default
returns-in_default c =
    no_number c.args.context.now.resolve.now (world_view c.args.context.now.world.now) c.args.context.now.imported
    (context_scope c.args.context.now) c.args.name.now.value c.args.name.now.which.now c.args.name.now.function.now
    (texts_differ _ _ c.if-eq.ensures) c.in_default.ensures

pub nth_of-requires-clause-function : goal.nth_of-requires-clause-function
nth_of-requires-clause-function c =
    function_in_range c.args.context.now.resolve.now (world_view c.args.context.now.world.now) c.args.context.now.imported
    (context_scope c.args.context.now).interface c.args.name.now.function.now (named_view c.in-Some-2.named)
    c.well_formedness.ensures.in_range c.requires.world (sym (rw c.in-Some-2.is at c.in_ok-named.ensures.function))

pub returns-in-None : goal.returns-in-None
returns-in-None c =
    not_listed c.args.context.now.resolve.now (world_view c.args.context.now.world.now) c.args.context.now.imported
    (context_scope c.args.context.now) c.args.name.now.value c.args.name.now.which.now c.args.name.now.function.now c.in-Some.index
    (named_view c.in-Some-2.named) (texts_differ _ _ c.if-eq.ensures) c.in-Some.ensures
    (rw c.in-Some-2.is at c.in_ok-named.ensures.function) c.in-None.ensures
