use Rattle.std.proofs.Common.{ap, map}
use Rattle.wc_resolve.specs.declared.functions.AbiVariant.TheVariants.{GuestImport}
use Rattle.wc_world.specs.declared.imported.Lowering.TheVariants.{ResourceDrop}
use Rattle.wc_world.specs.Views.{resource_drop}
use Rattle.wc_world.specs.WorldViews.{lowering_entry}
use Rattle.wc_world.specs.Private.LoweringContext.{lowerer_in}
use Rattle.wc_world.proofs.LoweringLemmas.{drop_missing, drop_pushed, pushed}
use Rattle.wc_world.proofs.lowering.push_type.Goals as goal

pub returns-then-not-has_drop : goal.returns-then-not-has_drop
returns-then-not-has_drop g c = λ imports a.
    drop_missing (lowerer_in g.O.ImportOptions.options_of c.args.context.now imports) c.args.id.0 c.in-Some.name.now c.has_drop.result c.in-Some.ensures (c.has_drop.ensures imports a)
    (map lowering_entry c.args.lowerings.now.items) c.if-not-has_drop.true

pub returns : goal.returns
returns g c = λ imports a.
    drop_pushed (lowerer_in g.O.ImportOptions.options_of c.args.context.now imports) c.args.id.0 c.in-Some.name.now c.has_drop.result c.in-Some.ensures (c.has_drop.ensures imports a)
    (map lowering_entry c.args.lowerings.now.items) c.if-not-has_drop.false (map lowering_entry c.push.new.self.items) (lowering_entry ((c.in_ok-format.field-0, GuestImport), ResourceDrop c.args.id))
    (ap (λ n. ((n, GuestImport), resource_drop c.args.id.0)) c.in_ok-format.ensures.ok) (pushed c.args.lowerings.now.items c.push.new.self.items ((c.in_ok-format.field-0, GuestImport), ResourceDrop c.args.id) c.in_ok-push.ensures.items)
