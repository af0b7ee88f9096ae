use Rattle.std.proofs.Common.{ap}
use Rattle.wc_plan.proofs.LoweringLemmas.{in_interface, no_interface}
use Rattle.wc_plan.proofs.lowerings.lowering_of.Goals as goal

pub returns-in_err-imported : goal.returns-in_err-imported
returns-in_err-imported c = no_interface c.args.call.now.0 c.args.call.now.1 c.args.import_map.now.entries c.from_residual.result c.from_residual.ensures c.in_err-imported.ensures.value

pub returns : goal.returns
returns c =
    in_interface c.args.call.now.0 c.args.call.now.1 c.args.import_map.now.entries c.get-2.result c.in_ok-imported.imported.now c.deref.result.now.entries (ap (λ m. m.entries) c.deref.ensures) c.in_ok-imported.ensures.value
    c.get-2.ensures.value
