use Rattle.std.proofs.Common.{◌≡◌, ◌⊎◌}
use Rattle.std.proofs.lemmas.Result.{IfErr-weaker}
use Rattle.wc_gc.specs.LiveItems.{IsFault, names_of, trim_input}
use Rattle.wc_gc.specs.declared.fault.GcFault.{GcFault}
use Rattle.wc_gc.specs.declared.fault.GcFault.TheVariants.{Memory}
use Rattle.wc_validate.specs.Validate.{module_record}
use Rattle.wc_world.specs.WorldViews.{world_view}
use Rattle.wc_ways.specs.Originals.{required_exports}
use Rattle.wc_ways.specs.WaysFaults.{search_input}
use Rattle.wc_ways.proofs.OriginalLemmas.{fault_for}
use Rattle.wc_ways.proofs.modules.check_trimmed.Goals as goal

pub returns-in-Ok : goal.returns-in-Ok
returns-in-Ok c =
    let w = world_view c.args.world.now in
    let name = c.args.name.now in
    let info = module_record c.args.adapter.now.info in
    let wasm = c.args.wasm.now in
    IfErr-weaker c.check_for.result (IsFault (trim_input wasm c.in-Ok.required.keys)) (λ (f : GcFault). (f ≡ Memory) ⊎ IsFault (search_input w name info wasm) f)
    (λ f h. fault_for wasm (names_of c.in-Ok.required.keys) (required_exports w name info) f c.in-Ok.ensures.names h) c.check_for.ensures
