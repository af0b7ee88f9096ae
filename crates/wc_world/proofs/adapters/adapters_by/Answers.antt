use Rattle.std.proofs.Common.{◌++◌, ◌∷◌, ◌⊎◌, [], All, map, subst, sym}
use Rattle.wc_adapters.specs.Adapters.{adapter_view as input_view}
use Rattle.wc_validate.specs.Validate.{module_record}
use Rattle.wc_world.specs.Trimming.{HasOtherName}
use Rattle.wc_world.specs.Private.Refused.{IsFirstRefusal}
use Rattle.wc_world.specs.Refused.{IsMemoryRefusal, RefusedWorld}
use Rattle.wc_world.specs.World.{AreAdaptersAmong}
use Rattle.wc_world.specs.WorldViews.{adapter_entry}
use Rattle.wc_world.proofs.AdapterLemmas.{first_by_walk, walk_next}
use Rattle.wc_world.proofs.FaultLemmas.{passed_on}
use Rattle.wc_world.proofs.adapters.adapters_by.Goals as goal

pub loop-name-preserved : goal.loop-name-preserved
loop-name-preserved c =
    walk_next c.args.context.encoder.now (module_record c.args.context.main.now) c.loop-name.name-iterator c.next.new.self (c.in-Some.name.now, c.in-Some.adapter.now) (map adapter_entry c.loop-name.found.entries) (map adapter_entry c.add_adapter.new.found.entries) c.in-Some.ensures.steps
    (λ passed others h. subst (λ n. AreAdaptersAmong c.args.context.encoder.now (module_record c.args.context.main.now) (passed ++ (n, input_view c.in-Some.adapter.now) ∷ []) (map adapter_entry c.add_adapter.new.found.entries)) c.deref.ensures (c.in_ok-add_adapter.ensures.is_adapter passed (subst (λ n. All (HasOtherName n) passed) (sym c.deref.ensures) others) h))
    c.loop-name.invariant

pub returns-in_err-add_adapter-clause-refusal : goal.returns-in_err-add_adapter-clause-refusal
returns-in_err-add_adapter-clause-refusal c =
    passed_on (λ (x : RefusedWorld). IsMemoryRefusal x ⊎ IsFirstRefusal c.args.context.encoder.now (module_record c.args.context.main.now) x) c.from_residual.result _ c.from_residual.ensures.1
    (first_by_walk c.args.context.encoder.now (module_record c.args.context.main.now) c.loop-name.name-iterator c.next.new.self (c.in-Some.name.now, c.in-Some.adapter.now) (map adapter_entry c.loop-name.found.entries) _ c.deref.result.now c.in-Some.ensures.steps c.deref.ensures c.in_err-add_adapter.ensures.refusal c.loop-name.invariant)
