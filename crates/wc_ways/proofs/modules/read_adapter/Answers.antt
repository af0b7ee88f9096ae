use Rattle.std.proofs.Common.{◌∙◌, ap, option_map}
use Rattle.wc_adapters.specs.Adapters.{adapter_view as given_view, library_view}
use Rattle.wc_world.proofs.FaultLemmas.{passed_on}
use Rattle.wc_world.specs.Views.{NamedWorldAdapter}
use Rattle.wc_world.specs.WorldViews.{adapter_view, world_view}
use Rattle.wc_ways.proofs.ModuleLemmas.{as_module, given_bytes, missing_bytes}
use Rattle.wc_ways.proofs.OriginalLemmas.{adapter_fault}
use Rattle.wc_ways.proofs.RecordLemmas.{viewed_found}
use Rattle.wc_ways.proofs.modules.read_adapter.Goals as goal

pub returns-in_err-check_trimmed-in-Some-get-clause-fault : goal.returns-in_err-check_trimmed-in-Some-get-clause-fault
returns-in_err-check_trimmed-in-Some-get-clause-fault c =
    let w = world_view c.args.world.now in
    let y : NamedWorldAdapter = (c.args.name.now, adapter_view c.args.adapter.now) in
    passed_on _ c.from_residual-in_err-check_trimmed-in-Some-get.result _ c.from_residual-in_err-check_trimmed-in-Some-get.ensures.1
    (adapter_fault w y (given_view c.in-Some-get.input.now) c.deref-in-Some-get.result.now _ (ap (option_map (λ l. library_view l.now)) c.in-None.is)
    (viewed_found given_view c.adapters.result.now.entries w.encoder.adapters c.args.name.now c.get.result c.adapters.ensures c.get.ensures.value
    ∙ ap (option_map (λ x. given_view x.now)) c.in-Some-get.is) c.deref-in-Some-get.ensures.value c.in_err-check_trimmed-in-Some-get.ensures)

pub returns-in_ok-module_with-in-Some-get-clause-module : goal.returns-in_ok-module_with-in-Some-get-clause-module
returns-in_ok-module_with-in-Some-get-clause-module c =
    let w = world_view c.args.world.now in
    let y : NamedWorldAdapter = (c.args.name.now, adapter_view c.args.adapter.now) in
    as_module w y c.in_ok-module_with-in-Some-get.field-0 c.deref-in-Some-get-2.result.now
    (c.deref-in-Some-get-2.ensures.value ∙ given_bytes w y (given_view c.in-Some-get.input.now) (ap (option_map (λ l. library_view l.now)) c.in-None.is)
    (viewed_found given_view c.adapters.result.now.entries w.encoder.adapters c.args.name.now c.get.result c.adapters.ensures c.get.ensures.value
    ∙ ap (option_map (λ x. given_view x.now)) c.in-Some-get.is))
    c.in_ok-module_with-in-Some-get.ensures

pub returns-in_ok-module_with-in-None-get-clause-module : goal.returns-in_ok-module_with-in-None-get-clause-module
returns-in_ok-module_with-in-None-get-clause-module c =
    let w = world_view c.args.world.now in
    let y : NamedWorldAdapter = (c.args.name.now, adapter_view c.args.adapter.now) in
    as_module w y c.in_ok-module_with-in-None-get.field-0 c.deref-in-None-get.result.now
    (c.deref-in-None-get.ensures.value ∙ missing_bytes w y (ap (option_map (λ l. library_view l.now)) c.in-None.is)
    (viewed_found given_view c.adapters.result.now.entries w.encoder.adapters c.args.name.now c.get.result c.adapters.ensures c.get.ensures.value
    ∙ ap (option_map (λ x. given_view x.now)) c.in-None-get.is))
    c.in_ok-module_with-in-None-get.ensures
