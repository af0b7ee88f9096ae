use Rattle.std.proofs.Common.{◌<◌, arith, length, map}
use Rattle.std.proofs.lemmas.List.Elements.{All-nil}
use Rattle.std.proofs.lemmas.Result.{err_from_is_err_and}
use Rattle.wc_module_ways.specs.Adapters.{adapter_view}
use Rattle.wc_module_ways.specs.Refusals.{HasNoCause}
use Rattle.wc_module_ways.proofs.AdapterPartLemmas.{checked_more}
use Rattle.wc_module_ways.proofs.ImportLemmas.{at_index}
use Rattle.wc_module_ways.proofs.ModuleLemmas.{way_refused}
use Rattle.wc_module_ways.proofs.tree.check_adapters.Goals as goal

pub loop-adapter-init : goal.loop-adapter-init
loop-adapter-init c = All-nil HasNoCause

pub loop-adapter-preserved : goal.loop-adapter-preserved
loop-adapter-preserved c =
    let within : c.loop-adapter.adapter-index < length c.args.adapters.now = omega arith in
    checked_more c.args.adapters.now c.loop-adapter.adapter-index c.adapter-item.result within c.adapter-item.is c.loop-adapter.invariant
    c.in_ok-check_adapter.ensures.no_cause

pub returns-in_err-check_adapter-clause-refused : goal.returns-in_err-check_adapter-clause-refused
returns-in_err-check_adapter-clause-refused c =
    let p = err_from_is_err_and c.from_residual.result c.from_residual.ensures.1 in
    let all = c.args.adapters.now in
    let a = c.adapter-item.result in
    let k = c.loop-adapter.adapter-index in
    let within : k < length all = omega arith in
    rw (p.1, p.2) (way_refused (map adapter_view all) (adapter_view a) k _ (at_index k all a within c.adapter-item.is) c.in_err-check_adapter.ensures.refused)
