use Rattle.std.proofs.Common.{◌<◌, ◌∙◌, ap, arith, length, map}
use Rattle.wc_read.specs.Exports.{export_value}
use Rattle.wc_module_ways.specs.Adapters.{adapter_view}
use Rattle.wc_module_ways.specs.Private.Servers.{server_by, server_view}
use Rattle.wc_module_ways.specs.Servers.{adapter_server}
use Rattle.wc_module_ways.specs.declared.adapter.AdapterModule.{AdapterModule}
use Rattle.wc_module_ways.proofs.MatchedLemmas.{mapped_more}
use Rattle.wc_module_ways.proofs.servers.push_adapter_servers.Goals as goal

pub loop-adapter-preserved : goal.loop-adapter-preserved
loop-adapter-preserved c =
    let within : c.loop-adapter.adapter-index < length c.args.adapters.now = omega arith in
    let a = c.adapter-item.result in
    mapped_more adapter_view server_view adapter_server c.args.adapters.now c.loop-adapter.adapter-index a _ c.args.servers.now.items c.loop-adapter.servers.items
    c.push.new.self.items within c.loop-adapter.invariant
    ((λ t. server_by a.name.now (map export_value (c.deref.ensures.value t)) (a.has_rows.counted t))
    ∙ ap (λ (z : AdapterModule). adapter_server (adapter_view z)) c.adapter-item.is) c.in_ok-push.ensures.items
