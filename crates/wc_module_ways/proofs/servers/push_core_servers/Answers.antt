use Rattle.std.proofs.Common.{◌<◌, ◌∙◌, ap, arith, length}
use Rattle.wc_module_ways.specs.CoreModules.{core_view}
use Rattle.wc_module_ways.specs.Private.Servers.{server_view}
use Rattle.wc_module_ways.specs.Servers.{core_server}
use Rattle.wc_module_ways.specs.declared.core_module.CoreModule.{CoreModule}
use Rattle.wc_module_ways.proofs.MatchedLemmas.{mapped_more}
use Rattle.wc_module_ways.proofs.servers.push_core_servers.Goals as goal

pub loop-one-preserved : goal.loop-one-preserved
loop-one-preserved c =
    let within : c.loop-one.one-index < length c.args.core.now = omega arith in
    mapped_more core_view server_view core_server c.args.core.now c.loop-one.one-index c.one-item.result _ c.args.servers.now.items c.loop-one.servers.items
    c.push.new.self.items within c.loop-one.invariant (c.core_server.ensures ∙ ap (λ (z : CoreModule). core_server (core_view z)) c.one-item.is)
    c.in_ok-push.ensures.items
