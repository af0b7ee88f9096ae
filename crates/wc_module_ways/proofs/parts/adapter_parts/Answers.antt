use Rattle.std.proofs.Common.{◌<◌, arith, length, rules, subst}
use Rattle.wc_why.specs.Part.{part_view}
use Rattle.wc_module_ways.specs.Adapters.{adapter_view}
use Rattle.wc_module_ways.specs.Parts.{IsPartOfAdapter}
use Rattle.wc_module_ways.specs.declared.adapter.AdapterModule.{AdapterModule}
use Rattle.wc_module_ways.proofs.AdapterPartLemmas.{read_at}
use Rattle.wc_module_ways.proofs.MatchedLemmas.{matched_more, none_matched}
use Rattle.wc_module_ways.proofs.parts.adapter_parts.Goals as goal

pub loop-adapter-init : goal.loop-adapter-init
loop-adapter-init c = none_matched IsPartOfAdapter _ (search rules)

pub part_of_adapter-requires : goal.part_of_adapter-requires
part_of_adapter-requires c =
    let within : c.loop-adapter.adapter-index < length c.args.adapters.now = omega arith in
    read_at c.args.adapters.now c.requires c.loop-adapter.adapter-index within c.adapter-item.result c.adapter-item.is

pub loop-adapter-preserved : goal.loop-adapter-preserved
loop-adapter-preserved c =
    let within : c.loop-adapter.adapter-index < length c.args.adapters.now = omega arith in
    matched_more IsPartOfAdapter adapter_view part_view c.args.adapters.now c.loop-adapter.adapter-index c.adapter-item.result within c.loop-adapter.parts.items
    c.push.new.self.items _ c.in_ok-push.ensures.items c.loop-adapter.invariant
    (subst (λ (z : AdapterModule). IsPartOfAdapter (adapter_view z) (part_view c.in_ok-part_of_adapter.field-0)) c.adapter-item.is c.in_ok-part_of_adapter.ensures)
