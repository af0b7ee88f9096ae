use Rattle.std.proofs.Common.{◌<◌, ◌≤◌, ◌∙◌, List, ap, arith, length, map, subst}
use Rattle.std.proofs.lemmas.List.{map-append, take_all}
use Rattle.wc_why.specs.Part.{part_view}
use Rattle.wc_ways.specs.Private.Parts.{AreAdapterParts}
use Rattle.wc_ways.specs.declared.modules.AdapterModule.{AdapterModule}
use Rattle.wc_ways.proofs.PartLemmas.{parts_next, parts_none}
use Rattle.wc_ways.proofs.parts.adapter_parts.Goals as goal

pub loop-adapter-init : goal.loop-adapter-init
loop-adapter-init c = parts_none (map part_view c.new-parts.result.items) (ap (map part_view) c.new-parts.ensures.items)

pub loop-adapter-preserved : goal.loop-adapter-preserved
loop-adapter-preserved c =
    let within : c.loop-adapter.adapter-index < length c.args.adapters.now = omega arith in
    parts_next c.args.adapters.now c.loop-adapter.adapter-index _ c.adapter-item.result (map part_view c.loop-adapter.parts.items)
    (map part_view c.push.new.self.items) (part_view c.in_ok-part.part) within c.adapter-item.is c.in_ok-part.ensures
    (ap (map part_view) c.in_ok-push.ensures.items ∙ map-append part_view c.loop-adapter.parts.items _) c.loop-adapter.invariant

pub returns : goal.returns
returns c =
    let over : length c.args.adapters.now ≤ c.loop-adapter.adapter-index = omega arith in
    subst (λ (xs : List AdapterModule). AreAdapterParts xs (map part_view c.loop-adapter.parts.items)) (take_all c.loop-adapter.adapter-index c.args.adapters.now over)
    c.loop-adapter.invariant
