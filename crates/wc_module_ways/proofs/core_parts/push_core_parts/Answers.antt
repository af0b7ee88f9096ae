use Rattle.std.proofs.Common.{◌<◌, ◌≤◌, arith, length, map, subst, sym}
use Rattle.std.proofs.lemmas.List.{take_all}
use Rattle.wc_why.specs.Part.{part_view}
use Rattle.wc_module_ways.specs.CoreModules.{HasCore, core_view}
use Rattle.wc_module_ways.specs.CoreParts.{IsPartOfCore}
use Rattle.wc_module_ways.specs.declared.core_module.CoreModule.{CoreModule}
use Rattle.wc_module_ways.specs.Private.CoreParts.{PutsCoreParts}
use Rattle.wc_module_ways.proofs.CorePartLemmas.{core_parts_more, has_core_at, no_core_parts}
use Rattle.wc_module_ways.proofs.core_parts.push_core_parts.Goals as goal

pub loop-index-init : goal.loop-index-init
loop-index-init c imports are = no_core_parts imports (map part_view c.args.parts.now.items)

pub part_of_core-requires : goal.part_of_core-requires
part_of_core-requires c =
    let within : c.loop-index.index < length c.args.core.now = omega arith in
    subst HasCore (sym c.index-core-index.is) (has_core_at c.args.core.now c.requires c.loop-index.index c.index-core-index.result within)

pub loop-index-preserved : goal.loop-index-preserved
loop-index-preserved c imports are =
    let within : c.loop-index.index < length c.args.core.now = omega arith in
    core_parts_more imports c.args.core.now c.loop-index.index c.index-core-index.result (map part_view c.args.parts.now.items)
    c.loop-index.parts.items c.push.new.self.items _ within (c.loop-index.invariant imports are)
    (subst (λ (z : CoreModule). IsPartOfCore imports (core_view z) (part_view c.in_ok-part_of_core.field-0)) c.index-core-index.is
    (c.in_ok-part_of_core.ensures imports are)) c.in_ok-push.ensures.items

pub returns : goal.returns
returns c imports are =
    let over : length c.args.core.now ≤ c.loop-index.index = omega arith in
    subst (λ z. PutsCoreParts imports (map core_view z) (map part_view c.args.parts.now.items) (map part_view c.loop-index.parts.items))
    (take_all c.loop-index.index c.args.core.now over) (c.loop-index.invariant imports are)
