use Rattle.std.proofs.Common.{◌∙◌, ◌++◌, ap, map}
use Rattle.std.specs.Option.{option_to_list}
use Rattle.wc_read.specs.Exports.{export_value}
use Rattle.wc_read.specs.Modules.{module_value}
use Rattle.wc_validate.specs.Exports.Iter.{exports_left}
use Rattle.wc_ways.proofs.LoopLemmas.{filter_end, filter_next, put_viewed}
use Rattle.wc_ways.proofs.ModuleLemmas.{always_by}
use Rattle.wc_ways.proofs.parts.always_of.Goals as goal

pub loop-name-preserved : goal.loop-name-preserved
loop-name-preserved c =
    let now = c.loop-name.always.items in
    filter_next (always_by (module_value c.args.adapter.now.code)) (map export_value now) (map export_value c.push_some.new.list.items)
    (exports_left c.loop-name.name-iterator) (exports_left c.next.new.self) _ _ c.in-Some.ensures.steps
    (put_viewed export_value now c.push_some.new.list.items c.export_named.result c.in_ok-push_some.ensures
    ∙ ap (λ o. map export_value now ++ option_to_list o) c.export_named.ensures)
    c.loop-name.invariant

pub returns : goal.returns
returns c =
    filter_end (always_by (module_value c.args.adapter.now.code)) (map export_value c.loop-name.always.items) (exports_left c.loop-name.name-iterator) _
    c.in-None.ensures.steps.0 c.loop-name.invariant
