use Rattle.std.proofs.Common.{◌<◌, ◌≤◌, ◌∙◌, ap, arith, length, map}
use Rattle.std.proofs.lemmas.List.{take_all}
use Rattle.wc_segments.specs.Segments.{segments_value}
use Rattle.wc_module_ways.specs.CoreImports.{filled_text, label_text}
use Rattle.wc_module_ways.proofs.CoreImportLemmas.{filled_next}
use Rattle.wc_module_ways.proofs.core_imports.filled_texts.Goals as goal

pub loop-item-preserved : goal.loop-item-preserved
loop-item-preserved c =
    let within : c.loop-item.item-index < length c.args.items.now = omega arith in
    filled_next (filled_text (segments_value c.args.segments.now)) c.args.items.now c.loop-item.item-index _ c.loop-item.texts.items c.push.new.self.items _
    within (c.in_ok-label_text.ensures ∙ ap label_text c.filled_by.ensures) c.in_ok-push.ensures.items c.loop-item.invariant

pub returns : goal.returns
returns c =
    let over : length c.args.items.now ≤ c.loop-item.item-index = omega arith in
    c.loop-item.invariant ∙ ap (map (filled_text (segments_value c.args.segments.now))) (take_all c.loop-item.item-index c.args.items.now over)
