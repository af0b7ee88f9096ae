use Rattle.std.proofs.Common.{◌<◌, ◌≤◌, ◌∙◌, ◌++◌, ap, append-nil, arith, length, map, string_bytes, sym}
use Rattle.std.proofs.lemmas.List.{take_all}
use Rattle.wc_summary.specs.CoreModules.{label_value}
use Rattle.wc_module_ways.specs.CoreImports.{segment_label}
use Rattle.wc_module_ways.proofs.CoreImportLemmas.{segments_next}
use Rattle.wc_module_ways.proofs.core_imports.push_filled_labels.Goals as goal

pub loop-index-init : goal.loop-index-init
loop-index-init c s are = sym (append-nil (map label_value c.args.labels.now.items))

pub loop-index-preserved : goal.loop-index-preserved
loop-index-preserved c s are =
    let lt : c.loop-index.index < length c.args.items.now = omega arith in
    let same = c.requires in
    segments_next s c.args.items.now c.args.texts.now are c.loop-index.index _ c.index-texts-index.result lt (omega (arith, lt, same)) c.args.labels.now.items c.loop-index.labels.items
    c.push.new.self.items _ _ c.root_label.ensures (c.deref.ensures ∙ ap string_bytes c.index-texts-index.is)
    c.in_ok-push.ensures.items (c.loop-index.invariant s are)

pub returns : goal.returns
returns c s are =
    let over : length c.args.items.now ≤ c.loop-index.index = omega arith in
    c.loop-index.invariant s are
    ∙ ap (λ z. map label_value c.args.labels.now.items ++ map (segment_label s) z) (take_all c.loop-index.index c.args.items.now over)
