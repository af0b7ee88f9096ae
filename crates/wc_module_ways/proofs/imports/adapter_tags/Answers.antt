use Rattle.std.proofs.Common.{◌<◌, ◌≤◌, ◌∙◌, List, ap, arith, length, take}
use Rattle.std.proofs.lemmas.List.{length-map, take_all}
use Rattle.wc_read.specs.Imports.{ImportValue, import_value, import_values}
use Rattle.wc_module_ways.specs.Private.Imports.{tags_at}
use Rattle.wc_module_ways.proofs.ImportLemmas.{tags_pushed}
use Rattle.wc_module_ways.proofs.imports.adapter_tags.Goals as goal

pub loop-index-preserved : goal.loop-index-preserved
loop-index-preserved c =
    let lt : c.loop-index.index < length c.args.imports.now = omega arith in
    let n = c.requires in
    tags_pushed c.args.imports.now c.args.positions.now c.loop-index.index _ _ c.loop-index.tags.items c.push.new.self.items _ lt (omega (arith, lt, n))
    c.in_ok-adapter_tag.ensures c.in_ok-push.ensures.items c.loop-index.invariant

pub returns : goal.returns
returns c =
    let over : length c.args.imports.now ≤ c.loop-index.index = omega arith in
    let n = c.requires in
    let l = length-map c.args.imports.now import_value in
    c.loop-index.invariant
    ∙ (ap (λ (is : List ImportValue). tags_at is (take c.loop-index.index c.args.positions.now))
    (take_all c.loop-index.index (import_values c.args.imports.now) (omega (arith, over, l)))
    ∙ ap (tags_at (import_values c.args.imports.now)) (take_all c.loop-index.index c.args.positions.now (omega (arith, over, n))))
