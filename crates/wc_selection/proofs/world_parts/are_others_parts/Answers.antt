use Rattle.std.proofs.Common.{◌≡◌, ◌<◌, ◌∙◌, arith, length, map}
use Rattle.std.proofs.lemmas.List.{length-map}
use Rattle.wc_resolve.specs.Views.{world_view}
use Rattle.wc_selection.proofs.WorldPartLemmas.{all_are_parts, not_a_part, one_more_part}
use Rattle.wc_selection.proofs.world_parts.are_others_parts.Goals as goal

pub returns-then-not-is_other_part : goal.returns-then-not-is_other_part
returns-then-not-is_other_part c =
    not_a_part (map world_view c.args.worlds.now) c.args.whole c.loop-index.index c.is_other_part.result c.is_other_part.ensures c.if-not-is_other_part.true

pub loop-index-preserved : goal.loop-index-preserved
loop-index-preserved c =
    one_more_part (map world_view c.args.worlds.now) c.args.whole c.loop-index.index c.is_other_part.result c.is_other_part.ensures
    c.if-not-is_other_part.false c.loop-index.invariant

pub returns : goal.returns
returns c =
    let xs = c.args.worlds.now in
    let viewed = length-map xs world_view in
    let passed = c.loop-index-test.false in
    let end = c.loop-index.auto.index-end in
    let all : length xs ≡ c.loop-index.index = omega (arith, passed, end) in
    let lt = c.requires in
    let there : c.args.whole < length (map world_view xs) = omega (arith, lt, viewed) in
    all_are_parts (map world_view xs) c.loop-index.index c.args.whole (viewed ∙ all) there c.loop-index.invariant
