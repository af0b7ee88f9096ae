use Rattle.std.proofs.Common.{◌≡◌, ◌<◌, ◌+◌, ◌∙◌, ℕ, arith, length, map, rules, subst, sym}
use Rattle.std.proofs.lemmas.List.{length-map}
use Rattle.wc_resolve.specs.Views.{world_view}
use Rattle.wc_selection.proofs.WorldPartLemmas.{FoundBelow, all_found, moved, stayed}
use Rattle.wc_maps.proofs.ListLemmas.{viewed_at}
use Rattle.wc_selection.proofs.world_parts.likely_whole.Goals as goal
use Rattle.wc_selection.proofs.world_parts.likely_whole.Goals.{then-is_part, else-is_part}

pub loop-index-preserved : goal.loop-index-preserved
loop-index-preserved c =
    let xs = c.args.worlds.now in
    let ws = map world_view xs in
    let index = c.loop-index.index in
    let a = c.index-worlds-whole.result in
    let b = c.index-worlds-index.result in
    let lt : index < length xs = search rules in
    let at_whole = viewed_at world_view xs c.loop-index.whole a c.loop-index.invariant.there c.index-worlds-whole.is in
    let at_index = viewed_at world_view xs index b lt c.index-worlds-index.is in
    elim c.if-is_part.branch [
      | then-is_part w ↦ record {
        there = subst (λ (k : ℕ). k < length xs) (sym w.whole-is) lt;
        found = subst (λ (k : ℕ). FoundBelow ws (index + 1) k) (sym w.whole-is)
            (moved ws c.loop-index.whole index (world_view a) (world_view b) at_whole at_index c.is_part.result c.is_part.ensures w.if-is_part.true c.loop-index.invariant.found);
      }
      | else-is_part w ↦ record {
        there = subst (λ (k : ℕ). k < length xs) (sym w.whole-is) c.loop-index.invariant.there;
        found = subst (λ (k : ℕ). FoundBelow ws (index + 1) k) (sym w.whole-is)
            (stayed ws c.loop-index.whole index (world_view a) (world_view b) at_whole at_index c.is_part.result c.is_part.ensures w.if-is_part.false c.loop-index.invariant.found);
      }
    ]

pub returns-clause-found : goal.returns-clause-found
returns-clause-found c =
    let xs = c.args.worlds.now in
    let passed = c.loop-index-test.false in
    let end = c.loop-index.auto.index-end in
    let all : length xs ≡ c.loop-index.index = omega (arith, passed, end) in
    all_found (map world_view xs) c.loop-index.index c.loop-index.whole (length-map xs world_view ∙ all) c.loop-index.invariant.found
