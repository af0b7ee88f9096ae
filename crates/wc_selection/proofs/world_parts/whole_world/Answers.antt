use Rattle.std.proofs.Common.{List, arith, map, subst, sym}
use Rattle.wc_resolve.specs.Views.{world_view}
use Rattle.wc_resolve.specs.declared.worlds.World.{World}
use Rattle.wc_selection.specs.WorldParts.{HasAllParts}
use Rattle.wc_selection.proofs.world_parts.whole_world.Goals as goal

pub returns-in-Err-clause-none : goal.returns-in-Err-clause-none
returns-in-Err-clause-none c index is =
    let all = subst (λ (xs : List World). HasAllParts (map world_view xs) index) (sym c.deref.ensures.value) is.0 in
    let same = c.in-Some.ensures.only index all in
    let long = c.in-Err.ensures in
    let short = is.1 in
    let bad : ⊥ = omega (arith, same, long, short) in
    bad

pub returns-in-None-clause-none : goal.returns-in-None-clause-none
returns-in-None-clause-none c index is =
    c.in-None.ensures.none index (subst (λ (xs : List World). HasAllParts (map world_view xs) index) (sym c.deref.ensures.value) is.0)
