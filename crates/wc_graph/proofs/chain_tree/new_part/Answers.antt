use Rattle.std.proofs.Common.{◌≡◌, ◌≢◌, ◌<◌, ◌≤◌, ◌++◌, length, get_or, Some, None, sym, ◌∙◌, ap, subst, arith}
use Rattle.std.specs.List.{slice_get}
use Rattle.std.proofs.lemmas.Option.{slice_get-get_or}
use Rattle.wc_graph.specs.Private.ChainTree.{IsNewPart}
use Rattle.wc_graph.proofs.ChainTreeLemmas.{back_end, back_root, back_step, none_of}
use Rattle.wc_graph.proofs.chain_tree.new_part.Goals as goal

pub returns-then-next-at : goal.returns-then-next-at
returns-then-next-at c =
    let finder = c.args.finder.now in
    let places = c.args.places.now in
    let at = c.loop-new.at in
    let within : at < length finder = c.loop-new.invariant.within in
    let inside : at < length places = let s = c.requires.sized in omega (arith, s, within) in
    let none : get_or places at None ≡ None = none_of (get_or places at None) c.is_none.result c.is_none.ensures c.loop-new-test.true in
    let own : get_or finder at 0 ≡ at = c.if-next-at.true in
    subst (λ z. IsNewPart finder places c.args.target z None) (sym c.in_ok-push.ensures.items)
    (back_root finder places c.args.target at c.loop-new.new.items (slice_get-get_or places at None inside ∙ ap Some none)
    (slice_get-get_or finder at 0 within ∙ ap Some own) c.loop-new.invariant.walked)

pub loop-new-preserved : goal.loop-new-preserved
loop-new-preserved c =
    let finder = c.args.finder.now in
    let places = c.args.places.now in
    let at = c.loop-new.at in
    let within : at < length finder = c.loop-new.invariant.within in
    let inside : at < length places = let s = c.requires.sized in omega (arith, s, within) in
    let none : get_or places at None ≡ None = none_of (get_or places at None) c.is_none.result c.is_none.ensures c.loop-new-test.true in
    let other : get_or finder at 0 ≢ at = c.if-next-at.false in
    let early : get_or finder at 0 ≤ at = c.requires.earlier at within in
    record {
      within = omega (arith, early, within);
      walked = λ rest after p.
          subst (λ z. IsNewPart finder places c.args.target (z ++ rest) after) (sym c.in_ok-push.ensures.items)
          (back_step finder places c.args.target at (get_or finder at 0) c.loop-new.new.items (slice_get-get_or places at None inside ∙ ap Some none)
          (slice_get-get_or finder at 0 within) other c.loop-new.invariant.walked rest after p);
    }

pub returns : goal.returns
returns c =
    let finder = c.args.finder.now in
    let places = c.args.places.now in
    let at = c.loop-new.at in
    let within : at < length finder = c.loop-new.invariant.within in
    let inside : at < length places = let s = c.requires.sized in omega (arith, s, within) in
    back_end finder places c.args.target at c.loop-new.new.items (get_or places at None) c.is_none.result (slice_get-get_or places at None inside)
    c.is_none.ensures c.loop-new-test.false c.loop-new.invariant.walked
