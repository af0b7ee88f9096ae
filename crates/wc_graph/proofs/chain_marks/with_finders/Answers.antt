use Rattle.std.proofs.Common.{◌≡◌, ◌<◌, ◌+◌, ◌-◌, false, true, Some, length, get_or, refl, sym, ◌∙◌, ap, subst, arith, rules}
use Rattle.std.proofs.lemmas.Option.{slice_get-get_or, slice_get_read}
use Rattle.std.specs.List.{slice_get}
use Rattle.wc_graph.specs.Private.ChainMarks.{AreTaken}
use Rattle.wc_graph.proofs.ChainMarkLemmas.{none_taken, not_taken, one_taken}
use Rattle.wc_graph.proofs.chain_marks.with_finders.Goals as goal

pub loop-index-init : goal.loop-index-init
loop-index-init c =
    let len : c.len-index.result ≡ length c.args.marks.items = search rules in
    record {
      taken = subst (λ n. AreTaken c.args.finder.now c.args.marks.items n c.args.marks.items) (sym len) (none_taken c.args.finder.now c.args.marks.items);
      inside = omega (arith, len);
    }

pub loop-index-preserved-then-index : goal.loop-index-preserved-then-index
loop-index-preserved-then-index c =
    let marks = c.loop-index.marks.items in
    let finder = c.args.finder.now in
    let index = c.loop-index.index - 1 in
    let invariant = c.loop-index.invariant in
    let less : index < c.loop-index.index = search rules in
    let back : c.loop-index.index ≡ index + 1 = omega (arith, less) in
    let lt : index < length marks = (let s = invariant.taken.sized in let i = invariant.inside in omega (arith, s, i, less)) in
    let held : index < length finder = (let s = invariant.taken.sized in let r = c.requires.sized in omega (arith, s, r, lt)) in
    let is : slice_get marks index ≡ Some true = slice_get_read marks (length marks) index c.index.result.now refl lt c.index.ensures ∙ ap Some c.if-index.true in
    let at : slice_get finder index ≡ Some (get_or finder index 0) = slice_get-get_or finder index 0 held in
    let early = c.requires.earlier index held in
    record {
      taken = one_taken finder c.args.marks.items index (get_or finder index 0) marks
          (subst (λ n. AreTaken finder c.args.marks.items n marks) back invariant.taken) is at early;
      inside = (let i = invariant.inside in omega (arith, i, less));
    }

pub loop-index-preserved : goal.loop-index-preserved
loop-index-preserved c =
    let marks = c.loop-index.marks.items in
    let finder = c.args.finder.now in
    let index = c.loop-index.index - 1 in
    let invariant = c.loop-index.invariant in
    let less : index < c.loop-index.index = search rules in
    let back : c.loop-index.index ≡ index + 1 = omega (arith, less) in
    let lt : index < length marks = (let s = invariant.taken.sized in let i = invariant.inside in omega (arith, s, i, less)) in
    let is : slice_get marks index ≡ Some false = slice_get_read marks (length marks) index c.index.result.now refl lt c.index.ensures ∙ ap Some c.if-index.false in
    record {
      taken = not_taken finder c.args.marks.items index marks (subst (λ n. AreTaken finder c.args.marks.items n marks) back invariant.taken) is;
      inside = (let i = invariant.inside in omega (arith, i, less));
    }
