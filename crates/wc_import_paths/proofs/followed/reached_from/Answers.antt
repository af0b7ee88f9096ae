use Rattle.std.proofs.Common.{◌∙◌, subst}
use Rattle.wc_segments.specs.Segments.{segments_value}
use Rattle.wc_paths.specs.Callers.{AreReached}
use Rattle.wc_paths.specs.Paths.{AreClosed, IsPathFault, IsReachedInAny, graph_in}
use Rattle.wc_paths.specs.Roots.{second_roots}
use Rattle.wc_paths.specs.declared.paths.PathFault.TheVariants.{LiveBody}
use Rattle.wc_import_paths.proofs.followed.reached_from.Goals as goal

pub returns-in-Ok-clause-reached : goal.returns-in-Ok-clause-reached
returns-in-Ok-clause-reached c =
    let g = graph_in c.args.code.now c.args.segments.now in
    subst (λ xs. AreReached g xs (second_roots (segments_value c.args.segments.now)) c.in-Ok.reached.items) (c.deref.ensures.value ∙ c.in_ok-first.ensures)
    (subst (λ ys. AreReached g c.deref.result.now ys c.in-Ok.reached.items) (c.deref-2.ensures.value ∙ c.in_ok-second.ensures)
    (c.in-Ok.ensures.reached g c.requires))

pub returns-in-Ok-clause-closed : goal.returns-in-Ok-clause-closed
returns-in-Ok-clause-closed c ok =
    let g = graph_in c.args.code.now c.args.segments.now in
    subst (λ xs. AreClosed g (IsReachedInAny g xs (second_roots (segments_value c.args.segments.now)))) (c.deref.ensures.value ∙ c.in_ok-first.ensures)
    (subst (λ ys. AreClosed g (IsReachedInAny g c.deref.result.now ys)) (c.deref-2.ensures.value ∙ c.in_ok-second.ensures)
    (c.in-Ok.ensures.closed g c.requires ok))

pub returns-clause-refused : goal.returns-clause-refused
returns-clause-refused c =
    let g = graph_in c.args.code.now c.args.segments.now in (
      c.in-Err-LiveBody.function,
      subst (λ xs. IsPathFault g xs (second_roots (segments_value c.args.segments.now)) (LiveBody c.in-Err-LiveBody.function)) (c.deref.ensures.value ∙ c.in_ok-first.ensures)
          (subst (λ ys. IsPathFault g c.deref.result.now ys (LiveBody c.in-Err-LiveBody.function)) (c.deref-2.ensures.value ∙ c.in_ok-second.ensures)
          (rw c.in-Err-LiveBody.field-0-is at (c.in-Err-LiveBody.ensures.fault g c.requires))),
      c.body_place.ensures,
    )
