use Rattle.std.proofs.Common.{All, List, ◌∙◌, ap, subst, sym}
use Rattle.std.proofs.lemmas.List.Elements.{All-push}
use Rattle.wc_resolve.specs.declared.long_functions.LongFunction.{LongFunction}
use Rattle.wc_resolve.specs.LongFunctions.{IsLongFunction}
use Rattle.wc_resolve.specs.ResolveParts.{parts_view}
use Rattle.wc_resolve.proofs.long_functions.functions_at.Goals as goal
use Rattle.wc_resolve.proofs.long_functions.functions_at.Goals.{in-Some+in_ok-push, in_default}

pub loop-place-preserved : goal.loop-place-preserved
loop-place-preserved c =
    let r = parts_view c.args.parts.now in
    elim c.match-branch-2.branch [
      | in-Some+in_ok-push w ↦
          subst (λ (z : List LongFunction). All (IsLongFunction r) z) (sym (ap (λ v. v.items) w.kept-is ∙ w.in_ok-push.ensures.items))
          (All-push (IsLongFunction r) c.loop-place.kept.items w.in-Some.function c.loop-place.invariant (rw w.in-Some.is at c.in_ok-function.ensures))
      | in_default w ↦ subst (λ (z : List LongFunction). All (IsLongFunction r) z) (sym (ap (λ v. v.items) w.kept-is)) c.loop-place.invariant
    ]
