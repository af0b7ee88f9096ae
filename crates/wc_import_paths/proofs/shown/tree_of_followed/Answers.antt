use Rattle.std.proofs.Common.{◌∙◌, ◌<◌, ◌^◌, [], ◌∷◌, ◌++◌, ap, map, subst, sym}
use Rattle.std.proofs.lemmas.Result.{IfOk-weaker}
use Rattle.wc_paths.specs.Numbers.{item_count}
use Rattle.wc_why.specs.Part.{part_view}
use Rattle.wc_why.specs.Tree.{tree_caller_view, tree_view}
use Rattle.wc_import_paths.specs.Shown.{end_view}
use Rattle.wc_import_paths.proofs.ShownLemmas.{followed_tree}
use Rattle.wc_import_paths.proofs.shown.tree_of_followed.Goals as goal

pub shown_in-requires-clause-fits : goal.shown_in-requires-clause-fits
shown_in-requires-clause-fits c = subst (λ z. item_count z < 2 ^ 64) (sym c.in_ok-part.ensures.part.counts) c.in_ok-part.ensures.part.fits

pub returns : goal.returns
returns c =
    let part = c.in_ok-part.part in
    let one = c.deref.ensures.value ∙ (c.in_ok-push.ensures.items ∙ ap (λ z. z ++ part ∷ []) c.new-parts.ensures.items) in
    IfOk-weaker c.tree_to_ends.result _ _
    (λ t h. followed_tree c.args.followed.now c.args.asked.now (map tree_caller_view c.args.functions.now) c.requires (part_view part) c.in_ok-part.ensures
    _ (ap (map part_view) one) _ (ap (map end_view) c.deref-2.ensures.value ∙ c.in_ok-shown.ensures) c.is_any_asked-is_asked.result c.is_any_asked-is_asked.ensures
    c.are_there.result c.are_there.ensures (tree_view t) h) c.tree_to_ends.ensures
