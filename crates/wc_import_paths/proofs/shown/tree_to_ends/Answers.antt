use Rattle.std.proofs.Common.{◌∙◌, ap, map, refl, subst}
use Rattle.wc_why.specs.Component.{IsComponentTree}
use Rattle.wc_why.specs.Part.{part_view}
use Rattle.wc_import_paths.specs.Shown.{end_view, ways_in}
use Rattle.wc_import_paths.proofs.shown.tree_to_ends.Goals as goal

pub returns : goal.returns
returns c = record {
  found = c.in_ok-found.found;
  is_tree = subst (λ z. IsComponentTree (map part_view c.args.parts.now) z c.args.is_asked c.in_ok-found.found)
      (c.deref.ensures.value ∙ c.in_ok-targets.ensures) c.in_ok-found.ensures;
  modules = refl;
  ways = c.in_ok-ways.ensures ∙ ap (ways_in c.args.with_unreached (map end_view c.args.shown.now)) c.deref-2.ensures.value;
}
