use Rattle.std.proofs.Common.{◌∙◌, List, ap, map, refl, subst}
use Rattle.wc_why.specs.Component.{IsComponentTree}
use Rattle.wc_why.specs.Part.{part_view}
use Rattle.wc_why.specs.declared.component.Target.{Target}
use Rattle.wc_why.specs.declared.part.Part.{Part}
use Rattle.wc_ways.specs.WaysTree.{targets_of, ways_of}
use Rattle.wc_ways.specs.Private.Wanted.{wanted_view}
use Rattle.wc_ways.specs.declared.wanted.Wanted.{Wanted}
use Rattle.wc_ways.proofs.tree.tree_of.Goals as goal

pub returns : goal.returns
returns c =
    let s = c.args.shown.now in
    let targets = c.deref-3.ensures.value ∙ (c.in_ok-targets.ensures ∙ ap (λ (z : List Wanted). targets_of (map wanted_view z)) c.deref.ensures.value) in
    record {
      found = c.in_ok-found.found;
      is_found = subst (λ (ps : List Part). IsComponentTree (map part_view ps) (targets_of (map wanted_view s.wanted.items)) s.marked c.in_ok-found.found) c.deref-2.ensures.value
          (subst (λ (ts : List Target). IsComponentTree (map part_view c.deref-2.result.now) ts s.marked c.in_ok-found.found) targets c.in_ok-found.ensures);
      modules = refl;
      ways = c.in_ok-ways.ensures ∙ (λ t. ways_of (map wanted_view (c.deref-4.ensures.value t)) (c.deref-5.ensures.value t));
    }
