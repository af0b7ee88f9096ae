use Rattle.std.proofs.Common.{◌<◌, ap, length, map, subst, sym, ◌∙◌, ℕ}
use Rattle.std.specs.Prelude.{All}
use Rattle.std.proofs.lemmas.List.{length-map}
use Rattle.wc_why.specs.Part.{part_view}
use Rattle.wc_why.specs.Private.Ends.{end_of}
use Rattle.wc_why.specs.Private.Graph.{AreLinked, names_by}
use Rattle.wc_why.specs.Private.Marks.{AreMarks}
use Rattle.wc_why.specs.Private.Numbers.{total}
use Rattle.wc_why.specs.Private.Positions.{ArePositions}
use Rattle.wc_why.specs.Private.Roots.{AreFirsts}
use Rattle.wc_why.specs.declared.component.ComponentTree.{ComponentTree}
use Rattle.wc_why.proofs.ComponentLemmas.{component_is, is_shown, parts_there}
use Rattle.wc_why.proofs.GraphLemmas.{named_below, parts_below}
use Rattle.wc_why.proofs.NumberLemmas.{item_there}
use Rattle.wc_why.proofs.component.tree_of_parts.Goals as goal

pub invariant_of-graph : goal.invariant_of-graph
invariant_of-graph c =
    let ps = map part_view c.args.parts.now in
    let n = c.in_ok-numbers.numbers in
    record {
      owned = item_there ps n.starts.items n.owners.items c.in_ok-numbers.ensures;
      below = λ x lt.
          subst (λ l. All (λ m. m < total n) (names_by ps n l x)) (sym c.deref.ensures.value)
          (named_below ps n c.in_ok-links.links.items c.in_ok-numbers.ensures (parts_below c.args.parts.now) c.in_ok-links.ensures x lt);
    }

pub positions_in-requires : goal.positions_in-requires
positions_in-requires c =
    let ps = map part_view c.args.parts.now in
    subst (λ (k : ℕ). All (λ (y : ℕ × ℕ). y.0 < k) c.deref-3.result.now) (length-map c.args.parts.now part_view)
    (subst (All (λ (y : ℕ × ℕ). y.0 < length ps)) (sym c.deref-3.ensures.value) (parts_there ps c.in_ok-tree.tree.items.items c.in_ok-tree.ensures.there))

pub tree_modules-requires : goal.tree_modules-requires
tree_modules-requires c =
    let ps = map part_view c.args.parts.now in
    let n = c.in_ok-numbers.numbers in
    is_shown _ (record { numbered = c.in_ok-numbers.ensures; linked = subst (AreLinked ps n) (sym c.deref.ensures.value) c.in_ok-links.ensures })
    (subst (AreFirsts ps n) (sym c.deref-4.ensures.value) c.in_ok-firsts.ensures) c.in_ok-found.field-0 c.in_ok-found.ensures c.args.targets.now c.in_ok-tree.ensures.paths
    c.in_ok-tree.ensures.there (subst (λ l. ArePositions l (length c.args.parts.now) c.in_ok-positions.positions) c.deref-3.ensures.value c.in_ok-positions.ensures)

pub returns : goal.returns
returns c =
    let ps = map part_view c.args.parts.now in
    let n = c.in_ok-numbers.numbers in
    let tree = c.in_ok-tree.tree in
    let pos = c.in_ok-positions.positions in
    let t : ComponentTree = record { modules = c.in_ok-modules.modules; ends = c.in_ok-ends.ends } in
    component_is c.args.parts.now n c.deref.result.now c.args.targets.now c.args.marked c.in_ok-numbers.ensures
    (subst (AreLinked ps n) (sym c.deref.ensures.value) c.in_ok-links.ensures) c.in_ok-found.field-0 c.in_ok-found.ensures c.in_ok-marks.marks
    (subst (λ l. AreMarks (names_by ps n c.deref.result.now) n l c.args.targets.now c.args.marked c.in_ok-marks.marks) c.deref-2.ensures.value c.in_ok-marks.ensures)
    tree c.in_ok-tree.ensures.paths c.in_ok-tree.ensures.there pos
    (subst (λ l. ArePositions l (length c.args.parts.now) pos) c.deref-3.ensures.value c.in_ok-positions.ensures) t c.in_ok-modules.ensures
    (c.in_ok-ends.ensures
    ∙ (ap (λ l. map (end_of l c.deref-6.result.now) c.deref-7.result.now) c.deref-5.ensures.value
    ∙ (ap (λ l. map (end_of tree.items.items l) c.deref-7.result.now) c.deref-6.ensures.value ∙ ap (map (end_of tree.items.items pos.own.items)) c.deref-7.ensures.value)))
