use Rattle.std.proofs.Common.{◌≡◌, ◌++◌, ◌+◌, ◌∙◌, ap, length, map, rules, subst}
use Rattle.wc_why.specs.Part.{part_view}
use Rattle.wc_why.specs.Private.Found.{AreNoted}
use Rattle.wc_why.proofs.FoundLemmas.{found_more, found_none}
use Rattle.wc_why.proofs.GraphLemmas.{parts_below}
use Rattle.wc_why.proofs.found.Found.add.Goals as goal

pub returns-in_ok-put_after-in-Ok-clause-found : goal.returns-in_ok-put_after-in-Ok-clause-found
returns-in_ok-put_after-in-Ok-clause-found c = λ lists before.
    let g = c.args.graph.now in
    let old = c.args.self.now in
    let tree = c.in-Ok.tree in
    let count : c.len-count.result ≡ length old.order.items = search rules in
    let orders = c.in_ok-extend_from_slice-in-Ok.ensures.items ∙ ap (λ l. old.order.items ++ l) c.deref-in-Ok.ensures.value in
    let finders =
    c.in_ok-put_after-in-Ok.ensures ∙ (ap (λ l. old.finder.items ++ map (λ k. c.len-count.result + k) l) c.deref-in-Ok-2.ensures.value
    ∙ ap (λ m. old.finder.items ++ map (λ k. m + k) tree.finder.items) count) in
    let noted =
    subst (λ m. AreNoted m tree.order.items old.places.items c.note_places.new.places.items) count
    (subst (λ l. AreNoted c.len-count.result l old.places.items c.note_places.new.places.items) c.deref.ensures.value c.in_ok-note_places-in-Ok.ensures.noted) in
    found_more (map part_view g.parts.now) g.numbers.now g.links.now c.requires.component.numbered (parts_below g.parts.now) c.requires.component.linked lists
    old.order.items old.finder.items old.places.items before c.args.roots.now c.requires.roots tree c.in-Ok.ensures.tree c.in-Ok.ensures.there
    c.extend_from_slice.new.self.items c.put_after.new.out.items c.note_places.new.places.items orders finders noted

pub returns-then-is_empty-clause-found : goal.returns-then-is_empty-clause-found
returns-then-is_empty-clause-found c = λ lists before.
    let g = c.args.graph.now in
    let old = c.args.self.now in
    found_none (map part_view g.parts.now) g.numbers.now lists old.order.items old.finder.items old.places.items before c.args.roots.now c.if-is_empty.ensures
