use Rattle.std.proofs.Common.{◌≡◌, None, Some, ap, map, replicate, rules, subst, ◌∙◌}
use Rattle.std.specs.List.{slice_get}
use Rattle.wc_why.specs.Part.{link_view, part_view}
use Rattle.wc_why.specs.Private.Graph.{AreLinkedBy}
use Rattle.wc_why.specs.Private.Numbers.{total}
use Rattle.wc_why.proofs.LinkLemmas.{linked_all, links_first, none_linked}
use Rattle.wc_why.proofs.links.links_of.Goals as goal

pub returns-in_ok-linked-in-Some : goal.returns-in_ok-linked-in-Some
returns-in_ok-linked-in-Some c =
    let parts = c.args.parts.now in
    let n = c.args.numbers.now in
    let new = c.put_links.new.linked.items in
    let at : slice_get parts 0 ≡ Some c.in-Some.main.now = search rules in
    let made : c.in_ok-linked-in-Some.linked.items ≡ replicate (total n) None = search rules in
    linked_all (map part_view parts) n new
    (subst (λ ls. AreLinkedBy (map part_view parts) ls n new) (ap (map link_view) c.deref.ensures.value ∙ links_first parts c.in-Some.main.now at)
    (c.put_links.ensures (map part_view parts) c.requires (none_linked (map part_view parts) n c.in_ok-linked-in-Some.linked.items made)))
