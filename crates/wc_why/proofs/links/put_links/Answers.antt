use Rattle.std.proofs.Common.{map, take, sym, subst, ◌∙◌}
use Rattle.wc_why.specs.Part.{link_view}
use Rattle.wc_why.specs.Private.Graph.{AreLinkedBy}
use Rattle.wc_why.proofs.ViewLemmas.{view_more}
use Rattle.wc_why.proofs.links.put_links.Goals as goal

pub loop-link-preserved : goal.loop-link-preserved
loop-link-preserved c =
    let links = c.args.links.now in
    let i = c.loop-link.link-index in (
      c.put_link.ensures.sized ∙ c.loop-link.invariant.0,
      λ parts numbered before.
          subst (λ ls. AreLinkedBy parts ls c.args.numbers.now c.put_link.new.linked.items) (sym (view_more link_view links i _ c.loop-link-test.true))
          (c.put_link.ensures.linked parts (map link_view (take i links)) numbered (c.loop-link.invariant.1 parts numbered before)),
    )
