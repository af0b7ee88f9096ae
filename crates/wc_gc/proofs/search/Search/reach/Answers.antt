use Rattle.std.proofs.Common.{sym, ◌∙◌, subst, [], ◌∷◌}
use Rattle.std.proofs.lemmas.Bool.{not-true}
use Rattle.wc_graph.specs.Growth.{HasGrown}
use Rattle.wc_gc.specs.Live.{has_item}
use Rattle.wc_graph.proofs.GrowthLemmas.{grown_push}
use Rattle.wc_gc.proofs.SearchLemmas.{items_decided}
use Rattle.wc_gc.proofs.search.Search.reach.Goals as goal

pub returns-in_ok-push : goal.returns-in_ok-push
returns-in_ok-push g c = λ tied.
    subst (λ z. HasGrown c.args.self.now.order.items (has_item g.L.LiveSet.has c.insert.new.self) z (c.args.item ∷ [])) (sym c.in_ok-push.ensures.items)
    (grown_push items_decided (has_item g.L.LiveSet.has c.args.self.now.live)
    (has_item g.L.LiveSet.has c.insert.new.self) c.args.self.now.order.items c.args.item
    (not-true (has_item g.L.LiveSet.has c.args.self.now.live c.args.item) (sym c.in_ok-insert.ensures.new
    ∙ c.if-branch.true)) c.in_ok-insert.ensures.inserts tied)
