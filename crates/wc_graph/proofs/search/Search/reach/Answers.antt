use Rattle.std.proofs.Common.{◌∷◌, [], sym, ◌∙◌, subst, true, set, ◌<◌, length, rules}
use Rattle.std.proofs.lemmas.List.{get_or_read}
use Rattle.wc_graph.specs.Growth.{HasGrown}
use Rattle.wc_graph.proofs.SeenLemmas.{mark_again, mark_push, marked}
use Rattle.wc_graph.proofs.search.Search.reach.Goals as goal

pub returns-clause-found : goal.returns-clause-found
returns-clause-found c = λ tied.
    let within : c.args.item < length c.args.self.now.seen.items = search rules in
    subst (λ z. HasGrown c.args.self.now.order.items (marked (set c.args.self.now.seen.items c.args.item true)) z (c.args.item ∷ [])) (sym c.in_ok-push.ensures.items)
    (mark_push c.args.self.now.seen.items c.args.self.now.order.items c.args.item within
    (sym (get_or_read c.args.self.now.seen.items c.args.item c.index.result.now within c.index.ensures _) ∙ c.if-index.false) tied)

pub returns-then-index-clause-found : goal.returns-then-index-clause-found
returns-then-index-clause-found c = λ tied.
    let within : c.args.item < length c.args.self.now.seen.items = search rules in
    mark_again c.args.self.now.seen.items c.args.self.now.order.items c.args.item
    (sym (get_or_read c.args.self.now.seen.items c.args.item c.index.result.now within c.index.ensures _) ∙ c.if-index.true) tied
