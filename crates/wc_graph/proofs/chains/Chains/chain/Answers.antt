use Rattle.std.proofs.Common.{◌≡◌, Some, None, refl, subst}
use Rattle.std.specs.List.{slice_get}
use Rattle.std.proofs.lemmas.Option.{slice_get_read}
use Rattle.wc_graph.proofs.chains.Chains.chain.Goals as goal

pub returns-in_ok-chain-in-Some : goal.returns-in_ok-chain-in-Some
returns-in_ok-chain-in-Some c = λ names roots size a.
    let places = c.args.self.now.places.items in
    let read = slice_get_read places _ c.args.item c.index.result.now refl c.requires c.index.ensures in
    a.tree.chains c.in-Some.position c.args.item c.in_ok-chain-in-Some.chain.items
    (a.places.at c.args.item (Some c.in-Some.position) (subst (λ z. slice_get places c.args.item ≡ Some z) c.in-Some.is read))
    c.in_ok-chain-in-Some.ensures

pub returns-in-None : goal.returns-in-None
returns-in-None c = λ names roots size a reached.
    let places = c.args.self.now.places.items in
    let read = slice_get_read places _ c.args.item c.index.result.now refl c.requires c.index.ensures in
    a.places.at c.args.item None (subst (λ z. slice_get places c.args.item ≡ Some z) c.in-None.is read) ((a.tree.reached c.args.item).1 reached)
