use Rattle.std.proofs.Common.{◌≡◌, ◌∙◌, ℕ, List, ap, refl, subst, sym}
use Rattle.std.specs.Prelude.{Contains}
use Rattle.std.proofs.lemmas.Option.{slice_get_read}
use Rattle.std.specs.List.{filter_map}
use Rattle.wc_graph.proofs.ListLemmas.{no_item}
use Rattle.wc_graph.specs.Private.Places.{place_at}
use Rattle.wc_graph.proofs.DominatorLemmas.{first_none, first_some, found_inside, tree_none, tree_some}
use Rattle.wc_graph.proofs.dominators.chain_to_first.Goals as goal

pub chain-requires : goal.chain-requires
chain-requires c =
    let places = c.in_ok-places.places.items in
    let targets = c.args.targets.now in
    let found : c.deref-2.result.now ≡ filter_map (place_at places) targets =
    c.deref-2.ensures.value ∙ (c.in_ok-found.ensures ∙ ap (λ (ps : List _). filter_map (place_at ps) targets) c.deref.ensures.value) in
    let at = slice_get_read _ _ _ _ refl c.in-Some.ensures.lookup.3.0 c.in-Some.ensures.lookup.1 in
    found_inside c.args.tree.now c.args.size c.requires.there places c.in_ok-places.ensures targets c.in-Some.position.now
    (subst (λ (z : List ℕ). Contains z c.in-Some.position.now) found (first_some _ _ at))

pub returns-in-Some : goal.returns-in-Some
returns-in-Some c =
    let places = c.in_ok-places.places.items in
    let targets = c.args.targets.now in
    let found : c.deref-2.result.now ≡ filter_map (place_at places) targets =
    c.deref-2.ensures.value ∙ (c.in_ok-found.ensures ∙ ap (λ (ps : List _). filter_map (place_at ps) targets) c.deref.ensures.value) in
    let at = slice_get_read _ _ _ _ refl c.in-Some.ensures.lookup.3.0 c.in-Some.ensures.lookup.1 in
    tree_some c.args.tree.now c.args.size c.requires.there places c.in_ok-places.ensures targets c.in-Some.position.now c.in_ok-chain-in-Some.chain
    (subst (λ (z : List ℕ). Contains z c.in-Some.position.now) found (first_some _ _ at)) c.in_ok-chain-in-Some.ensures

pub returns : goal.returns
returns c =
    let places = c.in_ok-places.places.items in
    let targets = c.args.targets.now in
    let found : c.deref-2.result.now ≡ filter_map (place_at places) targets =
    c.deref-2.ensures.value ∙ (c.in_ok-found.ensures ∙ ap (λ (ps : List _). filter_map (place_at ps) targets) c.deref.ensures.value) in
    tree_none c.args.tree.now c.args.size c.requires.there places c.in_ok-places.ensures targets
    (sym found ∙ first_none _ (no_item _ _ c.in-None.ensures.lookup.0)) c.requires.targets
