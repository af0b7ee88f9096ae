use Rattle.std.proofs.Common.{◌≡◌, Some, ap, subst, sym, ◌∙◌}
use Rattle.std.specs.Prelude.{Contains}
use Rattle.std.specs.List.{slice_get}
use Rattle.std.proofs.lemmas.Option.{get_or_from_slice_get, slice_get_within}
use Rattle.wc_gc.specs.LiveItems.{names_of}
use Rattle.wc_gc.proofs.live_chains.why.Goals as goal

pub returns-in-Some-clause-chain : goal.returns-in-Some-clause-chain
returns-in-Some-clause-chain c =
    let w = c.in_ok-chains.ensures.chains in
    let order = c.in_ok-chains.chains.order.items in
    let at : slice_get order c.in-Some.position ≡ Some c.args.item = ap (λ z. slice_get z c.in-Some.position) (sym c.deref.ensures.value) ∙ c.in-Some.ensures.found in
    let there : Contains order c.args.item = (c.in-Some.position, slice_get_within order c.in-Some.position c.args.item at, get_or_from_slice_get order c.in-Some.position c.args.item c.args.item at) in
    (w.0, w.1, ((w.2.live c.args.item).0 there, c.in_ok-chain-in-Some.ensures.chain (names_of c.args.required.now.keys) w.0 c.args.item w.2 at))

pub returns-clause-chain : goal.returns-clause-chain
returns-clause-chain c =
    let w = c.in_ok-chains.ensures.chains in
    (w.0, w.1, λ l. c.in-None.ensures.none (subst (λ z. Contains z c.args.item) (sym c.deref.ensures.value) ((w.2.live c.args.item).1 l)))
