use Rattle.std.proofs.Common.{◌<◌, ◌≤◌, length, rules}
use Rattle.wc_graph.proofs.StopLemmas.{cut_all, cut_found, target_more}
use Rattle.wc_graph.proofs.fronts.up_to_first.Goals as goal

pub returns-in-Some : goal.returns-in-Some
returns-in-Some c =
    let places = c.args.places.now in
    let chain = c.args.chain.now in
    let n = c.loop-position.position in
    let within : n < length chain = search rules in
    cut_found places chain n c.in-Some.field-0 within c.loop-position.invariant (c.requires n 0 within) c.in-Some.is

pub loop-position-preserved : goal.loop-position-preserved
loop-position-preserved c =
    let places = c.args.places.now in
    let chain = c.args.chain.now in
    let n = c.loop-position.position in
    let within : n < length chain = search rules in
    target_more places chain n c.loop-position.invariant (c.requires n 0 within) c.in-None.is

pub returns : goal.returns
returns c =
    let over : length c.args.chain.now ≤ c.loop-position.position = search rules in
    cut_all c.args.places.now c.args.chain.now c.loop-position.position over c.loop-position.invariant
