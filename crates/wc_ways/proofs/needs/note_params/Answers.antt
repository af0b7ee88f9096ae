use Rattle.std.proofs.Common.{◌≤◌, ◌<◌, length, rules}
use Rattle.wc_ways.proofs.NeedLemmas.{finds_none, params_all, params_more}
use Rattle.wc_ways.proofs.needs.note_params.Goals as goal

pub loop-position-init : goal.loop-position-init
loop-position-init c = finds_none c.args.needing.now c.args.found.now

pub loop-position-preserved : goal.loop-position-preserved
loop-position-preserved c =
    let lt : c.loop-position.position < length c.args.params.now = search rules in
    params_more c.args.needing.now c.args.params.now c.loop-position.position c.index-params-position.result c.args.found.now c.loop-position.found c.note_wit_type.new.found lt
    c.index-params-position.is c.loop-position.invariant c.in_ok-note_wit_type.ensures

pub returns : goal.returns
returns c =
    let over : length c.args.params.now ≤ c.loop-position.position = search rules in
    params_all c.args.needing.now c.args.params.now c.loop-position.position c.args.found.now c.loop-position.found over c.loop-position.invariant
