use Rattle.std.proofs.Common.{arith}
use Rattle.wc_validate.proofs.FirstFunctionLemmas.{HasPositions, positions_more, positions_none}
use Rattle.wc_validate.proofs.FirstPositionLemmas.{position_end, position_fits, position_next, position_start}
use Rattle.wc_validate.proofs.imports.first_functions.functions_among.Goals as goal

pub loop-name-init : goal.loop-name-init
loop-name-init c =
    position_start HasPositions c.args.names.now.entries c.iter-name-items.result c.into_iter-name-iterator.result _ c.with_hasher-positions.result.entries
    c.into_iter-name-iterator.ensures.into_iter_gives
    c.iter-name-items.ensures.rest c.iter-name-items.ensures.len c.iter-name-items.ensures.fits
    (positions_none c.with_hasher-positions.result.entries c.with_hasher-positions.ensures.empty)

pub overflow_add-position : goal.overflow_add-position
overflow_add-position c =
    let bound = position_fits HasPositions c.args.names.now.entries c.loop-name._name-iterator c.loop-name.positions.entries c.loop-name.position
    c.loop-name.invariant in omega (arith, bound)

pub loop-name-preserved : goal.loop-name-preserved
loop-name-preserved c =
    position_next HasPositions c.args.names.now.entries c.loop-name._name-iterator c.next.new.self (c.in-Some._name.now, c.in-Some.import.now)
    c.loop-name.positions.entries c.keep_function.new.positions.entries c.loop-name.position c.loop-name.invariant
    c.in-Some.ensures.steps
    (positions_more c.loop-name.invariant.passed (c.in-Some._name.now, c.in-Some.import.now)
    c.loop-name.positions.entries c.keep_function.new.positions.entries c.loop-name.position c.in_ok-keep_function.ensures)

pub returns : goal.returns
returns c =
    (position_end HasPositions c.args.names.now.entries c.loop-name._name-iterator c.loop-name.positions.entries c.loop-name.position c.loop-name.invariant
    c.in-None.ensures.steps.0).0
