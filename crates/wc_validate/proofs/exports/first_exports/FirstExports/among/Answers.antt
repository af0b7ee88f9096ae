use Rattle.std.proofs.Common.{arith}
use Rattle.wc_validate.proofs.FirstExportLemmas.{HasPassed, passed_more}
use Rattle.wc_validate.proofs.FirstPositionLemmas.{position_end, position_fits, position_next, position_start}
use Rattle.wc_validate.proofs.exports.first_exports.FirstExports.among.Goals as goal

pub loop-name-init : goal.loop-name-init
loop-name-init c =
    position_start HasPassed c.args.names.now.entries c.iter-name-items.result c.into_iter-name-iterator.result _ c.new-first.result
    c.into_iter-name-iterator.ensures.into_iter_gives
    c.iter-name-items.ensures.rest c.iter-name-items.ensures.len c.iter-name-items.ensures.fits c.new-first.ensures

pub overflow_add-position : goal.overflow_add-position
overflow_add-position c =
    let bound = position_fits HasPassed c.args.names.now.entries c.loop-name._name-iterator c.loop-name.first c.loop-name.position c.loop-name.invariant in
    omega (arith, bound)

pub loop-name-preserved : goal.loop-name-preserved
loop-name-preserved c =
    position_next HasPassed c.args.names.now.entries c.loop-name._name-iterator c.next.new.self (c.in-Some._name.now, c.in-Some.export.now)
    c.loop-name.first c.note.new.self c.loop-name.position c.loop-name.invariant
    c.in-Some.ensures.steps (passed_more c.loop-name.invariant.passed (c.in-Some._name.now, c.in-Some.export.now)
    c.loop-name.first c.note.new.self c.loop-name.position c.in_ok-note.ensures)

pub returns : goal.returns
returns c =
    position_end HasPassed c.args.names.now.entries c.loop-name._name-iterator c.loop-name.first c.loop-name.position c.loop-name.invariant
    c.in-None.ensures.steps.0
