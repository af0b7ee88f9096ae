use Rattle.std.proofs.Common.{◌<◌, ◌≤◌, length, arith, get_or}
use Rattle.std.proofs.lemmas.Option.{slice_get-get_or}
use Rattle.wc_read.specs.Imports.{import_values}
use Rattle.wc_read.specs.declared.operators.Space.TheVariants.{Types}
use Rattle.wc_gc.proofs.ImportPositionLemmas.{import_within, positions_end, positions_next}
use Rattle.wc_gc.proofs.import_positions.import_positions.Goals as goal

pub note_position-requires : goal.note_position-requires
note_position-requires c =
    import_within (import_values c.args.imports.now) c.in_ok-spaces.spaces (get_or c.args.order.now c.loop-position.position (Types, 0)) c.import_at.result
    (length c.loop-position.positions.items) c.in_ok-spaces.ensures c.import_at.ensures c.loop-position.invariant.each

pub loop-position-preserved : goal.loop-position-preserved
loop-position-preserved c =
    let within : c.loop-position.position < length c.args.order.now = omega arith in
    positions_next (import_values c.args.imports.now) c.in_ok-spaces.spaces c.args.order.now c.loop-position.position c.loop-position.positions.items _
    (get_or c.args.order.now c.loop-position.position (Types, 0)) c.import_at.result c.in_ok-spaces.ensures
    (slice_get-get_or c.args.order.now c.loop-position.position (Types, 0) within) c.import_at.ensures c.note_position.ensures c.loop-position.invariant

pub returns-clause-at : goal.returns-clause-at
returns-clause-at c =
    let over : length c.args.order.now ≤ c.loop-position.position = omega arith in
    positions_end (import_values c.args.imports.now) c.args.order.now c.loop-position.position c.loop-position.positions.items over c.loop-position.invariant
