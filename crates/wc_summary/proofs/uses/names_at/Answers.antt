use Rattle.std.proofs.Common.{◌<◌, length, map, string_bytes, arith}
use Rattle.wc_gc.specs.LiveItems.{names_of}
use Rattle.wc_summary.specs.Parts.{is_wanted_in}
use Rattle.wc_summary.specs.Private.Uses.{picks}
use Rattle.wc_summary.proofs.UseLemmas.{names_next}
use Rattle.wc_summary.proofs.uses.names_at.Goals as goal

pub loop-position-preserved : goal.loop-position-preserved
loop-position-preserved g c =
    let within : c.loop-position.position-index < length c.args.positions.now = omega arith in
    names_next (picks c.args.is_wanted (is_wanted_in c.args.required.now)) (names_of c.args.required.now.names.now.keys) c.args.positions.now
    c.loop-position.position-index (map string_bytes c.loop-position.exports.items) (map string_bytes c.note_name.new.exports.items) within c.loop-position.invariant
    c.in_ok-note_name.ensures
