use Rattle.std.proofs.Common.{◌<◌, length, map, string_bytes, arith}
use Rattle.wc_summary.proofs.CorePartLemmas.{texts_next}
use Rattle.wc_summary.proofs.core_modules.texts_at.Goals as goal

pub loop-position-preserved : goal.loop-position-preserved
loop-position-preserved c =
    let within : c.loop-position.position-index < length c.args.positions.now = omega arith in
    texts_next c.args.kind c.args.labels.now c.args.positions.now c.loop-position.position-index (map string_bytes c.loop-position.texts.items)
    (map string_bytes c.note_text.new.texts.items) within c.loop-position.invariant c.in_ok-note_text.ensures
