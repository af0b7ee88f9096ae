use Rattle.std.proofs.Common.{map, string_bytes}
use Rattle.wc_summary.proofs.CorePartLemmas.{none_noted}
use Rattle.wc_summary.proofs.core_modules.note_text.Goals as goal

pub returns-in-None : goal.returns-in-None
returns-in-None c = none_noted c.args.kind c.args.labels.now c.args.position (map string_bytes c.args.texts.now.items) c.in-None.ensures.lookup.0
