use Rattle.std.proofs.Common.{◌≡◌, map, string_bytes, take}
use Rattle.wc_summary.specs.Private.CoreModules.{texts_at}
use Rattle.wc_summary.proofs.core_modules.texts_at.Given as goal

abbrev pub invariant-loop-position : goal.invariant-loop-position
invariant-loop-position l = map string_bytes l.texts.items ≡ texts_at l.kind l.labels (take l.position-index l.positions)
