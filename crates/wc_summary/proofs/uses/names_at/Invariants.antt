use Rattle.std.proofs.Common.{◌≡◌, map, string_bytes, take}
use Rattle.wc_gc.specs.LiveItems.{names_of}
use Rattle.wc_summary.specs.Parts.{is_wanted_in}
use Rattle.wc_summary.specs.Private.Uses.{exports_at}
use Rattle.wc_summary.proofs.uses.names_at.Given as goal

abbrev pub invariant-loop-position : goal.invariant-loop-position
invariant-loop-position g l = map string_bytes l.exports.items
    ≡ exports_at l.is_wanted (names_of l.required.names.now.keys) (is_wanted_in l.required) (take l.position-index l.positions)
