use Rattle.wc_validate.proofs.FirstExportLemmas.{HasPassed}
use Rattle.wc_validate.proofs.FirstPositionLemmas.{HasPosition}
use Rattle.wc_validate.proofs.exports.first_exports.FirstExports.among.Given as goal

abbrev pub invariant-loop-name : goal.invariant-loop-name
invariant-loop-name l = HasPosition HasPassed l.names.entries l._name-iterator l.first l.position
