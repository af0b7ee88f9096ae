use Rattle.std.proofs.Common.{◌≡◌, ◌+◌, drop}
use Rattle.wc_calls.specs.ExportNames.{texts, position_of}
use Rattle.wc_calls.proofs.export_names.position_of.Given as goal

abbrev pub invariant-loop-position : goal.invariant-loop-position
invariant-loop-position l = position_of (texts l.names) l.name ≡ l.position + position_of (texts (drop l.position l.names)) l.name
