use Rattle.std.proofs.Common.{◌≡◌, map, take}
use Rattle.wc_names.specs.Imports.{val_type}
use Rattle.wc_validate.proofs.signatures.val_types.Given as goal

abbrev pub invariant-loop-index : goal.invariant-loop-index
invariant-loop-index l = l.types.items ≡ map val_type (take l.index l.core)
