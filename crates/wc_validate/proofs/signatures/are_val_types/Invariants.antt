use Rattle.std.proofs.Common.{◌≡◌, ℕ, ◌<◌, get_or}
use Rattle.wc_read.specs.declared.types.ValType.{ValType}
use Rattle.wc_resolve.specs.declared.flat.WasmType.{WasmType}
use Rattle.wc_names.specs.Imports.{val_type}
use Rattle.wc_validate.proofs.signatures.are_val_types.Given as goal

abbrev pub invariant-loop-index : goal.invariant-loop-index
invariant-loop-index l = (k : ℕ) → k < l.index → (d : ValType) (e : WasmType) → get_or l.types k d ≡ val_type (get_or l.core k e)
