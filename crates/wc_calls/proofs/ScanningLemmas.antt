-- Lists of imports and exports, and faults of reading that are not that an allocation failed.
use Rattle.std.proofs.Common.{◌≡◌, ◌≢◌, ◌∙◌, ℕ, List, Vec, Result, Ok, Err, IfOk, false, ap, sym}
use Rattle.std.proofs.lemmas.Bool.{false≢true}
use Rattle.std.specs.declared.alloc.Global.{Global}
use Rattle.wc_read.specs.Modules.{ModuleValue, SpellsModule}
use Rattle.wc_read.specs.Names.{GlobalNameValue}
use Rattle.wc_read.specs.Reading.Names.{AreFunctionNames}
use Rattle.wc_read.specs.declared.fault.ReadFault.{ReadFault}
use Rattle.wc_read.specs.declared.fault.ReadFault.TheVariants.{Memory}
use Rattle.wc_record.specs.Scans.{scan_json}
use Rattle.wc_record.specs.Texts.{text_of}
use Rattle.wc_calls.specs.MemoryFaults.{read_is_memory}
use Rattle.wc_calls.specs.Scanning.{IsScanText}

-- the text of the lists of a module
pub scanned : {E : Type 0} (wasm : List ℕ) (m : ModuleValue) (names : List GlobalNameValue) (r : Result (Vec ℕ Global) E) → SpellsModule wasm m
    → AreFunctionNames wasm names → IfOk r (λ v. v.items ≡ text_of (scan_json m names)) → IfOk r (λ v. IsScanText wasm v.items)
scanned wasm m names (Ok v) spelled named is = (m, spelled, names, named, is)
scanned wasm m names (Err e) spelled named is = tt

pub not_memory : (f : ReadFault) → read_is_memory f ≡ false → f ≢ Memory
not_memory f other is = absurd (false≢true (sym other ∙ ap read_is_memory is))
