-- A name that is not exported.
use Rattle.std.specs.Prelude.{◌≡◌, ⊤, ℕ, List, string_bytes}
use Rattle.wc_gc.specs.declared.fault.GcFault.{GcFault}
use Rattle.wc_gc.specs.declared.fault.GcFault.TheVariants.{Memory, MissingExport}

-- the fault for it; or memory ran out
abbrev pub IsMissing : List ℕ → GcFault → Type 0
IsMissing name Memory = ⊤
IsMissing name (MissingExport n) = string_bytes n ≡ name
IsMissing name f = ⊥
