-- Checks of what was read.
use Rattle.std.specs.Prelude.{◌≢◌, Result, Ok, Err}
use Rattle.wc_read.specs.declared.fault.ReadFault.{ReadFault}
use Rattle.wc_read.specs.declared.fault.ReadFault.TheVariants.{Memory, Component}

-- a check passes where P is so, and fails only where it isn't, unless memory ran out. None speaks of components
abbrev pub Checks : {X : Type 0} → Result X ReadFault → Type 0 → Type 0
Checks (Ok x) P = P
Checks (Err f) P = (f ≢ Memory → ¬ P) × (f ≢ Component)

-- what is returned, seen by view, is as P says, and a fault comes only where nothing is, unless memory ran out. None speaks
-- of components
abbrev pub Reads : {X A : Type 0} → (X → A) → Result X ReadFault → (A → Type 0) → Type 0
Reads view (Ok x) P = P (view x)
Reads {A} view (Err f) P = (f ≢ Memory → (v : A) → ¬ (P v)) × (f ≢ Component)
