-- Words of contracts of private functions. No contract of a public function cites these, directly or through others.
-- Why a key asks about none of some imports.
use Rattle.std.specs.Prelude.{ℕ, List, ⊤}
use Rattle.wc_component_calls.specs.PathsCall.{IsUnknownImport}
use Rattle.wc_component_calls.specs.declared.component_fault.ComponentFault.{ComponentFault}
use Rattle.wc_component_calls.specs.declared.component_fault.ComponentFault.TheVariants.{Memory, UnknownImport}

-- it asks about none, or an allocation failed
abbrev pub IsUnknown : List ℕ → List (List ℕ) → ComponentFault → Type 0
IsUnknown key texts Memory = ⊤
IsUnknown key texts (UnknownImport k imports) = IsUnknownImport key texts k imports
IsUnknown key texts f = ⊥
