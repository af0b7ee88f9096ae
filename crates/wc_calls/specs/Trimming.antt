-- What the call that trims an adapter answers.
use Rattle.std.specs.Prelude.{◌≡◌, ◌≢◌, ◌≤◌, false, ℕ, List, [], IfSome, Some, string_bytes}
use Rattle.std.specs.List.{All, slice_get}
use Rattle.std.specs.Str.{IsUtf8}
use Rattle.wc_gc.specs.LiveItems.{TrimInput, trim_input_for_names}
use Rattle.wc_gc.specs.Parts.{SettingsView}
use Rattle.wc_gc.specs.Trim.{IsTrimFault}
use Rattle.wc_gc.specs.declared.fault.GcFault.{GcFault}
use Rattle.wc_gc.specs.declared.fault.GcFault.TheVariants.{MissingExport}
use Rattle.wc_calls.specs.Answers.{IsFaultPut}
use Rattle.wc_gc.specs.Fault.{gc_fault_number}
use Rattle.wc_calls.specs.MemoryFaults.{gc_is_memory}
use Rattle.wc_calls.specs.Places.{IsTrimPlaceText}
use Rattle.wc_calls.specs.ExportNames.{position_of}
use Rattle.wc_calls.specs.declared.answers.Answer.{Answer}

-- how an adapter is trimmed for a main module that exports a realloc of this name, and has pages of 2^16 bytes
abbrev pub with_realloc : List ℕ → SettingsView
with_realloc name = record { realloc = Some name; page_size_log2 = 16 }

-- arguments that can be trimmed by: there is a name at least, all of them are text, and pages have 2^16 bytes at most
pub record AreArguments (s : SettingsView) (names : List (List ℕ)) : Type 0 where
  pub paged : s.page_size_log2 ≤ 16
  pub realloc_is_text : IfSome s.realloc IsUtf8
  pub some : names ≢ []
  pub are_texts : All IsUtf8 names

-- the position of the name that a fault carries
abbrev pub position_in : List (List ℕ) → GcFault → ℕ
position_in names (MissingExport name) = position_of names (string_bytes name)
position_in names f = 0

-- the position is that of the name that a fault carries: there it is first among the names
abbrev pub IsPosition : List (List ℕ) → GcFault → ℕ → Type 0
IsPosition names (MissingExport name) position =
    (position ≡ position_of names (string_bytes name)) × (slice_get names position ≡ Some (string_bytes name))
IsPosition names f position = position ≡ 0

-- a fault by its number, and the position of the name that it carries, with what it is about
abbrev pub IsTrimFaultAnswer : List (List ℕ) → GcFault → List ℕ → Answer → List ℕ → List ℕ → Type 0
IsTrimFaultAnswer names f place = IsFaultPut (gc_fault_number f) (position_in names f) place

-- the answer is this fault, with what it is about
abbrev pub IsTrimRefused : TrimInput → List (List ℕ) → GcFault → Answer → List ℕ → List ℕ → Type 0
IsTrimRefused w names f answer old new = (place : List ℕ) × IsTrimPlaceText w f place × IsTrimFaultAnswer names f place answer old new

-- the answer is a fault that has this cause, and neither is nor carries a Memory; the position is that of its name
abbrev pub IsFaultFor : (GcFault → Type 0) → List ℕ → List (List ℕ) → Answer → List ℕ → List ℕ → Type 0
IsFaultFor IsCause wasm names answer old new =
    (f : GcFault) × IsCause f × (gc_is_memory f ≡ false) × IsPosition names f answer.position
    × IsTrimRefused (trim_input_for_names wasm names) names f answer old new

-- the answer is a fault of trimming
abbrev pub IsTrimmingFault : SettingsView → List ℕ → List (List ℕ) → Answer → List ℕ → List ℕ → Type 0
IsTrimmingFault s wasm names = IsFaultFor (IsTrimFault s (trim_input_for_names wasm names)) wasm names
