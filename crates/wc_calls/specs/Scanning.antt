-- What the call that lists imports and exports answers.
use Rattle.std.specs.Prelude.{◌≡◌, ◌↔◌, ℕ, List, None, Option, false}
use Rattle.wc_read.specs.Fault.{SpellsNothing, read_fault_number}
use Rattle.wc_read.specs.Modules.{ModuleValue, SpellsModule}
use Rattle.wc_read.specs.Names.{GlobalNameValue}
use Rattle.wc_read.specs.Place.{IsPlaced}
use Rattle.wc_read.specs.Reading.Names.{AreFunctionNames}
use Rattle.wc_read.specs.Sections.{IsComponent}
use Rattle.wc_read.specs.declared.fault.ReadFault.{ReadFault}
use Rattle.wc_read.specs.declared.fault.ReadFault.TheVariants.{Component}
use Rattle.wc_read.specs.declared.place.ReadPlace.{ReadPlace}
use Rattle.wc_record.specs.Places.{bytes_json}
use Rattle.wc_record.specs.Scans.{scan_json}
use Rattle.wc_record.specs.Texts.{text_of}
use Rattle.wc_calls.specs.Answers.{IsFaultPut}
use Rattle.wc_calls.specs.MemoryFaults.{read_is_memory}
use Rattle.wc_calls.specs.Places.{place_text}
use Rattle.wc_calls.specs.declared.answers.Answer.{Answer}

-- the text says what the module that these bytes spell imports and exports, and how its functions are named, as JSON
abbrev pub IsScanText : List ℕ → List ℕ → Type 0
IsScanText wasm text = (m : ModuleValue) × SpellsModule wasm m × (names : List GlobalNameValue) × AreFunctionNames wasm names × (text ≡ text_of (scan_json m names))

-- the bytes are not a module, and the fault says so: a component has a fault of its own
abbrev pub IsScanCause : List ℕ → ReadFault → Type 0
IsScanCause wasm f = SpellsNothing SpellsModule wasm × ((f ≡ Component) ↔ IsComponent wasm)

-- the answer is a fault that has its cause, and is no Memory, with the byte at which the module stops to be right
abbrev pub IsScanFault : List ℕ → Answer → List ℕ → List ℕ → Type 0
IsScanFault wasm answer old new =
    (f : ReadFault) × IsScanCause wasm f × (read_is_memory f ≡ false) × (place : Option ReadPlace) × IsPlaced wasm f place
    × IsFaultPut (read_fault_number f) 0 (place_text (bytes_json None) place) answer old new
