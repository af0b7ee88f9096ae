-- Faults as JSON: an object with the text of a fault, and with what the fault is about.
use Rattle.std.specs.Prelude.{◌⊎◌, ℕ, List, [], ◌∷◌, ◌++◌, codes}
use Rattle.json.specs.Json.{Json, string}
use Rattle.json.specs.Print.{print}
use Rattle.json.specs.Tree.{json_tokens}
use Rattle.wc_program.specs.Program.{Prints, failure}
use Rattle.wc_program.specs.Screen.{Printing}
use Rattle.wc_texts.specs.Shapes.{object_of}
use Rattle.wcwhy.specs.Fault.{NeedsText, why_fault_text}
use Rattle.wcwhy.specs.Places.{place_json}
use Rattle.wcwhy.specs.declared.fault.WhyFault.{WhyFault}
use Rattle.wcwhy.specs.declared.fault.WhyFault.TheVariants.{Memory}

-- `{"text":TEXT,"place":PLACE}`

abbrev pub members_json : List ℕ → Json → Json
members_json text place = object_of ((codes "text", string text) ∷ (codes "place", place) ∷ [])

abbrev pub fault_json : WhyFault → Json
fault_json f = members_json (why_fault_text f) (place_json f)

-- in a line
abbrev pub fault_json_line : WhyFault → List ℕ
fault_json_line f = print (json_tokens (fault_json f)) ++ codes "\n"

-- a fault is printed so; or that there was no memory for it, if memory is needed for it
abbrev pub IsReportedJson : WhyFault → (Printing → Type 0) → ℕ → Type 0
IsReportedJson fault err status =
    Prints (fault_json_line fault) failure err status ⊎ (NeedsText fault × Prints (fault_json_line Memory) failure err status)
