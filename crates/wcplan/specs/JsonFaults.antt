-- Faults as JSON: an object with the text of a fault and its lines, and with what the fault is about.
use Rattle.std.specs.Prelude.{◌≡◌, ◌⊎◌, ℕ, List, ◌++◌, codes, Option, Some, None, string_bytes}
use Rattle.json.specs.Json.{string}
use Rattle.wc_gc.specs.declared.trim_place.TrimPlace.TheVariants.{Bytes}
use Rattle.wc_plan.specs.declared.fault.PlanPlace.{PlanPlace}
use Rattle.wc_program.specs.Program.{Prints, failure}
use Rattle.wc_program.specs.Screen.{Printing}
use Rattle.wc_record.specs.MessagePlaces.{key_json, part_json, plan_place_json, trim_fault_json}
use Rattle.wc_record.specs.Places.{trim_place_json, world_place_json}
use Rattle.wc_read.specs.declared.place.ReadPlace.{ReadPlace}
use Rattle.wc_record.specs.Texts.{text_of}
use Rattle.wc_texts.specs.declared.refused.Refused.{Refused}
use Rattle.wc_world.specs.declared.fault.WorldFault.{WorldFault}
use Rattle.wc_world.specs.declared.fault.WorldFault.TheVariants.{Trim}
use Rattle.wcplan_inputs.specs.Details.{fault_lines}
use Rattle.wcplan_inputs.specs.Fault.{NeedsText, program_fault_text}
use Rattle.wcplan_inputs.specs.declared.explained.Explained.{Explained}
use Rattle.wcplan_inputs.specs.declared.explained_part.ExplainedPart.{ExplainedPart}
use Rattle.wcplan_inputs.specs.declared.exporter_fault.ExporterFault.{ExporterFault}
use Rattle.wcplan_inputs.specs.declared.exporter_fault.ExporterFault.TheVariants.{NoExporter, SeveralExporters}
use Rattle.wcplan_inputs.specs.declared.fault.ProgramFault.{ProgramFault}
use Rattle.wcplan_inputs.specs.declared.fault.ProgramFault.TheVariants.{Dedupe, Exporter, NoExport, NoImport, Plan, Resolve, World}

abbrev pub null_text : List ℕ
null_text = codes "null"

-- what a fault of worlds that are not well-formed is about
abbrev pub part_place : Option ExplainedPart → List ℕ
part_place None = null_text
part_place (Some x) = text_of (part_json x.part)

-- what a fault of a component's world is about that has no place: the adapter, where it is one of trimming
abbrev pub unplaced : WorldFault → List ℕ
unplaced (Trim adapter f) = text_of (trim_fault_json (string_bytes adapter) f)
unplaced f = null_text

-- what a fault of a component's world is about; and one of its plan

abbrev pub place_or_adapter : WorldFault → Option Explained → List ℕ
place_or_adapter f None = unplaced f
place_or_adapter f (Some x) = text_of (world_place_json x.place)

abbrev pub world_place : Refused WorldFault Explained → List ℕ
world_place x = place_or_adapter x.fault x.place

abbrev pub plan_place : Option PlanPlace → List ℕ
plan_place None = null_text
plan_place (Some p) = text_of (plan_place_json p)

-- where reading the main module stopped
abbrev pub read_place : Option ReadPlace → List ℕ
read_place None = null_text
read_place (Some p) = text_of (trim_place_json None (Bytes p))

-- the key that it can't be told of which module exports it
abbrev pub exporter_place : ExporterFault → List ℕ
exporter_place (NoExporter key lines) = text_of (key_json (string_bytes key))
exporter_place (SeveralExporters key listing) = text_of (key_json (string_bytes key))
exporter_place f = null_text

-- what a fault is about; null, where it is about nothing
abbrev pub fault_place : ProgramFault → List ℕ
fault_place (Resolve x) = part_place x.place
fault_place (Dedupe x) = read_place x.place
fault_place (World x) = world_place x
fault_place (Plan x) = plan_place x.place
fault_place (Exporter f) = exporter_place f
fault_place (NoExport key listing) = text_of (key_json key.now)
fault_place (NoImport key listing nearest) = text_of (key_json key.now)
fault_place f = null_text

-- `{"text":TEXT,"place":PLACE}`
abbrev pub members_text : List ℕ → List ℕ → List ℕ
members_text text place = codes "{\"text\":" ++ (text ++ (codes ",\"place\":" ++ (place ++ codes "}")))

abbrev pub fault_json : ProgramFault → List ℕ
fault_json f = members_text (text_of (string (program_fault_text f ++ fault_lines f))) (fault_place f)

abbrev pub memory_json : List ℕ
memory_json = codes "{\"text\":\"out of memory\",\"place\":null}"

-- a fault is printed as JSON in a line; or that there was no memory for it, where it needs some
abbrev pub IsReportedJson : ProgramFault → (Printing → Type 0) → ℕ → Type 0
IsReportedJson fault err status =
    (text : List ℕ) × ((text ≡ fault_json fault) ⊎ (NeedsText fault × (text ≡ memory_json))) × Prints (text ++ codes "\n") failure err status
