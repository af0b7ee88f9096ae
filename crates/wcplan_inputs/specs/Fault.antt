-- The fault for the fault of a call inside; and the texts of faults.
use Rattle.std.specs.Prelude.{ℕ, List, ◌++◌, codes, decimal, string_bytes, Option, Some, None, ⊤}
use Rattle.std.specs.Option.{option_map}
use Rattle.wc_program.specs.Files.{problem_text}
use Rattle.wc_texts.specs.Escape.{escaped}
use Rattle.wc_json.specs.Fault.{json_fault_text}
use Rattle.wc_dedupe.specs.Fault.{dedupe_fault_text}
use Rattle.wc_encoder.specs.Fault.{encoder_fault_text}
use Rattle.wc_encoder.specs.declared.fault.EncoderFault.{EncoderFault}
use Rattle.wc_encoder.specs.declared.fault.EncoderFault.TheVariants.{Memory as encoder_memory}
use Rattle.wc_gc.specs.Fault.{gc_fault_text}
use Rattle.wc_gc.specs.declared.fault.GcFault.{GcFault}
use Rattle.wc_gc.specs.declared.fault.GcFault.TheVariants.{Memory as gc_memory}
use Rattle.wc_json.specs.declared.fault.JsonFault.{JsonFault}
use Rattle.wc_json.specs.declared.fault.JsonFault.TheVariants.{Memory as json_memory}
use Rattle.wc_plan.specs.Fault.{plan_fault_text}
use Rattle.wc_resolve.specs.Fault.{resolve_fault_text}
use Rattle.wc_selection.specs.Fault.{quoted, request_fault_text}
use Rattle.wc_maps.specs.Texts.{text_of}
use Rattle.wc_selection.specs.declared.fault.RequestFault.{RequestFault}
use Rattle.wc_selection.specs.declared.fault.RequestFault.TheVariants.{Memory as request_memory}
use Rattle.wc_texts.specs.FaultTexts.{carried_text, memory_text}
use Rattle.wc_world.specs.Fault.{world_fault_text}
use Rattle.wc_world.specs.declared.fault.WorldFault.{WorldFault}
use Rattle.wc_world.specs.declared.fault.WorldFault.TheVariants.{PageSize}
use Rattle.wcplan_inputs.specs.ExporterFault.{exporter_fault_text}
use Rattle.wcplan_inputs.specs.declared.exporter_fault.ExporterFault.{ExporterFault}
use Rattle.wcplan_inputs.specs.declared.exporter_fault.ExporterFault.TheVariants.{Memory as exporter_memory}
use Rattle.wcplan_inputs.specs.declared.fault.SelectionFault.{SelectionFault}
use Rattle.wcplan_inputs.specs.declared.fault.SelectionFault.TheVariants.{Memory as selection_memory, Request, RepeatedAdapter, UnknownAdapter, EmptyDirectory, FileName, MainFile}
use Rattle.wcplan_inputs.specs.declared.fault.ProgramFault.{ProgramFault}
use Rattle.wcplan_inputs.specs.declared.fault.ProgramFault.TheVariants.{Memory, CannotRead, NotText, NotJson, RepeatedMember, Json, Selection, NoAdapter, NoWorld, NoExport, NoImport, Resolve, Dedupe, Exporter, Encoder, World, Plan, Ways, CannotMake, CannotWrite, Output}

abbrev pub of_json : JsonFault → ProgramFault
of_json json_memory = Memory
of_json f = Json f

abbrev pub of_request : RequestFault → SelectionFault
of_request request_memory = selection_memory
of_request f = Request f

abbrev pub of_selection : SelectionFault → ProgramFault
of_selection selection_memory = Memory
of_selection f = Selection f

abbrev pub of_exporter : ExporterFault → ProgramFault
of_exporter exporter_memory = Memory
of_exporter f = Exporter f

abbrev pub of_encoder : EncoderFault → ProgramFault
of_encoder encoder_memory = Memory
of_encoder f = Encoder f

abbrev pub of_gc : GcFault → ProgramFault
of_gc gc_memory = Memory
of_gc f = Ways f

abbrev pub selection_fault_text : SelectionFault → List ℕ
selection_fault_text selection_memory = memory_text
selection_fault_text (Request f) = request_fault_text f
selection_fault_text (RepeatedAdapter name) = quoted (codes "adapter `") name.now (codes "` twice")
selection_fault_text (UnknownAdapter name) = quoted (codes "no adapter `") name.now (codes "`")
selection_fault_text EmptyDirectory = codes "empty path of --out"
selection_fault_text (FileName name) = quoted (codes "adapter `") name.now (codes "` is no file's name")
selection_fault_text (MainFile name) = quoted (codes "adapter `") name.now (codes "` in the main module's file")

-- there is no world of a name, or none is named and none has all others for parts; and what worlds there are
abbrev pub no_world_text : Option (List ℕ) → List ℕ → List ℕ
no_world_text None listing = codes "missing WORLD; worlds:" ++ listing
no_world_text (Some name) listing = codes "no world `" ++ (name ++ (codes "`; worlds:" ++ listing))

-- there is no adapter of a name, and what adapters there are
abbrev pub no_adapter_text : List ℕ → List ℕ → List ℕ
no_adapter_text name listing = codes "no adapter `" ++ (name ++ (codes "`; adapters:" ++ listing))

-- there is no export with a key, and what exports there are
abbrev pub no_export_text : List ℕ → List ℕ → List ℕ
no_export_text key listing = codes "no export `" ++ (key ++ (codes "`; exports:" ++ listing))

-- no import is asked about by a key, and what imports there are
abbrev pub no_import_text : List ℕ → List ℕ → List ℕ
no_import_text key listing = codes "no import `" ++ (key ++ (codes "`; imports:" ++ listing))

-- a member is there twice: its path, escaped
abbrev pub repeated_text : List ℕ → List ℕ
repeated_text path = codes "Json: " ++ (escaped path ++ codes ": repeated member")

-- an adapter's memory has pages of another size than the main module's, both in bytes
abbrev pub page_size_text : List ℕ → ℕ → ℕ → List ℕ
page_size_text name own main =
    codes "World: PageSize `" ++ (name ++ (codes "`: page size " ++ (decimal own ++ (codes ", main module's " ++ decimal main))))

abbrev pub world_text : WorldFault → List ℕ
world_text (PageSize name own main) = escaped (page_size_text (string_bytes name) own main)
world_text f = carried_text (codes "World") (escaped (world_fault_text f))

-- what was to be printed could not be
abbrev pub unprinted_text : List ℕ
unprinted_text = codes "cannot print"

-- the text of a fault. What comes from outside is escaped; paths in faults of JSON are escaped already
abbrev pub program_fault_text : ProgramFault → List ℕ
program_fault_text Memory = memory_text
program_fault_text (CannotRead path p) = codes "cannot read " ++ (escaped path.now ++ problem_text p)
program_fault_text (NotText likeness) = codes "Json: not UTF-8"
program_fault_text (NotJson at likeness) = codes "Json: not JSON at byte " ++ decimal at
program_fault_text (RepeatedMember path) = repeated_text (string_bytes path)
program_fault_text (Json f) = codes "Json: " ++ json_fault_text f
program_fault_text (Selection f) = escaped (selection_fault_text f)
program_fault_text (NoAdapter name listing nearest) = escaped (no_adapter_text name.now (string_bytes listing))
program_fault_text (NoWorld name listing) = escaped (no_world_text (option_map text_of name) (string_bytes listing))
program_fault_text (NoExport key listing) = escaped (no_export_text key.now (string_bytes listing))
program_fault_text (NoImport key listing nearest) = escaped (no_import_text key.now (string_bytes listing))
program_fault_text (Resolve x) = carried_text (codes "Resolve") (escaped (resolve_fault_text x.fault))
program_fault_text (Dedupe x) = carried_text (codes "Main module") (escaped (dedupe_fault_text x.fault))
program_fault_text (Exporter f) = exporter_fault_text f
program_fault_text (Encoder f) = carried_text (codes "Encoder") (escaped (encoder_fault_text f))
program_fault_text (World x) = world_text x.fault
program_fault_text (Plan x) = carried_text (codes "Plan") (escaped (plan_fault_text x.fault))
program_fault_text (Ways f) = carried_text (codes "Ways") (escaped (gc_fault_text f))
program_fault_text (CannotMake path p) = codes "cannot make directory " ++ (escaped path.now ++ problem_text p)
program_fault_text (CannotWrite path p) = codes "cannot write " ++ (escaped (string_bytes path) ++ problem_text p)
program_fault_text Output = unprinted_text

-- memory is needed for the text of a fault, unless it is always the same
abbrev pub NeedsText : ProgramFault → Type 0
NeedsText Memory = ⊥
NeedsText (NotText None) = ⊥
NeedsText Output = ⊥
NeedsText f = ⊤
