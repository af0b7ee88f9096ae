-- What is printed under the text of a fault: what it is about.
use Rattle.std.specs.Prelude.{◌≡◌, ℕ, List, [], ◌++◌, codes, Option, Some, None, MatchOption, string_bytes}
use Rattle.std.specs.Option.{option_map}
use Rattle.wc_encoder.specs.EncoderParts.{EncoderView}
use Rattle.wc_texts.specs.Escape.{escaped, quoted}
use Rattle.wc_json.specs.declared.likeness.Likeness.{Likeness}
use Rattle.wc_json.specs.declared.likeness.Likeness.TheVariants.{ByteOrderMark, Empty, WebAssembly, Wit}
use Rattle.wc_plan.specs.declared.fault.PlanPlace.{PlanPlace}
use Rattle.wc_read.specs.Place.{read_place_text}
use Rattle.wc_read.specs.declared.place.ReadPlace.{ReadPlace}
use Rattle.wc_validate.specs.Texts.{difference_text}
use Rattle.wc_validate.specs.Explain.{DifferenceView, PlaceView, SubjectView, an_export, an_import, missing_export, missing_function, place_view, some_bytes}
use Rattle.wc_gc.specs.TrimPlace.{place_text as trim_place_text}
use Rattle.wc_world.specs.declared.places.ModulePlace.{ModulePlace}
use Rattle.wc_world.specs.declared.places.ModulePlace.TheVariants as place
use Rattle.wc_world.specs.Places.{IsWorldPlace}
use Rattle.wc_world.specs.Refused.{HasNoPlace}
use Rattle.wc_world.specs.declared.fault.WorldFault.{WorldFault}
use Rattle.wc_resolve.specs.declared.explain.Part.{Part}
use Rattle.wcplan_inputs.specs.AdapterNames.{given_adapters}
use Rattle.wcplan_inputs.specs.Nearest.{near_place}
use Rattle.wcplan_inputs.specs.ExplainedPart.{path_text}
use Rattle.wcplan_inputs.specs.declared.explained_part.ExplainedPart.{ExplainedPart}
use Rattle.wcplan_inputs.specs.ExporterFault.{exporter_lines}
use Rattle.wcplan_inputs.specs.declared.explained.Explained.{Explained}
use Rattle.wcplan_inputs.specs.declared.fault.ProgramFault.{ProgramFault}
use Rattle.wcplan_inputs.specs.declared.fault.ProgramFault.TheVariants.{Dedupe, Exporter, NoAdapter, NoImport, NotJson, NotText, Resolve, World, Plan}

-- a fault of a component's world is about a place, and of what is named there this is the nearest that is there; and what
-- adapters there are, where that is said
pub record IsAbout (e : EncoderView) (f : WorldFault) (x : Explained) : Type 0 where
  pub place : IsWorldPlace e f x.place
  pub near : option_map string_bytes x.nearest ≡ near_place e f x.place.place
  pub given : option_map string_bytes x.adapters ≡ given_adapters e f

-- what is answered of a fault; nothing only where it has no place
abbrev pub IsExplanation : EncoderView → WorldFault → Option Explained → Type 0
IsExplanation e f answer = MatchOption answer (HasNoPlace e f) (IsAbout e f)

-- a line under the text of a fault, after the end of the line before
abbrev pub detail_line : List ℕ → List ℕ
detail_line text = codes "\n  " ++ escaped text

-- the line of what a fault is about, by its names, which are escaped; or where reading stopped
abbrev pub subject_line : SubjectView → List ℕ
subject_line (an_import module_name name index) = codes "\n  import " ++ (quoted module_name ++ (codes " " ++ quoted name))
subject_line (an_export name) = codes "\n  export " ++ quoted name
subject_line (missing_function module_name name) = codes "\n  missing " ++ (quoted module_name ++ (codes " " ++ quoted name))
subject_line (missing_export name) = codes "\n  missing export " ++ quoted name
subject_line (some_bytes p) = detail_line (read_place_text p)

-- core types that differ
abbrev pub types_line : Option DifferenceView → List ℕ
types_line None = []
types_line (Some d) = detail_line (difference_text d)

-- what is there in place of a name
abbrev pub nearest_text : List ℕ → List ℕ
nearest_text name = codes "did you mean " ++ (name ++ codes "?")

abbrev pub nearest_line : Option (List ℕ) → List ℕ
nearest_line None = []
nearest_line (Some name) = detail_line (nearest_text name)

-- what adapters there are
abbrev pub adapters_line : Option (List ℕ) → List ℕ
adapters_line None = []
adapters_line (Some text) = detail_line text

-- the lines of a place: the import or the export, the types that differ, what is there in place of a name, and what adapters
-- there are
abbrev pub place_lines : PlaceView → Option (List ℕ) → Option (List ℕ) → List ℕ
place_lines p near adapters = subject_line p.subject ++ (types_line p.types ++ (nearest_line near ++ adapters_line adapters))

-- and those of a place in a module, which may be a section or the body of a function; the text of a fault has the sizes of pages
abbrev pub module_place_lines : ModulePlace → Option (List ℕ) → Option (List ℕ) → List ℕ
module_place_lines (place.Validation p) near adapters = place_lines (place_view p) near adapters
module_place_lines (place.Trim p) near adapters = detail_line (trim_place_text p)
module_place_lines (place.PageSizes own main) near adapters = []

-- the function that a fault of a plan is about, and the module that imports it
abbrev pub function_line : List ℕ → List ℕ
function_line name = codes "\n  function " ++ quoted name

abbrev pub importer_line : Option (List ℕ) → List ℕ
importer_line None = codes "\n  imported by main"
importer_line (Some adapter) = codes "\n  imported by adapter " ++ quoted adapter

abbrev pub plan_place_lines : PlanPlace → List ℕ
plan_place_lines p = function_line (string_bytes p.name) ++ importer_line (option_map string_bytes p.adapter)

abbrev pub plan_fault_lines : Option PlanPlace → List ℕ
plan_fault_lines None = []
plan_fault_lines (Some p) = plan_place_lines p

abbrev pub world_fault_lines : Option Explained → List ℕ
world_fault_lines None = []
world_fault_lines (Some x) = module_place_lines x.place.place (option_map string_bytes x.nearest) (option_map string_bytes x.adapters)

-- the line of what a fault of worlds is about: its path, and its name, if there is one
abbrev pub named_part : Part → Option (List ℕ) → List ℕ
named_part p None = path_text p
named_part p (Some name) = path_text p ++ (codes " " ++ quoted name)

abbrev pub part_line : ExplainedPart → List ℕ
part_line x = codes "\n  " ++ named_part x.part (option_map string_bytes x.name)

abbrev pub part_lines : Option ExplainedPart → List ℕ
part_lines None = []
part_lines (Some x) = part_line x

-- what worlds look like that are not text or not JSON, and what prints JSON of them
abbrev pub likeness_text : Likeness → List ℕ
likeness_text WebAssembly = codes "it is WebAssembly: `wasm-tools component wit --json FILE` prints its worlds as JSON"
likeness_text ByteOrderMark = codes "it begins with a byte order mark, which JSON has not"
likeness_text Empty = codes "it is empty"
likeness_text Wit = codes "it is WIT: `wasm-tools component wit --json FILE` prints it as JSON"

abbrev pub likeness_line : Option Likeness → List ℕ
likeness_line None = []
likeness_line (Some likeness) = codes "\n  " ++ likeness_text likeness

-- where reading a module stopped
abbrev pub read_lines : Option ReadPlace → List ℕ
read_lines None = []
read_lines (Some p) = detail_line (read_place_text p)

-- the lines under the text of a fault
abbrev pub fault_lines : ProgramFault → List ℕ
fault_lines (NotText likeness) = likeness_line likeness
fault_lines (NotJson at likeness) = likeness_line likeness
fault_lines (NoAdapter name listing nearest) = nearest_line (option_map string_bytes nearest)
fault_lines (NoImport key listing nearest) = nearest_line (option_map string_bytes nearest)
fault_lines (Resolve x) = part_lines x.place
fault_lines (Dedupe x) = read_lines x.place
fault_lines (Exporter f) = exporter_lines f
fault_lines (World x) = world_fault_lines x.place
fault_lines (Plan x) = plan_fault_lines x.place
fault_lines f = []
