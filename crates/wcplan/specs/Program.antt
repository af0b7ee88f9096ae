-- The program: what it prints, what becomes of files, and its exit status.
use Rattle.std.specs.Prelude.{◌≡◌, ◌≢◌, ◌⊎◌, ℕ, Bool, List, [], ◌∷◌, ◌++◌, map, codes, true, false, MatchOption, Option, Some, None, IfSome, if◌then◌else◌, Ok, Err, String, string_bytes}
use Rattle.std.specs.declared.alloc.Global.{Global}
use Rattle.std.specs.Borrow.{Bor}
use Rattle.std.specs.Option.{option_map}
use Rattle.wcplan_inputs.specs.Inputs.{IsEncoderOf, Reads, IsInputCause}
use Rattle.wc_encoder.specs.EncoderParts.{EncoderView}
use Rattle.wc_texts.specs.Escape.{escaped}
use Rattle.wc_plan.specs.Fault.{HasNoFault, IsFirstFault, place_view as plan_place_view}
use Rattle.wc_plan.specs.Plans.{plan_of}
use Rattle.wc_record.specs.Texts.{planned_world_text}
use Rattle.wc_texts.specs.FaultTexts.{memory_text}
use Rattle.wc_program.specs.Files.{Held, StoreChange, Writes}
use Rattle.wc_program.specs.Program.{Prints, EndsByArguments, EndsByReason, failure, success, wrong_arguments}
use Rattle.wc_program.specs.declared.files.FileProblem.{FileProblem}
use Rattle.wc_program.specs.declared.program.NoArguments.{NoArguments}
use Rattle.wc_program.specs.declared.program.NoArguments.TheVariants.{Empty, NoMemory, NoText}
use Rattle.wc_world.specs.Causes.{IsComponentWorldCause, IsMemory as IsWorldMemory}
use Rattle.wc_world.specs.Options.{plain_options}
use Rattle.wc_world.specs.Views.{ComponentWorldView, NamedWorldAdapter}
use Rattle.wc_world.specs.World.{IsWorldOf}
use Rattle.wc_world.specs.declared.fault.WorldFault.TheVariants.{Memory as world_memory}
use Rattle.wc_gc.specs.declared.fault.GcFault.TheVariants.{Memory as gc_memory}
use Rattle.wc_ways.specs.Ways.{IsWaysText}
use Rattle.wc_ways.specs.WaysTree.{IsWaysGraph, IsWaysJson}
use Rattle.wc_ways.specs.WaysFaults.{IsWaysFault}
use Rattle.wc_ways.specs.Imports.{IsImportsJson, IsImportsText}
use Rattle.wc_options.specs.Wrong.{Reading, Stop, WrongView, help, version, wrong, wrong_text}
use Rattle.wcplan_inputs.specs.Arguments.{CommandView}
use Rattle.wcplan_inputs.specs.Details.{IsExplanation, fault_lines}
use Rattle.wcplan_inputs.specs.Fault.{NeedsText, program_fault_text, unprinted_text}
use Rattle.wcplan.specs.JsonFaults.{IsReportedJson}
use Rattle.wcplan.specs.Lines.{lines_text}
use Rattle.wcplan_inputs.specs.Reading.{AsksMemory, read_arguments}
use Rattle.wc_program.specs.Screen.{Printing, nothing, printed, failed}
use Rattle.wcplan.specs.Usage.{fault_and_usage, fault_line, help_text, no_text, usage_text, version_text}
use Rattle.wcplan.specs.Warnings.{AreWarned, warnings_text}
use Rattle.wcplan_inputs.specs.declared.fault.ProgramFault.{ProgramFault}
use Rattle.wcplan_inputs.specs.declared.fault.ProgramFault.TheVariants.{World, Plan, Ways, CannotMake, CannotWrite, Output}

-- the component's world of a command, with plain options, whose plan has no fault
pub record IsPlanned (c : CommandView) (before : Option Held) (w : ComponentWorldView) : Type 0 where
  pub encoder : EncoderView
  pub encodes : IsEncoderOf c before encoder
  pub world : IsWorldOf plain_options encoder w
  pub servable : HasNoFault w

abbrev pub plan_lines : ComponentWorldView → List ℕ
plan_lines w = lines_text (plan_of w)

-- the record of a component's world and of its plan, in a line
abbrev pub record_line : ComponentWorldView → List ℕ
record_line w = planned_world_text w (plan_of w) ++ codes "\n"

-- what is printed of a component's world: its record, where that is asked for; else the lines of its plan
abbrev pub printed_text : Bool → ComponentWorldView → List ℕ
printed_text asks_json w = if asks_json then record_line w else plan_lines w

-- why a key is imported, as it is printed: as a graph, if that is asked for; as JSON, if that is; or in lines
abbrev pub IsPrintedWays : Bool → Bool → ComponentWorldView → List ℕ → List ℕ → Type 0
IsPrintedWays true asks_json w key text = IsWaysGraph w key text
IsPrintedWays false true w key text = IsWaysJson w key text
IsPrintedWays false false w key text = IsWaysText w key text

-- what is imported of each interface, as it is printed: as JSON, if that is asked for; or in lines
abbrev pub IsPrintedImports : Bool → ComponentWorldView → List ℕ → Type 0
IsPrintedImports true w text = IsImportsJson w text
IsPrintedImports false w text = IsImportsText w text

-- what is printed where no key is asked about: what is imported of each interface, if that is asked for; or the text above
abbrev pub IsPrintedWithoutKey : Bool → Bool → ComponentWorldView → List ℕ → Type 0
IsPrintedWithoutKey true asks_json w text = IsPrintedImports asks_json w text
IsPrintedWithoutKey false asks_json w text = text ≡ printed_text asks_json w

-- what a command prints of its component's world: why the key is imported that it asks about; without one what is above
abbrev pub IsPrintedText : CommandView → ComponentWorldView → List ℕ → Type 0
IsPrintedText c w text = MatchOption c.why (IsPrintedWithoutKey c.imports c.json w text) (λ key. IsPrintedWays c.dot c.json w key text)

-- `DIRECTORY/NAME.wasm`
abbrev pub path_in : List ℕ → List ℕ → List ℕ
path_in directory name = directory ++ (codes "/" ++ (name ++ codes ".wasm"))

-- the files that are written, with their bytes: the main module, and then the adapters
abbrev pub adapter_file : List ℕ → NamedWorldAdapter → List ℕ × List ℕ
adapter_file directory a = (path_in directory a.0, a.1.wasm)

abbrev pub files_of : Option (List ℕ) → ComponentWorldView → List (List ℕ × List ℕ)
files_of None w = []
files_of (Some directory) w = (path_in directory (codes "main"), w.encoder.module_bytes) ∷ map (adapter_file directory) w.adapters

-- files are written one after another, and no other is changed
abbrev pub WritesAll : Option Held → Option Held → List (List ℕ × List ℕ) → Type 0
WritesAll before after [] = after ≡ before
WritesAll before after (f ∷ fs) = (middle : Option Held) × Writes before middle f.0 f.1 × WritesAll middle after fs

-- the component's world of a command is there, its directory could be made, and all its files are written
pub record IsWritten (c : CommandView) (files : StoreChange) (world : ComponentWorldView) : Type 0 where
  pub planned : IsPlanned c files.before world
  pub made : IfSome c.out files.Makes
  pub written : WritesAll files.before files.after (files_of c.out world)

-- a path with the bytes of its file
abbrev pub file_view : String Global × Bor (List ℕ) → List ℕ × List ℕ
file_view f = (string_bytes f.0, f.1.now)

-- the writes of files that fail: of the files before, of a path and of bytes, for a problem
abbrev pub Writing : Type 1
Writing = Option Held → List ℕ → List ℕ → FileProblem → Type 0

-- of files one could not be written, and those before it were: the write of this one failed, and no other file is changed
pub record IsUnwrittenFile (before after : Option Held) (fails : Writing) (files : List (List ℕ × List ℕ)) (path : List ℕ) (p : FileProblem) : Type 0 where
  pub front : List (List ℕ × List ℕ)
  pub back : List (List ℕ × List ℕ)
  pub bytes : List ℕ
  pub cut : files ≡ front ++ (path, bytes) ∷ back
  pub written : WritesAll before after front
  pub failed : fails after path bytes p

abbrev pub IsFileFault : Option Held → Option Held → Writing → List (List ℕ × List ℕ) → ProgramFault → Type 0
IsFileFault before after fails files (CannotWrite path p) = IsUnwrittenFile before after fails files (string_bytes path) p
IsFileFault before after fails files f = ⊥

-- the directory of a command could not be made
pub record IsUnmade (c : CommandView) (files : StoreChange) (path : List ℕ) (p : FileProblem) : Type 0 where
  pub world : ComponentWorldView
  pub planned : IsPlanned c files.before world
  pub directory : c.out ≡ Some path
  pub failed : files.IsFailedMake path p
  pub kept : files.after ≡ files.before

-- it could, and after some files one could not be written
pub record IsUnwritten (c : CommandView) (files : StoreChange) (path : List ℕ) (p : FileProblem) : Type 0 where
  pub world : ComponentWorldView
  pub planned : IsPlanned c files.before world
  pub made : IfSome c.out files.Makes
  pub stopped : IsUnwrittenFile files.before files.after files.IsFailedWrite (files_of c.out world) path p

-- why there is no plan
abbrev pub IsPlanCause : CommandView → Option Held → Reads → ProgramFault → Type 0
IsPlanCause c before fails (World x) =
    (e : EncoderView) × IsEncoderOf c before e × (x.fault ≢ world_memory) × (IsWorldMemory e x.fault ⊎ IsComponentWorldCause e x.fault)
    × IsExplanation e x.fault x.place
IsPlanCause c before fails (Plan x) =
    (e : EncoderView) × (w : ComponentWorldView) × IsEncoderOf c before e × IsWorldOf plain_options e w
    × (first : IsFirstFault w x.fault) × (option_map plan_place_view x.place ≡ Some first.at.0)
IsPlanCause c before fails (Ways f) = (w : ComponentWorldView) × IsPlanned c before w × (f ≢ gc_memory) × IsWaysFault w f
IsPlanCause c before fails f = IsInputCause c before fails f

-- why a command could not be run; before all its files are written nothing is printed
abbrev pub IsRunCause : CommandView → StoreChange → (Printing → Type 0) → ProgramFault → Type 0
IsRunCause c files out (CannotMake path p) = IsUnmade c files path.now p × out nothing
IsRunCause c files out (CannotWrite path p) = IsUnwritten c files (string_bytes path) p × out nothing
IsRunCause c files out Output = (world : ComponentWorldView) × IsWritten c files world × out failed
IsRunCause c files out f = IsPlanCause c files.before files.IsFailedRead f × (files.after ≡ files.before) × out nothing

-- the command did its work: all its files are written, and then what it asks for is printed; and its warnings are these
abbrev pub EndsWell : CommandView → StoreChange → (Printing → Type 0) → List ℕ → Type 0
EndsWell c files out warnings =
    (world : ComponentWorldView) × (text : List ℕ) × IsWritten c files world × IsPrintedText c world text × out (printed text)
    × (warnings ≡ warnings_text c world)

-- what is printed of a fault: its text, and under it its lines; or that there was no memory for them
abbrev pub IsPrintedOf : ProgramFault → List ℕ → Type 0
IsPrintedOf fault text = (text ≡ program_fault_text fault ++ fault_lines fault) ⊎ (NeedsText fault × (text ≡ memory_text))

-- a fault is printed in a line, and under it the lines that say what it is about
abbrev pub IsReported : ProgramFault → (Printing → Type 0) → ℕ → Type 0
IsReported fault err status = (text : List ℕ) × IsPrintedOf fault text × Prints (fault_line text) failure err status

-- as JSON, if that is asked for
abbrev pub IsReportedAs : Bool → ProgramFault → (Printing → Type 0) → ℕ → Type 0
IsReportedAs true fault err status = IsReportedJson fault err status
IsReportedAs false fault err status = IsReported fault err status

-- there was no memory, which is printed
abbrev pub EndsWithoutMemory : (Printing → Type 0) → (Printing → Type 0) → ℕ → Type 0
EndsWithoutMemory out err status = out nothing × Prints (fault_line memory_text) failure err status

-- a text that was asked for is printed; or it can't be, which is printed to the other output
abbrev pub PrintsAsked : List ℕ → (Printing → Type 0) → (Printing → Type 0) → ℕ → Type 0
PrintsAsked text out err status =
    (out (printed text) × err nothing × (status ≡ success)) ⊎ (out failed × Prints (fault_line unprinted_text) failure err status)

-- a command did its work, and its warnings are printed to the other output; or it could not be run, and its fault is
abbrev pub CommandEnds : CommandView → StoreChange → (Printing → Type 0) → (Printing → Type 0) → ℕ → Type 0
CommandEnds c files out err status =
    ((warnings : List ℕ) × EndsWell c files out warnings × AreWarned warnings err × (status ≡ success))
    ⊎ ((fault : ProgramFault) × IsRunCause c files out fault × IsReportedAs c.json fault err status)

-- there is no command: what is asked for is printed; or what is wrong, and the usage text, to the other output
abbrev pub StopEnds : Stop → (Printing → Type 0) → (Printing → Type 0) → ℕ → Type 0
StopEnds help out err status = PrintsAsked help_text out err status
StopEnds version out err status = PrintsAsked version_text out err status
StopEnds (wrong w) out err status = out nothing × Prints (fault_and_usage (escaped (wrong_text w))) wrong_arguments err status

abbrev pub ReadingEnds : Reading CommandView → StoreChange → (Printing → Type 0) → (Printing → Type 0) → ℕ → Type 0
ReadingEnds (Ok c) files out err status = CommandEnds c files out err status
ReadingEnds (Err stop) files out err status = (files.after ≡ files.before) × StopEnds stop out err status

-- where there is no command, memory is asked for by arguments, or by the text of what is wrong with them
abbrev pub NeedsMemory : List (List ℕ) → Type 0
NeedsMemory arguments = AsksMemory arguments ⊎ ((w : WrongView) × (read_arguments arguments ≡ Err (wrong w)))

-- how the program ends with some arguments
abbrev pub EndsWith : List (List ℕ) → StoreChange → (Printing → Type 0) → (Printing → Type 0) → ℕ → Type 0
EndsWith arguments files out err status =
    ReadingEnds (read_arguments arguments) files out err status
    ⊎ (NeedsMemory arguments × (files.after ≡ files.before) × EndsWithoutMemory out err status)

-- how it ends without arguments: there are none, there was no memory for them, or one is no text
abbrev pub EndsWithout : NoArguments → Option Held → Option Held → (Printing → Type 0) → (Printing → Type 0) → ℕ → Type 0
EndsWithout Empty before after out err status = (after ≡ before) × PrintsAsked usage_text out err status
EndsWithout NoMemory before after out err status = EndsWithoutMemory out err status
EndsWithout NoText before after out err status = out nothing × Prints (fault_and_usage no_text) wrong_arguments err status

-- how the program ends with these arguments
abbrev pub ProgramEnds : List (String Global) → StoreChange → (Printing → Type 0) → (Printing → Type 0) → ℕ → Type 0
ProgramEnds arguments files out err status =
    EndsByArguments arguments (EndsWithout Empty files.before files.after out err status) (λ texts. EndsWith texts files out err status)

-- how it ends where its arguments are not known: there was no memory for them, or they are no text
abbrev pub EndsWithoutArguments : Type 0 → (Printing → Type 0) → (Printing → Type 0) → ℕ → Type 0
EndsWithoutArguments without out err status =
    EndsByReason without (EndsWithoutMemory out err status) (out nothing × Prints (fault_and_usage no_text) wrong_arguments err status)
