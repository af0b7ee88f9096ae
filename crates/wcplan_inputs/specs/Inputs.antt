-- The inputs of a command: its worlds, its modules and their keys, and why it has no encoder.
use Rattle.std.specs.Prelude.{◌≡◌, ◌≢◌, ◌⊎◌, ℕ, List, map, codes, Option, Some, None, IsSomeAnd, cond, Ok, Contains, string_bytes}
use Rattle.std.specs.Borrow.{Bor}
use Rattle.std.specs.List.{AllZip}
use Rattle.std.specs.Str.{IsUtf8}
use Rattle.json.specs.Json.{Json as JsonValue, document}
use Rattle.json.specs.Strict.{HasUniqueKeys}
use Rattle.wc_dedupe.specs.Dedupe.{IsDeduped, IsDedupeCause, IsDedupePlace, renames_in}
use Rattle.wc_dedupe.specs.Renaming.{RenameView}
use Rattle.wc_dedupe.specs.declared.fault.DedupeFault.TheVariants.{Memory as dedupe_memory}
use Rattle.wc_adapters.specs.Adapters.{AdapterView}
use Rattle.wc_encoder.specs.EncoderParts.{EncoderView}
use Rattle.wc_encoder.specs.Fault.{IsEncoderCause}
use Rattle.wc_encoder.specs.WellFormed.{IsWellFormed}
use Rattle.wc_encoder.specs.declared.fault.EncoderFault.TheVariants.{Memory as encoder_memory}
use Rattle.wc_json.specs.JsonPlace.{json_end}
use Rattle.wc_json.specs.Likeness.{looks_like}
use Rattle.wc_json.specs.RepeatedMembers.{IsRepeatedPath}
use Rattle.wc_json.specs.declared.likeness.Likeness.{Likeness}
use Rattle.wc_json.specs.Document.{DocumentView, document_of, IsJsonCause}
use Rattle.wc_json.specs.declared.fault.JsonFault.TheVariants.{NotJson as json_invalid, RepeatedMember as json_repeated, Wrong as json_wrong}
use Rattle.wc_resolve.specs.Fault.{IsResolveCause}
use Rattle.wc_resolve.specs.WellFormed.{IsWellFormed as IsResolve}
use Rattle.wc_resolve.specs.Kinds.{ResolveView}
use Rattle.wc_resolve.specs.declared.fault.ResolveFault.TheVariants.{Memory as resolve_memory}
use Rattle.wc_program.specs.Files.{Held, Holds}
use Rattle.wc_program.specs.declared.files.FileProblem.{FileProblem}
use Rattle.wc_program.specs.declared.files.FileProblem.TheVariants.{Memory as no_memory}
use Rattle.wc_selection.specs.KeyNames.{request_keys}
use Rattle.wc_selection.specs.Keys.{NamedKey, texts_of}
use Rattle.wc_selection.specs.ModuleKeys.{required_keys}
use Rattle.wc_selection.specs.Requests.{RequestValue}
use Rattle.wc_maps.specs.Texts.{second_parts}
use Rattle.wcplan_inputs.specs.AdapterNames.{IsNoAdapter}
use Rattle.wcplan_inputs.specs.Asked.{IsAskedThere, IsUnasked}
use Rattle.wcplan_inputs.specs.Arguments.{CommandView}
use Rattle.wc_options.specs.Listing.{listing_text}
use Rattle.wcplan_inputs.specs.Listing.{IsListedNear}
use Rattle.wcplan_inputs.specs.ExplainedPart.{IsPartExplanation}
use Rattle.wc_options.specs.Adapters.{is_standard}
use Rattle.wcplan_inputs.specs.ModuleKeys.{AreNamesThere, IsMeant, IsNamesCause, IsNotMeant, IsSelectionCause, adapter_names, hook_of, request_of, request_with}
use Rattle.wcplan_inputs.specs.SharedKeys.{AreGiven, AreUnshared, ExportScope, scope_of}
use Rattle.wcplan_inputs.specs.declared.exporter_fault.ExporterFault.{ExporterFault}
use Rattle.wcplan_inputs.specs.declared.exporter_fault.ExporterFault.TheVariants.{Memory as exporter_memory}
use Rattle.wcplan_inputs.specs.declared.fault.SelectionFault.{SelectionFault}
use Rattle.wcplan_inputs.specs.declared.fault.SelectionFault.TheVariants.{Request, UnknownAdapter}
use Rattle.wc_selection.specs.declared.fault.RequestFault.TheVariants.{UnknownKey}
use Rattle.wcplan_inputs.specs.declared.fault.ProgramFault.{ProgramFault}
use Rattle.wcplan_inputs.specs.declared.fault.ProgramFault.TheVariants.{Memory, CannotRead, NotText, NotJson, RepeatedMember, Json, Selection, NoAdapter, NoWorld, NoExport, NoImport, Resolve, Dedupe, Exporter, Encoder}

-- the path of a file that is read: `-` stands for standard input
abbrev pub input_path : List ℕ → List ℕ
input_path path = cond (is_standard path) (codes "/dev/stdin") path

abbrev pub HoldsInput : Option Held → List ℕ → List ℕ → Type 0
HoldsInput before path bytes = Holds before (input_path path) bytes

-- a text is JSON that is read as this document
abbrev pub IsDocumentOf : Option JsonValue → DocumentView → Type 0
IsDocumentOf read d = IsSomeAnd read (λ j. HasUniqueKeys j × (document_of j ≡ Ok d))

-- a file has a text that is read as this document
pub record IsDocumentIn (before : Option Held) (path : List ℕ) (d : DocumentView) : Type 0 where
  pub text : List ℕ
  pub read : HoldsInput before path text
  pub document : IsDocumentOf (document text) d

-- an adapter has its name, the bytes of its file, and the keys that a request says; it is no library
pub record IsAdapterIn (before : Option Held) (q : RequestValue) (keys : List NamedKey) (x : List ℕ × List ℕ) (y : List ℕ × AdapterView) : Type 0 where
  pub name : y.0 ≡ x.0
  pub wasm : HoldsInput before x.1 y.1.wasm
  pub required : y.1.required_exports ≡ required_keys q (Some x.0) keys
  pub library : y.1.library_info ≡ None

-- the worlds in the file of a command, which are well-formed, and the one that it means
abbrev pub AreWorldsIn : CommandView → Option Held → ResolveView → ℕ → Type 0
AreWorldsIn c before r world =
    (d : DocumentView) × IsDocumentIn before c.worlds d × IsMeant d c.world world × IsResolve d.parts × (r ≡ d.parts)

-- the world that a command means, of the worlds in its file, which are well-formed; and its names and keys are there, and what
-- it asks about
pub record IsChosen (c : CommandView) (before : Option Held) (d : DocumentView) (world : ℕ) : Type 0 where
  pub worlds : IsDocumentIn before c.worlds d
  pub selected : IsMeant d c.world world
  pub resolve : IsResolve d.parts
  pub named : AreNamesThere c (request_keys (request_of c) d.parts world)
  pub asked : IsAskedThere c.why d.parts world

-- the main module in its file, of these bytes, with its repeated imports renamed
pub record IsMainIn (before : Option Held) (path bytes text : List ℕ) (renames : List RenameView) : Type 0 where
  pub read : HoldsInput before path bytes
  pub renamed : IsDeduped bytes text renames

-- an adapter of a command with the bytes of its file
abbrev pub IsFileIn : Option Held → List ℕ × List ℕ → List ℕ × List ℕ → Type 0
IsFileIn before x file = (file.0 ≡ x.0) × HoldsInput before x.1 file.1

-- the adapters of a command, in order, with the keys that a request says
abbrev pub AreAdaptersIn : Option Held → CommandView → RequestValue → List NamedKey → List (List ℕ × AdapterView) → Type 0
AreAdaptersIn before c q keys adapters = AllZip (IsAdapterIn before q keys) c.adapters adapters

-- adapters by their names, with their bytes
abbrev pub adapter_bytes : List ℕ × AdapterView → List ℕ × List ℕ
adapter_bytes a = (a.0, a.1.wasm)

-- what a command is encoded from besides the world: the main module with the keys that it has to export, the adapters with
-- theirs, the flags, and the name of the task hook
pub record IsPartsWith (c : CommandView) (before : Option Held) (keys : List NamedKey) (e : EncoderView) : Type 0 where
  pub main : IsMainIn before c.main e.given_bytes e.module_bytes (renames_in e.module_import_map)
  pub given : List (List ℕ × List ℕ)
  pub are_given : AreGiven c (scope_of c e.resolve e.world) e.module_bytes (map adapter_bytes e.adapters) keys given
  pub exports : e.main_module_exports ≡ required_keys (request_with c given) None keys
  pub adapters : AreAdaptersIn before c (request_with c given) keys e.adapters
  pub rejects : e.reject_legacy_names ≡ c.reject_legacy_names
  pub grows : e.realloc_via_memory_grow ≡ c.realloc_via_memory_grow
  pub hook : e.task_hook ≡ hook_of c

-- what a command is encoded from, with the chosen world
pub record IsPartsOf (c : CommandView) (before : Option Held) (e : EncoderView) : Type 0 where
  pub document : DocumentView
  pub chosen : IsChosen c before document e.world
  pub resolve : e.resolve ≡ document.parts
  pub parts : IsPartsWith c before (request_keys (request_of c) e.resolve e.world) e

pub record IsEncoderOf (c : CommandView) (before : Option Held) (e : EncoderView) : Type 0 where
  pub parts : IsPartsOf c before e
  pub formed : IsWellFormed e

-- why reads of paths fail
abbrev pub Reads : Type 1
Reads = List ℕ → FileProblem → Type 0

-- the file of a path could not be read, for a problem other than memory
abbrev pub IsUnreadable : Reads → List ℕ → FileProblem → Type 0
IsUnreadable fails path p = fails (input_path path) p × (p ≢ no_memory)

-- why a file, the worlds in it, or the main module in it, could not be read
abbrev pub IsReadFault : List ℕ → Reads → ProgramFault → Type 0
IsReadFault path fails Memory = fails (input_path path) no_memory
IsReadFault path fails (CannotRead at p) = (at.now ≡ path) × IsUnreadable fails at.now p
IsReadFault path fails f = ⊥

-- why a text has no worlds: it is not JSON, and the byte that is named is where it stops to be, and what it looks like is said;
-- or an object has a member twice, and the path that is named leads to the first such member; or a value is wrong

abbrev pub IsJsonEnd : List ℕ → ℕ → Option Likeness → Type 0
IsJsonEnd text at likeness = (at ≡ json_end text) × (likeness ≡ looks_like text)

abbrev pub IsNotJson : List ℕ → ProgramFault → Type 0
IsNotJson text Memory = Unit {0}
IsNotJson text (NotJson at likeness) = IsJsonEnd text at likeness
IsNotJson text f = ⊥

abbrev pub IsRepeatedMember : List ℕ → ProgramFault → Type 0
IsRepeatedMember text Memory = Unit {0}
IsRepeatedMember text (RepeatedMember path) = IsRepeatedPath (document text) (string_bytes path)
IsRepeatedMember text f = ⊥

abbrev pub IsTextCause : List ℕ → ProgramFault → Type 0
IsTextCause text Memory = Unit {0}
IsTextCause text (NotJson at likeness) = IsJsonCause (document text) json_invalid × IsJsonEnd text at likeness
IsTextCause text (RepeatedMember path) = IsJsonCause (document text) json_repeated × IsRepeatedPath (document text) (string_bytes path)
IsTextCause text (Json (json_wrong path problem)) = IsJsonCause (document text) (json_wrong path problem)
IsTextCause text f = ⊥

abbrev pub IsDocumentCause : Option Held → List ℕ → ProgramFault → Type 0
IsDocumentCause before path Memory = Unit {0}
IsDocumentCause before path (NotText likeness) =
    (text : List ℕ) × HoldsInput before path text × ¬ IsUtf8 text × (likeness ≡ looks_like text)
IsDocumentCause before path f = (text : List ℕ) × HoldsInput before path text × IsTextCause text f

abbrev pub IsMainCause : Option Held → Reads → List ℕ → ProgramFault → Type 0
IsMainCause before fails path Memory = Unit {0}
IsMainCause before fails path (CannotRead at p) = IsReadFault path fails (CannotRead at p)
IsMainCause before fails path (Dedupe x) =
    (bytes : List ℕ) × HoldsInput before path bytes × (x.fault ≢ dedupe_memory) × IsDedupeCause bytes x.fault × IsDedupePlace bytes x.fault x.place
IsMainCause before fails path f = ⊥

-- why adapters could not be
abbrev pub IsAdaptersCause : CommandView → Reads → ProgramFault → Type 0
IsAdaptersCause c fails Memory = Unit {0}
IsAdaptersCause c fails (CannotRead path p) = Contains (second_parts c.adapters) path.now × IsUnreadable fails path.now p
IsAdaptersCause c fails f = ⊥

-- why modules could not be read, or not renamed
abbrev pub IsModulesCause : CommandView → Option Held → Reads → ProgramFault → Type 0
IsModulesCause c before fails (CannotRead path p) =
    ((path.now ≡ c.main) ⊎ Contains (second_parts c.adapters) path.now) × IsUnreadable fails path.now p
IsModulesCause c before fails f = IsMainCause before fails c.main f

-- why it can't be told which module exports a key of a world, of modules that could be read
pub record AreUnsharedIn (c : CommandView) (before : Option Held) (s : ExportScope) (keys : List NamedKey) (f : ExporterFault) : Type 0 where
  pub bytes : List ℕ
  pub main : List ℕ
  pub renames : List RenameView
  pub adapters : List (List ℕ × List ℕ)
  pub main_read : IsMainIn before c.main bytes main renames
  pub adapters_read : AllZip (IsFileIn before) c.adapters adapters
  pub unshared : AreUnshared c s main adapters keys f

-- why there are no parts with the keys of a world
abbrev pub IsPartsCause : CommandView → Option Held → Reads → ExportScope → List NamedKey → ProgramFault → Type 0
IsPartsCause c before fails s keys (Exporter f) = (f ≢ exporter_memory) × AreUnsharedIn c before s keys f
IsPartsCause c before fails s keys f = IsModulesCause c before fails f

-- a world is chosen
abbrev pub IsAnyChosen : CommandView → Option Held → Type 0
IsAnyChosen c before = (d : DocumentView) × (world : ℕ) × IsChosen c before d world

-- no key has a text: what exports there are is said
abbrev pub IsNoExport : List (List ℕ) → Bor (List ℕ) → ProgramFault → Type 0
IsNoExport texts key Memory = Unit {0}
IsNoExport texts key (NoExport k listing) = (k ≡ key) × (string_bytes listing ≡ listing_text texts)
IsNoExport texts key f = ⊥

-- the fault of a program for a fault of names
abbrev pub IsListed : CommandView → SelectionFault → List NamedKey → ProgramFault → Type 0
IsListed c (Request (UnknownKey key)) keys g = IsNoExport (texts_of keys) key g
IsListed c (UnknownAdapter name) keys g = IsNoAdapter (adapter_names c) name g
IsListed c f keys Memory = Unit {0}
IsListed c f keys (Selection g) = g ≡ f
IsListed c f keys g = ⊥

abbrev pub IsListedCause : CommandView → List NamedKey → ProgramFault → Type 0
IsListedCause c keys Memory = Unit {0}
IsListedCause c keys (NoExport key listing) =
    IsNamesCause c keys (Request (UnknownKey key)) × (string_bytes listing ≡ listing_text (texts_of keys))
IsListedCause c keys (NoAdapter name listing nearest) =
    IsNamesCause c keys (UnknownAdapter name) × IsListedNear (adapter_names c) name.now listing nearest
IsListedCause c keys (Selection (Request (UnknownKey key))) = ⊥
IsListedCause c keys (Selection (UnknownAdapter name)) = ⊥
IsListedCause c keys (Selection f) = IsNamesCause c keys f
IsListedCause c keys f = ⊥

-- names are not there, of a world that is selected of worlds that are well-formed
abbrev pub IsUnnamed : CommandView → Option Held → ProgramFault → Type 0
IsUnnamed c before f =
    (d : DocumentView) × (world : ℕ) × IsDocumentIn before c.worlds d × IsMeant d c.world world × IsResolve d.parts
    × IsListedCause c (request_keys (request_of c) d.parts world) f

-- why a command has no encoder
abbrev pub IsInputCause : CommandView → Option Held → Reads → ProgramFault → Type 0
IsInputCause c before fails Memory = Unit {0}
IsInputCause c before fails (CannotRead path p) =
    ((path.now ≡ c.worlds) × IsUnreadable fails path.now p) ⊎ (IsAnyChosen c before × IsModulesCause c before fails (CannotRead path p))
IsInputCause c before fails (NotText likeness) = IsDocumentCause before c.worlds (NotText likeness)
IsInputCause c before fails (NotJson at likeness) = IsDocumentCause before c.worlds (NotJson at likeness)
IsInputCause c before fails (RepeatedMember path) = IsDocumentCause before c.worlds (RepeatedMember path)
IsInputCause c before fails (Json f) = IsDocumentCause before c.worlds (Json f)
IsInputCause c before fails (Selection f) =
    ((d : DocumentView) × IsDocumentIn before c.worlds d × IsSelectionCause d c.world f) ⊎ IsUnnamed c before (Selection f)
IsInputCause c before fails (NoWorld name listing) = (d : DocumentView) × IsDocumentIn before c.worlds d × IsNotMeant d c.world name listing
IsInputCause c before fails (NoAdapter name listing nearest) = IsUnnamed c before (NoAdapter name listing nearest)
IsInputCause c before fails (NoExport key listing) = IsUnnamed c before (NoExport key listing)
IsInputCause c before fails (NoImport key listing nearest) =
    (d : DocumentView) × (world : ℕ) × IsDocumentIn before c.worlds d × IsMeant d c.world world × IsResolve d.parts
    × IsUnasked c.why d.parts world key listing nearest
IsInputCause c before fails (Resolve x) =
    (d : DocumentView) × (world : ℕ) × IsDocumentIn before c.worlds d × IsMeant d c.world world
    × (x.fault ≢ resolve_memory) × IsResolveCause d.parts x.fault × IsPartExplanation d.parts x.fault x.place
IsInputCause c before fails (Dedupe x) = IsAnyChosen c before × IsMainCause before fails c.main (Dedupe x)
IsInputCause c before fails (Exporter f) =
    (d : DocumentView) × (world : ℕ) × IsChosen c before d world × (f ≢ exporter_memory)
    × AreUnsharedIn c before (scope_of c d.parts world) (request_keys (request_of c) d.parts world) f
IsInputCause c before fails (Encoder f) = (e : EncoderView) × IsPartsOf c before e × (f ≢ encoder_memory) × IsEncoderCause e f
IsInputCause c before fails f = ⊥
