-- Why a command has no main module and no worlds.
use Rattle.std.specs.Prelude.{◌≡◌, ◌≢◌, ℕ, List, Option, Some, None, string_bytes}
use Rattle.std.specs.Option.{option_map}
use Rattle.json.specs.Json.{Json, document}
use Rattle.wc_dedupe.specs.declared.fault.DedupeFault.{DedupeFault}
use Rattle.wc_dedupe.specs.declared.fault.DedupeFault.TheVariants.{Memory as dedupe_memory}
use Rattle.wc_read.specs.declared.place.ReadPlace.{ReadPlace}
use Rattle.wc_texts.specs.declared.refused.Refused.{Refused}
use Rattle.wc_json.specs.Document.{DocumentView}
use Rattle.wc_resolve.specs.Fault.{IsResolveCause}
use Rattle.wc_resolve.specs.Refusals.{Refusal}
use Rattle.wc_resolve.specs.WellFormed.{IsWellFormed as IsResolve}
use Rattle.wc_resolve.specs.Kinds.{ResolveView}
use Rattle.wc_resolve.specs.declared.explain.Part.{Part}
use Rattle.wc_resolve.specs.declared.fault.ResolveFault.{ResolveFault}
use Rattle.wc_resolve.specs.declared.fault.ResolveFault.TheVariants.{Memory as resolve_memory}
use Rattle.wc_maps.specs.Texts.{text_of}
use Rattle.wcplan_inputs.specs.Arguments.{CommandView}
use Rattle.wcplan_inputs.specs.Inputs.{IsDocumentOf, IsTextCause}
use Rattle.wcplan_inputs.specs.ExplainedPart.{IsPartExplanation, part_name}
use Rattle.wc_selection.specs.declared.fault.RequestFault.{RequestFault}
use Rattle.wc_selection.specs.declared.fault.RequestFault.TheVariants.{UnknownWorld}
use Rattle.wcplan_inputs.specs.Fault.{of_request, of_selection}
use Rattle.wcplan_inputs.specs.Listing.{world_listing}
use Rattle.wcplan_inputs.specs.ModuleKeys.{IsMeant, IsNotMeant, IsSelectionCause}
use Rattle.wcplan_inputs.specs.declared.explained_part.ExplainedPart.{ExplainedPart}
use Rattle.wcplan_inputs.specs.declared.fault.ProgramFault.{ProgramFault}
use Rattle.wcplan_inputs.specs.declared.fault.ProgramFault.TheVariants.{Dedupe, NoWorld, Resolve, Selection, Memory as no_memory}

-- the fault of the program for a main module that is refused
abbrev pub IsOfMain : Refused DedupeFault ReadPlace → ProgramFault → Type 0
IsOfMain x no_memory = Unit {0}
IsOfMain x (Dedupe y) = (y ≡ x) × (x.fault ≢ dedupe_memory)
IsOfMain x g = ⊥

-- a part that a fault is about, with its name; nothing where it is about none
abbrev pub IsPartNamed : ResolveView → Part → ExplainedPart → Type 0
IsPartNamed r part x = (x.part ≡ part) × (option_map string_bytes x.name ≡ part_name r part)

abbrev pub IsExplainedPlace : ResolveView → Option Part → Option ExplainedPart → Type 0
IsExplainedPlace r None None = Unit {0}
IsExplainedPlace r None (Some x) = ⊥
IsExplainedPlace r (Some part) None = ⊥
IsExplainedPlace r (Some part) (Some x) = IsPartNamed r part x

-- the fault of the program for worlds that are refused, by the fault and what it is about; there may have been no memory for
-- its name
abbrev pub IsOfFault : ResolveView → ResolveFault → Option Part → ProgramFault → Type 0
IsOfFault r f place no_memory = Unit {0}
IsOfFault r f place (Resolve x) = (x.fault ≡ f) × (f ≢ resolve_memory) × IsExplainedPlace r place x.place
IsOfFault r f place g = ⊥

abbrev pub IsOfRefused : ResolveView → Refusal → ProgramFault → Type 0
IsOfRefused r refusal g = IsOfFault r refusal.fault refusal.place g

-- the worlds in a text, which are well-formed, and the one that a command means
abbrev pub AreWorldsOf : CommandView → Option Json → ResolveView → ℕ → Type 0
AreWorldsOf c read r world = (d : DocumentView) × IsDocumentOf read d × IsMeant d c.world world × IsResolve d.parts × (r ≡ d.parts)

-- why a document has no world that a command means
abbrev pub IsMeaningCause : DocumentView → Option (List ℕ) → ProgramFault → Type 0
IsMeaningCause d text no_memory = Unit {0}
IsMeaningCause d text (Selection f) = IsSelectionCause d text f
IsMeaningCause d text (NoWorld name listing) = IsNotMeant d text name listing
IsMeaningCause d text f = ⊥

-- the fault of the program where a name is that of no world
abbrev pub IsUnknownWorld : DocumentView → Option (List ℕ) → ProgramFault → Type 0
IsUnknownWorld d text no_memory = Unit {0}
IsUnknownWorld d text (NoWorld name listing) = (option_map text_of name ≡ text) × (string_bytes listing ≡ world_listing d)
IsUnknownWorld d text f = ⊥

-- and that where none is selected by a name
abbrev pub IsUnselected : DocumentView → List ℕ → RequestFault → ProgramFault → Type 0
IsUnselected d name (UnknownWorld n) g = IsUnknownWorld d (Some name) g
IsUnselected d name f g = g ≡ of_selection (of_request f)

-- why a command has no worlds in a text
abbrev pub IsWorldsCause : CommandView → List ℕ → ProgramFault → Type 0
IsWorldsCause c text no_memory = Unit {0}
IsWorldsCause c text (Selection f) = (d : DocumentView) × IsDocumentOf (document text) d × IsSelectionCause d c.world f
IsWorldsCause c text (NoWorld name listing) = (d : DocumentView) × IsDocumentOf (document text) d × IsNotMeant d c.world name listing
IsWorldsCause c text (Resolve x) =
    (d : DocumentView) × (world : ℕ) × IsDocumentOf (document text) d × IsMeant d c.world world
    × (x.fault ≢ resolve_memory) × IsResolveCause d.parts x.fault × IsPartExplanation d.parts x.fault x.place
IsWorldsCause c text f = IsTextCause text f
