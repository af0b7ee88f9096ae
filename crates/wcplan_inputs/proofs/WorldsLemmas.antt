-- Why there are no worlds, or none of the name, in the file of a command.
use Rattle.std.proofs.Common.{◌≡◌, ◌≢◌, ◌<◌, ℕ, List, length, Option, Some, None, Result, Ok, Err, IfOk, IfErr, sym, ◌∙◌, ap, subst, inl, inr}
use Rattle.std.proofs.lemmas.Option.{same_Some}
use Rattle.json.specs.Json.{document}
use Rattle.wc_json.specs.Document.{DocumentView}
use Rattle.wc_resolve.specs.Fault.{IsResolveCause}
use Rattle.wc_resolve.specs.Explain.{IsPlace}
use Rattle.wc_resolve.specs.Refusals.{IsRefusal, Refusal}
use Rattle.wc_resolve.specs.Kinds.{ResolveView}
use Rattle.wc_resolve.specs.declared.explain.Part.{Part}
use Rattle.wc_resolve.specs.declared.fault.ResolveFault.{ResolveFault}
use Rattle.wc_resolve.specs.declared.fault.ResolveFault.TheVariants.{Memory as resolve_memory}
use Rattle.wc_selection.proofs.WorldLemmas.{selected_there}
use Rattle.wc_selection.specs.Worlds.{IsWorldCause}
use Rattle.wc_selection.specs.declared.fault.RequestFault.{RequestFault}
use Rattle.wc_selection.specs.declared.fault.RequestFault.TheVariants.{Memory as request_memory, UnknownWorld}
use Rattle.wc_program.specs.Files.{Held}
use Rattle.wcplan_inputs.specs.Arguments.{CommandView}
use Rattle.wcplan_inputs.specs.ModuleKeys.{IsMeant, IsNoneMeant}
use Rattle.wcplan_inputs.specs.ExplainedPart.{IsPartExplanation, part_name}
use Rattle.wcplan_inputs.specs.Private.Causes.{AreWorldsOf, IsExplainedPlace, IsMeaningCause, IsOfFault, IsOfRefused, IsUnknownWorld, IsUnselected, IsWorldsCause}
use Rattle.wcplan_inputs.specs.Inputs.{IsInputCause, AreWorldsIn, HoldsInput, IsDocumentIn, IsDocumentOf, IsReadFault, IsTextCause, Reads}
use Rattle.wcplan_inputs.specs.declared.explained_part.ExplainedPart.{ExplainedPart}
use Rattle.wcplan_inputs.specs.declared.fault.ProgramFault.{ProgramFault}
use Rattle.wcplan_inputs.specs.declared.fault.ProgramFault.TheVariants.{Memory, CannotRead, NotText, NotJson, RepeatedMember, Json as json_fault, Selection, NoAdapter, NoWorld, NoExport, NoImport, Resolve, Dedupe, Exporter, Encoder, World, Plan, Ways, CannotMake, CannotWrite, Output}

-- a file that could not be read, or is no text
pub unread : (c : CommandView) (before : Option Held) (fails : Reads) (f : ProgramFault) → IsReadFault c.worlds fails f → IsInputCause c before fails f
unread c before fails Memory h = tt
unread c before fails (CannotRead path p) h = inl h
unread c before fails f h = absurd h

-- a text has no worlds
pub text_cause : (c : CommandView) (text : List ℕ) (f : ProgramFault) → IsTextCause text f → IsWorldsCause c text f
text_cause c text Memory h = tt
text_cause c text (Selection f) h = absurd h
text_cause c text (NoWorld name listing) h = absurd h
text_cause c text (Resolve x) h = absurd h
text_cause c text f h = h

-- no world is meant, or it can't be told which one has the name

pub unknown_world : (d : DocumentView) (text : Option (List ℕ)) (f : ProgramFault) → IsNoneMeant d text → IsUnknownWorld d text f → IsMeaningCause d text f
unknown_world d text Memory none h = tt
unknown_world d text (NoWorld name listing) none h = (h.0, none, h.1)
unknown_world d text f none h = absurd h

pub unselected_cause : (d : DocumentView) (name : List ℕ) (f : RequestFault) (g : ProgramFault) → IsWorldCause d name f → IsUnselected d name f g
    → IsMeaningCause d (Some name) g
unselected_cause d name request_memory g cause h = subst (IsMeaningCause d (Some name)) (sym h) tt
unselected_cause d name (UnknownWorld n) g cause h = unknown_world d (Some name) g (cause.0, cause.1.1, cause.1.2) h
unselected_cause d name f g cause h = subst (IsMeaningCause d (Some name)) (sym h) cause

pub unselected : (c : CommandView) (text : List ℕ) (d : DocumentView) (f : ProgramFault) → IsDocumentOf (document text) d
    → IsMeaningCause d c.world f → IsWorldsCause c text f
unselected c text d Memory read cause = tt
unselected c text d (Selection f) read cause = (d, read, cause)
unselected c text d (NoWorld name listing) read cause = (d, read, cause)
unselected c text d f read cause = absurd cause

-- a world that is meant is there
pub meant_there : (d : DocumentView) (name : Option (List ℕ)) (world : ℕ) → IsMeant d name world → world < length d.parts.worlds
meant_there d None world is = is.0.0
meant_there d (Some name) world is = selected_there d name world is

-- they are not well-formed: what the fault is about
about_part : (r : ResolveView) (f : ResolveFault) (place : Option Part) (x : Option ExplainedPart) (p : Part) → place ≡ Some p → IsResolveCause r f
    → IsPlace r f p → IsExplainedPlace r place x → IsPartExplanation r f x
about_part r f None x p is cause at h = absurd (let bad : ⊥ = cc is in bad)
about_part r f (Some part) None p is cause at h = absurd h
about_part r f (Some part) (Some x) p is cause at h = record {
  cause = cause;
  place = let same : part ≡ p = same_Some part p is in subst (IsPlace r f) (sym (h.0 ∙ same)) at;
  named = h.1 ∙ ap (part_name r) (sym h.0);
}

of_fault : (c : CommandView) (text : List ℕ) (d : DocumentView) (world : ℕ) (f : ResolveFault) (place : Option Part) (p : Part) (g : ProgramFault)
    → IsDocumentOf (document text) d → IsMeant d c.world world → place ≡ Some p → IsResolveCause d.parts f → IsPlace d.parts f p → IsOfFault d.parts f place g
    → IsWorldsCause c text g
of_fault c text d world f place p Memory read meant is cause at h = tt
of_fault c text d world f place p (Resolve x) read meant is cause at h =
    let named = about_part d.parts f place x.place p is cause at h.2 in
    let here : (f ≢ resolve_memory) × IsResolveCause d.parts f × IsPartExplanation d.parts f x.place = (h.1, cause, named) in
    let moved = subst (λ k. (k ≢ resolve_memory) × IsResolveCause d.parts k × IsPartExplanation d.parts k x.place) (sym h.0) here in
    (d, world, read, meant, moved.0, moved.1, moved.2)
of_fault c text d world f place p g read meant is cause at h = absurd h

pub resolve_cause : (c : CommandView) (text : List ℕ) (d : DocumentView) (world : ℕ) (x : Refusal) (g : ProgramFault) → IsDocumentOf (document text) d
    → IsMeant d c.world world → IsRefusal d.parts x → IsOfRefused d.parts x g → IsWorldsCause c text g
resolve_cause c text d world x Memory read meant h is = tt
resolve_cause c text d world x (Resolve y) read meant (inl memory) is = absurd (is.1 memory.0)
resolve_cause c text d world x (Resolve y) read meant (inr (p, at, cause, place)) is =
    of_fault c text d world x.fault x.place p (Resolve y) read meant at cause place is
resolve_cause c text d world x g read meant h is = absurd is

-- the worlds of a text, where this is that of the command's file

in_file : (before : Option Held) (path text : List ℕ) (d : DocumentView) → HoldsInput before path text → IsDocumentOf (document text) d → IsDocumentIn before path d
in_file before path text d held read = record { text = text; read = held; document = read }

pub there : (c : CommandView) (before : Option Held) (text : List ℕ) (r : ResolveView) (world : ℕ) → HoldsInput before c.worlds text
    → AreWorldsOf c (document text) r world → AreWorldsIn c before r world
there c before text r world held (d, read, selected, formed, same) = (d, in_file before c.worlds text d held read, selected, formed, same)

pub file_cause : (c : CommandView) (before : Option Held) (fails : Reads) (text : List ℕ) (f : ProgramFault) → HoldsInput before c.worlds text
    → IsWorldsCause c text f → IsInputCause c before fails f
file_cause c before fails text Memory held h = tt
file_cause c before fails text (CannotRead path p) held h = absurd h
file_cause c before fails text (NotText likeness) held h = absurd h
file_cause c before fails text (NotJson at likeness) held h = (text, held, h)
file_cause c before fails text (RepeatedMember path) held h = (text, held, h)
file_cause c before fails text (json_fault f) held h = (text, held, h)
file_cause c before fails text (Selection f) held h = inl (h.0, in_file before c.worlds text h.0 held h.1, h.2)
file_cause c before fails text (NoWorld name listing) held h = (h.0, in_file before c.worlds text h.0 held h.1, h.2)
file_cause c before fails text (NoAdapter name listing nearest) held h = absurd h
file_cause c before fails text (NoExport key listing) held h = absurd h
file_cause c before fails text (NoImport key listing nearest) held h = absurd h
file_cause c before fails text (Resolve x) held (d, world, read, selected, real, cause, about) =
    (d, world, in_file before c.worlds text d held read, selected, real, cause, about)
file_cause c before fails text (Dedupe x) held h = absurd h
file_cause c before fails text (Exporter f) held h = absurd h
file_cause c before fails text (Encoder f) held h = absurd h
file_cause c before fails text (World x) held h = absurd h
file_cause c before fails text (Plan x) held h = absurd h
file_cause c before fails text (Ways f) held h = absurd h
file_cause c before fails text (CannotMake path p) held h = absurd h
file_cause c before fails text (CannotWrite path p) held h = absurd h
file_cause c before fails text Output held h = absurd h

-- the same of an answer

pub all_there : {M E : Type 0} (c : CommandView) (before : Option Held) (text : List ℕ) (resolve : M → ResolveView) (world : M → ℕ) (r : Result M E)
    → HoldsInput before c.worlds text → IfOk r (λ m. AreWorldsOf c (document text) (resolve m) (world m)) → IfOk r (λ m. AreWorldsIn c before (resolve m) (world m))
all_there c before text resolve world (Ok m) held h = there c before text (resolve m) (world m) held h
all_there c before text resolve world (Err f) held h = tt

pub some_cause : {M : Type 0} (c : CommandView) (before : Option Held) (fails : Reads) (text : List ℕ) (r : Result M ProgramFault)
    → HoldsInput before c.worlds text → IfErr r (IsWorldsCause c text) → IfErr r (IsInputCause c before fails)
some_cause c before fails text (Ok m) held h = tt
some_cause c before fails text (Err f) held h = file_cause c before fails text f held h
