-- Why an encoder could not be made of the files of a command.
use Rattle.std.proofs.Common.{◌≡◌, ℕ, List, map, Option, refl, sym, ◌∙◌, ap, subst, length, get_or, ◌<◌, Contains, inl, inr}
use Rattle.std.specs.Borrow.{Bor}
use Rattle.wc_encoder.specs.EncoderParts.{EncoderView}
use Rattle.wc_encoder.specs.Fault.{IsEncoderCause}
use Rattle.wc_encoder.specs.declared.fault.EncoderFault.{EncoderFault}
use Rattle.wc_encoder.specs.declared.fault.EncoderFault.TheVariants.{Memory as encoder_memory}
use Rattle.wc_json.specs.Document.{DocumentView}
use Rattle.wc_resolve.specs.Kinds.{ResolveView}
use Rattle.wc_resolve.specs.WellFormed.{IsWellFormed as IsResolve}
use Rattle.wc_selection.specs.KeyNames.{request_keys}
use Rattle.wc_selection.specs.Keys.{NamedKey, texts_of}
use Rattle.wc_maps.specs.Texts.{second_parts, text_pair}
use Rattle.wcplan_inputs.specs.declared.fault.SelectionFault.{SelectionFault}
use Rattle.wcplan_inputs.specs.declared.fault.SelectionFault.TheVariants.{Request, UnknownAdapter}
use Rattle.wc_selection.specs.declared.fault.RequestFault.TheVariants.{UnknownKey}
use Rattle.std.specs.List.{AllZip}
use Rattle.wc_dedupe.specs.Dedupe.{IsDedupeCause, IsDedupePlace}
use Rattle.wc_dedupe.specs.Renaming.{RenameView}
use Rattle.wc_dedupe.specs.declared.fault.DedupeFault.{DedupeFault}
use Rattle.wc_read.specs.declared.place.ReadPlace.{ReadPlace}
use Rattle.wc_texts.specs.declared.refused.Refused.{Refused}
use Rattle.wc_options.proofs.AdapterLemmas.{Pairs, path_at}
use Rattle.wcplan_inputs.specs.Fault.{of_encoder, of_exporter}
use Rattle.wcplan_inputs.specs.Private.Inputs.{IsUnchecked}
use Rattle.wcplan_inputs.specs.Private.Causes.{IsOfMain}
use Rattle.wcplan_inputs.specs.ModuleKeys.{AreNamesThere, IsMeant, IsNamesCause, adapter_names, request_of}
use Rattle.wc_program.specs.Files.{Held}
use Rattle.wcplan_inputs.specs.Arguments.{CommandView}
use Rattle.wcplan_inputs.specs.AdapterNames.{IsNoAdapter}
use Rattle.wcplan_inputs.specs.SharedKeys.{AreUnshared, ExportScope, scope_of}
use Rattle.wcplan_inputs.specs.declared.exporter_fault.ExporterFault.{ExporterFault}
use Rattle.wcplan_inputs.specs.declared.exporter_fault.ExporterFault.TheVariants.{Memory as exporter_memory}
use Rattle.wcplan_inputs.specs.Asked.{IsAskedCause, IsAskedThere, IsUnasked}
use Rattle.wcplan_inputs.specs.Listing.{IsListedNear}
use Rattle.wcplan_inputs.specs.Inputs.{IsInputCause, AreUnsharedIn, AreWorldsIn, HoldsInput, IsAdaptersCause, IsChosen, IsDocumentIn, IsFileIn, IsListed, IsListedCause, IsMainCause, IsMainIn, IsNoExport, IsPartsCause, IsPartsOf, IsPartsWith, IsReadFault, Reads}
use Rattle.wcplan_inputs.specs.declared.fault.ProgramFault.{ProgramFault}
use Rattle.wcplan_inputs.specs.declared.fault.ProgramFault.TheVariants.{Memory, CannotRead, Selection, NoAdapter, NoExport, NoImport, Dedupe, Exporter}

-- a fault of renaming is the cause of a fault of the main module
pub main_cause : (before : Option Held) (fails : Reads) (path bytes : List ℕ) (x : Refused DedupeFault ReadPlace) (g : ProgramFault)
    → HoldsInput before path bytes → IsDedupeCause bytes x.fault → IsDedupePlace bytes x.fault x.place → IsOfMain x g → IsMainCause before fails path g
main_cause before fails path bytes x Memory read cause place is = tt
main_cause before fails path bytes x (Dedupe y) read cause place is =
    subst (λ z. IsMainCause before fails path (Dedupe z)) (sym is.0) (bytes, read, is.1, cause, place)
main_cause before fails path bytes x g read cause place is = absurd is

-- and so is that of its reading
pub unread_main : (before : Option Held) (fails : Reads) (path : List ℕ) (f : ProgramFault) → IsReadFault path fails f → IsMainCause before fails path f
unread_main before fails path Memory h = tt
unread_main before fails path (CannotRead at p) h = h
unread_main before fails path f h = absurd h

-- a fault of the main module, of adapters, or of what they have to export is one of the parts of an encoder
pub main_parts : (c : CommandView) (before : Option Held) (fails : Reads) (s : ExportScope) (keys : List NamedKey) (f : ProgramFault)
    → IsMainCause before fails c.main f → IsPartsCause c before fails s keys f
main_parts c before fails s keys (Exporter f) h = absurd h
main_parts c before fails s keys (CannotRead at p) h = (inl h.0, h.1)
main_parts c before fails s keys f h = h

pub adapters_parts : (c : CommandView) (before : Option Held) (fails : Reads) (s : ExportScope) (keys : List NamedKey) (f : ProgramFault)
    → IsAdaptersCause c fails f → IsPartsCause c before fails s keys f
adapters_parts c before fails s keys Memory h = tt
adapters_parts c before fails s keys (CannotRead at p) h = (inr h.0, h.1)
adapters_parts c before fails s keys f h = absurd h

pub exporter_parts : (c : CommandView) (before : Option Held) (fails : Reads) (s : ExportScope) (keys : List NamedKey) (bytes main : List ℕ)
    (renames : List RenameView) (adapters : List (List ℕ × List ℕ)) (f : ExporterFault) → IsMainIn before c.main bytes main renames
    → AllZip (IsFileIn before) c.adapters adapters → AreUnshared c s main adapters keys f → IsPartsCause c before fails s keys (of_exporter f)
exporter_parts c before fails s keys bytes main renames adapters exporter_memory read files h = tt
exporter_parts c before fails s keys bytes main renames adapters f read files h = (
  (λ e. cc),
  record { bytes = bytes; main = main; renames = renames; adapters = adapters; main_read = read; adapters_read = files; unshared = h },
)

-- a fault of parts, with the world that is chosen
pub parts_cause : (c : CommandView) (before : Option Held) (fails : Reads) (d : DocumentView) (r : ResolveView) (world : ℕ) (keys : List NamedKey)
    (f : ProgramFault) → IsChosen c before d world → r ≡ d.parts → keys ≡ request_keys (request_of c) r world
    → IsPartsCause c before fails (scope_of c r world) keys f → IsInputCause c before fails f
parts_cause c before fails d r world keys Memory chosen is keyed h = tt
parts_cause c before fails d r world keys (CannotRead path p) chosen is keyed h = inr ((d, world, chosen), h)
parts_cause c before fails d r world keys (Dedupe x) chosen is keyed h = ((d, world, chosen), h)
parts_cause c before fails d r world keys (Exporter f) chosen is keyed h = (
  d,
  world,
  chosen,
  h.0,
  subst (λ q. AreUnsharedIn c before (scope_of c q world) (request_keys (request_of c) q world) f) is
      (subst (λ k. AreUnsharedIn c before (scope_of c r world) k f) keyed h.1),
)
parts_cause c before fails d r world keys f chosen is keyed h = absurd h

-- an adapter that could not be read
pub path_cause : (c : CommandView) (fails : Reads) (pairs : Pairs) (k : ℕ) (d : Bor (List ℕ) × Bor (List ℕ)) → k < length pairs
    → map text_pair pairs ≡ c.adapters → (f : ProgramFault) → IsReadFault (get_or pairs k d).1.now fails f → IsAdaptersCause c fails f
path_cause c fails pairs k d lt is Memory h = tt
path_cause c fails pairs k d lt is (CannotRead path p) h = (
  subst (Contains (second_parts c.adapters)) (sym h.0) (subst (λ (l : List (List ℕ × List ℕ)). Contains (second_parts l) (get_or pairs k d).1.now) is
      (path_at pairs k d lt)),
  h.1,
)
path_cause c fails pairs k d lt is f h = absurd h

-- causes of faults that come before there is an encoder

pub names_cause : (c : CommandView) (before : Option Held) (fails : Reads) (d : DocumentView) (world : ℕ) (f : ProgramFault)
    → IsDocumentIn before c.worlds d → IsMeant d c.world world → IsResolve d.parts
    → IsListedCause c (request_keys (request_of c) d.parts world) f → IsInputCause c before fails f
names_cause c before fails d world Memory document selected formed cause = tt
names_cause c before fails d world (Selection f) document selected formed cause = inr (d, world, document, selected, formed, cause)
names_cause c before fails d world (NoAdapter name listing nearest) document selected formed cause = (d, world, document, selected, formed, cause)
names_cause c before fails d world (NoExport key listing) document selected formed cause = (d, world, document, selected, formed, cause)
names_cause c before fails d world f document selected formed cause = absurd cause

-- a key that isn't there
unknown_listed : (c : CommandView) (keys : List NamedKey) (key : Bor (List ℕ)) (g : ProgramFault) → IsNamesCause c keys (Request (UnknownKey key))
    → IsNoExport (texts_of keys) key g → IsListedCause c keys g
unknown_listed c keys key Memory cause h = tt
unknown_listed c keys key (NoExport k listing) cause h = (subst (λ z. IsNamesCause c keys (Request (UnknownKey z))) (sym h.0) cause, h.1)
unknown_listed c keys key g cause h = absurd h

-- an adapter that isn't there
unknown_adapter : (c : CommandView) (keys : List NamedKey) (name : Bor (List ℕ)) (g : ProgramFault) → IsNamesCause c keys (UnknownAdapter name)
    → IsNoAdapter (adapter_names c) name g → IsListedCause c keys g
unknown_adapter c keys name Memory cause h = tt
unknown_adapter c keys name (NoAdapter n listing nearest) cause h = (
  subst (λ z. IsNamesCause c keys (UnknownAdapter z)) (sym h.0) cause,
  subst (λ z. IsListedNear (adapter_names c) z.now listing nearest) (sym h.0) h.1,
)
unknown_adapter c keys name g cause h = absurd h

-- another fault of names
selection_listed : (c : CommandView) (keys : List NamedKey) (f g : SelectionFault) → IsNamesCause c keys f → IsListed c f keys (Selection g)
    → IsListedCause c keys (Selection g)
selection_listed c keys (Request (UnknownKey key)) g cause listed = absurd listed
selection_listed c keys (UnknownAdapter name) g cause listed = absurd listed
selection_listed c keys f g cause listed = subst (λ s. IsListedCause c keys (Selection s)) (sym listed) cause

pub listed_cause : (c : CommandView) (keys : List NamedKey) (f : SelectionFault) (g : ProgramFault) → IsNamesCause c keys f
    → IsListed c f keys g → IsListedCause c keys g
listed_cause c keys (Request (UnknownKey key)) g cause listed = unknown_listed c keys key g cause listed
listed_cause c keys (UnknownAdapter name) g cause listed = unknown_adapter c keys name g cause listed
listed_cause c keys f Memory cause listed = tt
listed_cause c keys f (Selection g) cause listed = selection_listed c keys f g cause listed
listed_cause c keys f g cause listed = absurd listed

pub encoder_cause : (c : CommandView) (before : Option Held) (fails : Reads) (e : EncoderView) (f : EncoderFault) → IsPartsOf c before e → IsEncoderCause e f
    → IsInputCause c before fails (of_encoder f)
encoder_cause c before fails e encoder_memory parts cause = tt
encoder_cause c before fails e f parts cause = (e, parts, (λ e. cc), cause)

pub parts_of : (c : CommandView) (before : Option Held) (d : DocumentView) (world : ℕ) (keys : List NamedKey) (e : EncoderView) → IsChosen c before d world
    → e.world ≡ world → e.resolve ≡ d.parts → keys ≡ request_keys (request_of c) d.parts world → IsPartsWith c before keys e → IsPartsOf c before e
parts_of c before d world keys e chosen at is keyed parts = record {
  document = d;
  chosen = subst (IsChosen c before d) (sym at) chosen;
  resolve = is;
  parts = subst (λ (k : List NamedKey). IsPartsWith c before k e) (keyed ∙ (λ i. request_keys (request_of c) (sym is i) (sym at i))) parts;
}

-- the world that is chosen, and what is encoded for it, of the worlds that were read

module _ (c : CommandView) (before : Option Held) (r : ResolveView) (world : ℕ) (there : AreWorldsIn c before r world) where
  keys_of : (keys : List NamedKey) → keys ≡ request_keys (request_of c) r world → keys ≡ request_keys (request_of c) there.0.parts world
  keys_of keys keyed = keyed ∙ ap (λ q. request_keys (request_of c) q world) there.4

  pub listed_worlds : (fails : Reads) (keys : List NamedKey) (f : ProgramFault) → keys ≡ request_keys (request_of c) r world → IsListedCause c keys f
      → IsInputCause c before fails f
  listed_worlds fails keys f keyed cause =
      names_cause c before fails there.0 world f there.1 there.2 there.3 (subst (λ (k : List NamedKey). IsListedCause c k f) (keys_of keys keyed) cause)

  -- no import is asked about
  pub asked_worlds : (fails : Reads) (f : ProgramFault) → IsAskedCause c.why r world f → IsInputCause c before fails f
  asked_worlds fails Memory h = tt
  asked_worlds fails (NoImport key listing nearest) h =
      (there.0, world, there.1, there.2, there.3, subst (λ q. IsUnasked c.why q world key listing nearest) there.4 h)
  asked_worlds fails f h = absurd h

  -- names, keys, or what is asked about are not there
  pub unchecked_worlds : (fails : Reads) (f : ProgramFault) → IsUnchecked c r world f → IsInputCause c before fails f
  unchecked_worlds fails f (inl listed) = listed_worlds fails (request_keys (request_of c) r world) f refl listed
  unchecked_worlds fails f (inr asked) = asked_worlds fails f asked

  pub chosen_worlds : (keys : List NamedKey) → keys ≡ request_keys (request_of c) r world → AreNamesThere c keys → IsAskedThere c.why r world
      → IsChosen c before there.0 world
  chosen_worlds keys keyed named asked = record {
    worlds = there.1;
    selected = there.2;
    resolve = there.3;
    named = subst (AreNamesThere c) (keys_of keys keyed) named;
    asked = subst (λ q. IsAskedThere c.why q world) there.4 asked;
  }

  pub parts_with : (keys : List NamedKey) (e : EncoderView) → IsChosen c before there.0 world → keys ≡ request_keys (request_of c) r world → e.world ≡ world
      → e.resolve ≡ r → IsPartsWith c before keys e → IsPartsOf c before e
  parts_with keys e chosen keyed at is parts = parts_of c before there.0 world keys e chosen at (is ∙ there.4) (keys_of keys keyed) parts
