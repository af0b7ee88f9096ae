-- Causes of faults, step by step.
use Rattle.std.proofs.Common.{◌≡◌, ◌∙◌, ◌++◌, ℕ, ◌<◌, Bool, false, List, length, Option, None, Some, unwrap_or, ap, inl, inr, refl, subst, sym}
use Rattle.std.specs.Str.{IsUtf8}
use Rattle.json.specs.Json.{document}
use Rattle.std.specs.Option.{option_map}
use Rattle.wc_dedupe.specs.Dedupe.{IsDedupeCause, IsDeduped, renames_in, IsDedupePlace}
use Rattle.wc_dedupe.specs.Renaming.{RenameView}
use Rattle.wc_dedupe.specs.declared.fault.DedupeFault.{DedupeFault}
use Rattle.wc_dedupe.specs.declared.fault.DedupeFault.TheVariants.{Memory as dedupe_memory}
use Rattle.wc_adapters.specs.Adapters.{AdapterView}
use Rattle.wc_encoder.specs.EncoderParts.{EncoderView}
use Rattle.wc_encoder.specs.Fault.{IsEncoderCause}
use Rattle.wc_encoder.specs.declared.fault.EncoderFault.{EncoderFault}
use Rattle.wc_encoder.specs.declared.fault.EncoderFault.TheVariants.{Memory as encoder_memory}
use Rattle.wc_json.specs.FromJson.{IsCauseOf}
use Rattle.wc_json.specs.Places.{IsFaultPlace}
use Rattle.wc_json.specs.declared.places.JsonPlace.{JsonPlace}
use Rattle.wc_json.specs.declared.fault.JsonFault.{JsonFault}
use Rattle.wc_json.specs.declared.fault.JsonFault.TheVariants.{Memory as json_memory}
use Rattle.wc_read.specs.declared.place.ReadPlace.{ReadPlace}
use Rattle.wc_resolve.specs.Views.{KeyView}
use Rattle.wc_resolve.specs.WellFormed.{IsWellFormed}
use Rattle.wc_resolve.specs.Kinds.{ResolveView}
use Rattle.wc_resolve.specs.Fault.{IsResolveCause}
use Rattle.wc_resolve.specs.Explain.{IsPlace}
use Rattle.wc_resolve.specs.declared.explain.Part.{Part}
use Rattle.wc_resolve.specs.declared.fault.ResolveFault.{ResolveFault}
use Rattle.wc_resolve.specs.declared.fault.ResolveFault.TheVariants.{Memory as resolve_memory}
use Rattle.wc_json.specs.Document.{DocumentView}
use Rattle.wc_json.specs.Messages.{MessageView, WorldNameView, at_index, message, of_name}
use Rattle.wc_selection.specs.Keys.{export_keys, texts_of}
use Rattle.wc_selection.specs.ModuleKeys.{AreKeysThere}
use Rattle.wc_selection.specs.Requests.{given_keys}
use Rattle.wc_selection.specs.TaskHook.{no_task_hook}
use Rattle.wc_selection.specs.Worlds.{IsWorldCause}
use Rattle.wc_selection.specs.declared.fault.RequestFault.{RequestFault}
use Rattle.wc_selection.specs.declared.fault.RequestFault.TheVariants.{PackageRange, UnknownWorld, SeveralWorlds}
use Rattle.wc_calls.specs.AskedKeys.{keys_in, request_of}
use Rattle.wc_calls.specs.Encoders.{AreChosen, AreExporters, IsMessage, IsPartsOf, IsWorldNamed}
use Rattle.wc_calls.specs.MessageFault.{AreKeysKnown, IsAskedCause, IsKeyCause, IsNameCause, IsNoEncoderCause, IsOfChosen, IsPartsCause, IsWorldNameCause, of_dedupe, of_encoder, of_json, of_resolve}
use Rattle.wc_calls.specs.Private.AskedKeys.{IsExportersCause}
use Rattle.wc_calls.specs.Private.Refusals.{AreNoParts, IsMainRefused, IsModulesRefusal, IsNamePlaced, IsNameRefusal, IsNoEncoder, IsPartsRefused, IsPlaced, IsPlacedIn, IsTextRefused, IsUnselected, IsWithoutPlace, IsWorldNameRefusal, IsWorldRequest, RefusedMessage}
use Rattle.wc_calls.specs.declared.message_fault.MessageFault.{MessageFault}
use Rattle.wc_calls.specs.declared.message_fault.MessageFault.TheVariants.{Memory, NotText, Json, UnknownWorld as unknown_world, Lengths, Resolve, AdapterTwice, Dedupe, World, SeveralWorlds as several_worlds, PackageRange as package_range, UnknownKey, SeveralKeys, RepeatedKey, Plan}
use Rattle.wc_calls.specs.declared.refusals.MessagePlace.{MessagePlace}
use Rattle.wc_calls.specs.declared.refusals.MessagePlace.TheVariants as place

-- a world that is not selected

unselected : (d : DocumentView) (name : List ℕ) (f : RequestFault) (g : MessageFault) → IsWorldCause d name f → IsWorldRequest f g → IsNameCause d name g
unselected d name f Memory h is = tt
unselected d name PackageRange package_range h is = h
unselected d name (UnknownWorld text) (unknown_world n) h is = (is ∙ h.1.0, (h.0, h.1.1, h.1.2))
unselected d name (SeveralWorlds text) (several_worlds n) h is = (is ∙ h.1.0, (h.0, h.1.1))
unselected d name f g h is = absurd is

pub name_refused : (d : DocumentView) (name : List ℕ) (f : RequestFault) (x : RefusedMessage) → IsWorldCause d name f → IsUnselected d f x
    → IsNameRefusal d name x
name_refused d name f x h is = (unselected d name f x.fault h is.0, is.1)

name_cause : (m : MessageView) (modules : List ℕ) (name : WorldNameView) → m.world ≡ name → (f : MessageFault) → IsWorldNameCause m.document name f
    → IsPartsCause m modules f
name_cause m modules (at_index n) is f h = absurd h
name_cause m modules (of_name name) is Memory h = tt
name_cause m modules (of_name name) is (unknown_world n) h = subst (λ w. IsWorldNameCause m.document w (unknown_world n)) (sym is) h
name_cause m modules (of_name name) is (several_worlds n) h = subst (λ w. IsWorldNameCause m.document w (several_worlds n)) (sym is) h
name_cause m modules (of_name name) is package_range h = subst (λ w. IsWorldNameCause m.document w package_range) (sym is) h
name_cause m modules (of_name name) is f h = absurd h

world_cause : (m : MessageView) (modules : List ℕ) (f : MessageFault) → IsWorldNameCause m.document m.world f → IsPartsCause m modules f
world_cause m modules f h = name_cause m modules m.world refl f h

-- faults of the parts of an encoder

pub fewer_bytes : (m : MessageView) (modules : List ℕ) (world : ℕ) → IsWorldNamed m.document m.world world → length modules < m.size → IsPartsCause m modules Lengths
fewer_bytes m modules world named fewer = inl (world, named, fewer)

pub resolve_cause : (m : MessageView) (modules main others : List ℕ) (world : ℕ) (f : ResolveFault) → AreChosen m modules world main others
    → IsResolveCause m.document.parts f → IsPartsCause m modules (of_resolve f)
resolve_cause m modules main others world resolve_memory chosen h = tt
resolve_cause m modules main others world f chosen h = ((λ same. cc), (world, main, others, chosen, h))

-- why there are no parts of an encoder, with what this is about

refused_for : (m : MessageView) (modules : List ℕ) (x : RefusedMessage) (f : MessageFault) (p : Option MessagePlace) → x.fault ≡ f → x.place ≡ p
    → IsPartsCause m modules f → IsPlacedIn m modules f p → AreNoParts m modules x
refused_for m modules x f p fault is cause at = (
  subst (IsPartsCause m modules) (sym fault) cause,
  subst (λ g. IsPlacedIn m modules g x.place) (sym fault) (subst (IsPlacedIn m modules f) (sym is) at),
)

part_placed : (m : MessageView) (modules : List ℕ) (f : ResolveFault) (p : Part) → IsPlace m.document.parts f p
    → IsPlacedIn m modules (of_resolve f) (Some (place.Part p))
part_placed m modules resolve_memory p at = absurd at
part_placed m modules f p at = at

pub parts_refused : (m : MessageView) (modules main others : List ℕ) (world : ℕ) (x : RefusedMessage) → AreChosen m modules world main others
    → IsPartsRefused m.document.parts x → AreNoParts m modules x
parts_refused m modules main others world x chosen (r, inl memory, (fault, at)) =
    refused_for m modules x Memory None (fault ∙ ap of_resolve memory.0) (at ∙ ap (option_map place.Part) memory.1) tt refl
parts_refused m modules main others world x chosen (r, inr (p, is, cause, there), (fault, at)) =
    refused_for m modules x (of_resolve r.fault) (Some (place.Part p)) fault (at ∙ ap (option_map place.Part) is)
    (resolve_cause m modules main others world r.fault chosen cause) (part_placed m modules r.fault p there)

name_placed : (m : MessageView) (modules : List ℕ) (name : WorldNameView) (f : MessageFault) (p : Option MessagePlace) → IsWorldNameCause m.document name f
    → IsNamePlaced m.document f p → IsPlacedIn m modules f p
name_placed m modules (at_index n) f p h at = absurd h
name_placed m modules (of_name name) (Resolve f) p h at = absurd h
name_placed m modules (of_name name) (Dedupe f) p h at = absurd h
name_placed m modules (of_name name) f p h at = at

pub world_refused : (m : MessageView) (modules : List ℕ) (x : RefusedMessage) → IsWorldNameRefusal m.document m.world x → AreNoParts m modules x
world_refused m modules x (h, at) = (world_cause m modules x.fault h, name_placed m modules m.world x.fault x.place h at)

pub lengths_refused : (m : MessageView) (modules : List ℕ) (world : ℕ) (x : RefusedMessage) → IsWorldNamed m.document m.world world → length modules < m.size
    → IsWithoutPlace Lengths x → AreNoParts m modules x
lengths_refused m modules world x named fewer (fault, none) =
    refused_for m modules x Lengths None fault none (fewer_bytes m modules world named fewer) refl

pub memory_refused : (m : MessageView) (modules : List ℕ) (x : RefusedMessage) → IsWithoutPlace Memory x → AreNoParts m modules x
memory_refused m modules x (fault, none) = refused_for m modules x Memory None fault none tt refl

exporters_placed : (r : ResolveView) (world : ℕ) (m : MessageView) (modules others : List ℕ) (f : MessageFault)
    → IsExportersCause r world m.exports m.adapters others f → IsPlacedIn m modules f None
exporters_placed r world m modules others (unknown_world name) h = absurd h.1
exporters_placed r world m modules others (several_worlds name) h = absurd h.1
exporters_placed r world m modules others (Resolve f) h = absurd h.1
exporters_placed r world m modules others (Dedupe f) h = absurd h.1
exporters_placed r world m modules others f h = refl

encoder_placed : (m : MessageView) (modules : List ℕ) (f : EncoderFault) → IsPlacedIn m modules (of_encoder f) None
encoder_placed m modules encoder_memory = refl
encoder_placed m modules f = refl

-- in parts that are well-formed
module _ (m : MessageView) (modules main others : List ℕ) (world : ℕ) (chosen : AreChosen m modules world main others) (r : ResolveView) (is : r ≡ m.document.parts)
    (formed : IsWellFormed r) where
  parts_formed : IsWellFormed m.document.parts
  parts_formed = subst IsWellFormed is formed

  key_cause : (f : MessageFault) → IsAskedCause (request_of m.exports m.adapters) (export_keys r world) (keys_in r world m.exports m.adapters) f
      → IsOfChosen m modules (IsKeyCause m f)
  key_cause f h = (
    world,
    main,
    others,
    chosen,
    (
      parts_formed,
      subst (λ (p : ResolveView). IsAskedCause (request_of m.exports m.adapters) (export_keys p world) (keys_in p world m.exports m.adapters) f) is h,
    ),
  )

  known : AreKeysThere (given_keys (request_of m.exports m.adapters)) (texts_of (keys_in r world m.exports m.adapters)) → AreKeysKnown m world
  known h = subst (λ (p : ResolveView). AreKeysThere (given_keys (request_of m.exports m.adapters)) (texts_of (keys_in p world m.exports m.adapters))) is h

  exporters_cause : (f : MessageFault) → IsExportersCause r world m.exports m.adapters others f → IsPartsCause m modules f
  exporters_cause Memory h = tt
  exporters_cause (UnknownKey key) h = key_cause (UnknownKey key) h
  exporters_cause (SeveralKeys key) h = key_cause (SeveralKeys key) h
  exporters_cause (RepeatedKey key) h = key_cause (RepeatedKey key) h
  exporters_cause Lengths h = inr (world, main, others, chosen, (parts_formed, known h.0, h.1))
  exporters_cause (AdapterTwice name) h = (world, main, others, chosen, (parts_formed, known h.0, h.1))
  exporters_cause f h = absurd h.1

  pub exporters_refused : (f : MessageFault) (x : RefusedMessage) → IsExportersCause r world m.exports m.adapters others f → IsWithoutPlace f x
      → AreNoParts m modules x
  exporters_refused f x h (fault, none) =
      refused_for m modules x f None fault none (exporters_cause f h) (exporters_placed r world m modules others f h)

  main_cause : (required : List KeyView) (adapters : List (List ℕ × AdapterView)) (f : DedupeFault)
      → AreExporters r world m.exports m.adapters others required adapters → IsDedupeCause main f → IsPartsCause m modules (of_dedupe f)
  main_cause required adapters dedupe_memory made h = tt
  main_cause required adapters f made h = (
    (λ same. cc),
    (
      world,
      main,
      others,
      chosen,
      (
        parts_formed,
        required,
        adapters,
        subst (λ (p : ResolveView). AreExporters p world m.exports m.adapters others required adapters) is made,
        h,
      ),
    ),
  )

  main_placed : (f : DedupeFault) (p : Option ReadPlace) → IsDedupePlace main f p → IsPlacedIn m modules (of_dedupe f) (option_map place.Bytes p)
  main_placed dedupe_memory None h = refl
  main_placed dedupe_memory (Some p) h = absurd (let bad : ⊥ = cc h in bad)
  main_placed f None h = (world, main, others, chosen, h)
  main_placed f (Some p) h = (world, main, others, chosen, h)

  pub main_refused : (required : List KeyView) (adapters : List (List ℕ × AdapterView)) (x : RefusedMessage)
      → AreExporters r world m.exports m.adapters others required adapters → IsMainRefused main x → AreNoParts m modules x
  main_refused required adapters x made (own, cause, there, (fault, at)) =
      refused_for m modules x (of_dedupe own.fault) (option_map place.Bytes own.place) fault at (main_cause required adapters own.fault made cause)
      (main_placed own.fault own.place there)

  pub modules_refused : (x : RefusedMessage) → IsModulesRefusal r world m.exports m.adapters main others x → AreNoParts m modules x
  modules_refused x (inl memory) = memory_refused m modules x memory
  modules_refused x (inr (inl (f, cause, is))) = exporters_refused f x cause is
  modules_refused x (inr (inr (keys, adapters, made, refused))) = main_refused keys adapters x made refused

  encoder_cause : (e : EncoderView) (f : EncoderFault) → IsPartsOf m modules e → IsEncoderCause e f → IsPartsCause m modules (of_encoder f)
  encoder_cause e encoder_memory made h = tt
  encoder_cause e f made h = ((λ same. cc), e, made, parts_formed, h)

  pub encoder_refused : (e : EncoderView) (f : EncoderFault) (x : RefusedMessage) → IsPartsOf m modules e → IsEncoderCause e f → IsWithoutPlace (of_encoder f) x
      → AreNoParts m modules x
  encoder_refused e f x made h (fault, none) =
      refused_for m modules x (of_encoder f) None fault none (encoder_cause e f made h) (encoder_placed m modules f)

-- the parts of an encoder
pub parts_of : (m : MessageView) (modules main others : List ℕ) (world : ℕ) (wasm given : List ℕ) (renames : Option (List RenameView)) (resolve : ResolveView)
    (keys : List KeyView) (adapters : List (List ℕ × AdapterView)) (rejects grows : Bool) (hook : List ℕ) → AreChosen m modules world main others
    → given ≡ main → IsDeduped main wasm (renames_in renames) → resolve ≡ m.document.parts → AreExporters resolve world m.exports m.adapters others keys adapters
    → rejects ≡ unwrap_or m.reject_legacy_names false → grows ≡ unwrap_or m.realloc_via_memory_grow false → hook ≡ unwrap_or m.task_hook no_task_hook
    → IsPartsOf m modules (record {
      module_bytes = wasm;
      given_bytes = given;
      module_import_map = renames;
      resolve = resolve;
      world = world;
      main_module_exports = keys;
      adapters = adapters;
      reject_legacy_names = rejects;
      realloc_via_memory_grow = grows;
      task_hook = hook;
    })
parts_of m modules main others world wasm given renames resolve keys adapters rejects grows hook chosen is deduped resolved exporting rejecting growing hooked = record {
  others = others;
  cut = chosen.cut ∙ ap (λ (bytes : List ℕ). bytes ++ others) (sym is);
  size = ap length is ∙ chosen.size;
  renamed = subst (λ (bytes : List ℕ). IsDeduped bytes wasm (renames_in renames)) (sym is) deduped;
  resolve = resolved;
  world = chosen.named;
  exporters = subst (λ (r : ResolveView). AreExporters r world m.exports m.adapters others keys adapters) resolved exporting;
  rejects = rejecting;
  grows = growing;
  hook = hooked;
}

-- why a message is no encoder, with what this is about

no_encoder : (text modules : List ℕ) (x : RefusedMessage) (f : MessageFault) → IsNoEncoderCause text modules f → IsPlaced text modules f None → IsWithoutPlace f x
    → IsNoEncoder text modules x
no_encoder text modules x f cause at (fault, none) = (
  subst (IsNoEncoderCause text modules) (sym fault) cause,
  subst (λ g. IsPlaced text modules g x.place) (sym fault) (subst (IsPlaced text modules f) (sym none) at),
)

pub not_text : (text modules : List ℕ) (x : RefusedMessage) → ¬ IsUtf8 text → IsWithoutPlace NotText x → IsNoEncoder text modules x
not_text text modules x h is = no_encoder text modules x NotText h refl is

pub no_memory : (text modules : List ℕ) (x : RefusedMessage) → IsWithoutPlace Memory x → IsNoEncoder text modules x
no_memory text modules x is = no_encoder text modules x Memory tt refl is

json_cause : (text modules : List ℕ) (f : JsonFault) → IsCauseOf message (document text) f → IsNoEncoderCause text modules (of_json f)
json_cause text modules json_memory h = tt
json_cause text modules f h = ((λ same. cc), h)

json_placed : (text modules : List ℕ) (f : JsonFault) (p : Option JsonPlace) → IsFaultPlace text f p → IsPlaced text modules (of_json f) (option_map place.Json p)
json_placed text modules json_memory None at = refl
json_placed text modules json_memory (Some p) at = absurd (let bad : ⊥ = cc at in bad)
json_placed text modules f None at = absurd at
json_placed text modules f (Some p) at = at

pub json_refused : (text modules : List ℕ) (x : RefusedMessage) → IsTextRefused text x → IsNoEncoder text modules x
json_refused text modules x (f, cause, inl memory) = no_memory text modules x memory
json_refused text modules x (f, cause, inr (fault, p, at, is)) = (
  subst (IsNoEncoderCause text modules) (sym fault) (json_cause text modules f cause),
  subst (λ g. IsPlaced text modules g x.place) (sym fault) (subst (IsPlaced text modules (of_json f)) (sym is) (json_placed text modules f p at)),
)

parts_cause : (text modules : List ℕ) (m : MessageView) (f : MessageFault) → IsMessage text m → IsPartsCause m modules f → IsNoEncoderCause text modules f
parts_cause text modules m Memory is h = tt
parts_cause text modules m NotText is h = absurd h
parts_cause text modules m (Json f) is h = absurd h
parts_cause text modules m (World f) is h = absurd h
parts_cause text modules m (Plan f) is h = absurd h
parts_cause text modules m f is h = (m, is, h)

placed_of : (text modules : List ℕ) (m : MessageView) (f : MessageFault) (p : Option MessagePlace) → IsMessage text m → IsPartsCause m modules f
    → IsPlacedIn m modules f p → IsPlaced text modules f p
placed_of text modules m Memory p is h at = at
placed_of text modules m NotText p is h at = at
placed_of text modules m (Json f) p is h at = absurd h
placed_of text modules m f p is h at = (m, is, at)

pub message_refused : (text modules : List ℕ) (m : MessageView) (x : RefusedMessage) → IsMessage text m → AreNoParts m modules x → IsNoEncoder text modules x
message_refused text modules m x is (cause, at) = (parts_cause text modules m x.fault is cause, placed_of text modules m x.fault x.place is cause at)
