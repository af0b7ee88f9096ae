-- Which encoder a message is, with the bytes of its modules.
use Rattle.std.specs.Prelude.{◌≡◌, ◌++◌, ℕ, List, length, false, Option, unwrap_or, IsSomeAnd, Ok, flat_map}
use Rattle.std.specs.List.{AllZip}
use Rattle.json.specs.Json.{document}
use Rattle.json.specs.Strict.{HasUniqueKeys}
use Rattle.wc_dedupe.specs.Dedupe.{IsDeduped, renames_in}
use Rattle.wc_adapters.specs.Adapters.{AdapterView}
use Rattle.wc_encoder.specs.EncoderParts.{EncoderView}
use Rattle.wc_encoder.specs.WellFormed.{IsWellFormed}
use Rattle.wc_json.specs.Document.{DocumentView}
use Rattle.wc_json.specs.Messages.{AdapterMessageView, KeyMessageView, MessageView, WorldNameView, at_index, message, of_name}
use Rattle.wc_resolve.specs.Views.{KeyView}
use Rattle.wc_resolve.specs.Kinds.{ResolveView}
use Rattle.wc_selection.specs.Keys.{NamedKey, texts_of}
use Rattle.wc_selection.specs.ModuleKeys.{AreKeysThere}
use Rattle.wc_selection.specs.Requests.{given_keys}
use Rattle.wc_selection.specs.TaskHook.{no_task_hook}
use Rattle.wc_selection.specs.Worlds.{IsSelected}
use Rattle.wc_world.specs.Options.{OptionsOf}
use Rattle.wc_calls.specs.AskedKeys.{adapter_keys, gives_none, keys_in, main_keys, request_of}
use Rattle.wc_calls.specs.ImportOptions.{listed_options}

-- the text is JSON, no object in it repeats a member, and its value is read as the message
abbrev pub IsMessage : List ℕ → MessageView → Type 0
IsMessage text m = IsSomeAnd (document text) (λ j. HasUniqueKeys j × (message j ≡ Ok m))

-- the options of lowered functions that the bytes of a message give
abbrev pub AreOptionsOf : List ℕ → OptionsOf → Type 0
AreOptionsOf text options = (m : MessageView) × IsMessage text m × (options ≡ listed_options m.options)

-- the index that a message gives; or the only world that its text names
abbrev pub IsWorldNamed : DocumentView → WorldNameView → ℕ → Type 0
IsWorldNamed d (at_index n) index = index ≡ n
IsWorldNamed d (of_name name) index = IsSelected d name index

-- an adapter of a message, with its bytes, and with those of the exports, under the texts by which the message gives them, that it
-- has to export
pub record IsAdapterOf (keys : List NamedKey) (m : AdapterMessageView) (a : List ℕ × AdapterView) : Type 0 where
  pub name : a.0 ≡ m.name
  pub size : length a.1.wasm ≡ m.size
  pub required : a.1.required_exports ≡ adapter_keys keys m
  pub library : a.1.library_info ≡ m.library_info

-- the adapters of a message in order, with these bytes one after another
pub record AreAdaptersOf (keys : List NamedKey) (ms : List AdapterMessageView) (bytes : List ℕ) (adapters : List (List ℕ × AdapterView)) : Type 0 where
  pub each : AllZip (IsAdapterOf keys) ms adapters
  pub cut : bytes ≡ flat_map (λ (a : List ℕ × AdapterView). a.1.wasm) adapters

-- the keys that modules have to export: all that are given are those of the world's exports, and none is given twice; the main
-- module's; and the adapters with theirs
pub record AreExporters (r : ResolveView) (world : ℕ) (exports : Option (List KeyMessageView)) (ms : List AdapterMessageView) (bytes : List ℕ)
    (required : List KeyView) (adapters : List (List ℕ × AdapterView)) : Type 0 where
  pub there : AreKeysThere (given_keys (request_of exports ms)) (texts_of (keys_in r world exports ms))
  pub main : required ≡ main_keys (gives_none exports) (request_of exports ms) (keys_in r world exports ms)
  pub others : AreAdaptersOf (keys_in r world exports ms) ms bytes adapters

-- the world's index, and how the bytes are cut: those of the main module before the others
pub record AreChosen (m : MessageView) (modules : List ℕ) (world : ℕ) (main others : List ℕ) : Type 0 where
  pub cut : modules ≡ main ++ others
  pub size : length main ≡ m.size
  pub named : IsWorldNamed m.document m.world world

-- the parts of an encoder: the main module's bytes, as they were given, are before those of the adapters, and its repeated imports
-- are renamed. Where the message has no task hook, no export is taken for it
pub record IsPartsOf (m : MessageView) (modules : List ℕ) (e : EncoderView) : Type 0 where
  pub others : List ℕ
  pub cut : modules ≡ e.given_bytes ++ others
  pub size : length e.given_bytes ≡ m.size
  pub renamed : IsDeduped e.given_bytes e.module_bytes (renames_in e.module_import_map)
  pub resolve : e.resolve ≡ m.document.parts
  pub world : IsWorldNamed m.document m.world e.world
  pub exporters : AreExporters m.document.parts e.world m.exports m.adapters others e.main_module_exports e.adapters
  pub rejects : e.reject_legacy_names ≡ unwrap_or m.reject_legacy_names false
  pub grows : e.realloc_via_memory_grow ≡ unwrap_or m.realloc_via_memory_grow false
  pub hook : e.task_hook ≡ unwrap_or m.task_hook no_task_hook

-- the encoder that the bytes of a message and of modules are
pub record IsEncoderOf (text modules : List ℕ) (e : EncoderView) : Type 0 where
  pub message : MessageView
  pub read : IsMessage text message
  pub parts : IsPartsOf message modules e
  pub formed : IsWellFormed e
