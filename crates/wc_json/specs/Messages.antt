-- Messages, and how they are read.
use Rattle.std.specs.Prelude.{ℕ, Bool, false, List, Vec, map, Option, Some, None, Ok, codes, string_bytes}
use Rattle.std.specs.Option.{option_map}
use Rattle.std.specs.declared.alloc.Global.{Global}
use Rattle.json.specs.Json.{Json, null, string}
use Rattle.wc_adapters.specs.Adapters.{LibraryView, library_view}
use Rattle.wc_resolve.specs.Views.{KeyView, key_view}
use Rattle.wc_json.specs.Document.{DocumentView, document_of, document_view}
use Rattle.wc_json.specs.Fault.{Reading, ◌>>=◌}
use Rattle.wc_json.specs.FromJson.{list, text, truth}
use Rattle.wc_json.specs.Ids.{index}
use Rattle.wc_json.specs.Keys.{key}
use Rattle.wc_json.specs.Libraries.{library}
use Rattle.wc_json.specs.Members.{find_member, optional_member, required_member}
use Rattle.wc_json.specs.Paths.{at_step}
use Rattle.wc_json.specs.declared.messages.AdapterMessage.{AdapterMessage}
use Rattle.wc_json.specs.declared.messages.KeyMessage.{KeyMessage}
use Rattle.wc_json.specs.declared.messages.Message.{Message}
use Rattle.wc_json.specs.declared.messages.OptionsMessage.{OptionsMessage}
use Rattle.wc_json.specs.declared.messages.WorldName.{WorldName}
use Rattle.wc_json.specs.declared.messages.WorldName.TheVariants.{Index, Name}

-- the world at an index, or the one that a text names
pub data WorldNameView : Type 0 where
  at_index : ℕ → WorldNameView
  of_name : List ℕ → WorldNameView

abbrev pub world_name_view : WorldName → WorldNameView
world_name_view (Index id) = at_index id.0
world_name_view (Name name) = of_name (string_bytes name)

abbrev pub world_index : Json → Reading WorldNameView
world_index j = index j >>= (λ n. Ok (at_index n))

-- a text is a name
abbrev pub world_name : Json → Reading WorldNameView
world_name (string s) = Ok (of_name s)
world_name j = world_index j

-- a key of an export: its text, and the key that the text is by itself
pub record KeyMessageView : Type 0 where
  pub text : List ℕ
  pub key : KeyView

abbrev pub key_message_view : KeyMessage → KeyMessageView
key_message_view k = record { text = string_bytes k.text; key = key_view k.key }

abbrev pub key_message : Json → Reading KeyMessageView
key_message j = do
  text ← text j
  key ← key j
  Ok (record { text = text; key = key })

abbrev pub exports_view : Option (Vec KeyMessage Global) → Option (List KeyMessageView)
exports_view exports = option_map (λ (keys : Vec KeyMessage Global). map key_message_view keys.items) exports

-- an adapter or a library: its name, how many bytes it has, the keys that it has to export, and how it is instantiated, if
-- it is a library
pub record AdapterMessageView : Type 0 where
  pub name : List ℕ
  pub size : ℕ
  pub exports : List KeyMessageView
  pub library_info : Option LibraryView

abbrev pub adapter_message_view : AdapterMessage → AdapterMessageView
adapter_message_view a = record {
  name = string_bytes a.name;
  size = a.length;
  exports = map key_message_view a.exports.items;
  library_info = option_map library_view a.library_info;
}

abbrev pub adapter_message : Json → Reading AdapterMessageView
adapter_message j = do
  name ← required_member (codes "name") text j
  size ← required_member (codes "length") index j
  exports ← required_member (codes "exports") (list key_message) j
  library_info ← optional_member (codes "library_info") library j
  Ok (record { name = name; size = size; exports = exports; library_info = library_info })

-- the name of lowered functions, and which canonical options these have (component model, Canonical ABI, "canonopt")
pub record OptionsMessageView : Type 0 where
  pub name : List ℕ
  pub memory : Bool
  pub realloc : Bool
  pub string_encoding : Bool
  pub is_async : Bool

abbrev pub options_message_view : OptionsMessage → OptionsMessageView
options_message_view o = record {
  name = string_bytes o.name;
  memory = o.memory;
  realloc = o.realloc;
  string_encoding = o.string_encoding;
  is_async = o.is_async;
}

abbrev pub options_view : Option (Vec OptionsMessage Global) → Option (List OptionsMessageView)
options_view options = option_map (λ (os : Vec OptionsMessage Global). map options_message_view os.items) options

-- true or false, and false for null
abbrev pub flag_value : Json → Reading Bool
flag_value null = Ok false
flag_value j = truth j

abbrev pub flag_or_false : List ℕ → Option Json → Reading Bool
flag_or_false name None = Ok false
flag_or_false name (Some j) = at_step name (flag_value j)

-- a member that is true or false, and false where it is missing or null
abbrev pub flag : List ℕ → Json → Reading Bool
flag name j = find_member name j >>= flag_or_false name

abbrev pub options_message : Json → Reading OptionsMessageView
options_message j = do
  name ← required_member (codes "name") text j
  memory ← flag (codes "memory") j
  realloc ← flag (codes "realloc") j
  string_encoding ← flag (codes "string_encoding") j
  is_async ← flag (codes "async") j
  Ok (record { name = name; memory = memory; realloc = realloc; string_encoding = string_encoding; is_async = is_async })

-- the worlds, interfaces, types and packages; the world; flags, which may be missing, and the name of the task hook; how
-- many bytes the main module has, and the keys that it has to export, which may be missing; the adapters; and the options of
-- lowered functions, which may be missing
pub record MessageView : Type 0 where
  pub document : DocumentView
  pub world : WorldNameView
  pub reject_legacy_names : Option Bool
  pub realloc_via_memory_grow : Option Bool
  pub task_hook : Option (List ℕ)
  pub size : ℕ
  pub exports : Option (List KeyMessageView)
  pub adapters : List AdapterMessageView
  pub options : Option (List OptionsMessageView)

abbrev pub message_view : Message → MessageView
message_view m = record {
  document = document_view m.document;
  world = world_name_view m.world;
  reject_legacy_names = m.reject_legacy_names;
  realloc_via_memory_grow = m.realloc_via_memory_grow;
  task_hook = option_map string_bytes m.task_hook;
  size = m.length;
  exports = exports_view m.exports;
  adapters = map adapter_message_view m.adapters.items;
  options = options_view m.options;
}

abbrev pub message : Json → Reading MessageView
message j = do
  document ← required_member (codes "resolve") document_of j
  world ← required_member (codes "world") world_name j
  reject_legacy_names ← optional_member (codes "reject_legacy_names") truth j
  realloc_via_memory_grow ← optional_member (codes "realloc_via_memory_grow") truth j
  task_hook ← optional_member (codes "task_hook") text j
  size ← required_member (codes "length") index j
  exports ← optional_member (codes "exports") (list key_message) j
  adapters ← required_member (codes "adapters") (list adapter_message) j
  options ← optional_member (codes "options") (list options_message) j
  Ok (record {
    document = document;
    world = world;
    reject_legacy_names = reject_legacy_names;
    realloc_via_memory_grow = realloc_via_memory_grow;
    task_hook = task_hook;
    size = size;
    exports = exports;
    adapters = adapters;
    options = options;
  })
