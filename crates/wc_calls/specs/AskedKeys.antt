-- Which keys of a world's exports a message asks of its modules.
use Rattle.std.specs.Prelude.{ℕ, Bool, true, false, List, [], map, flat_map, Option, Some, None}
use Rattle.wc_resolve.specs.Views.{KeyView}
use Rattle.wc_resolve.specs.Kinds.{ResolveView}
use Rattle.wc_selection.specs.KeyNames.{indexed_keys}
use Rattle.wc_selection.specs.Keys.{NamedKey}
use Rattle.wc_selection.specs.ModuleKeys.{required_keys}
use Rattle.wc_selection.specs.Requests.{RequestValue}
use Rattle.wc_json.specs.Messages.{AdapterMessageView, KeyMessageView}

abbrev pub key_texts : List KeyMessageView → List (List ℕ)
key_texts keys = map (λ (k : KeyMessageView). k.text) keys

-- the texts of the main module's keys; none, if they are missing
abbrev pub main_texts : Option (List KeyMessageView) → List (List ℕ)
main_texts None = []
main_texts (Some keys) = key_texts keys

-- the texts of an adapter's keys, each after its name
abbrev pub adapter_texts : AdapterMessageView → List (List ℕ × List ℕ)
adapter_texts a = map (λ (k : KeyMessageView). (a.name, k.text)) a.exports

-- the keys of the main module and of adapters, as a request
abbrev pub request_of : Option (List KeyMessageView) → List AdapterMessageView → RequestValue
request_of exports adapters = record { exports = main_texts exports; adapter_exports = flat_map adapter_texts adapters }

-- the keys of the world's exports, each under the text by which it is given: its own, or the index of its interface
abbrev pub keys_in : ResolveView → ℕ → Option (List KeyMessageView) → List AdapterMessageView → List NamedKey
keys_in r world exports adapters = indexed_keys (request_of exports adapters) r world

-- the main module is given a list without keys
abbrev pub gives_none : Option (List KeyMessageView) → Bool
gives_none (Some []) = true
gives_none exports = false

-- the keys that the main module has to export: none, if it is given none; else those that it is given, or, if its keys are
-- missing, all that no adapter has to export
abbrev pub main_keys : Bool → RequestValue → List NamedKey → List KeyView
main_keys true q keys = []
main_keys false q keys = required_keys q None keys

-- the keys that an adapter has to export, as a request
abbrev pub adapter_request : AdapterMessageView → RequestValue
adapter_request a = record { exports = []; adapter_exports = adapter_texts a }

-- those of the exports, which are there under these texts
abbrev pub adapter_keys : List NamedKey → AdapterMessageView → List KeyView
adapter_keys keys a = required_keys (adapter_request a) (Some a.name) keys
