-- Words of contracts of private functions. No contract of a public function cites these, directly or through others.
-- What is asked of a world's exports, and the faults of keys.
use Rattle.std.specs.Prelude.{◌≡◌, ℕ, Bool, List, map, Option, ⊤, string_bytes}
use Rattle.wc_resolve.specs.Views.{key_view}
use Rattle.wc_resolve.specs.Kinds.{ResolveView}
use Rattle.wc_selection.specs.KeyNames.{indexed_keys}
use Rattle.wc_selection.specs.Keys.{AreKeysApart, NamedKey, export_keys, named_key, texts_of}
use Rattle.wc_selection.specs.ModuleKeys.{AreKeysThere}
use Rattle.wc_selection.specs.Requests.{RequestValue, given_keys}
use Rattle.wc_selection.specs.declared.fault.RequestFault.{RequestFault}
use Rattle.wc_selection.specs.declared.fault.RequestFault.TheVariants as request
use Rattle.wc_json.specs.Messages.{AdapterMessageView, KeyMessageView}
use Rattle.wc_calls.specs.AskedKeys.{gives_none, keys_in, main_keys, request_of}
use Rattle.wc_calls.specs.MessageFault.{IsAdaptersCause, IsAskedCause}
use Rattle.wc_calls.specs.declared.asked_keys.AskedKeys.{AskedKeys}
use Rattle.wc_calls.specs.declared.message_fault.MessageFault.{MessageFault}
use Rattle.wc_calls.specs.declared.message_fault.MessageFault.TheVariants.{Memory, UnknownKey, SeveralKeys, RepeatedKey}

-- the keys of the exports, under the texts that are given, are these; all that are given are there; and the main module's are
-- those that it has to export
pub record IsAsked (q : RequestValue) (none : Bool) (keys : List NamedKey) (a : AskedKeys) : Type 0 where
  pub listed : map named_key a.keys.items ≡ keys
  pub differ : AreKeysApart keys
  pub there : AreKeysThere (given_keys q) (texts_of keys)
  pub main : map key_view a.main.keys ≡ main_keys none q keys

-- what keys of a message ask of the exports of a world; and why it is refused
abbrev pub IsAskedFor : Option (List KeyMessageView) → List AdapterMessageView → ResolveView → ℕ → AskedKeys → Type 0
IsAskedFor exports ms r world a = IsAsked (request_of exports ms) (gives_none exports) (keys_in r world exports ms) a

abbrev pub IsAskedCauseIn : RequestValue → ResolveView → ℕ → MessageFault → Type 0
IsAskedCauseIn q r world f = IsAskedCause q (export_keys r world) (indexed_keys q r world) f

abbrev pub IsAskedCauseFor : Option (List KeyMessageView) → List AdapterMessageView → ResolveView → ℕ → MessageFault → Type 0
IsAskedCauseFor exports ms r world f = IsAskedCauseIn (request_of exports ms) r world f

-- why there are no exporters of a message
abbrev pub IsExportersCause : ResolveView → ℕ → Option (List KeyMessageView) → List AdapterMessageView → List ℕ → MessageFault → Type 0
IsExportersCause r world exports ms bytes (UnknownKey key) = IsAskedCauseFor exports ms r world (UnknownKey key)
IsExportersCause r world exports ms bytes (SeveralKeys key) = IsAskedCauseFor exports ms r world (SeveralKeys key)
IsExportersCause r world exports ms bytes (RepeatedKey key) = IsAskedCauseFor exports ms r world (RepeatedKey key)
IsExportersCause r world exports ms bytes Memory = ⊤
IsExportersCause r world exports ms bytes f =
    AreKeysThere (given_keys (request_of exports ms)) (texts_of (keys_in r world exports ms)) × IsAdaptersCause ms bytes f

-- the fault of a message for that of its keys as a request
abbrev pub IsKeyFault : RequestFault → MessageFault → Type 0
IsKeyFault f Memory = ⊤
IsKeyFault (request.UnknownKey key) (UnknownKey k) = string_bytes k ≡ key.now
IsKeyFault (request.SeveralKeys key) (SeveralKeys k) = string_bytes k ≡ key.now
IsKeyFault (request.RepeatedKey key) (RepeatedKey k) = string_bytes k ≡ key.now
IsKeyFault f g = ⊥
