-- What a message asks of a world's exports.
use Rattle.std.proofs.Common.{◌≡◌, ◌<◌, ◌∙◌, ℕ, zero, suc, arith, List, [], ◌∷◌, length, map, flat_map, Option, None, Result, IfErr, refl, ap, subst}
use Rattle.std.specs.List.{slice_get}
use Rattle.std.specs.Option.{option_map_or}
use Rattle.wc_adapters.specs.Adapters.{AdapterView}
use Rattle.wc_resolve.specs.Views.{WorldView, key_view}
use Rattle.wc_resolve.specs.Kinds.{ResolveView}
use Rattle.wc_selection.specs.KeyIndex.{keys_under}
use Rattle.wc_selection.specs.Keys.{NamedKey, export_keys, named_key, named_keys, texts_of}
use Rattle.wc_selection.specs.ModuleKeys.{AreKeysThere}
use Rattle.wc_selection.specs.Requests.{RequestValue, given_keys}
use Rattle.wc_json.specs.Messages.{AdapterMessageView, KeyMessageView}
use Rattle.wc_selection.proofs.KeyIndexLemmas.{own_required}
use Rattle.wc_calls.specs.AskedKeys.{adapter_keys, adapter_request, adapter_texts, key_texts, keys_in, main_texts, request_of}
use Rattle.wc_calls.specs.Encoders.{AreAdaptersOf, AreExporters}
use Rattle.wc_calls.specs.MessageFault.{IsAdaptersCause}
use Rattle.wc_calls.specs.Private.AskedKeys.{IsAskedCauseFor, IsAskedCauseIn, IsAskedFor, IsExportersCause}
use Rattle.wc_calls.specs.declared.asked_keys.AskedKeys.{AskedKeys}
use Rattle.wc_calls.specs.declared.message_fault.MessageFault.{MessageFault}
use Rattle.wc_calls.specs.declared.message_fault.MessageFault.TheVariants.{Memory, UnknownKey, SeveralKeys, RepeatedKey}

-- where there is no such world

none_at : {X : Type 0} (xs : List X) (i : ℕ) → (i < length xs → ⊥) → slice_get xs i ≡ None
none_at [] i past = refl
none_at (x ∷ xs) zero past = absurd (past (omega arith))
none_at (x ∷ xs) (suc i) past = none_at xs i (λ lt. past (omega arith))

pub no_exports : (r : ResolveView) (world : ℕ) → (world < length r.worlds → ⊥) → export_keys r world ≡ []
no_exports r world past = ap (λ (w : Option WorldView). option_map_or (λ (w : WorldView). named_keys r w.exports) w []) (none_at r.worlds world past)

-- why there are no exporters

keys_cause : (r : ResolveView) (world : ℕ) (exports : Option (List KeyMessageView)) (ms : List AdapterMessageView) (bytes : List ℕ) (f : MessageFault)
    → IsAskedCauseFor exports ms r world f → IsExportersCause r world exports ms bytes f
keys_cause r world exports ms bytes Memory h = tt
keys_cause r world exports ms bytes (UnknownKey key) h = h
keys_cause r world exports ms bytes (SeveralKeys key) h = h
keys_cause r world exports ms bytes (RepeatedKey key) h = h
keys_cause r world exports ms bytes f h = absurd h

bytes_cause : (r : ResolveView) (world : ℕ) (exports : Option (List KeyMessageView)) (ms : List AdapterMessageView) (bytes : List ℕ) (f : MessageFault)
    → AreKeysThere (given_keys (request_of exports ms)) (texts_of (keys_in r world exports ms)) → IsAdaptersCause ms bytes f
    → IsExportersCause r world exports ms bytes f
bytes_cause r world exports ms bytes Memory there h = tt
bytes_cause r world exports ms bytes (UnknownKey key) there h = absurd h
bytes_cause r world exports ms bytes (SeveralKeys key) there h = absurd h
bytes_cause r world exports ms bytes (RepeatedKey key) there h = absurd h
bytes_cause r world exports ms bytes f there h = (there, h)

-- what is asked, as it is found

-- a request that has the texts of a message
pub asked_for : {X : Type 0} (exports : Option (List KeyMessageView)) (ms : List AdapterMessageView) (r : ResolveView) (world : ℕ)
    (result : Result X MessageFault) (texts : List (List ℕ)) (pairs : List (List ℕ × List ℕ)) → texts ≡ main_texts exports
    → pairs ≡ flat_map adapter_texts ms → IfErr result (IsAskedCauseIn (record { exports = texts; adapter_exports = pairs }) r world)
    → IfErr result (IsAskedCauseFor exports ms r world)
asked_for exports ms r world result texts pairs main others h =
    subst (λ (q : RequestValue). IfErr result (IsAskedCauseIn q r world)) (λ i. record { exports = main i; adapter_exports = others i }) h

pub exporters_failed : (messages ms : List AdapterMessageView) (r : ResolveView) (world : ℕ) (exports : Option (List KeyMessageView))
    (bytes : List ℕ) (f : MessageFault) → messages ≡ ms → IsAskedCauseFor exports messages r world f → IsExportersCause r world exports ms bytes f
exporters_failed messages ms r world exports bytes f same h =
    keys_cause r world exports ms bytes f (subst (λ (l : List AdapterMessageView). IsAskedCauseFor exports l r world f) same h)

asked_in : (messages ms : List AdapterMessageView) (r : ResolveView) (world : ℕ) (exports : Option (List KeyMessageView)) (a : AskedKeys)
    → messages ≡ ms → IsAskedFor exports messages r world a → IsAskedFor exports ms r world a
asked_in messages ms r world exports a same asked = subst (λ (l : List AdapterMessageView). IsAskedFor exports l r world a) same asked

pub adapters_failed : (messages ms : List AdapterMessageView) (r : ResolveView) (world : ℕ) (exports : Option (List KeyMessageView))
    (bytes : List ℕ) (a : AskedKeys) (f : MessageFault) → messages ≡ ms → IsAskedFor exports messages r world a → IsAdaptersCause ms bytes f
    → IsExportersCause r world exports ms bytes f
adapters_failed messages ms r world exports bytes a f same asked h =
    bytes_cause r world exports ms bytes f (asked_in messages ms r world exports a same asked).there h

pub exporters_made : (keys : List NamedKey) (messages ms : List AdapterMessageView) (r : ResolveView) (world : ℕ)
    (exports : Option (List KeyMessageView)) (bytes : List ℕ) (a : AskedKeys) (adapters : List (List ℕ × AdapterView))
    → messages ≡ ms → keys ≡ map named_key a.keys.items → IsAskedFor exports messages r world a → AreAdaptersOf keys ms bytes adapters
    → AreExporters r world exports ms bytes (map key_view a.main.keys) adapters
exporters_made keys messages ms r world exports bytes a adapters same listed asked made =
    let is = asked_in messages ms r world exports a same asked in
    record {
      there = is.there;
      main = is.main;
      others = subst (λ (k : List NamedKey). AreAdaptersOf k ms bytes adapters) (listed ∙ is.listed) made;
    }

-- the keys that an adapter has to export are those that its texts are of
pub adapter_keys_under : (keys : List NamedKey) (a : AdapterMessageView) → keys_under (key_texts a.exports) keys ≡ adapter_keys keys a
adapter_keys_under keys a = own_required (λ (k : KeyMessageView). k.text) a.name a.exports (adapter_request a) refl keys
