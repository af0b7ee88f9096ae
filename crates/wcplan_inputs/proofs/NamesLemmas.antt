-- The names of adapters and the keys of a command, one check after another.
use Rattle.std.proofs.Common.{◌≡◌, ◌⊎◌, inl, inr, ℕ, true, List, map, All, Contains, refl, sym, subst, Option, Some, None, Result, Ok, Err}
use Rattle.std.specs.Prelude.{IfErr, OnOk}
use Rattle.wc_maps.proofs.FirstLemmas.{Words, in_contains}
use Rattle.wc_selection.specs.KeyNames.{count_unversioned}
use Rattle.wc_selection.specs.Keys.{NamedKey, texts_of}
use Rattle.wc_selection.specs.Requests.{given_keys}
use Rattle.wc_selection.specs.ModuleKeys.{AreKeysThere, IsKeysCause}
use Rattle.wc_maps.specs.Texts.{AreDistinct, IsFirstMissing, first_parts, is_in, text_of}
use Rattle.wc_selection.specs.declared.fault.RequestFault.{RequestFault}
use Rattle.wc_selection.specs.declared.fault.RequestFault.TheVariants.{Memory as request_memory, RepeatedKey, SeveralKeys, UnknownKey}
use Rattle.wcplan_inputs.specs.Arguments.{CommandView}
use Rattle.wcplan_inputs.specs.Fault.{of_request}
use Rattle.wcplan_inputs.specs.FileNames.{IsFilesCause}
use Rattle.wcplan_inputs.specs.ModuleKeys.{AreAdaptersThere, AreExportersThere, AreNamesThere, IsGivenCause, IsNamesCause, adapter_names, request_of}
use Rattle.wcplan_inputs.specs.declared.fault.SelectionFault.{SelectionFault}
use Rattle.wcplan_inputs.specs.declared.fault.SelectionFault.TheVariants.{Memory, Request, EmptyDirectory, FileName, MainFile}

-- files that can't be named

files_cause : (c : CommandView) (keys : List NamedKey) (directory : Option (List ℕ)) → c.out ≡ directory → (f : SelectionFault)
    → AreDistinct (adapter_names c) × AreExportersThere c → IsFilesCause directory (adapter_names c) f → IsNamesCause c keys f
files_cause c keys None is f there h = absurd h
files_cause c keys (Some d) is EmptyDirectory there h =
    (there.0, there.1, subst (λ o. IsFilesCause o (adapter_names c) EmptyDirectory) (sym is) h)
files_cause c keys (Some d) is (FileName name) there h =
    (there.0, there.1, subst (λ o. IsFilesCause o (adapter_names c) (FileName name)) (sym is) h)
files_cause c keys (Some d) is (MainFile name) there h =
    (there.0, there.1, subst (λ o. IsFilesCause o (adapter_names c) (MainFile name)) (sym is) h)
files_cause c keys (Some d) is f there h = absurd h.1

pub files_failed : (c : CommandView) (keys : List NamedKey) (adapters : Words) (f : SelectionFault) → map text_of adapters ≡ adapter_names c
    → AreDistinct (adapter_names c) × AreExportersThere c → IsFilesCause c.out (map text_of adapters) f → IsNamesCause c keys f
files_failed c keys adapters f names there h =
    files_cause c keys c.out refl f there (subst (λ (l : List (List ℕ)). IsFilesCause c.out l f) names h)

-- what is found of keys, where nothing is wrong with adapters

pub keys_done : (c : CommandView) (keys : List NamedKey) (r : Result (Unit {0}) SelectionFault) → AreAdaptersThere c
    → OnOk r (AreKeysThere (given_keys (request_of c)) (texts_of keys)) → OnOk r (AreNamesThere c keys)
keys_done c keys (Ok x) there h = record { adapters = there.0; exporters = there.1; files = there.2; keys_there = h }
keys_done c keys (Err f) there h = tt

-- a fault of a request, as that of a command, by whose texts all keys are known
known_once : (given : List (List ℕ)) (keys : List NamedKey) (text : List ℕ) → IsFirstMissing given (texts_of keys) text
    → (is_in (texts_of keys) text ≡ true) ⊎ (count_unversioned keys text ≡ 1) → count_unversioned keys text ≡ 1
known_once given keys text missing (inl has) = absurd (missing.missing (in_contains (texts_of keys) text has))
known_once given keys text missing (inr one) = one

pub request_cause : (given : List (List ℕ)) (keys : List NamedKey) (f : RequestFault) → IsKeysCause given keys keys f → IsGivenCause given keys (of_request f)
request_cause given keys request_memory h = tt
request_cause given keys (UnknownKey key) h = (h.0, h.2)
request_cause given keys (SeveralKeys key) h = (h.0, h.2)
request_cause given keys (RepeatedKey key) (inl h) = inl (h.0, known_once given keys key.now h.0 h.1)
request_cause given keys (RepeatedKey key) (inr h) = inr h
request_cause given keys f h = absurd h

cause_of_keys : (c : CommandView) (keys : List NamedKey) (f : SelectionFault) → AreAdaptersThere c
    → IsGivenCause (given_keys (request_of c)) keys f → IsNamesCause c keys f
cause_of_keys c keys Memory there h = tt
cause_of_keys c keys (Request f) there h = (there, h)
cause_of_keys c keys f there h = absurd h

pub keys_failed : (c : CommandView) (keys : List NamedKey) (r : Result (Unit {0}) SelectionFault) → AreAdaptersThere c
    → IfErr r (IsGivenCause (given_keys (request_of c)) keys) → IfErr r (IsNamesCause c keys)
keys_failed c keys (Ok x) there h = tt
keys_failed c keys (Err f) there h = cause_of_keys c keys f there h

-- adapters, and those that have to export something, as they were found

pub adapters_there : (c : CommandView) (adapters exporters : Words) → map text_of adapters ≡ adapter_names c
    → map text_of exporters ≡ first_parts c.adapter_exports
    → AreDistinct (map text_of adapters) → All (Contains (map text_of adapters)) (map text_of exporters) → AreDistinct (adapter_names c) × AreExportersThere c
adapters_there c adapters exporters names others distinct there = (
  subst AreDistinct names distinct,
  subst (λ (l : List (List ℕ)). All (Contains l) (first_parts c.adapter_exports)) names
      (subst (All (Contains (map text_of adapters))) others there),
)
