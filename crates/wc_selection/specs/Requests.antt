-- Which keys of a world's exports a request gives, as bytes.
use Rattle.std.specs.Prelude.{ℕ, ◌++◌, List, map, Option, Some, None}
use Rattle.wc_maps.specs.Texts.{second_parts, text_of, text_pair}
use Rattle.wc_selection.specs.declared.requests.KeyRequest.{KeyRequest}
use Rattle.wc_selection.specs.declared.requests.Exporter.{Exporter}
use Rattle.wc_selection.specs.declared.requests.Exporter.TheVariants.{Main, Adapter}

pub record RequestValue : Type 0 where
  pub exports : List (List ℕ)
  pub adapter_exports : List (List ℕ × List ℕ)

abbrev pub request_value : KeyRequest → RequestValue
request_value q = record { exports = map text_of q.exports.now; adapter_exports = map text_pair q.adapter_exports.now }

-- all keys that modules have to export: those of the main module, and then those of adapters
abbrev pub given_keys : RequestValue → List (List ℕ)
given_keys q = q.exports ++ second_parts q.adapter_exports

-- the module that has to export something: an adapter by its name, or the main module
abbrev pub exporter_name : Exporter → Option (List ℕ)
exporter_name Main = None
exporter_name (Adapter name) = Some name.now
