-- The texts by which keys of exports are chosen for a module. No contract of a public function cites these.
use Rattle.std.specs.Prelude.{ℕ, Bool, true, false, not, cond, List, [], ◌∷◌, map, filter, Option, Some, None}
use Rattle.std.specs.Str.{bytes_eq}
use Rattle.wc_resolve.specs.Views.{KeyView}
use Rattle.wc_selection.specs.Keys.{NamedKey}
use Rattle.wc_selection.specs.Requests.{RequestValue}
use Rattle.wc_maps.specs.Texts.{is_in, second_parts}

-- the second of each pair that has this first one
abbrev pub texts_under : List ℕ → List (List ℕ × List ℕ) → List (List ℕ)
texts_under first pairs = second_parts (filter (λ (p : List ℕ × List ℕ). bytes_eq p.0 first) pairs)

-- these texts; or, if there are none, the second of each pair
abbrev pub texts_or_seconds : List (List ℕ) → List (List ℕ × List ℕ) → List (List ℕ)
texts_or_seconds [] pairs = second_parts pairs
texts_or_seconds (text ∷ texts) pairs = text ∷ texts

-- those of an adapter; those of the main module or, if it has none, those of all adapters
abbrev pub exporter_texts : RequestValue → Option (List ℕ) → List (List ℕ)
exporter_texts q None = texts_or_seconds q.exports q.adapter_exports
exporter_texts q (Some name) = texts_under name q.adapter_exports

abbrev pub has_any : List (List ℕ) → Bool
has_any [] = false
has_any (text ∷ texts) = true

-- they are those that the module has to export, and not those that it hasn't
abbrev pub gives_keys : RequestValue → Option (List ℕ) → Bool
gives_keys q None = has_any q.exports
gives_keys q (Some name) = true

abbrev pub is_required_in : List (List ℕ) → Bool → List ℕ → Bool
is_required_in texts gives text = cond gives (is_in texts text) (not (is_in texts text))

abbrev pub required_in : List (List ℕ) → Bool → List NamedKey → List KeyView
required_in texts gives keys = map (λ (k : NamedKey). k.0) (filter (λ (k : NamedKey). is_required_in texts gives k.1) keys)
