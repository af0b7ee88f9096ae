-- Parts of JSON.
use Rattle.std.specs.Prelude.{ℕ, List, [], ◌∷◌, codes, Option}
use Rattle.json.specs.Json.{Json, string}
use Rattle.wc_texts.specs.Shapes.{nullable_json, number_json, object_of}

-- a text; null for none
abbrev pub text_or_null : Option (List ℕ) → Json
text_or_null text = nullable_json string text

-- an object of which only the kind is said; and what a segment fills
abbrev pub kind_json : List ℕ → Json
kind_json kind = object_of ((codes "kind", string kind) ∷ [])

abbrev pub fills_json : List ℕ → ℕ → Json
fills_json space index =
    object_of ((codes "kind", string (codes "fills")) ∷ (codes "space", string space) ∷ (codes "index", number_json index) ∷ [])
