-- What a key that asks about no import is about, as JSON.
use Rattle.std.specs.Prelude.{ℕ, List, [], ◌∷◌, codes, map}
use Rattle.json.specs.Json.{Json, string}
use Rattle.wc_texts.specs.Shapes.{array_of, object_of}

-- the key, and the texts of the imports that the world has
abbrev pub imports_json : List ℕ → List (List ℕ) → Json
imports_json key imports =
    object_of ((codes "kind", string (codes "imports")) ∷ (codes "key", string key) ∷ (codes "imports", array_of (map string imports)) ∷ [])
