-- Members whose object has another of their name before, and their paths.
use Rattle.std.specs.Prelude.{◌≡◌, ℕ, suc, List, [], ◌∷◌, ◌++◌, ◌==◌, map, codes, cond, Option, Some, None, IfSome, IsSome, if◌then◌else◌}
use Rattle.std.specs.List.{list_any}
use Rattle.std.specs.Str.{bytes_eq}
use Rattle.json.specs.Json.{Json, null, boolean, number, string, array, object, Items, no_items, item, Members, no_members, member}
use Rattle.json.specs.Strict.{HasUniqueKeys}
use Rattle.wc_json.specs.Paths.{index_step, is_word}

-- `.name`, or `["name"]` where the name is no word
abbrev pub name_step : List ℕ → List ℕ
name_step name = if is_word name then codes "." ++ name else (codes "[\"" ++ (name ++ codes "\"]"))

-- a member by its step, if its name is one of those before
abbrev pub repeat_of : List (List ℕ) → List ℕ → List (List ℕ)
repeat_of names name = cond (list_any (λ t. bytes_eq name t) names) (name_step name ∷ []) []

-- the members that are there again, each by its path, in the order of the text: a member comes before those in its value
abbrev mutual
  pub repeats : Json → List (List ℕ)
  repeats null = []
  repeats (boolean b) = []
  repeats (number s) = []
  repeats (string s) = []
  repeats (array js) = repeats_from 0 js
  repeats (object ms) = repeats_after [] ms

  -- in a list, whose first item has this index
  pub repeats_from : ℕ → Items → List (List ℕ)
  repeats_from index no_items = []
  repeats_from index (item j js) = map (λ path. index_step index ++ path) (repeats j) ++ repeats_from (suc index) js

  -- in an object, after members of these names
  pub repeats_after : List (List ℕ) → Members → List (List ℕ)
  repeats_after names no_members = []
  repeats_after names (member k j ms) = repeat_of names k ++ (map (λ path. name_step k ++ path) (repeats j) ++ repeats_after (names ++ k ∷ []) ms)

abbrev pub repeats_in : Members → List (List ℕ)
repeats_in ms = repeats_after [] ms

abbrev pub first_path : List (List ℕ) → Option (List ℕ)
first_path [] = None
first_path (path ∷ paths) = Some path

-- without a dot at its beginning
abbrev pub without_dot : List ℕ → List ℕ
without_dot [] = []
without_dot (c ∷ path) = cond (c == 46) path (c ∷ path)

abbrev pub whole_path : Option (List ℕ) → List ℕ
whole_path None = []
whole_path (Some path) = without_dot path

-- the path of the first of them, from the whole text
abbrev pub repeated_path : Json → List ℕ
repeated_path j = whole_path (first_path (repeats j))

abbrev pub IsRepeatedPath : Option Json → List ℕ → Type 0
IsRepeatedPath read path = IfSome read (λ j. path ≡ repeated_path j)

-- where an object has a key twice, some member is there again
abbrev pub RepeatsAreThere : Type 0
RepeatsAreThere = (j : Json) → ¬ HasUniqueKeys j → IsSome (first_path (repeats j))
