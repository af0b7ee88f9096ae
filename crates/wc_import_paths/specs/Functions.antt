-- Functions that texts ask for: by their indices, or by their names.
use Rattle.std.specs.Prelude.{◌≡◌, ℕ, ◌^◌, Bool, true, false, not, ◌&&◌, ◌||◌, cond, List, [], ◌∷◌, ◌++◌, codes, filter, length, map, nat_eq, nat_lt, Option, Some, None}
use Rattle.std.specs.Char.{is_ascii_digit}
use Rattle.std.specs.List.{ends_with, find, list_all, list_any, range_with_len}
use Rattle.std.specs.Option.{option_map, option_map_or, option_or}
use Rattle.std.specs.Str.{bytes_eq, str_eq_ignore_ascii_case}
use Rattle.std.specs.Str.Parse.{digits_value}
use Rattle.wc_read.specs.Names.{GlobalNameValue}
use Rattle.wc_read.specs.Reading.Names.{AreFunctionNames}
use Rattle.wc_why.specs.Component.{caller_named}
use Rattle.wc_why.specs.Tree.{TreeCallerView}
use Rattle.wc_why_text.specs.RustNames.{rust_name}

-- so many functions of a module with these names; the functions of a module with these bytes
abbrev pub functions_named : List GlobalNameValue → ℕ → List TreeCallerView
functions_named names count = map (caller_named names) (range_with_len 0 count)

abbrev pub AreFunctions : List ℕ → ℕ → List TreeCallerView → Type 0
AreFunctions bytes count functions = (names : List GlobalNameValue) × AreFunctionNames bytes names × (functions ≡ functions_named names count)

-- a text of decimal digits, and the index that it is
abbrev pub is_number : List ℕ → Bool
is_number text = not (nat_eq (length text) 0) && list_all is_ascii_digit text

abbrev pub index_of : List ℕ → Option ℕ
index_of text = cond (is_number text && nat_lt (digits_value 10 text) (2 ^ 64)) (Some (digits_value 10 text)) None

abbrev pub asks_index : ℕ → List ℕ → Bool
asks_index index text = option_map_or (λ n. nat_eq n index) (index_of text) false

-- another text is a name: the one in the module, or the one that is shown
abbrev pub asks_name : List ℕ → List ℕ → Bool
asks_name name text = not (is_number text) && bytes_eq text name

abbrev pub asks_either : List ℕ → List ℕ → Bool
asks_either text name = asks_name name text || asks_name (rust_name name) text

-- a text asks for a function
abbrev pub asks_for : TreeCallerView → List ℕ → Bool
asks_for f text = asks_index f.index text || option_map_or (asks_either text) f.name false

-- the functions that some texts ask for, each once, in order
abbrev pub functions_asked : List (List ℕ) → List TreeCallerView → List TreeCallerView
functions_asked texts functions = filter (λ f. list_any (asks_for f) texts) functions

-- the first text that asks for none
abbrev pub is_known_function : List TreeCallerView → List ℕ → Bool
is_known_function functions text = list_any (λ f. asks_for f text) functions

abbrev pub first_unknown_function : List TreeCallerView → List (List ℕ) → Option (List ℕ)
first_unknown_function functions texts = find (λ t. not (is_known_function functions t)) texts

-- those that texts ask for of a module with these bytes; none, where there are no texts
abbrev pub AreAskedOf : List ℕ → ℕ → List (List ℕ) → List TreeCallerView → Type 0
AreAskedOf bytes count [] asked = asked ≡ []
AreAskedOf bytes count (text ∷ texts) asked =
    (functions : List TreeCallerView) × AreFunctions bytes count functions × (asked ≡ functions_asked (text ∷ texts) functions)
    × (first_unknown_function asked (text ∷ texts) ≡ None)

-- the shown name of the first function that has a text as its name but for the case of letters, in the module or as it is shown
abbrev pub is_alike : List ℕ → List ℕ → Bool
is_alike text name = str_eq_ignore_ascii_case text name || str_eq_ignore_ascii_case text (rust_name name)

abbrev pub has_alike : List ℕ → TreeCallerView → Bool
has_alike text f = option_map_or (is_alike text) f.name false

-- or of the first whose shown name ends with `::` and the text
abbrev pub is_longer : List ℕ → List ℕ → Bool
is_longer text name = ends_with nat_eq (rust_name name) (codes "::" ++ text)

abbrev pub has_longer : List ℕ → TreeCallerView → Bool
has_longer text f = option_map_or (is_longer text) f.name false

abbrev pub shown_name : TreeCallerView → List ℕ
shown_name f = option_map_or rust_name f.name (codes "")

abbrev pub near_function : List TreeCallerView → List ℕ → Option (List ℕ)
near_function functions text =
    cond (is_number text) None
    (option_or (option_map shown_name (find (has_alike text) functions)) (option_map shown_name (find (has_longer text) functions)))

-- some function has a name
abbrev pub are_named : List TreeCallerView → Bool
are_named functions = list_any (λ (f : TreeCallerView). option_map_or (λ name. true) f.name false) functions
