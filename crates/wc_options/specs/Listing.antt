-- Names as a text.
use Rattle.std.specs.Prelude.{ℕ, ◌-◌, ◌==◌, nat_le, List, ◌++◌, length, take, codes, decimal, if◌then◌else◌}
use Rattle.std.specs.List.{flat_map}

-- a name in quotes, after a blank
abbrev pub listed_name : List ℕ → List ℕ
listed_name name = codes " `" ++ (name ++ codes "`")

abbrev pub listed_names : List (List ℕ) → List ℕ
listed_names names = flat_map listed_name names

abbrev pub more_text : ℕ → List ℕ
more_text count = codes " and " ++ (decimal count ++ codes " more")

-- how many names a listing has at most
abbrev pub most_listed : ℕ
most_listed = 8

-- the first names, and how many there are more
abbrev pub listing_text : List (List ℕ) → List ℕ
listing_text names =
    if length names == 0 then codes " none"
    else if nat_le (length names) most_listed then listed_names names
    else (listed_names (take most_listed names) ++ more_text (length names - most_listed))
