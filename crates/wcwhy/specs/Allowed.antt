-- What may be imported: a list of it, and what the list says of imports.
use Rattle.std.specs.Prelude.{ℕ, ◌+◌, ◌-◌, ◌==◌, nat_le, Bool, not, List, [], ◌∷◌, ◌++◌, map, filter, length, take, drop, All, Contains, codes, decimal, if◌then◌else◌, ◌≡◌, false}
use Rattle.std.specs.Char.{is_ascii_whitespace}
use Rattle.std.specs.List.{before_first, flat_map, list_any, prefix_len, slice_split, suffix_len}
use Rattle.std.specs.Option.{option_map, option_to_list}
use Rattle.wc_options.specs.Listing.{more_text, most_listed}
use Rattle.wc_read.specs.Imports.{ImportValue}
use Rattle.wc_texts.specs.Characters.{hash_sign}
use Rattle.wc_texts.specs.Escape.{escaped}
use Rattle.wc_texts.specs.Names.{first_occurrences}
use Rattle.wc_why.specs.Keys.{asks_about}
use Rattle.wc_why.specs.Tree.{TreeImportView, TreeWayView}
use Rattle.wc_why_text.specs.Texts.{word}
use Rattle.wcwhy.specs.Fault.{given_word}
use Rattle.wcwhy.specs.declared.allowed.Entry.{Entry}

-- a text without the white space of ASCII at its start, at its end, and at both
abbrev pub trimmed_start : List ℕ → List ℕ
trimmed_start text = drop (prefix_len is_ascii_whitespace text) text

abbrev pub trimmed_end : List ℕ → List ℕ
trimmed_end text = take (length text - suffix_len is_ascii_whitespace text) text

abbrev pub trimmed : List ℕ → List ℕ
trimmed text = trimmed_end (trimmed_start text)

-- what is on a line: what is before its first `#`, without the white space around it
abbrev pub before_comment : List ℕ → List ℕ
before_comment line = before_first (λ b. b == hash_sign) line

abbrev pub line_key : List ℕ → List ℕ
line_key line = trimmed (before_comment line)

-- an entry: the number of its line, from 1, and its key
pub record EntryView : Type 0 where
  pub line : ℕ
  pub key : List ℕ

abbrev pub entry_view : Entry → EntryView
entry_view e = record { line = e.line; key = e.key.now }

-- the entry of a line of this number with this on it; it has none where nothing is on it
abbrev pub entry_on : ℕ → List ℕ → List EntryView
entry_on n key = if length key == 0 then [] else record { line = n; key = key } ∷ []

-- the entries of lines, the first of which has this number
abbrev pub entries_from : ℕ → List (List ℕ) → List EntryView
entries_from n [] = []
entries_from n (line ∷ lines) = entry_on n (line_key line) ++ entries_from (n + 1) lines

-- the entries of a list, whose lines are what is between its bytes `\n`
abbrev pub lines_of : List ℕ → List (List ℕ)
lines_of text = slice_split (λ b. b == 10) text

abbrev pub entries_of : List ℕ → List EntryView
entries_of text = entries_from 1 (lines_of text)

-- an entry allows what is imported from a module
abbrev pub allows : List ℕ → EntryView → Bool
allows module_name entry = asks_about entry.key module_name

abbrev pub is_allowed : List EntryView → List ℕ → Bool
is_allowed entries module_name = list_any (allows module_name) entries

-- the modules from which these are imported; and those at whose imports paths end
abbrev pub module_names : List ImportValue → List (List ℕ)
module_names imports = map (λ (i : ImportValue). i.module_name) imports

abbrev pub way_module : TreeWayView → List (List ℕ)
way_module w = option_to_list (option_map (λ (i : TreeImportView). i.from) w.origin)

abbrev pub way_modules : List TreeWayView → List (List ℕ)
way_modules ways = flat_map way_module ways

-- of these modules those that no entry allows, each once, in the order of their first occurrences
abbrev pub unallowed : List EntryView → List (List ℕ) → List (List ℕ)
unallowed entries names = first_occurrences (filter (λ m. not (is_allowed entries m)) names)

-- a module is one of them: it is one of the modules, and no entry asks about it
abbrev pub IsUnallowed : List EntryView → List (List ℕ) → List ℕ → Type 0
IsUnallowed entries names m = Contains names m × All (λ (e : EntryView). asks_about e.key m ≡ false) entries

-- the entries that allow none of these modules, in order
abbrev pub is_used : List (List ℕ) → EntryView → Bool
is_used names entry = list_any (λ m. allows m entry) names

abbrev pub unused : List EntryView → List (List ℕ) → List EntryView
unused entries names = filter (λ e. not (is_used names e)) entries

-- the place of a line in the file of this path
abbrev pub entry_place : List ℕ → ℕ → List ℕ
entry_place path line = codes "line " ++ (decimal line ++ (codes " of " ++ escaped path))

-- that an entry of the list of this path allows nothing
abbrev pub warning_text : List ℕ → EntryView → List ℕ
warning_text path entry = entry_place path entry.line ++ (codes " allows nothing: " ++ word entry.key)

-- names as words, each after a blank
abbrev pub listed_word : List ℕ → List ℕ
listed_word name = codes " " ++ given_word name

abbrev pub listed_words : List (List ℕ) → List ℕ
listed_words names = flat_map listed_word names

-- the first names, and how many there are more
abbrev pub word_listing : List (List ℕ) → List ℕ
word_listing names =
    if nat_le (length names) most_listed then listed_words names
    else (listed_words (take most_listed names) ++ more_text (length names - most_listed))

-- that imports from these modules are not allowed
abbrev pub not_allowed_text : List (List ℕ) → List ℕ
not_allowed_text names = codes "not allowed:" ++ word_listing names
