-- Which imports are asked for.
use Rattle.std.specs.Prelude.{ℕ, Bool, true, false, not, ◌&&◌, List, [], ◌∷◌, Option, Some, None}
use Rattle.std.specs.List.{find, list_any}
use Rattle.std.specs.Option.{option_map}
use Rattle.std.specs.Str.{bytes_eq}
use Rattle.wc_texts.specs.Splits.{split_once}
use Rattle.wc_read.specs.Imports.{ImportValue}
use Rattle.wc_why.specs.Keys.{asks_about}
use Rattle.wc_why.specs.Texts.{text_of}
use Rattle.wc_import_paths.specs.declared.patterns.ImportPattern.{ImportPattern}

-- imports that are asked for: a key of modules, and a name, where only imports of this name are
abbrev pub PatternView : Type 0
PatternView = List ℕ × Option (List ℕ)

abbrev pub pattern_view : ImportPattern → PatternView
pattern_view p = (p.key.now, option_map text_of p.name)

-- the imports that a text asks for: those of `KEY`, or of `KEY=NAME`; 61 is `=`
abbrev pub pattern_by : List ℕ → Option (List ℕ × List ℕ) → PatternView
pattern_by text None = (text, None)
pattern_by text (Some p) = (p.0, Some p.1)

abbrev pub pattern_of : List ℕ → PatternView
pattern_of text = pattern_by text (split_once 61 text)

-- a name is asked for
abbrev pub is_name : Option (List ℕ) → List ℕ → Bool
is_name None name = true
is_name (Some n) name = bytes_eq n name

-- an import is one of those that a pattern asks for
abbrev pub is_match : PatternView → ImportValue → Bool
is_match p i = asks_about p.0 i.module_name && is_name p.1 i.name

-- there are patterns that ask for imports
abbrev pub are_asked : List PatternView → Bool
are_asked [] = false
are_asked (p ∷ patterns) = true

-- an import is asked for: by a pattern, or because there are none
abbrev pub is_shown : List PatternView → ImportValue → Bool
is_shown [] i = true
is_shown (p ∷ patterns) i = list_any (λ q. is_match q i) (p ∷ patterns)

-- a pattern asks for any of these imports
abbrev pub is_known : List ImportValue → PatternView → Bool
is_known imports p = list_any (is_match p) imports

-- the first pattern that asks for none of them
abbrev pub first_unknown : List ImportValue → List PatternView → Option PatternView
first_unknown imports patterns = find (λ p. not (is_known imports p)) patterns
