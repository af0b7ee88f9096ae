-- What patterns say of imports.
use Rattle.std.specs.Prelude.{ℕ, Bool, not, List, map, filter, None}
use Rattle.std.specs.List.{list_any}
use Rattle.wc_read.specs.Imports.{ImportValue}
use Rattle.wc_import_paths.specs.Patterns.{PatternView, is_match}
use Rattle.wcwhy.specs.Allowed.{EntryView}

-- the pattern of a key, which asks for all imports from the modules that the key asks about
abbrev pub key_pattern : List ℕ → PatternView
key_pattern key = (key, None)

abbrev pub entry_pattern : EntryView → PatternView
entry_pattern entry = key_pattern entry.key

-- some pattern asks for an import
abbrev pub is_matched : List PatternView → ImportValue → Bool
is_matched patterns i = list_any (λ p. is_match p i) patterns

-- the modules of the imports for which none does
abbrev pub outside : List PatternView → List ImportValue → List (List ℕ)
outside patterns imports = map (λ (i : ImportValue). i.module_name) (filter (λ i. not (is_matched patterns i)) imports)
