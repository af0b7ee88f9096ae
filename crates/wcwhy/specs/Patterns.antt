-- Which imports are near to one that is asked for.
use Rattle.std.specs.Prelude.{ℕ, Bool, true, false, ◌&&◌, List, Option, Some, None}
use Rattle.std.specs.List.{find}
use Rattle.std.specs.Option.{option_map, option_map_or}
use Rattle.wc_read.specs.Imports.{ImportValue}
use Rattle.wc_why.specs.Keys.{package_of}
use Rattle.wc_import_paths.specs.Patterns.{PatternView}
use Rattle.wcwhy.specs.Texts.{is_alike}

-- a name that is asked for is this one but for its version and for the case of letters
abbrev pub is_near_name : Option (List ℕ) → List ℕ → Bool
is_near_name None name = true
is_near_name (Some n) name = is_alike n name

-- an option would ask for an import, if versions and the case of letters did not count
abbrev pub is_near : PatternView → ImportValue → Bool
is_near p i = is_alike p.0 i.module_name && is_near_name p.1 i.name

-- the first such import
abbrev pub near_import : List ImportValue → PatternView → Option ImportValue
near_import imports p = find (is_near p) imports

-- the package of a module is a key but for its version and for the case of letters
abbrev pub is_package_alike : List ℕ → List ℕ → Bool
is_package_alike key module_name = option_map_or (is_alike key) (package_of module_name) false

-- an option would ask for the package of an import, if versions and the case of letters did not count
abbrev pub is_near_package : PatternView → ImportValue → Bool
is_near_package p i = is_package_alike p.0 i.module_name && is_near_name p.1 i.name

-- the first such import
abbrev pub near_package : List ImportValue → PatternView → Option ImportValue
near_package imports p = find (is_near_package p) imports

-- what asks for what is under a key, and for this name of it where an option has one
abbrev pub named_under : PatternView → List ℕ → List ℕ → PatternView
named_under p key name = (key, option_map (λ (n : List ℕ). name) p.1)

-- what asks for an import as an option does: for its module, and for its name where the option has one
abbrev pub near_pattern : PatternView → ImportValue → PatternView
near_pattern p i = named_under p i.module_name i.name
