-- What arguments say by options that may come several times; and how many files are standard input.
use Rattle.std.specs.Prelude.{◌≡◌, ℕ, Bool, true, false, nat_eq, nat_lt, List, codes, map, Option}
use Rattle.std.specs.Option.{option_map_or}
use Rattle.wc_import_paths.specs.Patterns.{pattern_of, pattern_view}
use Rattle.wc_options.specs.Adapters.{adapter_file_of, is_standard, pair_or}
use Rattle.wc_options.specs.Reading.{TokenView, values_of}
use Rattle.wc_maps.specs.Texts.{text_of, text_pair}
use Rattle.wcwhy.specs.declared.arguments.Lists.{Lists}

pub record AreLists (tokens : List TokenView) (l : Lists) : Type 0 where
  pub adapters : map text_pair l.adapters.items ≡ map adapter_file_of (values_of (codes "--adapt") tokens)
  pub adapter_exports : map text_pair l.adapter_exports.items ≡ map pair_or (values_of (codes "--adapter-export") tokens)
  pub imports : map pattern_view l.imports.items ≡ map pattern_of (values_of (codes "--import") tokens)
  pub functions : map text_of l.functions.items ≡ values_of (codes "--func") tokens

-- a path that is given stands for standard input
abbrev pub is_standard_path : Option (List ℕ) → Bool
is_standard_path path = option_map_or is_standard path false

-- at most one does, of a path, of another, and of others, of which so many do
abbrev pub is_once : Bool → Bool → ℕ → Bool
is_once true true n = false
is_once true false n = nat_eq n 0
is_once false true n = nat_eq n 0
is_once false false n = nat_lt n 2
