-- Adapters as options give them: by their names, with the paths of their modules, or with exports.
use Rattle.std.specs.Prelude.{ℕ, ◌==◌, Bool, List, [], codes, filter, length, nat_lt, unwrap_or}
use Rattle.std.specs.List.{before_first}
use Rattle.std.specs.Path.{dot as full_stop, path_file_name}
use Rattle.std.specs.Str.{bytes_eq}
use Rattle.wc_options.specs.Reading.{pair_of}

-- the name of a file: the last component of its path; the path itself, if that has none
abbrev pub file_name : List ℕ → List ℕ
file_name path = unwrap_or (path_file_name path) path

-- what is before the first `.`; without one all
abbrev pub stem : List ℕ → List ℕ
stem name = before_first (λ b. b == full_stop) name

-- the name and the file of an adapter: the texts before and after the first `=`; or the file's own name, up to its first `.`
abbrev pub adapter_file_of : List ℕ → List ℕ × List ℕ
adapter_file_of value = unwrap_or (pair_of value) (stem (file_name value), value)

-- the name of an adapter and a key; all and nothing, where there is no `=`
abbrev pub pair_or : List ℕ → List ℕ × List ℕ
pair_or value = unwrap_or (pair_of value) (value, [])

-- a path that stands for standard input
abbrev pub is_standard : List ℕ → Bool
is_standard path = bytes_eq path (codes "-")

-- at most one of some paths does
abbrev pub is_standard_once : List (List ℕ) → Bool
is_standard_once paths = nat_lt (length (filter is_standard paths)) 2
