-- Names of functions.
use Rattle.std.specs.Prelude.{ℕ, List, nat_eq, Option}
use Rattle.std.specs.Map.{lookup}
use Rattle.wc_read.specs.Names.{GlobalNameValue}

-- the name of a function by its index, if it has one
abbrev pub function_name : List GlobalNameValue → ℕ → Option (List ℕ)
function_name names index = lookup (nat_eq index) names
