-- The names of adapters.
use Rattle.std.specs.Prelude.{◌≡◌, ℕ, List, Bool}
use Rattle.std.specs.Borrow.{Bor}
use Rattle.std.specs.List.{list_any}
use Rattle.std.specs.Str.{bytes_eq}
use Rattle.wc_module_ways.specs.Adapters.{Given}

abbrev pub is_name : Bor (List ℕ) → Bor (List ℕ) → Bool
is_name name k = bytes_eq name.now k.now

-- the names are those of the adapters that are given
abbrev pub HasNames : List Given → List (Bor (List ℕ)) → Type 0
HasNames given keys = (q : Bor (List ℕ)) → list_any (is_name q) keys ≡ list_any (λ (g : Given). bytes_eq q.now g.0) given
