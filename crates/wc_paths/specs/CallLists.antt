-- Functions that call through tables, listed by the table and by the first type that is equal to the one that they call with.
use Rattle.std.specs.Prelude.{ℕ, List, [], Bool, ◌&&◌, nat_eq}
use Rattle.std.specs.Map.{lookup}
use Rattle.std.specs.Option.{option_map_or}
use Rattle.std.specs.declared.alloc.Global.{Global}
use Rattle.std.specs.declared.vec.Vec.{Vec}

-- a table, and the first type that is equal to one
abbrev pub CallKey : Type 0
CallKey = ℕ × ℕ

abbrev pub is_call_key : CallKey → CallKey → Bool
is_call_key a b = nat_eq a.0 b.0 && nat_eq a.1 b.1

-- lists of functions by keys
abbrev pub CallLists : Type 0
CallLists = List (CallKey × Vec ℕ Global)

abbrev pub listed : CallLists → CallKey → List ℕ
listed lists key = option_map_or (λ v. v.items) (lookup (is_call_key key) lists) []
