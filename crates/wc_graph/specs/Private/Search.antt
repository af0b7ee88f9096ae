-- A search: marks, and the list of what is marked, in the order in which it was found.
use Rattle.std.specs.Prelude.{ℕ, List, Bool, false, slice_index_or}
use Rattle.wc_graph.specs.Growth.{IsGrown, IsTied}
use Rattle.wc_graph.specs.declared.search.Search.{Search}

-- whether a search has found an item
abbrev pub finds : Search → ℕ → Bool
finds s x = slice_index_or s.seen.items x false

abbrev pub IsConsistent : Search → Type 0
IsConsistent s = IsTied (finds s) s.order.items

-- these items were found, and no others
abbrev pub FindsItems : Search → Search → List ℕ → Type 0
FindsItems old new xs = IsGrown (finds old) old.order.items (finds new) new.order.items xs
