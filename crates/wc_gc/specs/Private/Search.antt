-- A search: a set, and the list of what is in it, in the order in which it was found.
use Rattle.std.specs.Prelude.{◌≡◌, ℕ, List, Bool, true, Option}
use Rattle.wc_read.specs.Operators.{InstrValue}
use Rattle.wc_read.specs.Passing.{run_and_left}
use Rattle.wc_read.specs.Decoded.{DecodedModule, ItemIndex}
use Rattle.wc_read.specs.Entries.{present, code_refs}
use Rattle.wc_gc.specs.InRange.{is_code_in_range}
use Rattle.wc_gc.specs.Live.{has_item}
use Rattle.wc_gc.specs.declared.search.Search.{Search}
use Rattle.wc_graph.specs.Growth.{IsTied, IsGrown}

-- whether a search has found an item
abbrev pub finds : {L : Type 0} → (L → ℕ → Bool) → Search L → ItemIndex → Bool
finds has s = has_item has s.live

abbrev pub IsConsistent : {L : Type 0} → (L → ℕ → Bool) → Search L → Type 0
IsConsistent has s = IsTied (finds has s) s.order.items

-- these items were found, and no others
abbrev pub FindsItems : {L : Type 0} → (L → ℕ → Bool) → Search L → Search L → List ItemIndex → Type 0
FindsItems has old new xs = IsGrown (finds has old) old.order.items (finds has new) new.order.items xs

-- operators name items of the module alone, and these were found
abbrev pub IsKnownCode : {L : Type 0} → (L → ℕ → Bool) → DecodedModule → Search L → List InstrValue → Type 0
IsKnownCode has m s is = FindsItems has s s (present m (code_refs is)) × (is_code_in_range m is ≡ true)

-- operators that name nothing new are passed over, up to those that are left
abbrev pub PassesKnown : {L : Type 0} → (L → ℕ → Bool) → DecodedModule → Search L → Option (List InstrValue) → Option (List InstrValue) → Type 0
PassesKnown has m s old left = (run : List InstrValue) × IsKnownCode has m s run × (old ≡ run_and_left run left)
