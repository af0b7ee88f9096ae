-- Functions to which roots lead, as the code marks them.
use Rattle.std.specs.Prelude.{◌≡◌, ◌↔◌, ◌⊎◌, ℕ, Bool, false, ◌&&◌, ◌||◌, List, Contains, length, nat_eq, nat_lt}
use Rattle.std.specs.List.{list_any}
use Rattle.wc_read.specs.declared.operators.Space.TheVariants.{Funcs}
use Rattle.wc_graph.specs.Reached.{IsReachedFrom}
use Rattle.wc_paths.specs.Callers.{is_reached}
use Rattle.wc_paths.specs.Items.{CountsValue, GraphValue}
use Rattle.wc_paths.specs.Numbers.{item_at, numbers_in, numbers_of}
use Rattle.wc_paths.specs.declared.paths.PathFault.{PathFault}
use Rattle.wc_paths.specs.declared.paths.PathFault.TheVariants.{Memory, LiveBody}
use Rattle.wc_paths.specs.declared.items.PathItem.{PathItem}
use Rattle.wc_paths.specs.declared.items.PathItem.TheVariants.{Item, Elements, Data}

-- numbers are those of the items that roots reach
abbrev pub IsFound : GraphValue → List PathItem → List ℕ → Type 0
IsFound g roots found = (n : ℕ) → Contains found n ↔ IsReachedFrom (numbers_in g) (numbers_of g roots) n

-- the fault for an item: memory ran out, or it is a function
abbrev pub IsFaultOf : PathItem → PathFault → Type 0
IsFaultOf x f = (f ≡ Memory) ⊎ ((n : ℕ) × (x ≡ Item Funcs n) × (f ≡ LiveBody n))

-- an item is the function of an index
abbrev pub is_function : ℕ → PathItem → Bool
is_function n (Item Funcs m) = nat_eq n m
is_function n (Item space m) = false
is_function n (Elements m) = false
is_function n (Data m) = false

abbrev pub is_function_at : CountsValue → ℕ → ℕ → Bool
is_function_at c n number = is_function n (item_at c number)

-- an item was marked, if it is a function that is there; and those of some numbers
abbrev pub marks : PathItem → List Bool → List Bool → Type 0
marks x old new = (n : ℕ) → is_reached new n ≡ (is_reached old n || (nat_lt n (length old) && is_function n x))

abbrev pub Marks : CountsValue → List ℕ → List Bool → List Bool → Type 0
Marks c numbers old new = (n : ℕ) → is_reached new n ≡ (is_reached old n || (nat_lt n (length old) && list_any (is_function_at c n) numbers))

-- the functions of two lists of numbers
abbrev pub AreMarked : CountsValue → List ℕ → List ℕ → List Bool → Type 0
AreMarked c first second reached =
    (n : ℕ) → is_reached reached n ≡ (nat_lt n c.funcs && (list_any (is_function_at c n) first || list_any (is_function_at c n) second))
