-- Items in one row: types, functions, tables, memories, globals, element segments, data segments.
use Rattle.std.specs.Prelude.{ℕ, ◌+◌, ◌-◌, List, map, filter, nat_lt, if◌then◌else◌}
use Rattle.wc_read.specs.declared.operators.Space.TheVariants.{Types, Funcs, Tables, Memories, Globals}
use Rattle.wc_paths.specs.Items.{CountsValue, GraphValue, counts_of, has_item, names_in}
use Rattle.wc_paths.specs.declared.items.PathItem.{PathItem}
use Rattle.wc_paths.specs.declared.items.PathItem.TheVariants.{Item, Elements, Data}

abbrev pub item_count : CountsValue → ℕ
item_count c = c.types + (c.funcs + (c.tables + (c.memories + (c.globals + (c.elements + c.data_segments)))))

-- the number of an item: how many items are of kinds before its own, and its index
abbrev pub number_of : CountsValue → PathItem → ℕ
number_of c (Item Types n) = n
number_of c (Item Funcs n) = c.types + n
number_of c (Item Tables n) = c.types + (c.funcs + n)
number_of c (Item Memories n) = c.types + (c.funcs + (c.tables + n))
number_of c (Item Globals n) = c.types + (c.funcs + (c.tables + (c.memories + n)))
number_of c (Elements n) = c.types + (c.funcs + (c.tables + (c.memories + (c.globals + n))))
number_of c (Data n) = c.types + (c.funcs + (c.tables + (c.memories + (c.globals + (c.elements + n)))))

-- the item of a number: one of the first kind, or of the kinds after it
abbrev pub split_at : ℕ → (ℕ → PathItem) → (ℕ → PathItem) → ℕ → PathItem
split_at count first others n = if nat_lt n count then first n else others (n - count)

abbrev pub data_at : ℕ → PathItem
data_at n = Data n

abbrev pub elements_on : CountsValue → ℕ → PathItem
elements_on c = split_at c.elements (λ n. Elements n) data_at

abbrev pub globals_on : CountsValue → ℕ → PathItem
globals_on c = split_at c.globals (λ n. Item Globals n) (elements_on c)

abbrev pub memories_on : CountsValue → ℕ → PathItem
memories_on c = split_at c.memories (λ n. Item Memories n) (globals_on c)

abbrev pub tables_on : CountsValue → ℕ → PathItem
tables_on c = split_at c.tables (λ n. Item Tables n) (memories_on c)

abbrev pub funcs_on : CountsValue → ℕ → PathItem
funcs_on c = split_at c.funcs (λ n. Item Funcs n) (tables_on c)

unfoldable pub item_at : CountsValue → ℕ → PathItem
item_at c n = split_at c.types (λ n. Item Types n) (funcs_on c) n

-- of some items those that are there
abbrev pub present : GraphValue → List PathItem → List PathItem
present g xs = filter (has_item (counts_of g)) xs

-- items that are there, and what the item of a number names, by numbers
abbrev pub numbers_of : GraphValue → List PathItem → List ℕ
numbers_of g xs = map (number_of (counts_of g)) (present g xs)

abbrev pub numbers_in : GraphValue → ℕ → List ℕ
numbers_in g n = map (number_of (counts_of g)) (names_in g (item_at (counts_of g) n))
