-- Items of a module, its segments among them, and what each names, in order.
use Rattle.std.specs.Prelude.{ℕ, List, [], ◌∷◌, ◌++◌, map, length, Bool, true, ◌&&◌, nat_lt, Option, Some, None, filter}
use Rattle.std.specs.List.{flat_map, list_all, slice_get}
use Rattle.std.specs.Option.{option_map_or, option_to_list}
use Rattle.wc_read.specs.Bodies.{BodyValue, local_types}
use Rattle.wc_read.specs.BodyOperators.{init_in}
use Rattle.wc_read.specs.Items.{DefValue, imported, local}
use Rattle.wc_read.specs.Modules.{ModuleValue}
use Rattle.wc_read.specs.Operators.{ImmediatesValue, InstrValue, WithIndex, WithIndices, WithValTypes}
use Rattle.wc_read.specs.References.{refs_of}
use Rattle.wc_read.specs.declared.operators.Index.{Index}
use Rattle.wc_read.specs.declared.operators.IndexKind.{IndexKind}
use Rattle.wc_read.specs.declared.operators.IndexKind.TheVariants.{In, Elem, Data as data_kind, Local, Label}
use Rattle.wc_read.specs.declared.operators.Space.{Space}
use Rattle.wc_read.specs.declared.operators.Space.TheVariants.{Types, Funcs, Tables, Memories, Globals}
use Rattle.wc_read.specs.Decoded.{DecodedModule, FuncCode, GlobalCode, ItemIndex, decode, is_code}
use Rattle.wc_read.specs.Entries.{Entry, no_entry, type_entry, func_entry, table_entry, memory_entry, global_entry, entry_at, func_type_refs, refs_list, val_type_refs}
use Rattle.wc_segments.specs.Data.{DataValue}
use Rattle.wc_segments.specs.Elements.{ElementValue, ElementsValue, functions, expressions}
use Rattle.wc_segments.specs.Modes.{ModeValue, passive, active, declarative}
use Rattle.wc_segments.specs.Segments.{SegmentsValue}
use Rattle.wc_paths.specs.declared.items.PathItem.{PathItem}
use Rattle.wc_paths.specs.declared.items.PathItem.TheVariants.{Item, Elements, Data}

-- a module whose bodies and initialisers are code or not, and its segments
pub record GraphValue : Type 0 where
  pub code : DecodedModule
  pub segments : SegmentsValue

abbrev pub graph_of : ModuleValue → SegmentsValue → GraphValue
graph_of m s = record { code = decode m; segments = s }

-- how many items there are of each kind
pub record CountsValue : Type 0 where
  pub types : ℕ
  pub funcs : ℕ
  pub tables : ℕ
  pub memories : ℕ
  pub globals : ℕ
  pub elements : ℕ
  pub data_segments : ℕ

abbrev pub counts_of : GraphValue → CountsValue
counts_of g = record {
  types = length g.code.types;
  funcs = length g.code.funcs;
  tables = length g.code.tables;
  memories = length g.code.memories;
  globals = length g.code.globals;
  elements = length g.segments.elements;
  data_segments = length g.segments.data_segments;
}

-- whether there is an item, where there are so many
abbrev pub has_item : CountsValue → PathItem → Bool
has_item c (Item Types n) = nat_lt n c.types
has_item c (Item Funcs n) = nat_lt n c.funcs
has_item c (Item Tables n) = nat_lt n c.tables
has_item c (Item Memories n) = nat_lt n c.memories
has_item c (Item Globals n) = nat_lt n c.globals
has_item c (Elements n) = nat_lt n c.elements
has_item c (Data n) = nat_lt n c.data_segments

-- items of spaces
abbrev pub space_item : ItemIndex → PathItem
space_item x = Item x.0 x.1

abbrev pub space_items : List ItemIndex → List PathItem
space_items xs = map space_item xs

-- what an index names: an item of a space, or a segment; a local and a label are none
abbrev pub kind_item : IndexKind → ℕ → Option PathItem
kind_item (In space) n = Some (Item space n)
kind_item Elem n = Some (Elements n)
kind_item data_kind n = Some (Data n)
kind_item Local n = None
kind_item Label n = None

abbrev pub index_items : Index → List PathItem
index_items i = option_to_list (kind_item i.kind i.number)

-- what an operator names, in the order in which it is spelled
abbrev pub operator_items : ImmediatesValue → List PathItem
operator_items (WithIndex i) = index_items i
operator_items (WithIndices i j) = index_items i ++ index_items j
operator_items (WithValTypes ts) = space_items (val_type_refs ts)
operator_items v = space_items (refs_list (refs_of v))

abbrev pub code_items : List InstrValue → List PathItem
code_items is = flat_map (λ i. operator_items i.immediates) is

-- the types of a body's locals, and what its operators name
abbrev pub code_body_items : BodyValue → List PathItem
code_body_items b = space_items (val_type_refs (local_types b.locals)) ++ code_items b.operators

abbrev pub body_items : Option BodyValue → List PathItem
body_items b = option_map_or code_body_items b []

-- the type of a function, and what its body names; nothing, where that is no code
abbrev pub def_items : DefValue (Option BodyValue) → List PathItem
def_items (imported m n) = []
def_items (local b) = body_items b

abbrev pub func_items : FuncCode → List PathItem
func_items f = Item Types f.ty ∷ def_items f.def

-- what a constant expression names; nothing, where it is no code
abbrev pub expression_items : Option (List InstrValue) → List PathItem
expression_items is = option_map_or code_items is []

abbrev pub init_items : List ℕ → List PathItem
init_items bytes = expression_items (init_in bytes)

-- the type of a global, and what its initialiser names
abbrev pub value_items : DefValue (Option (List InstrValue)) → List PathItem
value_items (imported m n) = []
value_items (local is) = expression_items is

abbrev pub global_items : GlobalCode → List PathItem
global_items y = space_items (val_type_refs (y.ty.content_type ∷ [])) ++ value_items y.def

-- what an active segment fills, and what its offset names
abbrev pub mode_items : Space → ModeValue → List PathItem
mode_items space passive = []
mode_items space (active index offset) = Item space index ∷ init_items offset
mode_items space declarative = []

abbrev pub elements_items : ElementsValue → List PathItem
elements_items (functions indices) = map (λ n. Item Funcs n) indices
elements_items (expressions es) = flat_map init_items es

-- what it fills, the type that its reference type names, its elements
abbrev pub element_items : ElementValue → List PathItem
element_items e = mode_items Tables e.mode ++ (space_items (val_type_refs (e.ty ∷ [])) ++ elements_items e.elements)

abbrev pub data_items : DataValue → List PathItem
data_items d = mode_items Memories d.mode

abbrev pub entry_items : Entry → List PathItem
entry_items no_entry = []
entry_items (type_entry t) = space_items (func_type_refs t)
entry_items (func_entry f) = func_items f
entry_items (table_entry t) = space_items (val_type_refs (t.ty.element_type ∷ []))
entry_items (memory_entry m) = []
entry_items (global_entry y) = global_items y

-- all that an item names
abbrev pub items_of : GraphValue → PathItem → List PathItem
items_of g (Item space n) = entry_items (entry_at g.code (space, n))
items_of g (Elements n) = option_map_or element_items (slice_get g.segments.elements n) []
items_of g (Data n) = option_map_or data_items (slice_get g.segments.data_segments n) []

-- what an item names, of what is there
abbrev pub names_in : GraphValue → PathItem → List PathItem
names_in g x = filter (has_item (counts_of g)) (items_of g x)

-- a function whose body is code, or an import; any other item
abbrev pub is_entry_code : Entry → Bool
is_entry_code no_entry = true
is_entry_code (type_entry t) = true
is_entry_code (func_entry f) = is_code f.def
is_entry_code (table_entry t) = true
is_entry_code (memory_entry m) = true
is_entry_code (global_entry y) = true

abbrev pub is_item_code : DecodedModule → PathItem → Bool
is_item_code m (Item space n) = is_entry_code (entry_at m (space, n))
is_item_code m (Elements n) = true
is_item_code m (Data n) = true

-- a function is closed where its body is code, and it names items alone that are there. Of other items all are there in a
-- module that was read
abbrev pub is_closed_item : PathItem → Bool → Bool → Bool
is_closed_item (Item Funcs n) code there = code && there
is_closed_item (Item Types n) code there = true
is_closed_item (Item Tables n) code there = true
is_closed_item (Item Memories n) code there = true
is_closed_item (Item Globals n) code there = true
is_closed_item (Elements n) code there = true
is_closed_item (Data n) code there = true

abbrev pub is_closed : GraphValue → PathItem → Bool
is_closed g x = is_closed_item x (is_item_code g.code x) (list_all (has_item (counts_of g)) (items_of g x))
