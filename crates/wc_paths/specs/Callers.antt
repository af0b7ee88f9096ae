-- Functions that may call what an element segment puts in a table.
use Rattle.std.specs.Prelude.{◌≡◌, ◌↔◌, ℕ, List, [], length, filter, Bool, true, false, Contains, MatchOption, Option, Some, None}
use Rattle.std.specs.List.{range_with_len, slice_get}
use Rattle.std.specs.Option.{option_and_then, option_map, option_map_or}
use Rattle.wc_read.specs.Bodies.{BodyValue}
use Rattle.wc_read.specs.Items.{local}
use Rattle.wc_read.specs.Operators.{InstrValue, WithIndices, index_of}
use Rattle.wc_read.specs.Types.{FuncTypeValue}
use Rattle.wc_read.specs.declared.operators.IndexKind.TheVariants.{In}
use Rattle.wc_read.specs.declared.operators.Space.TheVariants.{Types, Funcs, Tables}
use Rattle.wc_read.specs.Decoded.{DecodedModule, FuncCode}
use Rattle.wc_segments.specs.Elements.{ElementValue}
use Rattle.wc_segments.specs.Modes.{ModeValue, passive, active, declarative}
use Rattle.wc_paths.specs.CallLists.{CallKey, listed}
use Rattle.wc_paths.specs.Items.{GraphValue}
use Rattle.wc_paths.specs.Paths.{IsReachedInAny}
use Rattle.wc_paths.specs.declared.callers.Callers.{Callers}
use Rattle.wc_paths.specs.declared.items.PathItem.{PathItem}
use Rattle.wc_paths.specs.declared.items.PathItem.TheVariants.{Item, Elements}
use Rattle.wc_graph.specs.Private.Places.{entry_by}

-- an operator calls with a type through a table: it names a type that is equal, and then the table. Of all operators
-- `call_indirect` and `return_call_indirect` alone name a type and a table
pub record CallsThrough (types : List FuncTypeValue) (table : ℕ) (ty : FuncTypeValue) (operator : InstrValue) : Type 0 where
  pub index : ℕ
  pub names : operator.immediates ≡ WithIndices (index_of (In Types) index) (index_of (In Tables) table)
  pub typed : slice_get types index ≡ Some ty

-- a function has such an operator
pub record HasCall (m : DecodedModule) (table : ℕ) (ty : FuncTypeValue) (n : ℕ) : Type 0 where
  pub func : FuncCode
  pub is : slice_get m.funcs n ≡ Some func
  pub body : BodyValue
  pub code : func.def ≡ local (Some body)
  pub operator : InstrValue
  pub there : Contains body.operators operator
  pub calls : CallsThrough m.types table ty operator

-- a function may call those of a type that are in a table: a root of either list leads to it, and it calls with this type
-- through this table
abbrev pub IsCaller : GraphValue → List PathItem → List PathItem → ℕ → FuncTypeValue → ℕ → Type 0
IsCaller g first second table ty n = IsReachedInAny g first second (Item Funcs n) × HasCall g.code table ty n

-- all of them, by their indices
pub record AreCallers (g : GraphValue) (first second : List PathItem) (table : ℕ) (ty : FuncTypeValue) (callers : List ℕ) : Type 0 where
  pub is_caller : ℕ → Bool
  pub tells : (n : ℕ) → (is_caller n ≡ true) ↔ IsCaller g first second table ty n
  pub are : callers ≡ filter is_caller (range_with_len 0 (length g.code.funcs))

-- the table that a segment fills, if it is active
abbrev pub table_of : ModeValue → Option ℕ
table_of passive = None
table_of (active index offset) = Some index
table_of declarative = None

abbrev pub filled_table : List ElementValue → ℕ → Option ℕ
filled_table es n = option_and_then (λ (e : ElementValue). table_of e.mode) (slice_get es n)

-- the type of a function
abbrev pub function_type : DecodedModule → ℕ → Option FuncTypeValue
function_type m n = option_and_then (λ (f : FuncCode). slice_get m.types f.ty) (slice_get m.funcs n)

-- what an active element segment puts in its table, a function: the table, and the function's type
abbrev pub put_in_table : GraphValue → PathItem → PathItem → Option (ℕ × FuncTypeValue)
put_in_table g (Elements n) (Item Funcs m) =
    option_and_then (λ table. option_map (λ ty. (table, ty)) (function_type g.code m)) (filled_table g.segments.elements n)
put_in_table g x y = None

-- those that may call an item which another one puts in a table; of other items none
abbrev pub AreCallersBetween : GraphValue → List PathItem → List PathItem → PathItem → PathItem → List ℕ → Type 0
AreCallersBetween g first second x y callers = MatchOption (put_in_table g x y) (callers ≡ []) (λ p. AreCallers g first second p.0 p.1 callers)

-- for two items, of which one is after the other on a path, those that may call
abbrev pub Calling : Type 0
Calling = PathItem → PathItem → List ℕ

abbrev pub IsCalling : GraphValue → List PathItem → List PathItem → Calling → Type 0
IsCalling g first second calling = (x y : PathItem) → AreCallersBetween g first second x y (calling x y)

-- the same, as the code has it

abbrev pub call_key : Callers → PathItem → PathItem → Option CallKey
call_key c (Elements n) (Item Funcs m) =
    option_and_then (λ table. option_map (λ ty. (table, ty)) (entry_by (slice_get c.types.items m))) (entry_by (slice_get c.tables.items n))
call_key c x y = None

abbrev pub calling_of : Callers → Calling
calling_of c x y = option_map_or (listed c.lists.entries) (call_key c x y) []

-- for each function whether a root of either list leads there

abbrev pub is_reached : List Bool → ℕ → Bool
is_reached reached n = option_map_or (λ (b : Bool). b) (slice_get reached n) false

abbrev pub AreReached : GraphValue → List PathItem → List PathItem → List Bool → Type 0
AreReached g first second reached = (n : ℕ) → (is_reached reached n ≡ true) ↔ IsReachedInAny g first second (Item Funcs n)

-- in whatever graph, and from whatever roots, these are reached, they are those that may call
abbrev pub AreCallersIn : GraphValue → List Bool → Callers → Type 0
AreCallersIn g reached c = (first second : List PathItem) → AreReached g first second reached → IsCalling g first second (calling_of c)
