-- What an operator refers to: the items of the module that it names, in order.
use Rattle.std.specs.Prelude.{ℕ, List, [], Bool, true, false, ◌||◌, Option, Some, None}
use Rattle.std.specs.Option.{option_map}
use Rattle.wc_read.specs.Types.{type_index, type_indices}
use Rattle.wc_read.specs.Operators.{ImmediatesValue, WithNone, WithBlock, WithIndex, WithIndices, WithLabels, WithValTypes, WithRefType, WithMemArg, WithMemArgLane, WithI32, WithI64, WithBytes, WithLane}
use Rattle.wc_read.specs.declared.types.ValType.{ValType}
use Rattle.wc_read.specs.declared.operators.Space.{Space}
use Rattle.wc_read.specs.declared.operators.Space.TheVariants.{Types, Memories}
use Rattle.wc_read.specs.declared.operators.IndexKind.{IndexKind}
use Rattle.wc_read.specs.declared.operators.IndexKind.TheVariants.{In, Elem, Data, Local, Label}
use Rattle.wc_read.specs.declared.operators.Index.{Index}
use Rattle.wc_read.specs.declared.operators.BlockType.TheVariants.{Empty, Value, FuncType}
use Rattle.wc_read.specs.declared.operators.Refs.{Refs}
use Rattle.wc_read.specs.declared.references.TypeRefs.{TypeRefs}

abbrev pub in_space : IndexKind → ℕ → Option (Space × ℕ)
in_space (In space) number = Some (space, number)
in_space Elem number = None
in_space Data number = None
in_space Local number = None
in_space Label number = None

-- the item that an index names, none for a local, a label or a segment
abbrev pub reference : Index → Option (Space × ℕ)
reference i = in_space i.kind i.number

-- a value type names one type at most
abbrev pub type_reference : ValType → Option (Space × ℕ)
type_reference t = option_map (λ n. (Types, n)) (type_index t)

abbrev pub one_ref : Option (Space × ℕ) → Refs
one_ref o = record { first = o; second = None }

-- of two references those that there are, without a gap
abbrev pub two_refs : Option (Space × ℕ) → Option (Space × ℕ) → Refs
two_refs None second = one_ref second
two_refs (Some first) second = record { first = Some first; second = second }

abbrev pub refs_of : ImmediatesValue → Refs
refs_of (WithBlock (FuncType number)) = one_ref (Some (Types, number))
refs_of (WithBlock Empty) = one_ref None
refs_of (WithBlock (Value t)) = one_ref (type_reference t)
refs_of (WithIndex i) = one_ref (reference i)
refs_of (WithIndices i j) = two_refs (reference i) (reference j)
refs_of (WithMemArg m) = one_ref (Some (Memories, m.memory))
refs_of (WithMemArgLane m lane) = one_ref (Some (Memories, m.memory))
refs_of WithNone = one_ref None
refs_of (WithLabels ls d) = one_ref None
refs_of (WithValTypes ts) = one_ref None
refs_of (WithRefType t) = one_ref (type_reference t)
refs_of (WithI32 n) = one_ref None
refs_of (WithI64 n) = one_ref None
refs_of (WithBytes bytes) = one_ref None
refs_of (WithLane lane) = one_ref None

-- the types named by the value types of a `select`, in order. `refs_of` lists none of these, as there is no bound on them
abbrev pub type_refs_of : ImmediatesValue → List ℕ
type_refs_of (WithValTypes ts) = type_indices ts
type_refs_of _ = []

-- the types that an iterator over the types of a `select` has yet to yield
abbrev pub type_refs_left : TypeRefs → List ℕ
type_refs_left s = type_indices s.types.now

-- whether an operator names a segment

abbrev pub is_segment : IndexKind → Bool
is_segment (In space) = false
is_segment Elem = true
is_segment Data = true
is_segment Local = false
is_segment Label = false

abbrev pub names_segment : ImmediatesValue → Bool
names_segment (WithIndex i) = is_segment i.kind
names_segment (WithIndices i j) = is_segment i.kind || is_segment j.kind
names_segment _ = false
