-- Operators under new indices of the module's items.
use Rattle.std.specs.Prelude.{◌≡◌, ℕ, map}
use Rattle.std.specs.Option.{option_map}
use Rattle.wc_read.specs.Operators.{ImmediatesValue, WithNone, WithBlock, WithIndex, WithIndices, WithLabels, WithValTypes, WithRefType, WithMemArg, WithMemArgLane, WithI32, WithI64, WithBytes, WithLane, InstrValue}
use Rattle.wc_read.specs.Types.{FuncTypeValue}
use Rattle.wc_read.specs.References.{refs_of, type_refs_of, names_segment}
use Rattle.wc_read.specs.declared.types.ValType.{ValType}
use Rattle.wc_read.specs.declared.types.ValType.TheVariants.{TypeRef}
use Rattle.wc_read.specs.declared.types.TableType.{TableType}
use Rattle.wc_read.specs.declared.types.GlobalType.{GlobalType}
use Rattle.wc_read.specs.declared.operators.Space.{Space}
use Rattle.wc_read.specs.declared.operators.Space.TheVariants.{Types, Memories}
use Rattle.wc_read.specs.declared.operators.IndexKind.{IndexKind}
use Rattle.wc_read.specs.declared.operators.IndexKind.TheVariants.{In, Elem, Data, Local, Label}
use Rattle.wc_read.specs.declared.operators.Index.{Index}
use Rattle.wc_read.specs.declared.operators.BlockType.{BlockType}
use Rattle.wc_read.specs.declared.operators.BlockType.TheVariants.{Empty, Value, FuncType}
use Rattle.wc_read.specs.declared.operators.MemArg.{MemArg}
use Rattle.wc_read.specs.declared.operators.Refs.{Refs}

-- the new index of each item
abbrev pub Renumbering : Type 0
Renumbering = Space → ℕ → ℕ

-- locals, labels and segments keep theirs
abbrev pub renumber : Renumbering → IndexKind → ℕ → ℕ
renumber new (In space) n = new space n
renumber new Elem n = n
renumber new Data n = n
renumber new Local n = n
renumber new Label n = n

abbrev pub renumber_index : Renumbering → Index → Index
renumber_index new i = record { kind = i.kind; number = renumber new i.kind i.number }

-- value types, and types made of them, under new indices of types

abbrev pub renumber_val_type : Renumbering → ValType → ValType
renumber_val_type new (TypeRef nullable index) = TypeRef nullable (new Types index)
renumber_val_type new t = t

abbrev pub renumber_func_type : Renumbering → FuncTypeValue → FuncTypeValue
renumber_func_type new f = record { params = map (renumber_val_type new) f.params; results = map (renumber_val_type new) f.results }

abbrev pub renumber_table_type : Renumbering → TableType → TableType
renumber_table_type new t = record { element_type = renumber_val_type new t.element_type; table64 = t.table64; initial = t.initial; maximum = t.maximum }

abbrev pub renumber_global_type : Renumbering → GlobalType → GlobalType
renumber_global_type new g = record { content_type = renumber_val_type new g.content_type; mutable = g.mutable }

abbrev pub renumber_block : Renumbering → BlockType → BlockType
renumber_block new Empty = Empty
renumber_block new (Value t) = Value (renumber_val_type new t)
renumber_block new (FuncType n) = FuncType (new Types n)

abbrev pub renumber_mem_arg : Renumbering → MemArg → MemArg
renumber_mem_arg new m = record { align = m.align; memory = new Memories m.memory; offset = m.offset }

abbrev pub renumber_immediates : Renumbering → ImmediatesValue → ImmediatesValue
renumber_immediates new (WithBlock t) = WithBlock (renumber_block new t)
renumber_immediates new (WithIndex i) = WithIndex (renumber_index new i)
renumber_immediates new (WithIndices i j) = WithIndices (renumber_index new i) (renumber_index new j)
renumber_immediates new (WithMemArg m) = WithMemArg (renumber_mem_arg new m)
renumber_immediates new (WithMemArgLane m lane) = WithMemArgLane (renumber_mem_arg new m) lane
renumber_immediates new WithNone = WithNone
renumber_immediates new (WithLabels ls d) = WithLabels ls d
renumber_immediates new (WithValTypes ts) = WithValTypes (map (renumber_val_type new) ts)
renumber_immediates new (WithRefType t) = WithRefType (renumber_val_type new t)
renumber_immediates new (WithI32 n) = WithI32 n
renumber_immediates new (WithI64 n) = WithI64 n
renumber_immediates new (WithBytes bytes) = WithBytes bytes
renumber_immediates new (WithLane lane) = WithLane lane

abbrev pub renumber_instr : Renumbering → InstrValue → InstrValue
renumber_instr new i = record { opcode = i.opcode; immediates = renumber_immediates new i.immediates }

abbrev pub renumber_item : Renumbering → Space × ℕ → Space × ℕ
renumber_item new x = (x.0, new x.0 x.1)

abbrev pub renumber_refs : Renumbering → Refs → Refs
renumber_refs new r = record { first = option_map (renumber_item new) r.first; second = option_map (renumber_item new) r.second }

-- an operator under new indices names the items that it named, under these indices
abbrev pub KeepsRefs : Type 0
KeepsRefs = (new : Renumbering) (v : ImmediatesValue) → refs_of (renumber_immediates new v) ≡ renumber_refs new (refs_of v)

-- a `select` under new indices names the types that it named, under these indices
abbrev pub KeepsTypeRefs : Type 0
KeepsTypeRefs = (new : Renumbering) (v : ImmediatesValue) → type_refs_of (renumber_immediates new v) ≡ map (new Types) (type_refs_of v)

-- an operator under new indices names a segment where it named one
abbrev pub KeepsSegments : Type 0
KeepsSegments = (new : Renumbering) (v : ImmediatesValue) → names_segment (renumber_immediates new v) ≡ names_segment v
