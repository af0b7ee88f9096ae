-- The items of index spaces, as values.
use Rattle.std.specs.Prelude.{ℕ, List, map, ⊤}
use Rattle.std.specs.Borrow.{Bor}
use Rattle.wc_read.specs.declared.types.TableType.{TableType}
use Rattle.wc_read.specs.declared.types.MemoryType.{MemoryType}
use Rattle.wc_read.specs.declared.types.GlobalType.{GlobalType}
use Rattle.wc_read.specs.declared.items.Def.{Def}
use Rattle.wc_read.specs.declared.items.Def.TheVariants.{Import, Local}
use Rattle.wc_read.specs.declared.items.Item.{Item}

-- where an item comes from: an import, by the names of its module and its own, or a content
pub data DefValue (C : Type 0) : Type 0 where
  imported : List ℕ → List ℕ → DefValue C
  local : C → DefValue C

pub record ItemValue (T C : Type 0) : Type 0 where
  pub ty : T
  pub def : DefValue C

-- contents are seen by view
abbrev pub def_value : {C D : Type 0} → (C → D) → Def C → DefValue D
def_value view (Import m n) = imported m.now n.now
def_value view (Local x) = local (view x)

abbrev pub item_value : {T C D : Type 0} → (C → D) → Item T C → ItemValue T D
item_value view i = record { ty = i.ty; def = def_value view i.def }

-- functions: the indices of their types, and their bodies' bytes
abbrev pub FuncValue : Type 0
FuncValue = ItemValue ℕ (List ℕ)

-- tables and memories have no content
abbrev pub TableValue : Type 0
TableValue = ItemValue TableType ⊤

abbrev pub MemoryValue : Type 0
MemoryValue = ItemValue MemoryType ⊤

-- globals: their types, and their initialisers' bytes
abbrev pub GlobalValue : Type 0
GlobalValue = ItemValue GlobalType (List ℕ)

abbrev pub func_value : Item ℕ (Bor (List ℕ)) → FuncValue
func_value f = item_value (λ b. b.now) f

abbrev pub table_value : Item TableType ⊤ → TableValue
table_value t = item_value (λ _. tt) t

abbrev pub memory_value : Item MemoryType ⊤ → MemoryValue
memory_value m = item_value (λ _. tt) m

abbrev pub global_value : Item GlobalType (Bor (List ℕ)) → GlobalValue
global_value g = item_value (λ b. b.now) g

abbrev pub func_values : List (Item ℕ (Bor (List ℕ))) → List FuncValue
func_values fs = map func_value fs

abbrev pub global_values : List (Item GlobalType (Bor (List ℕ))) → List GlobalValue
global_values gs = map global_value gs

abbrev pub def_seen : {C D : Type 0} → (C → D) → DefValue C → DefValue D
def_seen view (imported m n) = imported m n
def_seen view (local x) = local (view x)

abbrev pub item_seen : {T C D : Type 0} → (C → D) → ItemValue T C → ItemValue T D
item_seen view i = record { ty = i.ty; def = def_seen view i.def }
