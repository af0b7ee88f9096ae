-- The types of items of a module.
use Rattle.std.proofs.Common.{◌≡◌, ℕ, ◌<◌, List, map, length, get_or, Some, sym, ap, subst, ◌∙◌}
use Rattle.std.specs.Prelude.{slice_get, ⊤}
use Rattle.std.specs.Borrow.{Bor}
use Rattle.std.specs.Option.{option_and_then, option_map}
use Rattle.std.proofs.lemmas.List.{length-map}
use Rattle.wc_read.specs.declared.core_module.Module.{Module}
use Rattle.wc_read.specs.declared.exports.ExportKind.{ExportKind}
use Rattle.wc_read.specs.declared.exports.ExportKind.TheVariants.{Func, Table, Memory, Global}
use Rattle.wc_read.specs.declared.items.Item.{Item}
use Rattle.wc_read.specs.declared.types.FuncType.{FuncType}
use Rattle.wc_read.specs.declared.types.GlobalType.{GlobalType}
use Rattle.wc_read.specs.declared.types.MemoryType.{MemoryType}
use Rattle.wc_read.specs.declared.types.TableType.{TableType}
use Rattle.wc_read.specs.Items.{FuncValue, TableValue, MemoryValue, GlobalValue, func_value, table_value, memory_value, global_value}
use Rattle.wc_read.specs.Modules.{HaveTypes, count_of, module_value}
use Rattle.wc_read.specs.Types.{func_type_value}
use Rattle.wc_maps.proofs.ListLemmas.{view_found}
use Rattle.wc_resolve.proofs.WellFormedLemmas.{all_get}
use Rattle.wc_names.specs.Imports.{func_type, global_type, memory_type, table_type}
use Rattle.wc_validate.specs.Exports.Record.{item_type}

-- the view of what is read at an index
read_view : {X Y : Type 0} (f : X → Y) (xs : List X) (i : ℕ) (x : X) → i < length (map f xs) → x ≡ get_or xs i x → slice_get (map f xs) i ≡ Some (f x)
read_view f xs i x below is = view_found f xs i x (subst (λ n. i < n) (length-map xs f) below) ∙ ap (λ z. Some (f z)) (sym is)

module _ (m : Module) (kind : ExportKind) (index : ℕ) (below : index < count_of (module_value m) kind) where
  -- the type of a function has an index in the module
  pub func_typed : (f : Item ℕ (Bor (List ℕ))) → kind ≡ Func → f ≡ get_or m.funcs.items index f → HaveTypes (module_value m) → f.ty < length m.types.items
  func_typed f is read typed =
      let here : index < count_of (module_value m) Func = subst (λ k. index < count_of (module_value m) k) is below in
      let at = read_view func_value m.funcs.items index f here read in
      subst (λ n. f.ty < n) (length-map m.types.items func_type_value)
      (all_get (λ (x : FuncValue). x.ty < length (module_value m).types) (module_value m).funcs index (func_value f) typed at)

  pub func_item : (f : Item ℕ (Bor (List ℕ))) (ty : FuncType) → kind ≡ Func → f ≡ get_or m.funcs.items index f → HaveTypes (module_value m)
      → ty ≡ get_or m.types.items f.ty ty
      → item_type (module_value m) kind index ≡ Some (func_type (func_type_value ty))
  func_item f ty is read typed read_type =
      let here : index < count_of (module_value m) Func = subst (λ k. index < count_of (module_value m) k) is below in
      let at = read_view func_value m.funcs.items index f here read in
      let ty_below : f.ty < length (module_value m).types = all_get (λ (x : FuncValue). x.ty < length (module_value m).types) (module_value m).funcs index
      (func_value f) typed at in
      ap (λ k. item_type (module_value m) k index) is
      ∙ (ap (option_and_then (λ (x : FuncValue). option_map func_type (slice_get (module_value m).types x.ty))) at
      ∙ ap (option_map func_type) (read_view func_type_value m.types.items f.ty ty ty_below read_type))

  pub table_item : (t : Item TableType ⊤) → kind ≡ Table → t ≡ get_or m.tables.items index t → item_type (module_value m) kind index ≡ Some (table_type t.ty)
  table_item t is read =
      let here : index < count_of (module_value m) Table = subst (λ k. index < count_of (module_value m) k) is below in
      ap (λ k. item_type (module_value m) k index) is ∙ ap (option_map (λ (x : TableValue). table_type x.ty))
      (read_view table_value m.tables.items index t here read)

  pub memory_item : (t : Item MemoryType ⊤) → kind ≡ Memory → t ≡ get_or m.memories.items index t
      → item_type (module_value m) kind index ≡ Some (memory_type t.ty)
  memory_item t is read =
      let here : index < count_of (module_value m) Memory = subst (λ k. index < count_of (module_value m) k) is below in
      ap (λ k. item_type (module_value m) k index) is ∙ ap (option_map (λ (x : MemoryValue). memory_type x.ty))
      (read_view memory_value m.memories.items index t here read)

  pub global_item : (t : Item GlobalType (Bor (List ℕ))) → kind ≡ Global → t ≡ get_or m.globals.items index t
      → item_type (module_value m) kind index ≡ Some (global_type t.ty)
  global_item t is read =
      let here : index < count_of (module_value m) Global = subst (λ k. index < count_of (module_value m) k) is below in
      ap (λ k. item_type (module_value m) k index) is ∙ ap (option_map (λ (x : GlobalValue). global_type x.ty))
      (read_view global_value m.globals.items index t here read)
