-- The type of an item under new indices of types is the same but for these.
use Rattle.std.proofs.Common.{◌≡◌, refl, sym, ◌∙◌, ap, Option, Some, None}
use Rattle.std.specs.Option.{option_map}
use Rattle.wc_read.specs.Renumbering.{Renumbering, renumber_func_type, renumber_global_type, renumber_table_type}
use Rattle.wc_read.specs.Types.{FuncTypeValue}
use Rattle.wc_gc.specs.RestrictionLaws.{AreSameTypesButIndices, ItemType, func_item, global_item, memory_item, table_item, without_indices}
use Rattle.wc_gc.proofs.UnfoldingLemmas.{func_type_twice, global_type_twice, table_type_twice}

abbrev pub item_under : Renumbering → ItemType → ItemType
item_under new (func_item t) = func_item (renumber_func_type new t)
item_under new (table_item t) = table_item (renumber_table_type new t)
item_under new (memory_item t) = memory_item t
item_under new (global_item t) = global_item (renumber_global_type new t)

module _ (new : Renumbering) where
  without_under : (t : ItemType) → without_indices (item_under new t) ≡ without_indices t
  without_under (func_item t) = ap func_item (func_type_twice new t)
  without_under (table_item t) = ap table_item (table_type_twice new t)
  without_under (memory_item t) = refl
  without_under (global_item t) = ap global_item (global_type_twice new t)

  both_without : (t : Option ItemType) → option_map without_indices (option_map (item_under new) t) ≡ option_map without_indices t
  both_without None = refl
  both_without (Some t) = ap Some (without_under t)

  pub same_under : (t u : Option ItemType) → u ≡ option_map (item_under new) t → AreSameTypesButIndices t u
  same_under t u e = sym (ap (option_map without_indices) e ∙ both_without t)

  -- the type of a function, where it is there
  pub func_item_under : (o : Option FuncTypeValue)
      → option_map func_item (option_map (renumber_func_type new) o) ≡ option_map (item_under new) (option_map func_item o)
  func_item_under None = refl
  func_item_under (Some t) = refl
