-- The items of index spaces: imported ones and defined ones (WebAssembly core specification, 2.5).
use Rattle.std.specs.Prelude.{List, map, Option, Some, None}
use Rattle.std.specs.List.{filter_map}
use Rattle.wc_read.specs.Imports.{ImportValue}
use Rattle.wc_read.specs.Items.{DefValue, imported, local, ItemValue, item_value}
use Rattle.wc_read.specs.declared.types.ImportType.{ImportType}
use Rattle.wc_read.specs.declared.items.Item.{Item}
use Rattle.wc_write.specs.declared.spaces.Defined.{Defined}

-- the import of an item of this type, where it is imported
abbrev pub import_by : {C : Type 0} → ImportType → DefValue C → Option ImportValue
import_by t (imported m n) = Some (record { module_name = m; name = n; ty = t })
import_by t (local x) = None

-- the imports among the items of a kind
abbrev pub imports_of : {T C : Type 0} → (T → ImportType) → List (ItemValue T C) → List ImportValue
imports_of kind items = filter_map (λ i. import_by (kind i.ty) i.def) items

-- a defined item: its type and its content
pub record DefinedValue (T C : Type 0) : Type 0 where
  pub ty : T
  pub content : C

abbrev pub defined_by : {T C : Type 0} → T → DefValue C → Option (DefinedValue T C)
defined_by t (imported m n) = None
defined_by t (local x) = Some (record { ty = t; content = x })

-- the defined items
abbrev pub defined : {T C : Type 0} → List (ItemValue T C) → List (DefinedValue T C)
defined items = filter_map (λ i. defined_by i.ty i.def) items

abbrev pub defined_types : {T C : Type 0} → List (ItemValue T C) → List T
defined_types items = map (λ o. o.ty) (defined items)

abbrev pub defined_contents : {T C : Type 0} → List (ItemValue T C) → List C
defined_contents items = map (λ o. o.content) (defined items)

-- a defined item, with the view of its content
abbrev pub defined_value : {T C D : Type 0} → (C → D) → Defined T C → DefinedValue T D
defined_value view o = record { ty = o.ty; content = view o.content.now }

-- items, and defined items, with their contents as they are

abbrev pub item_values : {T C : Type 0} → List (Item T C) → List (ItemValue T C)
item_values items = map (item_value (λ x. x)) items

abbrev pub defined_values : {T C : Type 0} → List (Defined T C) → List (DefinedValue T C)
defined_values items = map (defined_value (λ x. x)) items
