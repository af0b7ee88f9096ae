-- What contracts see of adapters and libraries: bytes and texts as lists of numbers; lists, sets and maps as lists in
-- order.
use Rattle.std.specs.Prelude.{ℕ, Bool, List, map, Option, String, string_bytes}
use Rattle.std.specs.Option.{option_map}
use Rattle.std.specs.declared.alloc.Global.{Global}
use Rattle.wc_read.specs.declared.exports.ExportKind.{ExportKind}
use Rattle.wc_resolve.specs.Views.{KeyView, key_view}
use Rattle.wc_adapters.specs.declared.adapters.MainOrAdapter.{MainOrAdapter}
use Rattle.wc_adapters.specs.declared.adapters.MainOrAdapter.TheVariants.{Main, Adapter as AdapterOf}
use Rattle.wc_adapters.specs.declared.adapters.Item.{Item}
use Rattle.wc_adapters.specs.declared.adapters.Instance.{Instance}
use Rattle.wc_adapters.specs.declared.adapters.Instance.TheVariants.{MainOrAdapter as ModuleInstance, Items}
use Rattle.wc_adapters.specs.declared.adapters.LibraryInfo.{LibraryInfo}
use Rattle.wc_adapters.specs.declared.adapters.Adapter.{Adapter}

-- the main module, or the adapter of a name
pub data WhichView : Type 0 where
  main_module : WhichView
  adapter_of : List ℕ → WhichView

abbrev pub which_view : MainOrAdapter → WhichView
which_view Main = main_module
which_view (AdapterOf name) = adapter_of (string_bytes name)

-- what a module exports under a name, of a kind, under the name by which a library imports it
pub record LibraryItemView : Type 0 where
  pub alias : List ℕ
  pub kind : ExportKind
  pub which : WhichView
  pub name : List ℕ

abbrev pub library_item_view : Item → LibraryItemView
library_item_view i = record { alias = string_bytes i.alias; kind = i.kind; which = which_view i.which; name = string_bytes i.name }

-- what is passed to a library: all exports of a module, or items
pub data InstanceView : Type 0 where
  module_instance : WhichView → InstanceView
  item_instance : List LibraryItemView → InstanceView

abbrev pub instance_view : Instance → InstanceView
instance_view (ModuleInstance which) = module_instance (which_view which)
instance_view (Items items) = item_instance (map library_item_view items.items)

-- the name of a module that a library imports from, with what it is passed under that name
abbrev pub argument_view : String Global × Instance → List ℕ × InstanceView
argument_view a = (string_bytes a.0, instance_view a.1)

pub record LibraryView : Type 0 where
  pub arguments : List (List ℕ × InstanceView)
  pub instantiate_after_shims : Bool

abbrev pub library_view : LibraryInfo → LibraryView
library_view l = record { arguments = map argument_view l.arguments.items; instantiate_after_shims = l.instantiate_after_shims }

pub record AdapterView : Type 0 where
  pub wasm : List ℕ
  pub required_exports : List KeyView
  pub library_info : Option LibraryView

abbrev pub adapter_view : Adapter → AdapterView
adapter_view a = record { wasm = a.wasm.items; required_exports = map key_view a.required_exports.keys; library_info = option_map library_view a.library_info }

-- an adapter's name with the adapter
abbrev pub adapter_entry : String Global × Adapter → List ℕ × AdapterView
adapter_entry e = (string_bytes e.0, adapter_view e.1)
