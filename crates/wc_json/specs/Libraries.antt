-- How library information is read: how a library is instantiated, and with which arguments.
use Rattle.std.specs.Prelude.{ℕ, List, Ok, cond, codes}
use Rattle.std.specs.Str.{bytes_eq}
use Rattle.json.specs.Json.{Json}
use Rattle.wc_adapters.specs.Adapters.{WhichView, main_module, adapter_of, LibraryItemView, InstanceView, module_instance, item_instance, LibraryView}
use Rattle.wc_read.specs.declared.exports.ExportKind.{ExportKind}
use Rattle.wc_read.specs.declared.exports.ExportKind.TheVariants.{Func, Table, Memory, Global}
use Rattle.wc_json.specs.Fault.{Reading, refusal, ◌>>=◌}
use Rattle.wc_json.specs.FromJson.{list, text, truth}
use Rattle.wc_json.specs.Members.{required_member}
use Rattle.wc_json.specs.Paths.{at_step}
use Rattle.wc_json.specs.declared.fault.Problem.TheVariants.{Unknown}

abbrev pub export_kind_of : List ℕ → Reading ExportKind
export_kind_of name =
    cond (bytes_eq name (codes "func")) (Ok Func)
    (cond (bytes_eq name (codes "table")) (Ok Table)
    (cond (bytes_eq name (codes "memory")) (Ok Memory)
    (cond (bytes_eq name (codes "global")) (Ok Global)
    (refusal Unknown))))

-- a kind of exports, by its name
abbrev pub export_kind : Json → Reading ExportKind
export_kind j = text j >>= export_kind_of

-- the member `kind` is none that is known
abbrev pub unknown_kind : {A : Type 0} → Reading A
unknown_kind = at_step (codes "kind") (refusal Unknown)

abbrev pub adapter_named : Json → Reading WhichView
adapter_named j = required_member (codes "name") text j >>= (λ name. Ok (adapter_of name))

abbrev pub which_of_kind : List ℕ → Json → Reading WhichView
which_of_kind kind j = cond (bytes_eq kind (codes "main")) (Ok main_module) (cond (bytes_eq kind (codes "adapter")) (adapter_named j) unknown_kind)

-- the main module, or the adapter of a name
abbrev pub which : Json → Reading WhichView
which j = required_member (codes "kind") text j >>= (λ kind. which_of_kind kind j)

-- an item that a library imports
abbrev pub library_item : Json → Reading LibraryItemView
library_item j = do
  alias ← required_member (codes "alias") text j
  kind ← required_member (codes "kind") export_kind j
  exporter ← required_member (codes "which") which j
  name ← required_member (codes "name") text j
  Ok (record { alias = alias; kind = kind; which = exporter; name = name })

abbrev pub whole_module : Json → Reading InstanceView
whole_module j = required_member (codes "which") which j >>= (λ w. Ok (module_instance w))

abbrev pub several_items : Json → Reading InstanceView
several_items j = required_member (codes "items") (list library_item) j >>= (λ items. Ok (item_instance items))

abbrev pub instance_of_kind : List ℕ → Json → Reading InstanceView
instance_of_kind kind j = cond (bytes_eq kind (codes "module")) (whole_module j) (cond (bytes_eq kind (codes "items")) (several_items j) unknown_kind)

-- what a library gets under the name of a module: all exports of a module, or items
abbrev pub instance : Json → Reading InstanceView
instance j = required_member (codes "kind") text j >>= (λ kind. instance_of_kind kind j)

-- the name of a module that a library imports from, and what it gets under that name
abbrev pub argument : Json → Reading (List ℕ × InstanceView)
argument j = do
  name ← required_member (codes "name") text j
  given ← required_member (codes "instance") instance j
  Ok (name, given)

abbrev pub library : Json → Reading LibraryView
library j = do
  arguments ← required_member (codes "arguments") (list argument) j
  after_shims ← required_member (codes "instantiate_after_shims") truth j
  Ok (record { arguments = arguments; instantiate_after_shims = after_shims })
