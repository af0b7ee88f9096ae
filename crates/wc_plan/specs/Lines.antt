-- A plan as lines: whose import it is, the interface, the name, how it is called, its slot and its realloc.
use Rattle.std.specs.Prelude.{ℕ, List, ◌++◌, Option, Some, None, codes, decimal, unwrap_or}
use Rattle.std.specs.List.{flat_map}
use Rattle.wc_resolve.specs.declared.functions.AbiVariant.{AbiVariant}
use Rattle.wc_resolve.specs.declared.functions.AbiVariant.TheVariants.{GuestImportAsync}
use Rattle.wc_plan.specs.Views.{CallView, OwnerView, UseView, adapter_owner, main_owner}

abbrev pub owner_text : OwnerView → List ℕ
owner_text main_owner = codes "main"
owner_text (adapter_owner name) = codes "adapter " ++ name

abbrev pub interface_text : Option (List ℕ) → List ℕ
interface_text interface = unwrap_or interface (codes "$root")

abbrev pub call_text : AbiVariant → List ℕ
call_text GuestImportAsync = codes "async"
call_text abi = codes "sync"

abbrev pub slot_text : Option ℕ → List ℕ
slot_text (Some n) = decimal n
slot_text None = codes "-"

abbrev pub realloc_text : Option (List ℕ) → List ℕ
realloc_text realloc = unwrap_or realloc (codes "-")

-- between the parts of a line
abbrev pub space : List ℕ
space = codes " "

abbrev pub line_feed : List ℕ
line_feed = codes "\n"

-- `INTERFACE NAME sync`
abbrev pub called_text : CallView → List ℕ
called_text c = interface_text c.interface ++ (space ++ (c.name ++ (space ++ call_text c.abi)))

-- ` slot N realloc NAME`, and the end of the line
abbrev pub needs_text : UseView → List ℕ
needs_text u = codes " slot " ++ (slot_text u.slot ++ (codes " realloc " ++ (realloc_text u.realloc ++ line_feed)))

abbrev pub use_line : UseView → List ℕ
use_line u = owner_text u.call.owner ++ (space ++ (called_text u.call ++ needs_text u))

-- a line for each use, in order
abbrev pub plan_text : List UseView → List ℕ
plan_text uses = flat_map use_line uses
