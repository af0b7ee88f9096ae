-- Chains of items from required exports to what is kept.
use Rattle.std.specs.Prelude.{ℕ, List, IsTrue, Contains, ◌↔◌}
use Rattle.wc_read.specs.Exports.{ExportValue}
use Rattle.wc_read.specs.Modules.{IsModule, ModuleValue}
use Rattle.wc_read.specs.Decoded.{ItemIndex, decode, exported_item}
use Rattle.wc_read.specs.Entries.{refs_in}
use Rattle.wc_gc.specs.Exports.{is_required, kept_exports}
use Rattle.wc_gc.specs.LiveItems.{IsLive}
use Rattle.wc_graph.specs.Reached.{IsPath}

-- an export of the module whose name is required
pub record IsRequiredExport (required : List (List ℕ)) (m : ModuleValue) (e : ExportValue) : Type 0 where
  pub there : Contains m.exports e
  pub named : IsTrue (is_required required e.name)

-- items from the one that such an export names to another, each named by the one before
pub record HasChain (required : List (List ℕ)) (m : ModuleValue) (x : ItemIndex) : Type 0 where
  pub export : ExportValue
  pub is_required : IsRequiredExport required m export
  pub chain : List ItemIndex
  pub leads : IsPath (refs_in (decode m)) (exported_item export) chain x

abbrev pub KeptExportsAreRequired : Type 0
KeptExportsAreRequired = (required : List (List ℕ)) (m : ModuleValue) (e : ExportValue) → IsModule m →
    Contains (kept_exports required m.exports) e ↔ IsRequiredExport required m e

abbrev pub KeptItemsHaveChains : Type 0
KeptItemsHaveChains = (required : List (List ℕ)) (m : ModuleValue) (x : ItemIndex) → IsModule m →
    IsLive required m x ↔ HasChain required m x
