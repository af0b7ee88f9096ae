-- The functions of an adapter that are imported after it was edited, and the others.
use Rattle.std.specs.Prelude.{◌≡◌, ℕ, Bool, true, false, not, ◌&&◌, ◌||◌, cond, List, is_some}
use Rattle.std.specs.List.{slice_get}
use Rattle.std.specs.Option.{option_map_or}
use Rattle.std.specs.Borrow.{Bor}
use Rattle.wc_read.specs.Exports.{ExportValue}
use Rattle.wc_read.specs.Items.{DefValue, imported, local}
use Rattle.wc_read.specs.declared.items.Item.{Item}
use Rattle.wc_gc.specs.Bits.{bit_of}
use Rattle.wc_read.specs.Decoded.{FuncCode, func_code}
use Rattle.wc_gc.specs.Edit.{is_exported_func}
use Rattle.wc_gc.specs.Found.{is_realloc}
use Rattle.wc_gc.specs.Parts.{SettingsView}
use Rattle.wc_gc.specs.declared.func_groups.FuncGroups.{FuncGroups}

-- an imported realloc stays an import where it takes the main module's name

abbrev pub is_import_def : {C : Type 0} → SettingsView → DefValue C → Bool
is_import_def {C} s (imported m n) = is_some s.realloc || not (is_realloc {C = C} (imported m n))
is_import_def s (local x) = false

abbrev pub is_import_after : SettingsView → FuncCode → Bool
is_import_after s f = is_import_def s f.def

abbrev pub is_in_group : SettingsView → Bool → FuncCode → Bool
is_in_group s import f = cond import (is_import_after s f) (not (is_import_after s f))

-- whether there is a function at an index that passes a test
abbrev pub has_func : (FuncCode → Bool) → List (Item ℕ (Bor (List ℕ))) → ℕ → Bool
has_func test funcs n = option_map_or (λ f. test (func_code f)) (slice_get funcs n) false

-- the live functions in their groups, and those that are exported
pub record AreGroups {L : Type 0} (has : L → ℕ → Bool) (s : SettingsView) (funcs : List (Item ℕ (Bor (List ℕ)))) (live : ℕ → Bool) (exports : List ExportValue) (g : FuncGroups L) : Type 0 where
  pub imports : (n : ℕ) → has g.imports n ≡ (live n && has_func (is_in_group s true) funcs n)
  pub defined : (n : ℕ) → has g.defined n ≡ (live n && has_func (is_in_group s false) funcs n)
  pub exported : (n : ℕ) → bit_of g.exported.words.items n ≡ is_exported_func exports n
