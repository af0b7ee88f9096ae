-- Whether slot 1 of a task's context is in use.
use Rattle.std.specs.Prelude.{◌++◌, ◌==◌, ℕ, List, map, Bool, true, false, IsTrue, Contains}
use Rattle.std.specs.List.{flat_map, list_any}
use Rattle.wc_names.specs.Views.{ImportView, builtin, context_get, context_set, thread_new_indirect}
use Rattle.wc_validate.specs.Imports.Map.{imports_in}
use Rattle.wc_validate.specs.Validate.{ModuleRecord}
use Rattle.wc_validate.specs.Imports.Entries.{Records}
use Rattle.wc_world.specs.Views.{ComponentWorldView, NamedWorldAdapter}

-- single imports by their modules and names: those of the main module, and then those of each adapter
abbrev pub all_imports : ModuleRecord → List NamedWorldAdapter → List (List ℕ × (List ℕ × ImportView))
all_imports main adapters = imports_in main.imports ++ flat_map (λ (a : NamedWorldAdapter). imports_in a.1.info.imports) adapters

-- what these are, without their modules and names
abbrev pub imports_of : List (List ℕ × (List ℕ × ImportView)) → List ImportView
imports_of xs = map (λ (x : List ℕ × (List ℕ × ImportView)). x.1.1) xs

-- an import that starts a thread, or reads or writes slot 1
abbrev pub uses_slot_1 : ImportView → Bool
uses_slot_1 (builtin thread_new_indirect) = true
uses_slot_1 (builtin (context_get ty slot)) = slot == 1
uses_slot_1 (builtin (context_set ty slot)) = slot == 1
uses_slot_1 i = false

-- one of a module's imports starts a thread, or reads or writes slot 1
abbrev pub module_uses_slot_1 : Records → Bool
module_uses_slot_1 records = list_any (λ (x : List ℕ × (List ℕ × ImportView)). uses_slot_1 x.1.1) (imports_in records)

-- the main module or an adapter has one
abbrev pub IsSlot1Used : ComponentWorldView → Type 0
IsSlot1Used w = (x : List ℕ × (List ℕ × ImportView)) × Contains (all_imports w.info w.adapters) x × IsTrue (uses_slot_1 x.1.1)
