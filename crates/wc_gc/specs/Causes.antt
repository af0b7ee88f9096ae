-- Why an adapter is not trimmed, by what is found among its live items.
use Rattle.std.specs.Prelude.{◌≢◌, ℕ, ◌≤◌, [], length, Bool, false, not, ◌&&◌, ◌||◌, cond, nat_eq, is_some, unwrap_or, IsTrue, ◌↔◌, ◌⊎◌, List}
use Rattle.std.specs.List.{list_any, list_all, slice_get}
use Rattle.std.specs.Option.{option_map_or, option_to_list}
use Rattle.wc_read.specs.Items.{MemoryValue}
use Rattle.wc_read.specs.Modules.{ModuleValue}
use Rattle.wc_read.specs.declared.types.MemoryType.{MemoryType}
use Rattle.wc_read.specs.Decoded.{DecodedModule, FuncCode, ItemIndex}
use Rattle.wc_gc.specs.Found.{FoundView, is_own_memory_at, is_realloc_type}
use Rattle.wc_gc.specs.Parts.{SettingsView, adds_growing, is_any, is_lazy, last_of}
use Rattle.wc_gc.specs.LiveItems.{IsLive}
use Rattle.wc_gc.specs.declared.fault.GcFault.{GcFault}
use Rattle.wc_gc.specs.declared.fault.GcFault.TheVariants.{SeveralNamed, LiveTable, SeveralMemories, LocalMemory, ReallocType, ReallocMemory}

-- a test that decides which items are live
abbrev pub DecidesLive : List (List ℕ) → ModuleValue → (ItemIndex → Bool) → Type 0
DecidesLive required m live = (x : ItemIndex) → IsTrue (live x) ↔ IsLive required m x

-- the imported reallocs that have to be of the right type: all, where they become growing reallocs; else the last one,
-- where lazy code calls it
abbrev pub called_reallocs : SettingsView → FoundView → List ℕ
called_reallocs s f = cond (is_some s.realloc) (cond (is_lazy s f) (option_to_list (last_of f.reallocs)) []) f.reallocs

abbrev pub is_realloc_type_at : DecodedModule → ℕ → Bool
is_realloc_type_at m n = option_map_or is_realloc_type (slice_get m.types n) false

abbrev pub has_realloc_type : DecodedModule → ℕ → Bool
has_realloc_type m n = option_map_or (λ (f : FuncCode). is_realloc_type_at m f.ty) (slice_get m.funcs n) false

-- whether a realloc that grows memory is in the output
abbrev pub grows_memory : SettingsView → FoundView → Bool
grows_memory s f = adds_growing s f || (not (is_some s.realloc) && is_any f.reallocs)

-- a memory of 32 bits, with pages of this size; they have 2 ^ 16 bytes where the type does not say
abbrev pub has_page_size : ℕ → MemoryType → Bool
has_page_size page_size_log2 t = not t.memory64 && nat_eq (unwrap_or t.page_size_log2 16) page_size_log2

abbrev pub has_page_size_at : DecodedModule → ℕ → ℕ → Bool
has_page_size_at m page_size_log2 n = option_map_or (λ (t : MemoryValue). has_page_size page_size_log2 t.ty) (slice_get m.memories n) false

-- two stack pointers or two states; a table; two memories; a memory of the adapter's own; a realloc of another type; no
-- memory to grow
abbrev pub IsFoundCause : SettingsView → DecodedModule → FoundView → GcFault → Type 0
IsFoundCause s m f SeveralNamed = (2 ≤ length f.stacks) ⊎ (2 ≤ length f.states)
IsFoundCause s m f LiveTable = f.tables ≢ []
IsFoundCause s m f SeveralMemories = 2 ≤ length f.memories
IsFoundCause s m f LocalMemory = IsTrue (list_any (is_own_memory_at m) f.memories)
IsFoundCause s m f ReallocType = IsTrue (not (list_all (has_realloc_type m) (called_reallocs s f)))
IsFoundCause s m f ReallocMemory =
    IsTrue (grows_memory s f && not (list_any (has_page_size_at m s.page_size_log2) f.memories))
IsFoundCause s m f _ = ⊥
