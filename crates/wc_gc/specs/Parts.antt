-- Which parts are added to an adapter, by what is found among its live items, and by how it is trimmed.
use Rattle.std.specs.Prelude.{ℕ, ◌-◌, List, Bool, not, ◌&&◌, ◌||◌, Option, is_some, length}
use Rattle.std.specs.List.{slice_get}
use Rattle.std.specs.Option.{option_map}
use Rattle.std.specs.Borrow.{Bor}
use Rattle.wc_gc.specs.Found.{FoundView, is_empty}
use Rattle.wc_gc.specs.declared.parts.Parts.{Parts}
use Rattle.wc_gc.specs.declared.settings.Settings.{Settings}

-- how an adapter is trimmed: by which name the main module exports a realloc for it, if it does, and pages of
-- 2 ^ exponent bytes
pub record SettingsView : Type 0 where
  pub realloc : Option (List ℕ)
  pub page_size_log2 : ℕ

abbrev pub settings : Option (Bor (List ℕ)) → ℕ → SettingsView
settings realloc page_size_log2 = record { realloc = option_map (λ name. name.now) realloc; page_size_log2 = page_size_log2 }

abbrev pub is_any : {A : Type 0} → List A → Bool
is_any xs = not (is_empty xs)

abbrev pub first_of : {A : Type 0} → List A → Option A
first_of xs = slice_get xs 0

abbrev pub last_of : {A : Type 0} → List A → Option A
last_of xs = slice_get xs (length xs - 1)

-- a stack that is allocated by the first call of an export: there is a global for its state, and the main module has a
-- realloc
abbrev pub is_lazy : SettingsView → FoundView → Bool
is_lazy s f = is_any f.stacks && is_any f.states && is_some s.realloc

-- an import of the main module's realloc, where none is live
abbrev pub adds_import : SettingsView → FoundView → Bool
adds_import s f = is_some s.realloc && is_any f.stacks && is_empty f.reallocs

-- a stack that is allocated when the module starts, in the main module's memory
abbrev pub adds_start : SettingsView → FoundView → Bool
adds_start s f = is_any f.stacks && is_any f.memories && not (is_lazy s f)

-- a realloc that grows memory, for the start function, besides the imports that become one
abbrev pub adds_growing : SettingsView → FoundView → Bool
adds_growing s f =
    adds_start s f && (is_empty f.states || (not (is_some s.realloc) && is_empty f.reallocs))

abbrev pub parts_of : SettingsView → FoundView → Parts
parts_of s f = record {
  import_realloc = adds_import s f;
  lazy = is_lazy s f;
  growing = adds_growing s f;
  start = adds_start s f;
}

abbrev pub settings_view : Settings → SettingsView
settings_view s = settings s.realloc s.page_size_log2
