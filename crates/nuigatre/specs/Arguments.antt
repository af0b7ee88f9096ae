-- What the arguments of a trim mean.
use Rattle.std.specs.Prelude.{ℕ, List, Bool, true, false, Option, Some, None}
use Rattle.wc_gc.specs.Parts.{SettingsView}

-- the name, where there is one
abbrev pub optional_name : Bool → List ℕ → Option (List ℕ)
optional_name true name = Some name
optional_name false name = None

-- how an adapter is trimmed: for a main module that exports a realloc of this name, if it exports one, and has pages of
-- 2 ^ exponent bytes
abbrev pub settings_of : Bool → List ℕ → ℕ → SettingsView
settings_of has_realloc realloc page_size_log2 = record { realloc = optional_name has_realloc realloc; page_size_log2 = page_size_log2 }
