-- How a program ends: what it prints, and its exit status.
use Rattle.std.specs.Prelude.{◌≡◌, ◌⊎◌, ℕ, List, [], ◌∷◌, map, String, string_bytes}
use Rattle.std.specs.declared.alloc.Global.{Global}
use Rattle.wc_program.specs.Screen.{Printing, printed, failed}

-- the exit statuses
abbrev pub success : ℕ
success = 0

abbrev pub failure : ℕ
failure = 1

abbrev pub wrong_arguments : ℕ
wrong_arguments = 2

-- a text is printed and the status is this one; or the output fails, and the status is that of a failure
abbrev pub Prints : List ℕ → ℕ → (Printing → Type 0) → ℕ → Type 0
Prints text wanted out status = (out (printed text) × (status ≡ wanted)) ⊎ (out failed × (status ≡ failure))

-- how a program ends with these arguments: as it does where there are none, or else with these texts
abbrev pub EndsByArguments : List (String Global) → Type 0 → (List (List ℕ) → Type 0) → Type 0
EndsByArguments [] EndsEmpty EndsWith = EndsEmpty
EndsByArguments (x ∷ xs) EndsEmpty EndsWith = EndsWith (map string_bytes (x ∷ xs))

-- how it ends where its arguments are not known: there was no memory for them, or they are no text
pub record EndsByReason (no_memory EndsWithoutMemory EndsWithoutText : Type 0) : Type 0 where
  pub reported : no_memory → EndsWithoutMemory
  pub unreadable : ¬ no_memory → EndsWithoutText
