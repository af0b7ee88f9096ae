-- What is put piece by piece.
use Rattle.std.specs.Prelude.{ℕ, List, Result, Ok, Err}

-- a text was put, or a put failed
abbrev pub IsPut : {P T E : Type 0} → (P → List ℕ → P → Type 0) → (P → Type 0) → P → P → List ℕ → Result T E → Type 0
IsPut puts fails before after text (Ok x) = puts before text after
IsPut puts fails before after text (Err e) = fails after
