-- What is put to a sink.
use Rattle.std.specs.Prelude.{ℕ, List, Option}
use Rattle.std.specs.Io.KnownBytes.{Appends}

-- a text that is as `Is` says was put
abbrev pub PutsSome : (List ℕ → Type 0) → Option (List ℕ) → Option (List ℕ) → Type 0
PutsSome Is before after = (text : List ℕ) × Is text × Appends before after text
