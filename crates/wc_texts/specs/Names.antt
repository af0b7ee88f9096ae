-- Names, as the bytes of texts: what is listed under one, and lists of names without repeats.
use Rattle.std.specs.Prelude.{ℕ, List, [], ◌∷◌, filter, not, Option, String, string_bytes}
use Rattle.std.specs.Map.{lookup}
use Rattle.std.specs.Str.{bytes_eq}
use Rattle.std.specs.declared.alloc.Global.{Global}

-- a name with its value
abbrev pub named_view : {Y : Type 0} → String Global × Y → List ℕ × Y
named_view p = (string_bytes p.0, p.1)

-- what is listed under a name
abbrev pub under_name : {X : Type 0} → List (List ℕ × X) → List ℕ → Option X
under_name entries name = lookup (bytes_eq name) entries

-- names in the order of their first occurrences, each of them once
abbrev pub first_occurrences : List (List ℕ) → List (List ℕ)
first_occurrences [] = []
first_occurrences (name ∷ names) = name ∷ filter (λ other. not (bytes_eq name other)) (first_occurrences names)
