-- The arguments of a trim after its paths, read forward.
use Rattle.std.specs.Prelude.{◌≡◌, ℕ, Bool, false, not, ◌||◌, cond, List, [], ◌∷◌, codes, Option, Some, None}
use Rattle.std.specs.Option.{option_map}
use Rattle.std.specs.Str.{bytes_eq}
use Rattle.wctrim_command.specs.Command.{CommandView, trim}

-- the name after `--realloc`, and the arguments that are left
abbrev pub realloc_parts : List (List ℕ) → Option (List ℕ) × List (List ℕ)
realloc_parts [] = (None, [])
realloc_parts (argument ∷ []) = (None, argument ∷ [])
realloc_parts (argument ∷ name ∷ arguments) = cond (bytes_eq argument (codes "--realloc")) (Some name, arguments) (None, argument ∷ name ∷ arguments)

-- the exponent that an argument spells
abbrev pub page_of : List ℕ → Option ℕ
page_of argument = cond (bytes_eq argument (codes "0")) (Some 0) (cond (bytes_eq argument (codes "16")) (Some 16) None)

-- the exponent after `--page`, and the arguments that are left
abbrev pub page_parts : List (List ℕ) → Option (ℕ × List (List ℕ))
page_parts [] = Some (16, [])
page_parts (argument ∷ []) = Some (16, argument ∷ [])
page_parts (argument ∷ digits ∷ arguments) = cond (bytes_eq argument (codes "--page")) (option_map (λ page_size_log2. (page_size_log2, arguments)) (page_of digits)) (Some (16, argument ∷ digits ∷ arguments))

-- the name after `--realloc` that was found before, or else is found here
abbrev pub either_realloc : Option (List ℕ) → List (List ℕ) → Option (List ℕ) × List (List ℕ)
either_realloc (Some name) arguments = (Some name, arguments)
either_realloc None arguments = realloc_parts arguments

-- whether the arguments are exports
abbrev pub are_exports : List (List ℕ) → Bool
are_exports [] = false
are_exports (first ∷ others) = not (bytes_eq first (codes "--realloc") || bytes_eq first (codes "--page"))

-- the name of the main module's realloc, the exponent of the page size, and the exports
abbrev pub TrimParts : Type 0
TrimParts = Option (List ℕ) × ℕ × List (List ℕ)

-- the parts, where the arguments after the options are exports
abbrev pub checked_parts : ℕ → Option (List ℕ) × List (List ℕ) → Option TrimParts
checked_parts page_size_log2 (name, exports) = cond (are_exports exports) (Some (name, page_size_log2, exports)) None

abbrev pub parts_after : Option (List ℕ) → Option (ℕ × List (List ℕ)) → Option TrimParts
parts_after name None = None
parts_after name (Some (page_size_log2, arguments)) = checked_parts page_size_log2 (either_realloc name arguments)

-- what the arguments say, where they are those of a trim
abbrev pub trim_parts : List (List ℕ) → Option TrimParts
trim_parts arguments = parts_after (realloc_parts arguments).0 (page_parts (realloc_parts arguments).1)

-- the command is a trim between these files with these parts
abbrev pub IsTrimOf : List ℕ → List ℕ → Option TrimParts → CommandView → Type 0
IsTrimOf source target parts c = (realloc : Option (List ℕ)) × (page_size_log2 : ℕ) × (exports : List (List ℕ)) × (parts ≡ Some (realloc, page_size_log2, exports)) × (c ≡ trim source target realloc page_size_log2 exports)
