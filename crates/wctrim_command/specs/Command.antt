-- Commands, and their arguments.
use Rattle.std.specs.Prelude.{◌≡◌, ◌≢◌, ◌≤◌, ◌⊎◌, ⊤, ℕ, List, [], ◌∷◌, ◌++◌, map, codes, string_bytes, Option, Some, None}
use Rattle.std.specs.Option.{option_map}
use Rattle.wctrim_command.specs.declared.command.Command.{Command}
use Rattle.wctrim_command.specs.declared.command.Command.TheVariants.{Dedupe, Scan, Trim}

-- a command, with its texts as bytes
pub data CommandView : Type 0 where
  dedupe : (source target : List ℕ) → CommandView
  scan : (source : List ℕ) → CommandView
  trim : (source target : List ℕ) (realloc : Option (List ℕ)) (page_size_log2 : ℕ) (exports : List (List ℕ)) → CommandView

abbrev pub command_view : Command → CommandView
command_view (Dedupe source target) = dedupe source.now target.now
command_view (Scan source) = scan source.now
command_view (Trim source target realloc page_size_log2 exports) =
    trim source.now target.now (option_map (λ t. t.now) realloc) page_size_log2 (map string_bytes exports.now)

-- the arguments of the option that names the main module's realloc, where it is named
abbrev pub realloc_arguments : Option (List ℕ) → List (List ℕ)
realloc_arguments None = []
realloc_arguments (Some name) = codes "--realloc" ∷ name ∷ []

-- the arguments of the option for the exponent of the page size, 0 or 16; none are for 16
abbrev pub IsPageOption : ℕ → List (List ℕ) → Type 0
IsPageOption page_size_log2 after_paths =
    ((page_size_log2 ≡ 16) × (after_paths ≡ []))
    ⊎ ((page_size_log2 ≡ 0) × (after_paths ≡ codes "--page" ∷ codes "0" ∷ []))
    ⊎ ((page_size_log2 ≡ 16) × (after_paths ≡ codes "--page" ∷ codes "16" ∷ []))

-- one export at least; an argument after the options is no option
abbrev pub AreExports : List (List ℕ) → Type 0
AreExports [] = ⊥
AreExports (first ∷ others) = (first ≢ codes "--realloc") × (first ≢ codes "--page")

-- the arguments after the paths of a trim: its options in either order, and then its exports
pub record IsTrimLine (after_paths : List (List ℕ)) (realloc : Option (List ℕ)) (page_size_log2 : ℕ) (exports : List (List ℕ)) : Type 0 where
  pub paged : List (List ℕ)
  pub is_page : IsPageOption page_size_log2 paged
  pub are_exports : AreExports exports
  pub joined : (after_paths ≡ realloc_arguments realloc ++ (paged ++ exports)) ⊎ (after_paths ≡ paged ++ (realloc_arguments realloc ++ exports))

-- the arguments of a command, after the program's name
abbrev pub IsCommandLine : List (List ℕ) → CommandView → Type 0
IsCommandLine arguments (dedupe source target) = arguments ≡ codes "dedupe" ∷ source ∷ target ∷ []
IsCommandLine arguments (scan source) = arguments ≡ codes "scan" ∷ source ∷ []
IsCommandLine arguments (trim source target realloc page_size_log2 exports) =
    (after_paths : List (List ℕ)) × (arguments ≡ codes "trim" ∷ source ∷ target ∷ after_paths) × IsTrimLine after_paths realloc page_size_log2 exports

-- a trim has an export at least, and an exponent of 16 at most
abbrev pub IsExecutable : CommandView → Type 0
IsExecutable (trim source target realloc page_size_log2 exports) = (exports ≢ []) × (page_size_log2 ≤ 16)
IsExecutable c = ⊤

-- the path of the file that a command reads
abbrev pub source_of : CommandView → List ℕ
source_of (dedupe source target) = source
source_of (scan source) = source
source_of (trim source target realloc page_size_log2 exports) = source

-- the path of the file that it writes, where it writes one
abbrev pub target_of : CommandView → Option (List ℕ)
target_of (dedupe source target) = Some target
target_of (scan source) = None
target_of (trim source target realloc page_size_log2 exports) = Some target
