-- The names of the files that are written.
use Rattle.std.specs.Prelude.{◌≡◌, ◌≢◌, ℕ, ◌==◌, ◌||◌, Bool, true, false, not, List, [], ◌∷◌, ◌++◌, codes, Option, Some, None, All, Contains, ⊤}
use Rattle.std.specs.List.{list_any}
use Rattle.std.specs.Str.{bytes_eq}
use Rattle.wcplan_inputs.specs.declared.fault.SelectionFault.{SelectionFault}
use Rattle.wcplan_inputs.specs.declared.fault.SelectionFault.TheVariants.{EmptyDirectory, FileName, MainFile}

-- the name of the main module's file
abbrev pub main_file : List ℕ
main_file = codes "main"

-- a text has a `/`, a `\` or a zero byte
abbrev pub is_parted : List ℕ → Bool
is_parted name = list_any (λ b. b == 47 || b == 92 || b == 0) name

-- a file may have this name
abbrev pub is_file_name : List ℕ → Bool
is_file_name name = not (bytes_eq name [] || bytes_eq name (codes ".") || bytes_eq name (codes "..") || is_parted name)

-- all may, and the main module's is none of them
abbrev pub AreNamesFit : List (List ℕ) → Type 0
AreNamesFit names = All (λ name. is_file_name name ≡ true) names × ¬ Contains names main_file

-- the files that are written to a directory, if they are, can be named
abbrev pub AreFilesNamed : Option (List ℕ) → List (List ℕ) → Type 0
AreFilesNamed None names = ⊤
AreFilesNamed (Some directory) names = (directory ≢ []) × AreNamesFit names

-- the first name that is no file's
pub record IsFirstUnfit (names : List (List ℕ)) (name : List ℕ) : Type 0 where
  pub front : List (List ℕ)
  pub back : List (List ℕ)
  pub cut : names ≡ front ++ name ∷ back
  pub fit : All (λ other. is_file_name other ≡ true) front
  pub unfit : is_file_name name ≡ false

-- why they can't
abbrev pub IsNameCause : List (List ℕ) → SelectionFault → Type 0
IsNameCause names (FileName name) = IsFirstUnfit names name.now
IsNameCause names (MainFile name) = All (λ other. is_file_name other ≡ true) names × Contains names main_file × (name.now ≡ main_file)
IsNameCause names f = ⊥

abbrev pub IsDirectoryCause : List ℕ → List (List ℕ) → SelectionFault → Type 0
IsDirectoryCause directory names EmptyDirectory = directory ≡ []
IsDirectoryCause directory names f = (directory ≢ []) × IsNameCause names f

abbrev pub IsFilesCause : Option (List ℕ) → List (List ℕ) → SelectionFault → Type 0
IsFilesCause None names f = ⊥
IsFilesCause (Some directory) names f = IsDirectoryCause directory names f
