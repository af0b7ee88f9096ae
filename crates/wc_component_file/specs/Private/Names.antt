-- Names of core modules as they are read and given.
use Rattle.std.specs.Prelude.{◌≡◌, ℕ, List, [], ◌∷◌, ◌++◌, map, Option, Some, None}
use Rattle.wc_read.specs.Names.{GlobalNameValue}
use Rattle.wc_read.specs.Sections.{SectionValue}
use Rattle.wc_component_file.specs.Files.{core_module_view, modules_of}
use Rattle.wc_component_file.specs.Frames.{FrameValue}
use Rattle.wc_component_file.specs.Names.{AreModuleNames}
use Rattle.wc_component_file.specs.declared.file.CoreModule.{CoreModule}
use Rattle.wc_component_file.specs.declared.names.ModuleName.{ModuleName}

abbrev pub name_pairs : List ModuleName → List GlobalNameValue
name_pairs ns = map (λ (n : ModuleName). (n.index, n.name.now)) ns

-- a value that was read, and the bytes after it; or nothing was there
abbrev pub Finds : {X A : Type 0} → (X → A) → Option X → List ℕ → Option (A × List ℕ) → Type 0
Finds view (Some x) rest read = read ≡ Some (view x, rest)
Finds view None rest read = read ≡ None

-- the bytes after the sort, where the subsection is one of names of core modules
abbrev pub NamesAfterSort : SectionValue → Option (List ℕ) → Type 0
NamesAfterSort s (Some names) = AreModuleNames s names
NamesAfterSort s None = (names : List ℕ) → AreModuleNames s names → ⊥

-- core modules with the names that some pairs give have, after more pairs, the names that all of them give
abbrev pub AreNamed : List CoreModule → List CoreModule → List GlobalNameValue → Type 0
AreNamed old new more =
    (pairs : List GlobalNameValue) (fs : List FrameValue) → map core_module_view old ≡ modules_of pairs fs → map core_module_view new ≡ modules_of (pairs ++ more) fs

abbrev pub IsNamed : List CoreModule → List CoreModule → GlobalNameValue → Type 0
IsNamed old new pair = AreNamed old new (pair ∷ [])
