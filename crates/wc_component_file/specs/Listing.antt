-- A listing of core modules, by what they import and what they export.
use Rattle.std.specs.Prelude.{◌≡◌, ◌≢◌, ℕ, ◌-◌, ◌==◌, ◌⊎◌, List, [], ◌∷◌, ◌++◌, length, map, take, cond, codes, decimal, fold, nat_lt}
use Rattle.std.specs.List.{flat_map}
use Rattle.std.specs.Str.{bytes_eq}
use Rattle.indexmap.specs.IndexSet.{insert_key}
use Rattle.wc_read.specs.Exports.{ExportValue}
use Rattle.wc_read.specs.Fault.{SpellsNothing, read_fault_text}
use Rattle.wc_read.specs.Imports.{ImportValue}
use Rattle.wc_read.specs.Modules.{ModuleValue, SpellsModule}
use Rattle.wc_read.specs.declared.fault.ReadFault.{ReadFault}
use Rattle.wc_read.specs.declared.fault.ReadFault.TheVariants.{Memory}
use Rattle.wc_why_text.specs.Texts.{word}
use Rattle.wc_component_file.specs.Files.{CoreModuleView}
use Rattle.wc_component_file.specs.Told.{EachAt}

-- words, each after a blank
abbrev pub words_text : List (List ℕ) → List ℕ
words_text names = flat_map (λ name. codes " " ++ word name) names

-- the number of names past the eighth
abbrev pub more_names : ℕ → List ℕ
more_names count = cond (nat_lt 8 count) (codes " and " ++ (decimal (count - 8) ++ codes " more")) []

abbrev pub names_text : List (List ℕ) → List ℕ
names_text names = words_text (take 8 names) ++ more_names (length names)

-- names in order, each once
abbrev pub each_once : List (List ℕ) → List (List ℕ)
each_once names = fold (insert_key bytes_eq) [] names

-- the modules that are imported from, and the names of exports
abbrev pub import_modules : List ImportValue → List (List ℕ)
import_modules imports = each_once (map (λ (i : ImportValue). i.module_name) imports)

abbrev pub export_names : List ExportValue → List (List ℕ)
export_names exports = map (λ (e : ExportValue). e.name) exports

-- what is said of a module that imports from these modules, and has exports of these names

abbrev pub exports_text : List (List ℕ) → List ℕ
exports_text [] = codes "no imports, no exports"
exports_text (e ∷ es) = codes "exports" ++ names_text (e ∷ es)

abbrev pub exports_after : List (List ℕ) → List ℕ
exports_after [] = codes ""
exports_after (e ∷ es) = codes "; exports" ++ names_text (e ∷ es)

abbrev pub imports_text : List (List ℕ) → List (List ℕ) → List ℕ
imports_text from exports = codes "imports from" ++ (names_text from ++ exports_after exports)

abbrev pub said_text : List (List ℕ) → List (List ℕ) → List ℕ
said_text [] exports = exports_text exports
said_text (m ∷ ms) exports = imports_text (m ∷ ms) exports

abbrev pub line_of : ℕ → List ℕ → List ℕ
line_of position said = codes "\n  core module " ++ (decimal position ++ (codes ": " ++ said))

abbrev pub read_line : ℕ → ModuleValue → List ℕ
read_line position m = line_of position (said_text (import_modules m.imports) (export_names m.exports))

abbrev pub unread_line : ℕ → ReadFault → List ℕ
unread_line position fault = line_of position (codes "Read: " ++ read_fault_text fault)

-- the line of bytes at a position: that of the module that they spell; or, if they spell none, of a fault of reading them
abbrev pub IsLineOf : ℕ → List ℕ → List ℕ → Type 0
IsLineOf position bytes line =
    ((m : ModuleValue) × SpellsModule bytes m × (line ≡ read_line position m))
    ⊎ ((fault : ReadFault) × (fault ≢ Memory) × SpellsNothing SpellsModule bytes × (line ≡ unread_line position fault))

-- the lines of modules, one after another
abbrev pub AreLines : List CoreModuleView → List ℕ → Type 0
AreLines modules text =
    (lines : List (List ℕ)) × EachAt (λ position (core : CoreModuleView). IsLineOf position core.bytes) modules lines × (text ≡ flat_map (λ line. line) lines)

-- the number of modules past the sixteenth
abbrev pub more_modules : ℕ → List ℕ
more_modules count =
    cond (nat_lt 16 count)
    (cond (count - 16 == 1) (codes "\n  1 more core module") (codes "\n  " ++ (decimal (count - 16) ++ codes " more core modules")))
    []

-- the lines of the first sixteen, and how many more there are
abbrev pub IsListing : List CoreModuleView → List ℕ → Type 0
IsListing modules text = (lines : List ℕ) × AreLines (take 16 modules) lines × (text ≡ lines ++ more_modules (length modules))
