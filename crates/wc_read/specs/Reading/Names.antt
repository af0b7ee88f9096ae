-- Names of functions and of globals: what the readers of name sections do (7.4.1).
use Rattle.std.specs.Prelude.{ℕ, List, Some, Bool, true, false, filter, map, ◌≡◌}
use Rattle.wc_read.specs.Names.{GlobalNameValue, SpellsGlobalName, PairsBeforeFault, global_names_id, function_names_id, AllNamesUnder, global_names_of, is_wanted}
use Rattle.wc_read.specs.Options.{◌>>=◌}
use Rattle.wc_read.specs.Formats.{SpellsVector}
use Rattle.wc_read.specs.Sections.{SectionValue, SpellsFrames}
use Rattle.wc_read.specs.Reading.Reader.{Read, number_at, name_at}
use Rattle.wc_read.specs.declared.names.GlobalName.{GlobalName}

abbrev pub global_name_value : GlobalName → GlobalNameValue
global_name_value n = (n.index, n.name.now)

abbrev pub global_name_of : ℕ → List ℕ → GlobalNameValue
global_name_of index name = (index, name)

unfoldable pub global_name_at : Read GlobalNameValue
global_name_at bytes = do
  index ← number_at 32 bytes
  name ← name_at index.1
  Some (global_name_of index.0 name.0, name.1)

-- pairs that were read of a subsection's content, and whether there was no fault
abbrev pub PairsOf : List ℕ → Bool → List GlobalNameValue → Type 0
PairsOf bytes true pairs = SpellsVector SpellsGlobalName bytes pairs
PairsOf bytes false pairs = PairsBeforeFault bytes pairs

abbrev pub named_pairs : List GlobalName → List GlobalNameValue
named_pairs ns = map global_name_value ns

-- the names that subsections of an id give
abbrev pub AreNamesUnder : ℕ → List SectionValue → List GlobalNameValue → Type 0
AreNamesUnder id sections names = (pairs : List GlobalNameValue) × AllNamesUnder id sections pairs × (names ≡ global_names_of pairs)

-- the names of globals that sections give
abbrev pub AreGlobalNames : List SectionValue → List GlobalNameValue → Type 0
AreGlobalNames sections names = AreNamesUnder global_names_id sections names

-- the names of functions that the sections of a module give, which its bytes spell
abbrev pub AreFunctionNames : List ℕ → List GlobalNameValue → Type 0
AreFunctionNames bytes names = (sections : List SectionValue) × SpellsFrames bytes sections × AreNamesUnder function_names_id sections names

-- those of the functions that are wanted, of the names that sections give
abbrev pub AreNamesAt : List ℕ → List SectionValue → List GlobalNameValue → Type 0
AreNamesAt wanted sections names = (all : List GlobalNameValue) × AreNamesUnder function_names_id sections all × (names ≡ filter (is_wanted wanted) all)

-- those of the functions that are wanted, of the names that a module gives, which its bytes spell
abbrev pub AreFunctionNamesAt : List ℕ → List ℕ → List GlobalNameValue → Type 0
AreFunctionNamesAt bytes wanted names = (all : List GlobalNameValue) × AreFunctionNames bytes all × (names ≡ filter (is_wanted wanted) all)
