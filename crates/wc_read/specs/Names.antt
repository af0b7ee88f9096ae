-- Names of functions and of globals: the name section (WebAssembly core specification, 7.4.1), with the subsection of
-- global names (extended name section proposal). A fault in it refuses nothing: it ends the names of that section.
use Rattle.std.specs.Prelude.{◌≡◌, ◌≢◌, ℕ, ◌<◌, Bool, List, [], ◌∷◌, ◌++◌, length, map, nat_eq}
use Rattle.std.specs.List.{list_any}
use denote.Ref.{Bor}
use Rattle.indexmap.specs.IndexMap.{insert_all}
use Rattle.indexmap.specs.Layout.{Rows}
use Rattle.wc_read.specs.Formats.{Format, SpellsNumber, SpellsName, SpellsItems, SpellsVector, HasNoPrefix}
use Rattle.wc_read.specs.Sections.{SectionValue, SpellsSection}
use Rattle.wc_read.specs.Custom.{IsCustomSection}

-- `name`
abbrev pub name_text : List ℕ
name_text = 0x6e ∷ 0x61 ∷ 0x6d ∷ 0x65 ∷ []

-- the index of a global, or of a function, and its name
abbrev pub GlobalNameValue : Type 0
GlobalNameValue = ℕ × List ℕ

abbrev pub SpellsGlobalName : Format GlobalNameValue
SpellsGlobalName bytes p = (index name : List ℕ) × (bytes ≡ index ++ name) × SpellsNumber 32 index p.0 × SpellsName name p.1

-- a count of n, after it some pairs, and then the rest
pub record PairsThenRest (bytes : List ℕ) (n : ℕ) (pairs : List GlobalNameValue) (rest : List ℕ) : Type 0 where
  pub count : List ℕ
  pub items : List ℕ
  pub cut : bytes ≡ count ++ (items ++ rest)
  pub has_count : SpellsNumber 32 count n
  pub has_items : SpellsItems SpellsGlobalName items pairs

-- bytes that are no vector of pairs, and the pairs before the fault: none where there is no count; all, and bytes
-- after them; or fewer than are counted, where after them no pair is
pub data PairsBeforeFault : List ℕ → List GlobalNameValue → Type 0 where
  no_count : {bytes : List ℕ} → HasNoPrefix (SpellsNumber 32) bytes → PairsBeforeFault bytes []
  bytes_after : {bytes : List ℕ} {pairs : List GlobalNameValue} (rest : List ℕ) → PairsThenRest bytes (length pairs) pairs rest → rest ≢ [] → PairsBeforeFault bytes pairs
  pair_missing : {bytes : List ℕ} {pairs : List GlobalNameValue} (n : ℕ) (rest : List ℕ) → PairsThenRest bytes n pairs rest → length pairs < n → HasNoPrefix SpellsGlobalName rest → PairsBeforeFault bytes pairs

-- a subsection is spelled as a section is; these are the ids of names of functions and of globals
abbrev pub function_names_id : ℕ
function_names_id = 1

abbrev pub global_names_id : ℕ
global_names_id = 7

-- a subsection before the rest
pub record Subsection (bytes : List ℕ) (s : SectionValue) (rest : List ℕ) : Type 0 where
  pub text : List ℕ
  pub cut : bytes ≡ text ++ rest
  pub spelled : SpellsSection text s

-- the pairs that a name section's bytes after its name give: none where no subsection is at the front, as where nothing
-- is left; a subsection of another id gives none, whatever it holds; one of this id gives its pairs, and the rest gives
-- more; where it is faulty, it gives the pairs before the fault, and the rest gives none
pub data NamesUnder : ℕ → List ℕ → List GlobalNameValue → Type 0 where
  no_more : {id : ℕ} {bytes : List ℕ} → HasNoPrefix SpellsSection bytes → NamesUnder id bytes []
  other_id : {id : ℕ} {bytes : List ℕ} {pairs : List GlobalNameValue} (s : SectionValue) (rest : List ℕ) → Subsection bytes s rest → s.id ≢ id → NamesUnder id rest pairs → NamesUnder id bytes pairs
  complete : {id : ℕ} {bytes : List ℕ} (pairs others : List GlobalNameValue) (s : SectionValue) (rest : List ℕ) → Subsection bytes s rest → s.id ≡ id → SpellsVector SpellsGlobalName s.content pairs → NamesUnder id rest others → NamesUnder id bytes (pairs ++ others)
  faulty : {id : ℕ} {bytes : List ℕ} {pairs : List GlobalNameValue} (s : SectionValue) (rest : List ℕ) → Subsection bytes s rest → s.id ≡ id → PairsBeforeFault s.content pairs → NamesUnder id bytes pairs

-- the pairs that one section gives: those of a name section, and none of any other
pub data SectionNamesUnder : ℕ → SectionValue → List GlobalNameValue → Type 0 where
  name_section : {id : ℕ} {s : SectionValue} {pairs : List GlobalNameValue} (rest : List ℕ) → IsCustomSection name_text s rest → NamesUnder id rest pairs → SectionNamesUnder id s pairs
  other_section : {id : ℕ} {s : SectionValue} → ((rest : List ℕ) → IsCustomSection name_text s rest → ⊥) → SectionNamesUnder id s []

-- the pairs of all sections, in order
abbrev pub AllNamesUnder : ℕ → List SectionValue → List GlobalNameValue → Type 0
AllNamesUnder id [] pairs = pairs ≡ []
AllNamesUnder id (s ∷ sections) pairs = (these others : List GlobalNameValue) × (pairs ≡ these ++ others) × SectionNamesUnder id s these × AllNamesUnder id sections others

-- those of globals
abbrev pub NamesOf : List SectionValue → List GlobalNameValue → Type 0
NamesOf sections pairs = AllNamesUnder global_names_id sections pairs

-- the map of the pairs: indices by their first positions, each with its last name
abbrev pub global_names_of : List GlobalNameValue → List GlobalNameValue
global_names_of pairs = insert_all nat_eq [] pairs

abbrev pub name_entries : Rows ℕ (Bor (List ℕ)) → List GlobalNameValue
name_entries m = map (λ e. (e.0, e.1.now)) m.entries

-- whether the index of a pair is among the wanted ones
abbrev pub is_wanted : List ℕ → GlobalNameValue → Bool
is_wanted wanted p = list_any (nat_eq p.0) wanted
