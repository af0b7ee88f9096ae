-- The segments of a module (WebAssembly core specification, 2.5.7, 2.5.8, 5.5.12, 5.5.14 and 5.5.15).
use Rattle.std.specs.Prelude.{◌≡◌, ◌≢◌, ℕ, List, length, map, All, Option, IfSome, MatchOption, ◌⊎◌, codes}
use Rattle.wc_read.specs.Fault.{SpellsNothing}
use Rattle.wc_read.specs.Formats.{SpellsNumber, SpellsVector}
use Rattle.wc_read.specs.Modules.{ModuleValue}
use Rattle.wc_read.specs.SectionContents.{HasContent, HasItems}
use Rattle.wc_read.specs.Sections.{SectionValue, SpellsFrames, element_id, data_id, data_count_id}
use Rattle.wc_read.specs.declared.fault.ReadFault.{ReadFault}
use Rattle.wc_read.specs.declared.fault.ReadFault.TheVariants.{Memory}
use Rattle.wc_segments.specs.Elements.{ElementValue, element_value, SpellsElement}
use Rattle.wc_segments.specs.Data.{DataValue, data_value, SpellsData}
use Rattle.wc_segments.specs.Validity.{segment_scope, IsElement, IsData}
use Rattle.wc_segments.specs.declared.segments.SegmentSection.{SegmentSection}
use Rattle.wc_segments.specs.declared.segments.SegmentSection.TheVariants.{Elements, DataCount, Data}
use Rattle.wc_segments.specs.declared.segments.Segments.{Segments}

-- the segments of a module, by their indices
pub record SegmentsValue : Type 0 where
  pub elements : List ElementValue
  pub data_segments : List DataValue

abbrev pub segments_value : Segments → SegmentsValue
segments_value s = record { elements = map element_value s.elements.items; data_segments = map data_value s.data.items }

-- what the element section holds, and it names what the module has
abbrev pub HasElements : List SectionValue → ModuleValue → List ElementValue → Type 0
HasElements sections m es = HasItems element_id (SpellsVector SpellsElement) sections es × All (IsElement (segment_scope m) m.tables) es

-- what the data section holds, likewise
abbrev pub HasData : List SectionValue → ModuleValue → List DataValue → Type 0
HasData sections m ds = HasItems data_id (SpellsVector SpellsData) sections ds × All (IsData (segment_scope m) m.memories) ds

-- the count of data segments, where there is one
abbrev pub HasCount : List SectionValue → Option ℕ → Type 0
HasCount sections count = HasContent data_count_id (SpellsNumber 32) sections count

-- a count is that of the data segments
abbrev pub IsCountOf : Option ℕ → List DataValue → Type 0
IsCountOf count ds = IfSome count (λ n. n ≡ length ds)

-- the segments that sections have
pub record HaveSegments (sections : List SectionValue) (m : ModuleValue) (s : SegmentsValue) : Type 0 where
  pub has_elements : HasElements sections m s.elements
  pub count : Option ℕ
  pub has_count : HasCount sections count
  pub has_data : HasData sections m s.data_segments
  pub counted : IsCountOf count s.data_segments

-- the bytes of a module with these segments
pub record SpellsSegments (m : ModuleValue) (bytes : List ℕ) (s : SegmentsValue) : Type 0 where
  pub sections : List SectionValue
  pub has_frames : SpellsFrames bytes sections
  pub has_segments : HaveSegments sections m s

-- the section for which there are no segments. The element section comes first, then the count, then the data, and last
-- whether the count is theirs
abbrev pub IsFaultIn : List SectionValue → ModuleValue → SegmentSection → Type 0
IsFaultIn sections m Elements = (es : List ElementValue) → ¬ (HasElements sections m es)
IsFaultIn sections m DataCount =
    (es : List ElementValue) × HasElements sections m es
    × (((count : Option ℕ) → ¬ (HasCount sections count))
    ⊎ ((count : Option ℕ) × (ds : List DataValue) × HasCount sections count × HasData sections m ds × ¬ (IsCountOf count ds)))
IsFaultIn sections m Data =
    (es : List ElementValue) × HasElements sections m es × (count : Option ℕ) × HasCount sections count × ((ds : List DataValue) → ¬ (HasData sections m ds))

-- bytes without such segments: they are no module, or it is this section; or memory ran out, which has no place
abbrev pub IsRefused : ModuleValue → List ℕ → ReadFault → Option SegmentSection → Type 0
IsRefused m bytes fault place = MatchOption place (fault ≢ Memory → SpellsNothing SpellsFrames bytes)
    (λ section. (fault ≢ Memory) × (sections : List SectionValue) × SpellsFrames bytes sections × IsFaultIn sections m section)

-- the name of a section (2.5 and 5.5)
abbrev pub segment_section_name : SegmentSection → List ℕ
segment_section_name Elements = codes "element section"
segment_section_name DataCount = codes "data count section"
segment_section_name Data = codes "data section"
