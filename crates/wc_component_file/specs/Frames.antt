-- The sections of a component, cut by their sizes alone, and where their contents begin in its file.
use Rattle.std.specs.Prelude.{◌≡◌, ℕ, ◌+◌, ◌≤◌, Bool, List, [], ◌∷◌, ◌++◌, All, length, map, nat_eq}
use Rattle.wc_read.specs.Sections.{SectionValue, SpellsSection, component_header, section_value}
use Rattle.wc_component_file.specs.declared.frames.Frame.{Frame}

-- a section, and where its content begins
pub record FrameValue : Type 0 where
  pub offset : ℕ
  pub section : SectionValue

abbrev pub frame_value : Frame → FrameValue
frame_value f = record { offset = f.offset; section = section_value f.section }

abbrev pub frame_values : List Frame → List FrameValue
frame_values fs = map frame_value fs

-- the ids of sections: of a core module, of a component inside, and the largest

abbrev pub core_module_id : ℕ
core_module_id = 1

abbrev pub component_id : ℕ
component_id = 4

abbrev pub last_id : ℕ
last_id = 12

-- these bytes, of which the first is at this offset, are a section: its content ends where they do
pub record SpellsFrameAt (at : ℕ) (text : List ℕ) (f : FrameValue) : Type 0 where
  pub has_section : SpellsSection text f.section
  pub ends : f.offset + length f.section.content ≡ at + length text

-- sections to the end of the bytes, of which the first is at this offset
abbrev pub SpellFramesAt : ℕ → List ℕ → List FrameValue → Type 0
SpellFramesAt at bytes [] = bytes ≡ []
SpellFramesAt at bytes (f ∷ fs) = (text rest : List ℕ) × (bytes ≡ text ++ rest) × SpellsFrameAt at text f × SpellFramesAt (at + length text) rest fs

abbrev pub AreKnown : List FrameValue → Type 0
AreKnown fs = All (λ f. f.section.id ≤ last_id) fs

-- a component: its header, and sections to the end, whose ids are known
pub record SpellsComponent (bytes : List ℕ) (fs : List FrameValue) : Type 0 where
  pub rest : List ℕ
  pub cut : bytes ≡ component_header ++ rest
  pub has_frames : SpellFramesAt (length component_header) rest fs
  pub are_known : AreKnown fs

-- the sections that are core modules
abbrev pub is_core_module : FrameValue → Bool
is_core_module f = nat_eq f.section.id core_module_id
