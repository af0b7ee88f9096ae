-- Sections of segments, and why there are none.
use Rattle.std.proofs.Common.{◌≡◌, ◌≢◌, ℕ, List, Option, Some, None, sym, ◌∙◌, subst, inl, inr}
use Rattle.std.specs.Prelude.{All, MatchOption, IfErr, Result, Ok, Err}
use Rattle.wc_read.specs.Fault.{SpellsNothing}
use Rattle.wc_read.specs.Formats.{Format, SpellsNumber, SpellsVector}
use Rattle.wc_read.specs.Modules.{ModuleValue}
use Rattle.wc_read.specs.Reading.Contents.{items_in, content_in}
use Rattle.wc_read.specs.Reading.Reader.{Read, number_at}
use Rattle.wc_read.specs.SectionContents.{HasItems}
use Rattle.wc_read.specs.Sections.{SectionValue, SpellsFrames}
use Rattle.wc_read.specs.declared.fault.ReadFault.{ReadFault}
use Rattle.wc_read.specs.declared.fault.ReadFault.TheVariants.{Memory, Component}
use Rattle.wc_read.proofs.OptionsLemmas.{some_none, some_same}
use Rattle.wc_read.proofs.MeetsLemmas.{Meets, number_meets}
use Rattle.wc_read.proofs.SectionContentsLemmas.{items_found, items_there, content_found, content_there}
use Rattle.wc_read.proofs.SectionsLemmas.{frames_one}
use Rattle.wc_segments.specs.Data.{DataValue, SpellsData}
use Rattle.wc_segments.specs.Reading.Data.{data_at}
use Rattle.wc_segments.specs.Reading.Segments.{IsRefusedIn}
use Rattle.wc_segments.specs.Segments.{SegmentsValue, HasCount, HasData, HaveSegments, IsCountOf, IsFaultIn, IsRefused, SpellsSegments}
use Rattle.wc_segments.specs.declared.segments.SegmentSection.{SegmentSection}
use Rattle.wc_segments.specs.declared.segments.SegmentSection.TheVariants.{Elements, DataCount, Data}
use Rattle.wc_segments.proofs.DataLemmas.{data_meets}
use Rattle.wc_texts.specs.declared.refused.Refused.{Refused}

-- the items of a section, of which all are as P says

module _ {A : Type 0} (Spells : Format A) (read : Read A) (m : Meets Spells read) (id : ℕ) (sections : List SectionValue) (P : A → Type 0) where
  pub items_are : (xs : List A) → items_in id read sections ≡ Some xs → All P xs → HasItems id (SpellsVector Spells) sections xs × All P xs
  items_are xs e all = (items_found Spells read m id sections xs e, all)

  pub no_items : items_in id read sections ≡ None → (xs : List A) → HasItems id (SpellsVector Spells) sections xs × All P xs → ⊥
  no_items none xs h = some_none xs (sym (items_there Spells read m id sections xs h.0) ∙ none)

  pub other_items : (xs : List A) → items_in id read sections ≡ Some xs → ¬ (All P xs) → (ys : List A) → HasItems id (SpellsVector Spells) sections ys × All P ys → ⊥
  other_items xs e wrong ys h =
      let same : ys ≡ xs = some_same ys xs (sym (items_there Spells read m id sections ys h.0) ∙ e) in
      wrong (subst (λ (zs : List A). All P zs) same h.1)

-- the count

pub count_is : (sections : List SectionValue) (count : Option ℕ) → content_in 12 (number_at 32) sections ≡ Some count → HasCount sections count
count_is sections count e = content_found (SpellsNumber 32) (number_at 32) (number_meets 32) 12 sections count e

pub no_count : (sections : List SectionValue) → content_in 12 (number_at 32) sections ≡ None → (count : Option ℕ) → HasCount sections count → ⊥
no_count sections none count h = some_none count (sym (content_there (SpellsNumber 32) (number_at 32) (number_meets 32) 12 sections count h) ∙ none)

count_one : (sections : List SectionValue) (a b : Option ℕ) → HasCount sections a → HasCount sections b → a ≡ b
count_one sections a b h k =
    let there = content_there (SpellsNumber 32) (number_at 32) (number_meets 32) 12 sections in
    some_same a b (sym (there a h) ∙ there b k)

data_one : (sections : List SectionValue) (m : ModuleValue) (a b : List DataValue) → HasData sections m a → HasData sections m b → a ≡ b
data_one sections m a b h k =
    let there = items_there SpellsData data_at data_meets 11 sections in
    some_same a b (sym (there a h.0) ∙ there b k.0)

-- refusals

pub refused_in : (sections : List SectionValue) (m : ModuleValue) (fault : ReadFault) (section : SegmentSection) (f : ReadFault) (place : Option SegmentSection)
    → f ≡ fault → MatchOption place (fault ≡ Memory) (λ s. (s ≡ section) × (fault ≢ Memory)) → (fault ≢ Component) → (fault ≢ Memory → IsFaultIn sections m section)
    → IsRefusedIn sections m f place
refused_in sections m fault section f None e p other h = e ∙ p
refused_in sections m fault section f (Some s) e p other h = rw (e, p.0) (p.1, other, h p.1)

-- where a section is at fault there are no segments
no_segments : (sections : List SectionValue) (m : ModuleValue) (section : SegmentSection) → IsFaultIn sections m section → (s : SegmentsValue) → HaveSegments sections m s → ⊥
no_segments sections m Elements h s t = h s.elements t.has_elements
no_segments sections m DataCount h s t = elim h.2 [
  | inl none ↦ none t.count t.has_count
  | inr w ↦
      let counts : t.count ≡ w.0 = count_one sections t.count w.0 t.has_count w.2 in
      let same : s.data_segments ≡ w.1 = data_one sections m s.data_segments w.1 t.has_data w.3 in
      w.4 (subst (λ (ds : List DataValue). IsCountOf w.0 ds) same (subst (λ (o : Option ℕ). IsCountOf o s.data_segments) counts t.counted))
]
no_segments sections m Data h s t = h.4 s.data_segments t.has_data

pub refused_nothing : (m : ModuleValue) (bytes : List ℕ) (sections : List SectionValue) (f : ReadFault) (place : Option SegmentSection)
    → SpellsFrames bytes sections → IsRefusedIn sections m f place → f ≢ Memory → SpellsNothing (SpellsSegments m) bytes
refused_nothing m bytes sections f None frames e real = absurd (real e)
refused_nothing m bytes sections f (Some s) frames h real = λ v t.
    no_segments sections m s h.2 v
    (subst (λ (ss : List SectionValue). HaveSegments ss m v) (frames_one bytes t.sections sections t.has_frames frames) t.has_segments)

pub refused_place : (m : ModuleValue) (bytes : List ℕ) (sections : List SectionValue) (f : ReadFault) (place : Option SegmentSection)
    → SpellsFrames bytes sections → IsRefusedIn sections m f place → IsRefused m bytes f place
refused_place m bytes sections f None frames e = λ real. absurd (real e)
refused_place m bytes sections f (Some s) frames h = (h.0, sections, frames, h.2)

pub refused_component : (sections : List SectionValue) (m : ModuleValue) (f : ReadFault) (place : Option SegmentSection) → IsRefusedIn sections m f place → f ≢ Component
refused_component sections m f None e = rw e (λ same. absurd cc)
refused_component sections m f (Some s) h = h.1

-- the same of what is returned

pub result_refused : {X : Type 0} (m : ModuleValue) (bytes : List ℕ) (sections : List SectionValue) (r : Result X (Refused ReadFault SegmentSection))
    → SpellsFrames bytes sections → IfErr r (λ f. IsRefusedIn sections m f.fault f.place)
    → IfErr r (λ f. f.fault ≢ Memory → SpellsNothing (SpellsSegments m) bytes)
result_refused m bytes sections (Ok x) frames h = h
result_refused m bytes sections (Err f) frames h = refused_nothing m bytes sections f.fault f.place frames h

pub result_place : {X : Type 0} (m : ModuleValue) (bytes : List ℕ) (sections : List SectionValue) (r : Result X (Refused ReadFault SegmentSection))
    → SpellsFrames bytes sections → IfErr r (λ f. IsRefusedIn sections m f.fault f.place) → IfErr r (λ f. IsRefused m bytes f.fault f.place)
result_place m bytes sections (Ok x) frames h = h
result_place m bytes sections (Err f) frames h = refused_place m bytes sections f.fault f.place frames h
