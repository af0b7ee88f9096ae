-- The producers that are kept, and that they are one.
use Rattle.std.proofs.Common.{◌≡◌, ℕ, ◌+◌, ◌<◌, List, [], ◌∷◌, ◌++◌, length, take, map, get_or, Bool, true, false, Option, Some, None, refl, sym, ◌∙◌, ap, subst, append_assoc}
use Rattle.std.specs.Prelude.{◌==◌, is_some}
use Rattle.std.specs.Option.{option_map}
use denote.Ref.{Bor}
use Rattle.std.proofs.lemmas.List.{take_more, map-append}
use Rattle.wc_read.specs.Formats.{SpellsVector}
use Rattle.wc_read.specs.Reading.Reader.{vector_at}
use Rattle.wc_read.specs.Sections.{SectionValue, section_value}
use Rattle.wc_read.specs.Custom.{IsCustomSection}
use Rattle.wc_read.specs.Reading.Custom.{ContentAfterName}
use Rattle.wc_read.specs.Producers.{FieldValue, SpellsField, producers_text, ReadsProducers, NoneReads, LastProducers}
use Rattle.wc_read.specs.Reading.Producers.{field_at, AreFields, ProducersOf}
use Rattle.wc_read.specs.declared.sections.Section.{Section}
use Rattle.wc_read.proofs.MeetsLemmas.{Meets, vector_meets, no_value, none_left, left_over}
use Rattle.wc_read.proofs.ProducersLemmas.{field_meets}
use Rattle.wc_read.proofs.CustomLemmas.{after_one}

fields_meet : Meets (SpellsVector SpellsField) (vector_at field_at)
fields_meet = vector_meets SpellsField field_at field_meets

pub no_fields : (bytes : List ℕ) → vector_at field_at bytes ≡ None → AreFields false bytes
no_fields bytes none p = no_value (SpellsVector SpellsField) (vector_at field_at) fields_meet bytes none p.0 p.1

pub are_fields : (bytes : List ℕ) (fields : List FieldValue) (rest : List ℕ) → vector_at field_at bytes ≡ Some (fields, rest) → AreFields (length rest == 0) bytes
are_fields bytes fields rest e = by (length rest == 0) refl
  where
    by : (test : Bool) → test ≡ (length rest == 0) → AreFields test bytes
    by true t = (fields, none_left (SpellsVector SpellsField) (vector_at field_at) fields_meet bytes fields rest e t)
    by false t = λ p. left_over (SpellsVector SpellsField) (vector_at field_at) fields_meet bytes fields rest e t p.0 p.1

-- one section

pub not_named : (s : SectionValue) → ContentAfterName producers_text s None → ProducersOf s None
not_named s none bytes r = none bytes r.0

pub not_fields : (s : SectionValue) (bytes : List ℕ) → ContentAfterName producers_text s (Some bytes) → AreFields false bytes → ProducersOf s None
not_fields s bytes c none others r = none (rw (after_one producers_text s others bytes r.0 c) at r.1)

-- all sections

none_push : (ss : List SectionValue) (s : SectionValue) → NoneReads ss → ProducersOf s None → NoneReads (ss ++ s ∷ [])
none_push [] s n none = (none, tt)
none_push (x ∷ xs) s n none = (n.0, none_push xs s n.1 none)

last_push : (ss : List SectionValue) (s : SectionValue) (last : Option (List ℕ)) → LastProducers ss last → ProducersOf s None → LastProducers (ss ++ s ∷ []) last
last_push ss s None n none = none_push ss s n none
last_push ss s (Some bytes) r none = record {
  front = r.front;
  section = r.section;
  back = r.back ++ s ∷ [];
  cut = ap (λ (xs : List SectionValue). xs ++ s ∷ []) r.cut ∙ append_assoc r.front (r.section ∷ r.back) (s ∷ []);
  reads = r.reads;
  none_after = none_push r.back s r.none_after none;
}

last_new : (ss : List SectionValue) (s : SectionValue) (bytes : List ℕ) → ReadsProducers s bytes → LastProducers (ss ++ s ∷ []) (Some bytes)
last_new ss s bytes r = record { front = ss; section = s; back = []; cut = refl; reads = r; none_after = tt }

abbrev pub now : Bor (List ℕ) → List ℕ
now b = b.now

-- the last one up to an index
pub record IsLastTo (sections : List Section) (index : ℕ) (last : Option (List ℕ)) : Type 0 where
  pub last_is : LastProducers (map section_value (take index sections)) last

pub last_found : (sections : List Section) (index : ℕ) (last : Option (List ℕ)) (found : Option (Bor (List ℕ))) (d : Section) → IsLastTo sections index last → index < length sections → ProducersOf (section_value (get_or sections index d)) (option_map now found) → true ≡ is_some found → IsLastTo sections (index + 1) (option_map now found)
last_found sections index last None d l less o there = absurd cc
last_found sections index last (Some bytes) d l less o there =
    record { last_is = rw (take_more sections index d less, map-append) (last_new (map section_value (take index sections)) (section_value (get_or sections index d)) bytes.now o) }

pub last_kept : (sections : List Section) (index : ℕ) (last : Option (List ℕ)) (found : Option (Bor (List ℕ))) (d : Section) → IsLastTo sections index last → index < length sections → ProducersOf (section_value (get_or sections index d)) (option_map now found) → false ≡ is_some found → IsLastTo sections (index + 1) last
last_kept sections index last (Some bytes) d l less o there = absurd cc
last_kept sections index last None d l less o there =
    record { last_is = rw (take_more sections index d less, map-append) (last_push (map section_value (take index sections)) (section_value (get_or sections index d)) last l.last_is o) }

-- the last section that reads is one, and so are its bytes

head_of : (s t : SectionValue) (xs ys : List SectionValue) → s ∷ xs ≡ t ∷ ys → s ≡ t
head_of s t xs ys e = cc

tail_of : (s t : SectionValue) (xs ys : List SectionValue) → s ∷ xs ≡ t ∷ ys → xs ≡ ys
tail_of s t xs ys e = cc

none_here : (ss front back : List SectionValue) (s : SectionValue) (bytes : List ℕ) → NoneReads ss → ss ≡ front ++ s ∷ back → ReadsProducers s bytes → ⊥
none_here [] [] back s bytes n cut r = absurd cc
none_here [] (f ∷ front) back s bytes n cut r = absurd cc
none_here (x ∷ xs) [] back s bytes n cut r = n.0 bytes (subst (λ (t : SectionValue). ReadsProducers t bytes) (sym (head_of x s xs back cut)) r)
none_here (x ∷ xs) (f ∷ front) back s bytes n cut r = none_here xs front back s bytes n.1 (tail_of x f xs (front ++ s ∷ back) cut) r

same_bytes : (s t : SectionValue) (a b : List ℕ) → s ≡ t → ReadsProducers s a → ReadsProducers t b → a ≡ b
same_bytes s t a b e r q = after_one producers_text s a b r.0 (subst (λ (x : SectionValue). IsCustomSection producers_text x b) (sym e) q.0)

last_one : (f g x y : List SectionValue) (s t : SectionValue) (a b : List ℕ) → f ++ s ∷ x ≡ g ++ t ∷ y → ReadsProducers s a → ReadsProducers t b → NoneReads x → NoneReads y → a ≡ b
last_one [] [] x y s t a b cut r q n m = same_bytes s t a b (head_of s t x y cut) r q
last_one [] (h ∷ g) x y s t a b cut r q n m = absurd (none_here x g y t b n (tail_of s h x (g ++ t ∷ y) cut) q)
last_one (h ∷ f) [] x y s t a b cut r q n m = absurd (none_here y f x s a m (sym (tail_of h t (f ++ s ∷ x) y cut)) r)
last_one (h ∷ f) (k ∷ g) x y s t a b cut r q n m = last_one f g x y s t a b (tail_of h k (f ++ s ∷ x) (g ++ t ∷ y) cut) r q n m

pub producers_unique : (sections : List SectionValue) (p q : Option (List ℕ)) → LastProducers sections p → LastProducers sections q → p ≡ q
producers_unique sections None None n m = refl
producers_unique sections None (Some b) n r = absurd (none_here sections r.front r.back r.section b n r.cut r.reads)
producers_unique sections (Some a) None r n = absurd (none_here sections r.front r.back r.section a n r.cut r.reads)
producers_unique sections (Some a) (Some b) r q = ap Some (last_one r.front q.front r.back q.back r.section q.section a b (sym r.cut ∙ q.cut) r.reads q.reads r.none_after q.none_after)
