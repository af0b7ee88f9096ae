-- Sections that were read one after another, and what is in the last one.
use Rattle.std.proofs.Common.{◌≡◌, ℕ, ◌+◌, ◌-◌, ◌≤◌, List, [], ◌∷◌, ◌++◌, length, Bool, true, false, Option, Some, None, refl, sym, ◌∙◌, ap, subst, inl, inr, append_assoc, arith}
use Rattle.std.specs.Prelude.{◌≢◌, ◌==◌, All, Result, Ok, Err, IfOk}
use Rattle.std.specs.Option.{option_map}
use Rattle.std.proofs.lemmas.List.{append_cancel_left}
use Rattle.std.proofs.lemmas.List.Elements.{All-push}
use Rattle.std.proofs.Math.ListN.{length-append}
use Rattle.wc_read.specs.Fault.{SpellsNothing}
use Rattle.std.specs.declared.alloc.AllocError.{AllocError}
use Rattle.wc_read.specs.Formats.{SpellsItems}
use Rattle.wc_read.specs.Sections.{SectionValue, SpellsFrames, SpellsSection, module_header}
use Rattle.wc_read.specs.SectionContents.{SectionContentsValue, HaveSectionContents}
use Rattle.wc_read.specs.Causes.{is_cause}
use Rattle.wc_read.specs.Reading.Contents.{section_contents_in, section_contents_value}
use Rattle.wc_read.specs.Reading.Framing.{section_at}
use Rattle.wc_read.specs.Place.{HasFirstCause, IsCausePlace, IsContentAt, IsInSection}
use Rattle.wc_read.specs.Private.Places.{AreContentsOf, AreSectionsRead, HasCausePlace, IsFirstCause, IsLastRead}
use Rattle.wc_read.specs.declared.fault.ReadFault.{ReadFault}
use Rattle.wc_read.specs.declared.fault.ReadFault.TheVariants.{Component, Memory}
use Rattle.wc_read.specs.declared.place.ReadPlace.{ReadPlace}
use Rattle.wc_read.specs.declared.section_contents.SectionContents.{SectionContents}
use Rattle.wc_read.proofs.NamesReadLemmas.{items_push}
use Rattle.wc_read.proofs.OptionsLemmas.{some_none, some_same}
use Rattle.wc_read.proofs.SectionContentsLemmas.{parts_there}
use Rattle.wc_read.proofs.SectionsLemmas.{frames_one, section_meets, section_some}
use Rattle.wc_read.proofs.ToEndLemmas.{IsReadTo, items_unique, to_end, to_fails, to_more}

pub none_read : (bytes rest : List ℕ) → bytes ≡ module_header ++ rest → AreSectionsRead bytes rest
none_read bytes rest e = record { front = module_header; before = []; cut = e; has_before = ([], refl, refl) }

pub one_read : (bytes rest : List ℕ) (s : SectionValue) (after : List ℕ) → AreSectionsRead bytes rest → section_at rest ≡ Some (s, after) → IsLastRead bytes after s
one_read bytes rest s after r e =
    let t = section_meets.parses rest s after e in
    record { front = r.front; text = t.0; before = r.before; cut = r.cut ∙ ap (λ (b : List ℕ). r.front ++ b) t.1; has_before = r.has_before; has_section = t.2 }

pub more_read : (bytes rest : List ℕ) (s : SectionValue) → IsLastRead bytes rest s → AreSectionsRead bytes rest
more_read bytes rest s r =
    let f = r.has_before in
    record {
      front = r.front ++ r.text;
      before = r.before ++ s ∷ [];
      cut = rw append_assoc r.cut;
      has_before = (f.0 ++ r.text, ap (λ (b : List ℕ). b ++ r.text) f.1 ∙ append_assoc module_header f.0 r.text, items_push SpellsSection f.0 r.text r.before s f.2 r.has_section);
    }

-- the lengths of what was read and of what is left
pub read_lengths : (bytes rest : List ℕ) (s : SectionValue) (r : IsLastRead bytes rest s) → length bytes ≡ length r.front + (length r.text + length rest)
read_lengths bytes rest s r = ap length r.cut ∙ length-append r.front (r.text ++ rest) ∙ ap (λ n. length r.front + n) (length-append r.text rest)

pub content_fits : (text : List ℕ) (s : SectionValue) → SpellsSection text s → length s.content ≤ length text
content_fits text s t = rw (t.cut, length-append) (omega (arith, length-append t.size s.content))

-- the content of the last section, by what is before it
pub content_at : (bytes rest : List ℕ) (s : SectionValue) (at : ℕ) → IsLastRead bytes rest s → at ≡ length bytes - length rest - length s.content → IsContentAt bytes s at
content_at bytes rest s at r e =
    let lengths = read_lengths bytes rest s r in
    let fits = content_fits r.text s r.has_section in
    record { front = r.front; text = r.text; back = rest; before = r.before; cut = r.cut; has_before = r.has_before; has_section = r.has_section; ends = omega (arith, lengths, fits, e) }

pub in_last : (bytes rest : List ℕ) (s : SectionValue) (begin stop : ℕ) → IsLastRead bytes rest s → begin ≡ length bytes - length rest - length s.content → stop ≤ length s.content → IsInSection bytes s.id (begin + stop)
in_last bytes rest s begin stop r e within =
    record {
      content = s.content;
      begin = begin;
      has_content = content_at bytes rest s begin r e;
      from = omega arith;
      to = omega (arith, within);
    }

-- The search for the first section that passes a test.

-- sections were read, none of which passes the test
pub record IsSearched (bytes begin rest : List ℕ) (causes : ℕ → Bool) : Type 0 where
  pub read : AreSectionsRead bytes rest
  pub to : IsReadTo SpellsSection read.before rest begin
  pub none : All (λ s. causes s.id ≡ false) read.before

pub search_begins : (bytes begin : List ℕ) (causes : ℕ → Bool) → bytes ≡ module_header ++ begin → IsSearched bytes begin begin causes
unfolding none_read
search_begins bytes begin causes e = record {
  read = none_read bytes begin e;
  to = record { to_all = λ others s. s; from_all = λ all s. (all, refl, s) };
  none = λ k d within. absurd (omega (arith, within));
}

pub search_goes_on : (bytes begin rest : List ℕ) (causes : ℕ → Bool) (s : SectionValue) (after : List ℕ) → IsSearched bytes begin rest causes
    → section_at rest ≡ Some (s, after) → causes s.id ≡ false → IsSearched bytes begin after causes
unfolding one_read more_read
search_goes_on bytes begin rest causes s after h e fails = record {
  read = more_read bytes after s (one_read bytes rest s after h.read e);
  to = to_more SpellsSection section_at section_meets section_some h.read.before rest begin s after h.to e;
  none = All-push (λ (t : SectionValue). causes t.id ≡ false) h.read.before s h.none fails;
}

module _ (bytes begin : List ℕ) (cut : bytes ≡ module_header ++ begin) where
  items_from : (sections : List SectionValue) → SpellsFrames bytes sections → SpellsItems SpellsSection begin sections
  items_from sections f = subst (λ (b : List ℕ). SpellsItems SpellsSection b sections) (append_cancel_left module_header f.0 begin (sym f.1 ∙ cut)) f.2

  pub search_ends : (rest : List ℕ) (causes : ℕ → Bool) → IsSearched bytes begin rest causes → true ≡ (length rest == 0) → IsFirstCause bytes causes None
  search_ends rest causes h e = λ sections f.
      let all = to_end SpellsSection h.read.before rest begin e h.to in
      let same = items_unique SpellsSection section_at section_meets section_some h.read.before sections begin all (items_from sections f) in
      subst (λ (ss : List SectionValue). All (λ s. causes s.id ≡ false) ss) same h.none

  pub search_stops : (rest : List ℕ) (causes : ℕ → Bool) → IsSearched bytes begin rest causes → false ≡ (length rest == 0) → section_at rest ≡ None → IsFirstCause bytes causes None
  search_stops rest causes h e none = λ sections f.
      absurd (to_fails SpellsSection section_at section_meets section_some h.read.before rest begin e h.to none sections (items_from sections f))

  pub search_finds : (rest : List ℕ) (causes : ℕ → Bool) (s : SectionValue) (after : List ℕ) (place : ReadPlace) → IsSearched bytes begin rest causes
      → section_at rest ≡ Some (s, after) → causes s.id ≡ true → place.offset ≡ length bytes - length after - length s.content + 0 → place.section ≡ Some s.id
      → IsFirstCause bytes causes (Some place)
  unfolding one_read content_at
  search_finds rest causes s after place h e passes at named = λ sections f.
      let later = h.to.from_all sections (items_from sections f) in
      let more = to_more SpellsSection section_at section_meets section_some h.read.before rest begin s after h.to e in
      let found = more.from_all sections (items_from sections f) in
      record {
        front = h.read.before;
        section = s;
        back = found.0;
        cut = found.1 ∙ append_assoc h.read.before (s ∷ []) found.0;
        first = h.none;
        causes_it = passes;
        named = named;
        content = content_at bytes after s place.offset (one_read bytes rest s after h.read e) (omega (arith, at));
        after_front = refl;
      }

-- the first section is that of the fault, where the contents are read
pub cause_found : (bytes : List ℕ) (fault : ReadFault) (found : Option SectionContents) (place : Option ReadPlace) (c : SectionContents) → found ≡ Some c
    → AreContentsOf bytes found → IsFirstCause bytes (is_cause (section_contents_value c) fault) place → HasCausePlace bytes fault place
cause_found bytes fault found place c is contents first = go place first
  where
    parts_are : (sections : List SectionValue) (parts : SectionContentsValue) → SpellsFrames bytes sections → HaveSectionContents sections parts → section_contents_value c ≡ parts
    parts_are sections parts f h = some_same (section_contents_value c) parts (sym (contents sections f ∙ ap (option_map section_contents_value) is) ∙ parts_there sections parts h)

    go : (place : Option ReadPlace) → IsFirstCause bytes (is_cause (section_contents_value c) fault) place → HasCausePlace bytes fault place
    go None first = λ p sections parts f h.
        inl (subst (λ (q : SectionContentsValue). All (λ s. is_cause q fault s.id ≡ false) sections) (parts_are sections parts f h) (first sections f))
    go (Some p) first = λ sections parts f h.
        inr (subst (λ (q : SectionContentsValue). HasFirstCause bytes sections (is_cause q fault) p) (parts_are sections parts f h) (first sections f))

pub whole_found : (bytes : List ℕ) (fault : ReadFault) (found : Option SectionContents) (c : SectionContents) → found ≡ Some c → AreContentsOf bytes found
    → (r : Result (Option ReadPlace) AllocError) → IfOk r (λ place. IsFirstCause bytes (is_cause (section_contents_value c) fault) place)
    → IfOk r (λ place. HasCausePlace bytes fault place)
whole_found bytes fault found c is contents (Ok place) first = cause_found bytes fault found place c is contents first
whole_found bytes fault found c is contents (Err e) first = first

-- where a fault is about no section as a whole, any place will do
pub any_place : (bytes : List ℕ) (fault : ReadFault) (found : Option ReadPlace) → found ≡ None → HasCausePlace bytes fault found
    → (r : Result ReadPlace AllocError) → IfOk r (IsCausePlace bytes fault)
any_place bytes fault found is h (Ok p) = subst (HasCausePlace bytes fault) is h p
any_place bytes fault found is h (Err e) = tt

-- without contents a fault is about none of the sections as wholes
pub no_contents : (bytes : List ℕ) (fault : ReadFault) (found : Option SectionContents) → found ≡ None → AreContentsOf bytes found → HasCausePlace bytes fault None
no_contents bytes fault found is contents = λ p sections parts f h.
    absurd (some_none parts (sym (parts_there sections parts h) ∙ contents sections f ∙ ap (option_map section_contents_value) is))

-- no section is one that a component's header is about
pub component_cause : (bytes : List ℕ) (place : ReadPlace) → IsCausePlace bytes Component place
component_cause bytes place = λ sections parts f h. inl (λ k d within. refl)

-- the contents are those of the sections that bytes spell
pub contents_read : (bytes : List ℕ) (read : List SectionValue) (found : Option SectionContents) → SpellsFrames bytes read
    → section_contents_in read ≡ option_map section_contents_value found → AreContentsOf bytes found
contents_read bytes read found spelled e = λ sections f.
    subst (λ (ss : List SectionValue). section_contents_in ss ≡ option_map section_contents_value found) (frames_one bytes read sections spelled f) e

-- bytes that spell no sections, and sections of which one is not read, have no contents

module _ (fault : ReadFault) (r : Result (Option SectionContents) AllocError) (none : IfOk r (λ found. (found ≡ None) × (fault ≢ Memory))) where
  pub without_frames : (bytes : List ℕ) → (fault ≢ Memory → SpellsNothing SpellsFrames bytes) → IfOk r (AreContentsOf bytes)
  without_frames bytes nothing = go r none
    where
      go : (r : Result (Option SectionContents) AllocError) → IfOk r (λ found. (found ≡ None) × (fault ≢ Memory)) → IfOk r (AreContentsOf bytes)
      go (Ok found) n = λ sections f. absurd (nothing n.1 sections f)
      go (Err e) n = n

  pub without_contents : (bytes : List ℕ) (read : List SectionValue) → SpellsFrames bytes read → (fault ≢ Memory → section_contents_in read ≡ None) → IfOk r (AreContentsOf bytes)
  without_contents bytes read spelled unread = go r none
    where
      go : (r : Result (Option SectionContents) AllocError) → IfOk r (λ found. (found ≡ None) × (fault ≢ Memory)) → IfOk r (AreContentsOf bytes)
      go (Ok found) n = contents_read bytes read found spelled (unread n.1 ∙ ap (option_map section_contents_value) (sym n.0))
      go (Err e) n = n
