-- The loops over pairs, subsections, sections and entries.
use Rattle.std.proofs.Common.{◌≡◌, ◌≢◌, ℕ, suc, ◌+◌, ◌<◌, ◌≤◌, List, [], ◌∷◌, ◌++◌, length, take, map, get_or, Bool, true, false, Some, None, nat_eq, refl, sym, ◌∙◌, ap, subst, append_assoc, append-nil, arith}
use Rattle.std.specs.Prelude.{◌==◌, if◌then◌else◌}
use Rattle.std.proofs.lemmas.List.{take_more, take_all, map-append, nil_from_length}
use Rattle.std.proofs.lemmas.Bool.Decides.{nat_tests}
use Rattle.std.proofs.Math.ListN.{length-append}
use Rattle.indexmap.specs.IndexMap.{insert_entry}
use Rattle.indexmap.proofs.MapLemmas.{insert_all_push}
use Rattle.wc_read.specs.Formats.{Format, SpellsNumber, SpellsItems}
use Rattle.wc_read.specs.Reading.Reader.{number_at}
use Rattle.wc_read.specs.Reading.Framing.{section_at}
use Rattle.wc_read.specs.Sections.{SectionValue, section_value, SpellsSection}
use Rattle.wc_read.specs.Reading.Custom.{ContentAfterName}
use Rattle.wc_read.specs.Names.{GlobalNameValue, SpellsGlobalName, name_text, PairsThenRest, no_count, bytes_after, pair_missing, Subsection, NamesUnder, no_more, other_id, complete, faulty, SectionNamesUnder, name_section, other_section, AllNamesUnder, global_names_of}
use Rattle.wc_read.specs.Reading.Names.{global_name_value, global_name_at, PairsOf}
use Rattle.wc_read.specs.declared.names.GlobalName.{GlobalName}
use Rattle.wc_read.specs.declared.sections.Section.{Section}
use Rattle.wc_read.proofs.MeetsLemmas.{number_meets, no_spelling}
use Rattle.wc_read.proofs.NamesLemmas.{global_name_meets}
use Rattle.wc_read.proofs.SectionsLemmas.{section_meets}
use denote.Ref.{Bor}

-- pairs of a subsection

pub items_push : {A : Type 0} (Spells : Format A) (a b : List ℕ) (xs : List A) (x : A) → SpellsItems Spells a xs → Spells b x → SpellsItems Spells (a ++ b) (xs ++ x ∷ [])
items_push Spells a b [] x s t = rw s (b, [], sym (append-nil b), t, refl)
items_push Spells a b (y ∷ ys) x s t = (s.0, s.1 ++ b, ap (λ (r : List ℕ). r ++ b) s.2 ∙ append_assoc s.0 s.1 b, s.3, items_push Spells s.1 b ys x s.4 t)

-- pairs that were read, how many, and what is left
pub record ArePairs (bytes : List ℕ) (n : ℕ) (pairs : List GlobalNameValue) (counter : ℕ) (rest : List ℕ) : Type 0 where
  pub front : PairsThenRest bytes n pairs rest
  pub many : length pairs ≡ counter

pub pairs_start : (bytes : List ℕ) (n : ℕ) (rest : List ℕ) → number_at 32 bytes ≡ Some (n, rest) → ArePairs bytes n [] 0 rest
pairs_start bytes n rest e =
    let t = (number_meets 32).parses bytes n rest e in
    record { front = record { count = t.0; items = []; cut = t.1; has_count = t.2; has_items = refl }; many = refl }

pub pairs_more : (bytes : List ℕ) (n : ℕ) (pairs : List GlobalNameValue) (counter : ℕ) (rest : List ℕ) (p : GlobalNameValue) (after : List ℕ) → ArePairs bytes n pairs counter rest → global_name_at rest ≡ Some (p, after) → ArePairs bytes n (pairs ++ p ∷ []) (counter + 1) after
pairs_more bytes n pairs counter rest p after a e =
    let t = global_name_meets.parses rest p after e in
    let f = a.front in
    let cut : bytes ≡ f.count ++ ((f.items ++ t.0) ++ after) =
    f.cut ∙ ap (λ (r : List ℕ). f.count ++ (f.items ++ r)) t.1 ∙ ap (λ (r : List ℕ). f.count ++ r) (sym (append_assoc f.items t.0 after)) in
    record {
      front = record { count = f.count; items = f.items ++ t.0; cut = cut; has_count = f.has_count; has_items = items_push SpellsGlobalName f.items t.0 pairs p f.has_items t.2 };
      many = length-append pairs (p ∷ []) ∙ ap (λ (k : ℕ). k + 1) a.many;
    }

pub pairs_none : (bytes : List ℕ) → number_at 32 bytes ≡ None → PairsOf bytes false []
pairs_none bytes none = no_count (no_spelling (SpellsNumber 32) (number_at 32) (number_meets 32) bytes none)

pub pairs_missing : (bytes : List ℕ) (n : ℕ) (pairs : List GlobalNameValue) (counter : ℕ) (rest : List ℕ) → ArePairs bytes n pairs counter rest → counter < n → global_name_at rest ≡ None → PairsOf bytes false pairs
pairs_missing bytes n pairs counter rest a less none =
    pair_missing n rest a.front (omega (arith, a.many)) (no_spelling SpellsGlobalName global_name_at global_name_meets rest none)

some_is : (b : ℕ) (rest : List ℕ) → b ∷ rest ≢ []
some_is b rest e = absurd cc

not_empty : (n : ℕ) → false ≡ (suc n == 0)
not_empty n = grind (arith, nat_tests)

pub pairs_end : (bytes : List ℕ) (n : ℕ) (pairs : List GlobalNameValue) (counter : ℕ) (rest : List ℕ) → ArePairs bytes n pairs counter rest → counter ≡ n → PairsOf bytes (length rest == 0) pairs
pairs_end bytes n pairs counter [] a all =
    let f = a.front in
    (f.count, f.items, f.cut ∙ ap (λ (r : List ℕ). f.count ++ r) (append-nil f.items), subst (λ (k : ℕ). SpellsNumber 32 f.count k) (sym (a.many ∙ all)) f.has_count, f.has_items)
pairs_end bytes n pairs counter (b ∷ rest) a all =
    let f : PairsThenRest bytes (length pairs) pairs (b ∷ rest) = subst (λ (k : ℕ). PairsThenRest bytes k pairs (b ∷ rest)) (sym (a.many ∙ all)) a.front in
    subst (λ (t : Bool). PairsOf bytes t pairs) (not_empty (length rest)) (bytes_after (b ∷ rest) f (some_is b rest))

-- subsections of a section

-- the pairs that the rest gives, after those at the front, are those of all of the bytes
pub record AreNames (id : ℕ) (bytes : List ℕ) (front : List GlobalNameValue) (rest : List ℕ) : Type 0 where
  pub to_all : (others : List GlobalNameValue) → NamesUnder id rest others → NamesUnder id bytes (front ++ others)

subsection_of : (bytes : List ℕ) (s : SectionValue) (rest : List ℕ) → section_at bytes ≡ Some (s, rest) → Subsection bytes s rest
subsection_of bytes s rest e = let t = section_meets.parses bytes s rest e in record { text = t.0; cut = t.1; spelled = t.2 }

pub names_start : (id : ℕ) (bytes : List ℕ) → AreNames id bytes [] bytes
names_start id bytes = record { to_all = λ others n. n }

pub names_other : (id : ℕ) (bytes : List ℕ) (front : List GlobalNameValue) (rest : List ℕ) (s : SectionValue) (after : List ℕ) → AreNames id bytes front rest → section_at rest ≡ Some (s, after) → s.id ≢ id → AreNames id bytes front after
names_other id bytes front rest s after a e other = record { to_all = λ others n. a.to_all others (other_id s after (subsection_of rest s after e) other n) }

pub names_more : (id : ℕ) (bytes : List ℕ) (front : List GlobalNameValue) (rest : List ℕ) (s : SectionValue) (after : List ℕ) (pairs : List GlobalNameValue) → AreNames id bytes front rest → section_at rest ≡ Some (s, after) → s.id ≡ id → PairsOf s.content true pairs → AreNames id bytes (front ++ pairs) after
names_more id bytes front rest s after pairs a e this p =
    record { to_all = λ others n. rw append_assoc (a.to_all (pairs ++ others) (complete pairs others s after (subsection_of rest s after e) this p n)) }

pub names_faulty : (id : ℕ) (bytes : List ℕ) (front : List GlobalNameValue) (rest : List ℕ) (s : SectionValue) (after : List ℕ) (pairs : List GlobalNameValue) → AreNames id bytes front rest → section_at rest ≡ Some (s, after) → s.id ≡ id → PairsOf s.content false pairs → NamesUnder id bytes (front ++ pairs)
names_faulty id bytes front rest s after pairs a e this p = a.to_all pairs (faulty s after (subsection_of rest s after e) this p)

pub names_end : (id : ℕ) (bytes : List ℕ) (front : List GlobalNameValue) (rest : List ℕ) → AreNames id bytes front rest → section_at rest ≡ None → NamesUnder id bytes front
names_end id bytes front rest a none = rw append-nil at (a.to_all [] (no_more (no_spelling SpellsSection section_at section_meets rest none)))

-- sections

names_push : (id : ℕ) (ss : List SectionValue) (s : SectionValue) (front these : List GlobalNameValue) → AllNamesUnder id ss front → SectionNamesUnder id s these → AllNamesUnder id (ss ++ s ∷ []) (front ++ these)
names_push id [] s front these n o = rw n (these, [], sym (append-nil these), o, refl)
names_push id (x ∷ xs) s front these n o = (n.0, n.1 ++ these, ap (λ (r : List GlobalNameValue). r ++ these) n.2 ∙ append_assoc n.0 n.1 these, n.3, names_push id xs s n.1 these n.4 o)

-- the sections up to an index give the pairs at the front
pub record AreNamesTo (id : ℕ) (sections : List Section) (index : ℕ) (front : List GlobalNameValue) : Type 0 where
  pub names : AllNamesUnder id (map section_value (take index sections)) front

one_more : (id : ℕ) (sections : List Section) (index : ℕ) (front these : List GlobalNameValue) (d : Section) → AreNamesTo id sections index front → index < length sections → SectionNamesUnder id (section_value (get_or sections index d)) these → AreNamesTo id sections (index + 1) (front ++ these)
one_more id sections index front these d a less o =
    record { names = rw (take_more sections index d less, map-append) (names_push id (map section_value (take index sections)) (section_value (get_or sections index d)) front these a.names o) }

pub sections_more : (id : ℕ) (sections : List Section) (index : ℕ) (front these : List GlobalNameValue) (d : Section) (bytes : List ℕ) → AreNamesTo id sections index front → index < length sections → ContentAfterName name_text (section_value (get_or sections index d)) (Some bytes) → NamesUnder id bytes these → AreNamesTo id sections (index + 1) (front ++ these)
sections_more id sections index front these d bytes a less c n = one_more id sections index front these d a less (name_section bytes c n)

pub sections_other : (id : ℕ) (sections : List Section) (index : ℕ) (front : List GlobalNameValue) (d : Section) → AreNamesTo id sections index front → index < length sections → ContentAfterName name_text (section_value (get_or sections index d)) None → AreNamesTo id sections (index + 1) front
sections_other id sections index front d a less none = rw append-nil at (one_more id sections index front [] d a less (other_section none))

-- entries

abbrev pub entry : ℕ × Bor (List ℕ) → GlobalNameValue
entry e = (e.0, e.1.now)

pub entry_into : (es : List (ℕ × Bor (List ℕ))) (k : ℕ) (v : Bor (List ℕ)) → map entry (insert_entry nat_eq es k v) ≡ insert_entry nat_eq (map entry es) k v.now
entry_into [] k v = refl
entry_into (e ∷ es) k v = by (nat_eq k e.0) (entry_into es k v)
  where
    by : (test : Bool) → map entry (insert_entry nat_eq es k v) ≡ insert_entry nat_eq (map entry es) k v.now → map entry (if test then (e.0, v) ∷ es else e ∷ insert_entry nat_eq es k v) ≡ (if test then (e.0, v.now) ∷ map entry es else entry e ∷ insert_entry nat_eq (map entry es) k v.now)
    by true same = refl
    by false same = ap (λ (r : List GlobalNameValue). entry e ∷ r) same

-- the entries are those of the pairs up to an index
pub record AreEntries (pairs : List GlobalName) (index : ℕ) (entries : List (ℕ × Bor (List ℕ))) : Type 0 where
  pub are : map entry entries ≡ global_names_of (map global_name_value (take index pairs))

pub entries_start : (pairs : List GlobalName) (entries : List (ℕ × Bor (List ℕ))) → length entries ≡ 0 → AreEntries pairs 0 entries
entries_start pairs entries e = record { are = rw (nil_from_length entries e) refl }

pub entries_more : (pairs : List GlobalName) (index : ℕ) (old new : List (ℕ × Bor (List ℕ))) (d : GlobalName) → AreEntries pairs index old → index < length pairs → new ≡ insert_entry nat_eq old (get_or pairs index d).index (get_or pairs index d).name → AreEntries pairs (index + 1) new
entries_more pairs index old new d a less e =
    let p : GlobalName = get_or pairs index d in
    record {
      are =
          ap (λ (es : List (ℕ × Bor (List ℕ))). map entry es) e ∙ entry_into old p.index p.name
          ∙ ap (λ (es : List GlobalNameValue). insert_entry nat_eq es p.index p.name.now) a.are
          ∙ sym (insert_all_push nat_eq [] (map global_name_value (take index pairs)) (global_name_value p))
          ∙ rw (take_more pairs index d less, map-append) refl;
    }

pub entries_end : (pairs : List GlobalName) (index : ℕ) (entries : List (ℕ × Bor (List ℕ))) → AreEntries pairs index entries → length pairs ≤ index → map entry entries ≡ global_names_of (map global_name_value pairs)
entries_end pairs index entries a all = rw (take_all index pairs all) at a.are
