-- Sections give one list of names.
use Rattle.std.proofs.Common.{◌≡◌, ◌≢◌, ℕ, ◌<◌, ◌≤◌, List, [], ◌∷◌, ◌++◌, length, refl, sym, ◌∙◌, ap, subst, append_assoc, append-nil, arith}
use Rattle.wc_read.specs.Formats.{Format, SpellsNumber, SpellsItems, SpellsVector, HasNoPrefix}
use Rattle.wc_read.specs.Reading.Reader.{Read, number_at, vector_at, items_at}
use Rattle.wc_read.specs.Reading.Framing.{section_at}
use Rattle.wc_read.specs.Sections.{SectionValue, SpellsSection}
use Rattle.wc_read.specs.Names.{GlobalNameValue, SpellsGlobalName, name_text, PairsThenRest, PairsBeforeFault, no_count, bytes_after, pair_missing, Subsection, NamesUnder, no_more, other_id, complete, faulty, SectionNamesUnder, name_section, other_section, AllNamesUnder}
use Rattle.wc_read.specs.Reading.Names.{global_name_at}
use Rattle.wc_read.proofs.MeetsLemmas.{Meets, AreItems, number_meets, items_meet, vector_meets, one_spelling, one_value}
use Rattle.wc_read.proofs.NamesLemmas.{global_name_meets}
use Rattle.wc_read.proofs.SectionsLemmas.{section_meets}
use Rattle.wc_read.proofs.CustomLemmas.{after_one}

-- two runs of items before the same bytes

-- where none is after the first run, the second is not longer
not_longer : {A : Type 0} (Spells : Format A) (read : Read A) → Meets Spells read → (xs ys : List A) (a b rest others : List ℕ) → a ++ rest ≡ b ++ others → SpellsItems Spells a xs → SpellsItems Spells b ys → HasNoPrefix Spells rest → length ys ≤ length xs
not_longer Spells read m [] [] a b rest others e s t none = omega arith
not_longer Spells read m (x ∷ xs) [] a b rest others e s t none = omega arith
not_longer Spells read m [] (y ∷ ys) a b rest others e s t none =
    let start : rest ≡ a ++ rest = ap (λ (r : List ℕ). r ++ rest) (sym s) in
    absurd (none t.0 (t.1 ++ others) y (start ∙ e ∙ ap (λ (r : List ℕ). r ++ others) t.2 ∙ append_assoc t.0 t.1 others) t.3)
not_longer Spells read m (x ∷ xs) (y ∷ ys) a b rest others e s t none =
    let cut : s.0 ++ (s.1 ++ rest) ≡ t.0 ++ (t.1 ++ others) =
    sym (append_assoc s.0 s.1 rest) ∙ ap (λ (r : List ℕ). r ++ rest) (sym s.2) ∙ e ∙ ap (λ (r : List ℕ). r ++ others) t.2 ∙ append_assoc t.0 t.1 others in
    let p = one_spelling Spells read m s.0 t.0 x y (s.1 ++ rest) (t.1 ++ others) cut s.3 t.3 in
    let more = not_longer Spells read m xs ys s.1 t.1 rest others p.1 s.4 t.4 none in
    omega (arith, more)

-- two of one length are one
one_run : {A : Type 0} (Spells : Format A) (read : Read A) → Meets Spells read → (xs ys : List A) (a b rest others : List ℕ) → a ++ rest ≡ b ++ others → SpellsItems Spells a xs → SpellsItems Spells b ys → length ys ≡ length xs → (xs ≡ ys) × (rest ≡ others)
one_run Spells read m xs ys a b rest others e s t same =
    one_spelling (AreItems Spells (length xs)) (items_at read (length xs)) (items_meet Spells read m (length xs)) a b xs ys rest others e (s, refl) (t, same)

-- the pairs of a subsection

-- the count is one, and so is what is after it
one_count : (bytes : List ℕ) (n k : ℕ) (ps qs : List GlobalNameValue) (rest others : List ℕ) (f : PairsThenRest bytes n ps rest) (g : PairsThenRest bytes k qs others) → (n ≡ k) × (f.items ++ rest ≡ g.items ++ others)
one_count bytes n k ps qs rest others f g =
    one_spelling (SpellsNumber 32) (number_at 32) (number_meets 32) f.count g.count n k (f.items ++ rest) (g.items ++ others) (sym f.cut ∙ g.cut) f.has_count g.has_count

fewer : (bytes : List ℕ) (n k : ℕ) (ps qs : List GlobalNameValue) (rest others : List ℕ) → PairsThenRest bytes n ps rest → PairsThenRest bytes k qs others → HasNoPrefix SpellsGlobalName rest → length qs ≤ length ps
fewer bytes n k ps qs rest others f g none =
    not_longer SpellsGlobalName global_name_at global_name_meets ps qs f.items g.items rest others (one_count bytes n k ps qs rest others f g).1 f.has_items g.has_items none

one_front : (bytes : List ℕ) (n k : ℕ) (ps qs : List GlobalNameValue) (rest others : List ℕ) → PairsThenRest bytes n ps rest → PairsThenRest bytes k qs others → length qs ≡ length ps → (ps ≡ qs) × (rest ≡ others)
one_front bytes n k ps qs rest others f g same =
    one_run SpellsGlobalName global_name_at global_name_meets ps qs f.items g.items rest others (one_count bytes n k ps qs rest others f g).1 f.has_items g.has_items same

no_front : (bytes : List ℕ) (n : ℕ) (ps : List GlobalNameValue) (rest : List ℕ) → HasNoPrefix (SpellsNumber 32) bytes → PairsThenRest bytes n ps rest → ⊥
no_front bytes n ps rest none f = none f.count (f.items ++ rest) n f.cut f.has_count

vector_prefix : (bytes : List ℕ) (ps : List GlobalNameValue) → SpellsVector SpellsGlobalName bytes ps → PairsThenRest bytes (length ps) ps []
vector_prefix bytes ps v = record { count = v.0; items = v.1; cut = v.2 ∙ ap (λ (r : List ℕ). v.0 ++ r) (sym (append-nil v.1)); has_count = v.3; has_items = v.4 }

not_missing : (bytes : List ℕ) (n : ℕ) (ps qs : List GlobalNameValue) (rest others : List ℕ) → PairsThenRest bytes (length ps) ps rest → PairsThenRest bytes n qs others → length qs < n → HasNoPrefix SpellsGlobalName others → ⊥
not_missing bytes n ps qs rest others f g less none =
    let same = (one_count bytes (length ps) n ps qs rest others f g).0 in
    let bounded = fewer bytes n (length ps) qs ps others rest g f none in
    absurd (omega (arith, same, bounded, less))

pairs_one : (bytes : List ℕ) (ps qs : List GlobalNameValue) → PairsBeforeFault bytes ps → PairsBeforeFault bytes qs → ps ≡ qs
pairs_one bytes ps qs (no_count none) (no_count other) = refl
pairs_one bytes ps qs (no_count none) (bytes_after rest f some) = absurd (no_front bytes (length qs) qs rest none f)
pairs_one bytes ps qs (no_count none) (pair_missing n rest f less end) = absurd (no_front bytes n qs rest none f)
pairs_one bytes ps qs (bytes_after rest f some) (no_count none) = absurd (no_front bytes (length ps) ps rest none f)
pairs_one bytes ps qs (bytes_after rest f some) (bytes_after others g more) =
    (one_front bytes (length ps) (length qs) ps qs rest others f g (sym (one_count bytes (length ps) (length qs) ps qs rest others f g).0)).0
pairs_one bytes ps qs (bytes_after rest f some) (pair_missing n others g less none) = absurd (not_missing bytes n ps qs rest others f g less none)
pairs_one bytes ps qs (pair_missing n rest f less end) (no_count none) = absurd (no_front bytes n ps rest none f)
pairs_one bytes ps qs (pair_missing n rest f less none) (bytes_after others g some) = absurd (not_missing bytes n qs ps others rest g f less none)
pairs_one bytes ps qs (pair_missing n rest f less none) (pair_missing k others g fewer_still end) =
    let here = fewer bytes n k ps qs rest others f g none in
    let there = fewer bytes k n qs ps others rest g f end in
    (one_front bytes n k ps qs rest others f g (omega (arith, here, there))).0

-- no bytes are whole and faulty
not_both : (bytes : List ℕ) (ps qs : List GlobalNameValue) → SpellsVector SpellsGlobalName bytes ps → PairsBeforeFault bytes qs → ⊥
not_both bytes ps qs v (no_count none) = no_front bytes (length ps) ps [] none (vector_prefix bytes ps v)
not_both bytes ps qs v (bytes_after rest f some) =
    let w = vector_prefix bytes ps v in
    let same = (one_count bytes (length ps) (length qs) ps qs [] rest w f).0 in
    some (sym (one_front bytes (length ps) (length qs) ps qs [] rest w f (sym same)).1)
not_both bytes ps qs v (pair_missing n rest f less none) = not_missing bytes n ps qs [] rest (vector_prefix bytes ps v) f less none

-- the pairs of a section

one_subsection : (bytes : List ℕ) (s t : SectionValue) (rest others : List ℕ) → Subsection bytes s rest → Subsection bytes t others → (s ≡ t) × (rest ≡ others)
one_subsection bytes s t rest others f g =
    one_spelling SpellsSection section_at section_meets f.text g.text s t rest others (sym f.cut ∙ g.cut) f.spelled g.spelled

no_subsection : (bytes : List ℕ) (s : SectionValue) (rest : List ℕ) → HasNoPrefix SpellsSection bytes → Subsection bytes s rest → ⊥
no_subsection bytes s rest none f = none f.text rest s f.cut f.spelled

not_other : (id : ℕ) (bytes : List ℕ) (s t : SectionValue) (rest others : List ℕ) → Subsection bytes s rest → Subsection bytes t others → s.id ≢ id → t.id ≡ id → ⊥
not_other id bytes s t rest others f g other this = other (ap (λ (x : SectionValue). x.id) (one_subsection bytes s t rest others f g).0 ∙ this)

names_one : (id : ℕ) (bytes : List ℕ) (ps qs : List GlobalNameValue) → NamesUnder id bytes ps → NamesUnder id bytes qs → ps ≡ qs
names_one id bytes ps qs (no_more none) (no_more end) = refl
names_one id bytes ps qs (no_more none) (other_id s rest f other n) = absurd (no_subsection bytes s rest none f)
names_one id bytes ps qs (no_more none) (complete pairs more s rest f this v n) = absurd (no_subsection bytes s rest none f)
names_one id bytes ps qs (no_more none) (faulty s rest f this p) = absurd (no_subsection bytes s rest none f)
names_one id bytes ps qs (other_id s rest f other n) (no_more none) = absurd (no_subsection bytes s rest none f)
names_one id bytes ps qs (other_id s rest f other n) (other_id t others g another m) =
    names_one id rest ps qs n (subst (λ (b : List ℕ). NamesUnder id b qs) (sym (one_subsection bytes s t rest others f g).1) m)
names_one id bytes ps qs (other_id s rest f other n) (complete pairs more t others g this v m) = absurd (not_other id bytes s t rest others f g other this)
names_one id bytes ps qs (other_id s rest f other n) (faulty t others g this p) = absurd (not_other id bytes s t rest others f g other this)
names_one id bytes ps qs (complete pairs more s rest f this v n) (no_more none) = absurd (no_subsection bytes s rest none f)
names_one id bytes ps qs (complete pairs more s rest f this v n) (other_id t others g other m) = absurd (not_other id bytes t s others rest g f other this)
names_one id bytes ps qs (complete pairs more s rest f this v n) (complete pairs_2 more_2 t others g that w m) =
    let o = one_subsection bytes s t rest others f g in
    let v_2 = subst (λ (x : SectionValue). SpellsVector SpellsGlobalName x.content pairs_2) (sym o.0) w in
    let front = one_value (SpellsVector SpellsGlobalName) (vector_at global_name_at) (vector_meets SpellsGlobalName global_name_at global_name_meets) s.content pairs pairs_2 v v_2 in
    let back = names_one id rest more more_2 n (subst (λ (b : List ℕ). NamesUnder id b more_2) (sym o.1) m) in
    rw (front, back) refl
names_one id bytes ps qs (complete pairs more s rest f this v n) (faulty t others g that p) =
    absurd (not_both s.content pairs qs v (subst (λ (x : SectionValue). PairsBeforeFault x.content qs) (sym (one_subsection bytes s t rest others f g).0) p))
names_one id bytes ps qs (faulty s rest f this p) (no_more none) = absurd (no_subsection bytes s rest none f)
names_one id bytes ps qs (faulty s rest f this p) (other_id t others g other m) = absurd (not_other id bytes t s others rest g f other this)
names_one id bytes ps qs (faulty s rest f this p) (complete pairs more t others g that v m) =
    absurd (not_both s.content pairs ps (subst (λ (x : SectionValue). SpellsVector SpellsGlobalName x.content pairs) (sym (one_subsection bytes s t rest others f g).0) v) p)
names_one id bytes ps qs (faulty s rest f this p) (faulty t others g that q) =
    pairs_one s.content ps qs p (subst (λ (x : SectionValue). PairsBeforeFault x.content qs) (sym (one_subsection bytes s t rest others f g).0) q)

-- the pairs of sections

section_one : (id : ℕ) (s : SectionValue) (ps qs : List GlobalNameValue) → SectionNamesUnder id s ps → SectionNamesUnder id s qs → ps ≡ qs
section_one id s ps qs (name_section bytes c n) (name_section others d m) =
    names_one id bytes ps qs n (subst (λ (b : List ℕ). NamesUnder id b qs) (after_one name_text s others bytes d c) m)
section_one id s ps qs (name_section bytes c n) (other_section none) = absurd (none bytes c)
section_one id s ps qs (other_section none) (name_section bytes c n) = absurd (none bytes c)
section_one id s ps qs (other_section none) (other_section other) = refl

pub names_unique : (id : ℕ) (sections : List SectionValue) (ps qs : List GlobalNameValue) → AllNamesUnder id sections ps → AllNamesUnder id sections qs → ps ≡ qs
names_unique id [] ps qs n m = n ∙ sym m
names_unique id (s ∷ sections) ps qs n m =
    let these = section_one id s n.0 m.0 n.3 m.3 in
    let others = names_unique id sections n.1 m.1 n.4 m.4 in
    n.2 ∙ rw (these, others) refl ∙ sym m.2
