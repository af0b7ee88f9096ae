-- Bytes spell one file.
use Rattle.std.proofs.Common.{◌≡◌, ℕ, ◌+◌, List, [], ◌∷◌, ◌++◌, drop, Bool, true, false, refl, sym, ◌∙◌, ap, subst, inl, inr}
use Rattle.std.proofs.lemmas.Bool.{false≢true}
use Rattle.wc_read.specs.Formats.{SpellsNumber}
use Rattle.wc_read.specs.Laws.{HasOneValue}
use Rattle.wc_read.specs.Names.{GlobalNameValue, SpellsGlobalName}
use Rattle.wc_read.specs.Reading.Framing.{section_at}
use Rattle.wc_read.specs.Reading.Names.{global_name_at}
use Rattle.wc_read.specs.Reading.Reader.{number_at}
use Rattle.wc_read.specs.Sections.{SectionValue, SpellsSection}
use Rattle.wc_read.proofs.CustomLemmas.{after_one}
use Rattle.wc_read.proofs.MeetsLemmas.{number_meets, one_spelling}
use Rattle.wc_read.proofs.NamesLemmas.{global_name_meets}
use Rattle.wc_read.proofs.SectionsLemmas.{section_meets}
use Rattle.wc_component_file.specs.Files.{FileView, CoreModuleView, SpellsFile, modules_of}
use Rattle.wc_component_file.specs.Frames.{FrameValue}
use Rattle.wc_component_file.specs.Inside.{Counts, IsInside}
use Rattle.wc_component_file.specs.Names.{AllNames, AreModuleNames, NumberedPairs, no_number, numbered, PairsUpTo, all_there, bytes_follow, none_there, one_there, NamesIn, no_more, other_names, complete, faulty, SectionNames, name_section, other_section, component_name_text}
use Rattle.wc_component_file.proofs.FramesLemmas.{components_one}

-- the pairs of a subsection

pairs_one : {n : ℕ} {bytes : List ℕ} {ps qs : List GlobalNameValue} {whole other : Bool} → PairsUpTo n bytes ps whole → PairsUpTo n bytes qs other → (ps ≡ qs) × (whole ≡ other)
pairs_one all_there all_there = (refl, refl)
pairs_one all_there (bytes_follow some) = absurd (some refl)
pairs_one (bytes_follow some) all_there = absurd (some refl)
pairs_one (bytes_follow some) (bytes_follow more) = (refl, refl)
pairs_one (none_there none) (none_there nothing) = (refl, refl)
pairs_one (none_there none) (one_there q text rest cut s qs) = absurd (none text rest q cut s)
pairs_one (one_there p text rest cut s ps) (none_there none) = absurd (none text rest p cut s)
pairs_one (one_there {n = n} {pairs = ps} p text rest cut s more) (one_there {pairs = qs} {whole = other} q front after again t others) =
    let e = one_spelling SpellsGlobalName global_name_at global_name_meets text front p q rest after (sym cut ∙ again) s t in
    let r = pairs_one more (subst (λ (b : List ℕ). PairsUpTo n b qs other) (sym e.1) others) in
    (ap (λ (x : GlobalNameValue). x ∷ ps) e.0 ∙ ap (λ (xs : List GlobalNameValue). q ∷ xs) r.0, r.1)

numbered_one : {bytes : List ℕ} {ps qs : List GlobalNameValue} {whole other : Bool} → NumberedPairs bytes ps whole → NumberedPairs bytes qs other → (ps ≡ qs) × (whole ≡ other)
numbered_one (no_number none) (no_number nothing) = (refl, refl)
numbered_one (no_number none) (numbered n number rest cut s p) = absurd (none number rest n cut s)
numbered_one (numbered n number rest cut s p) (no_number none) = absurd (none number rest n cut s)
numbered_one (numbered n number rest cut s p) (numbered {pairs = qs} {whole = other} m digits after again t q) =
    let e = one_spelling (SpellsNumber 32) (number_at 32) (number_meets 32) number digits n m rest after (sym cut ∙ again) s t in
    pairs_one p (subst (λ (b : List ℕ). PairsUpTo n b qs other) (sym e.1) (subst (λ (k : ℕ). PairsUpTo k after qs other) (sym e.0) q))

-- the pairs of a section

same_names : (s t : SectionValue) (names others : List ℕ) → s ≡ t → AreModuleNames s names → AreModuleNames t others → names ≡ others
same_names s t names others e n o = ap (λ (b : List ℕ). drop 2 b) (sym n.cut ∙ ap (λ (v : SectionValue). v.content) e ∙ o.cut)

names_one : {bytes : List ℕ} {ps qs : List GlobalNameValue} → NamesIn bytes ps → NamesIn bytes qs → ps ≡ qs
names_one (no_more none) (no_more nothing) = refl
names_one (no_more none) (other_names s rest u o n) = absurd (none u.text rest s u.cut u.spelled)
names_one (no_more none) (complete ps others s names rest u a p n) = absurd (none u.text rest s u.cut u.spelled)
names_one (no_more none) (faulty s names rest u a p) = absurd (none u.text rest s u.cut u.spelled)
names_one (other_names s rest u o n) (no_more none) = absurd (none u.text rest s u.cut u.spelled)
names_one (complete ps others s names rest u a p n) (no_more none) = absurd (none u.text rest s u.cut u.spelled)
names_one (faulty s names rest u a p) (no_more none) = absurd (none u.text rest s u.cut u.spelled)
names_one (other_names s rest u o n) (other_names {pairs = qs} t after v w m) =
    let e = one_spelling SpellsSection section_at section_meets u.text v.text s t rest after (sym u.cut ∙ v.cut) u.spelled v.spelled in
    names_one n (subst (λ (b : List ℕ). NamesIn b qs) (sym e.1) m)
names_one (other_names s rest u o n) (complete ps others t names after v a p m) =
    let e = one_spelling SpellsSection section_at section_meets u.text v.text s t rest after (sym u.cut ∙ v.cut) u.spelled v.spelled in
    absurd (o names (subst (λ (x : SectionValue). AreModuleNames x names) (sym e.0) a))
names_one (other_names s rest u o n) (faulty t names after v a p) =
    let e = one_spelling SpellsSection section_at section_meets u.text v.text s t rest after (sym u.cut ∙ v.cut) u.spelled v.spelled in
    absurd (o names (subst (λ (x : SectionValue). AreModuleNames x names) (sym e.0) a))
names_one (complete ps others s names rest u a p n) (other_names t after v o m) =
    let e = one_spelling SpellsSection section_at section_meets u.text v.text s t rest after (sym u.cut ∙ v.cut) u.spelled v.spelled in
    absurd (o names (subst (λ (x : SectionValue). AreModuleNames x names) e.0 a))
names_one (faulty s names rest u a p) (other_names t after v o m) =
    let e = one_spelling SpellsSection section_at section_meets u.text v.text s t rest after (sym u.cut ∙ v.cut) u.spelled v.spelled in
    absurd (o names (subst (λ (x : SectionValue). AreModuleNames x names) e.0 a))
names_one (complete ps others s names rest u a p n) (complete qs more t found after v b q m) =
    let e = one_spelling SpellsSection section_at section_meets u.text v.text s t rest after (sym u.cut ∙ v.cut) u.spelled v.spelled in
    let same = same_names s t names found e.0 a b in
    let these = numbered_one p (subst (λ (x : List ℕ). NumberedPairs x qs true) (sym same) q) in
    let those = names_one n (subst (λ (x : List ℕ). NamesIn x more) (sym e.1) m) in
    ap (λ (x : List GlobalNameValue). x ++ others) these.0 ∙ ap (λ (x : List GlobalNameValue). qs ++ x) those
names_one (complete ps others s names rest u a p n) (faulty {pairs = qs} t found after v b q) =
    let e = one_spelling SpellsSection section_at section_meets u.text v.text s t rest after (sym u.cut ∙ v.cut) u.spelled v.spelled in
    let same = same_names s t names found e.0 a b in
    absurd (false≢true (sym (numbered_one p (subst (λ (x : List ℕ). NumberedPairs x qs false) (sym same) q)).1))
names_one (faulty s names rest u a p) (complete qs more t found after v b q m) =
    let e = one_spelling SpellsSection section_at section_meets u.text v.text s t rest after (sym u.cut ∙ v.cut) u.spelled v.spelled in
    let same = same_names s t names found e.0 a b in
    absurd (false≢true (numbered_one p (subst (λ (x : List ℕ). NumberedPairs x qs true) (sym same) q)).1)
names_one (faulty s names rest u a p) (faulty {pairs = qs} t found after v b q) =
    let e = one_spelling SpellsSection section_at section_meets u.text v.text s t rest after (sym u.cut ∙ v.cut) u.spelled v.spelled in
    let same = same_names s t names found e.0 a b in
    (numbered_one p (subst (λ (x : List ℕ). NumberedPairs x qs false) (sym same) q)).0

section_one : {s : SectionValue} {ps qs : List GlobalNameValue} → SectionNames s ps → SectionNames s qs → ps ≡ qs
section_one (name_section {s = s} rest c n) (name_section {pairs = qs} after d m) = names_one n (subst (λ (b : List ℕ). NamesIn b qs) (after_one component_name_text s after rest d c) m)
section_one (name_section rest c n) (other_section none) = absurd (none rest c)
section_one (other_section none) (name_section rest c n) = absurd (none rest c)
section_one (other_section none) (other_section nothing) = refl

all_one : (fs : List FrameValue) (ps qs : List GlobalNameValue) → AllNames fs ps → AllNames fs qs → ps ≡ qs
all_one [] ps qs s t = s ∙ sym t
all_one (f ∷ fs) ps qs s t =
    s.2 ∙ ap (λ (x : List GlobalNameValue). x ++ s.1) (section_one s.3 t.3) ∙ ap (λ (x : List GlobalNameValue). t.0 ++ x) (all_one fs s.1 t.1 s.4 t.4) ∙ sym t.2

-- how many

counts_one : {A : Type 0} (P : A → Type 0) (xs : List A) (m n : ℕ) → Counts P xs m → Counts P xs n → m ≡ n
counts_one P [] m n c d = c ∙ sym d
counts_one P (x ∷ xs) m n (inl c) (inl d) = c.2 ∙ ap (λ (k : ℕ). k + 1) (counts_one P xs c.1 d.1 c.3 d.3) ∙ sym d.2
counts_one P (x ∷ xs) m n (inl c) (inr d) = absurd (d.0 c.0)
counts_one P (x ∷ xs) m n (inr c) (inl d) = absurd (c.0 d.0)
counts_one P (x ∷ xs) m n (inr c) (inr d) = counts_one P xs m n c.1 d.1

-- files

file_of : List CoreModuleView → ℕ → FileView
file_of modules inside = record { modules = modules; inside = inside }

same_file : (x y : FileView) → x.modules ≡ y.modules → x.inside ≡ y.inside → x ≡ y
unfolding file_of
same_file x y e f = ap (λ (m : List CoreModuleView). file_of m x.inside) e ∙ ap (λ (n : ℕ). file_of y.modules n) f

pub files_one : HasOneValue SpellsFile
files_one bytes x y s t =
    let fs = components_one bytes s.fs t.fs s.has_frames t.has_frames in
    let pairs = all_one t.fs s.pairs t.pairs (subst (λ (l : List FrameValue). AllNames l s.pairs) fs s.has_names) t.has_names in
    let modules = s.has_modules ∙ ap (λ (l : List FrameValue). modules_of s.pairs l) fs ∙ ap (λ (p : List GlobalNameValue). modules_of p t.fs) pairs ∙ sym t.has_modules in
    same_file x y modules (counts_one IsInside t.fs x.inside y.inside (subst (λ (l : List FrameValue). Counts IsInside l x.inside) fs s.counts) t.counts)
