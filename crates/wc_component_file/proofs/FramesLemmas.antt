-- Sections that are read one after another.
use Rattle.std.proofs.Common.{◌≡◌, ◌≢◌, ℕ, suc, ◌+◌, ◌-◌, ◌<◌, ◌≤◌, List, [], ◌∷◌, ◌++◌, length, map, get_or, true, false, Option, Some, None, refl, sym, ◌∙◌, ap, subst, append_assoc, append-nil, arith, inl, inr, eqb-true}
use Rattle.std.specs.Prelude.{◌==◌, All}
use Rattle.std.proofs.lemmas.Bool.{false≢true}
use Rattle.std.proofs.lemmas.List.{append_cancel_left}
use Rattle.std.proofs.lemmas.List.Elements.{All-map, All-push}
use Rattle.std.proofs.Math.ListN.{length-append}
use Rattle.wc_read.specs.Formats.{SpellsItems, SpellsNumber, last, more}
use Rattle.wc_read.specs.Reading.Framing.{section_at}
use Rattle.wc_read.specs.Sections.{SectionValue, SpellsSection, component_header}
use Rattle.wc_read.proofs.MeetsLemmas.{one_spelling, no_spelling}
use Rattle.wc_read.proofs.SectionsLemmas.{section_meets, section_some}
use Rattle.wc_component_file.specs.Frames.{FrameValue, SpellsFrameAt, SpellFramesAt, AreKnown, SpellsComponent, last_id}
use Rattle.wc_component_file.specs.Headers.{HasHeader}
use Rattle.wc_component_file.specs.Refusals.{AreFramesTo, IsBadFrame, StopsAt, IsFaultAt}
use Rattle.wc_component_file.specs.declared.fault.FileFault.{FileFault}
use Rattle.wc_component_file.specs.declared.fault.FileFault.TheVariants.{Memory, Version, Read}
use Rattle.wc_read.specs.declared.fault.ReadFault.{ReadFault}
use Rattle.wc_read.specs.declared.fault.ReadFault.TheVariants.{Truncated, BadNumber, UnknownSection}

abbrev frame_of : ℕ → SectionValue → FrameValue
frame_of offset s = record { offset = offset; section = s }

-- sections without their places

abbrev pub plain : List FrameValue → List SectionValue
plain fs = map (λ (f : FrameValue). f.section) fs

pub plain_items : (at : ℕ) (bytes : List ℕ) (fs : List FrameValue) → SpellFramesAt at bytes fs → SpellsItems SpellsSection bytes (plain fs)
plain_items at bytes [] s = s
plain_items at bytes (f ∷ fs) s = (s.0, s.1, s.2, s.3.has_section, plain_items (at + length s.0) s.1 fs s.4)

-- what is read after some sections

pub no_text : (text rest : List ℕ) (s : SectionValue) → text ++ rest ≡ [] → SpellsSection text s → ⊥
no_text [] rest s e t = section_some s t
no_text (b ∷ text) rest s e t = absurd cc

pub items_after : (before : List SectionValue) (text rest : List ℕ) (all : List SectionValue) → SpellsItems SpellsSection text before → SpellsItems SpellsSection (text ++ rest) all
    → (others : List SectionValue) × (all ≡ before ++ others) × SpellsItems SpellsSection rest others
items_after [] text rest all s t = (all, refl, subst (λ (b : List ℕ). SpellsItems SpellsSection b all) (ap (λ (b : List ℕ). b ++ rest) s) t)
items_after (x ∷ xs) text rest [] s t = absurd (no_text s.0 (s.1 ++ rest) x (sym (ap (λ (b : List ℕ). b ++ rest) s.2 ∙ append_assoc s.0 s.1 rest) ∙ t) s.3)
items_after (x ∷ xs) text rest (y ∷ ys) s t =
    let cut : s.0 ++ (s.1 ++ rest) ≡ t.0 ++ t.1 = sym (ap (λ (b : List ℕ). b ++ rest) s.2 ∙ append_assoc s.0 s.1 rest) ∙ t.2 in
    let p = one_spelling SpellsSection section_at section_meets s.0 t.0 x y (s.1 ++ rest) t.1 cut s.3 t.3 in
    let r = items_after xs s.1 rest ys s.4 (subst (λ (b : List ℕ). SpellsItems SpellsSection b ys) (sym p.1) t.4) in
    (r.0, ap (λ (v : SectionValue). v ∷ ys) (sym p.0) ∙ ap (λ (l : List SectionValue). x ∷ l) r.1, r.2)

-- the sections of a component are one

same_frame : (x y : FrameValue) → x.offset ≡ y.offset → x.section ≡ y.section → x ≡ y
same_frame x y e f = ap (λ (n : ℕ). frame_of n x.section) e ∙ ap (λ (s : SectionValue). frame_of y.offset s) f

front_lengths : (a b c d : List ℕ) → a ++ b ≡ c ++ d → b ≡ d → length a ≡ length c
front_lengths a b c d e same = let n : length a + length b ≡ length c + length d = sym (length-append a b) ∙ ap length e ∙ length-append c d in omega (arith, n, ap length same)

frames_one : (at : ℕ) (bytes : List ℕ) (fs gs : List FrameValue) → SpellFramesAt at bytes fs → SpellFramesAt at bytes gs → fs ≡ gs
frames_one at bytes [] [] s t = refl
frames_one at bytes [] (g ∷ gs) s t = absurd (no_text t.0 t.1 g.section (sym t.2 ∙ s) t.3.has_section)
frames_one at bytes (f ∷ fs) [] s t = absurd (no_text s.0 s.1 f.section (sym s.2 ∙ t) s.3.has_section)
frames_one at bytes (f ∷ fs) (g ∷ gs) s t =
    let cut : s.0 ++ s.1 ≡ t.0 ++ t.1 = sym s.2 ∙ t.2 in
    let p = one_spelling SpellsSection section_at section_meets s.0 t.0 f.section g.section s.1 t.1 cut s.3.has_section t.3.has_section in
    let long : length s.0 ≡ length t.0 = front_lengths s.0 s.1 t.0 t.1 cut p.1 in
    let offset : f.offset ≡ g.offset = omega (arith, s.3.ends, t.3.ends, long, ap (λ (v : SectionValue). length v.content) p.0) in
    let others : SpellFramesAt (at + length t.0) t.1 fs = subst (λ (b : List ℕ). SpellFramesAt (at + length t.0) b fs) p.1 (subst (λ (n : ℕ). SpellFramesAt (at + n) s.1 fs) long s.4) in
    rw (same_frame f g offset p.0, frames_one (at + length t.0) t.1 fs gs others t.4) refl

pub components_one : (bytes : List ℕ) (fs gs : List FrameValue) → SpellsComponent bytes fs → SpellsComponent bytes gs → fs ≡ gs
components_one bytes fs gs s t =
    let same : s.rest ≡ t.rest = append_cancel_left component_header s.rest t.rest (sym s.cut ∙ t.cut) in
    frames_one 8 t.rest fs gs (subst (λ (b : List ℕ). SpellFramesAt 8 b fs) same s.has_frames) t.has_frames

-- one section more

pub frames_push : (at : ℕ) (a b : List ℕ) (fs : List FrameValue) (f : FrameValue) → SpellFramesAt at a fs → SpellsFrameAt (at + length a) b f → SpellFramesAt at (a ++ b) (fs ++ f ∷ [])
frames_push at a b [] f s t =
    let here : at + length a ≡ at = rw s (omega arith) in
    (b, [], rw s (sym (append-nil b)), subst (λ (n : ℕ). SpellsFrameAt n b f) here t, refl)
frames_push at a b (x ∷ xs) f s t =
    let here : at + length a ≡ (at + length s.0) + length s.1 = rw (s.2, length-append) (omega arith) in
    (s.0, s.1 ++ b, ap (λ (r : List ℕ). r ++ b) s.2 ∙ append_assoc s.0 s.1 b, s.3, frames_push (at + length s.0) s.1 b xs f s.4 (subst (λ (n : ℕ). SpellsFrameAt n b f) here t))

no_number : {bits : ℕ} {bytes : List ℕ} {n : ℕ} → SpellsNumber bits bytes n → 0 < length bytes
no_number (last small fits) = omega arith
no_number (more left large s) = omega arith

pub section_long : (text : List ℕ) (s : SectionValue) → SpellsSection text s → length s.content + 2 ≤ length text
section_long text s t = rw (t.cut, length-append) (let some = no_number t.has_size in let all = length-append t.size s.content in omega (arith, some, all))

pub frames_begin : (bytes rest : List ℕ) → bytes ≡ component_header ++ rest → AreFramesTo bytes [] rest
frames_begin bytes rest e = record { text = []; cut = e; has_frames = refl; are_known = λ k d within. absurd (omega (arith, within)) }

-- the lengths of what was read and of what is left
pub frame_lengths : (bytes : List ℕ) (fs : List FrameValue) (rest : List ℕ) (r : AreFramesTo bytes fs rest) → length bytes ≡ 8 + (length r.text + length rest)
frame_lengths bytes fs rest r = ap length r.cut ∙ length-append component_header (r.text ++ rest) ∙ ap (λ (n : ℕ). 8 + n) (length-append r.text rest)

pub rest_fits : (bytes : List ℕ) (fs : List FrameValue) (rest : List ℕ) → AreFramesTo bytes fs rest → length rest ≤ length bytes
rest_fits bytes fs rest r = omega (arith, frame_lengths bytes fs rest r)

pub frames_more : (bytes : List ℕ) (fs : List FrameValue) (rest : List ℕ) (offset : ℕ) (s : SectionValue) (after : List ℕ) → AreFramesTo bytes fs rest → section_at rest ≡ Some (s, after)
    → s.id ≤ last_id → offset ≡ length bytes - length after - length s.content → AreFramesTo bytes (fs ++ frame_of offset s ∷ []) after
frames_more bytes fs rest offset s after r e known at =
    let t = section_meets.parses rest s after e in
    let all = frame_lengths bytes fs rest r in
    let left = ap length t.1 ∙ length-append t.0 after in
    let fits = section_long t.0 s t.2 in
    let ends : offset + length s.content ≡ (8 + length r.text) + length t.0 = omega (arith, all, left, fits, at) in
    record {
      text = r.text ++ t.0;
      cut = r.cut ∙ ap (λ (b : List ℕ). component_header ++ (r.text ++ b)) t.1 ∙ ap (λ (b : List ℕ). component_header ++ b) (sym (append_assoc r.text t.0 after));
      has_frames = frames_push 8 r.text t.0 fs (frame_of offset s) r.has_frames (record { has_section = t.2; ends = ends });
      are_known = All-push (λ (f : FrameValue). f.section.id ≤ last_id) fs (frame_of offset s) r.are_known known;
    }

-- the length of what is left of a section and of what follows it
pub section_lengths : (rest : List ℕ) (s : SectionValue) (after : List ℕ) → section_at rest ≡ Some (s, after) → length after + length s.content ≤ length rest
section_lengths rest s after e =
    let t = section_meets.parses rest s after e in
    omega (arith, ap length t.1 ∙ length-append t.0 after, section_long t.0 s t.2)

pub frames_end : (bytes : List ℕ) (fs : List FrameValue) (rest : List ℕ) → AreFramesTo bytes fs rest → true ≡ (length rest == 0) → SpellsComponent bytes fs
frames_end bytes fs [] r t =
    record { rest = r.text; cut = r.cut ∙ ap (λ (b : List ℕ). component_header ++ b) (append-nil r.text); has_frames = r.has_frames; are_known = r.are_known }
frames_end bytes fs (b ∷ rest) r t = let h : length (b ∷ rest) ≡ 0 = eqb-true (length (b ∷ rest)) 0 (sym t) in absurd (omega arith)

-- where reading stops

pub some_left : (rest : List ℕ) → false ≡ (length rest == 0) → rest ≢ []
some_left [] t e = absurd (false≢true t)
some_left (b ∷ rest) t e = absurd cc

pub stops : (bytes : List ℕ) (fs : List FrameValue) (rest : List ℕ) (fault : ReadFault) (at : ℕ) → AreFramesTo bytes fs rest → false ≡ (length rest == 0) → at ≡ length bytes - length rest
    → IsBadFrame fault rest → StopsAt bytes fault at
stops bytes fs rest fault at r t e bad =
    record { fs = fs; rest = rest; before = r; is_left = some_left rest t; is_at = omega (arith, e, rest_fits bytes fs rest r); is_bad = bad }

-- what is at fault

pub bad_id : (rest : List ℕ) (s : SectionValue) (after : List ℕ) → section_at rest ≡ Some (s, after) → last_id < s.id → IsBadFrame UnknownSection rest
bad_id rest s after e large = let t = section_meets.parses rest s after e in inl (refl, t.0, after, s, t.1, t.2, large)

pub bad_size : (rest : List ℕ) → section_at rest ≡ None → IsBadFrame BadNumber rest
bad_size rest none = inr (inr refl, no_spelling SpellsSection section_at section_meets rest none)

pub cut_off : (rest : List ℕ) → section_at rest ≡ None → IsBadFrame Truncated rest
cut_off rest none = inr (inl refl, no_spelling SpellsSection section_at section_meets rest none)

-- where a file is refused, its bytes are no component

bad_first : (fault : ReadFault) (rest : List ℕ) (y : SectionValue) (ys : List SectionValue) → IsBadFrame fault rest → SpellsItems SpellsSection rest (y ∷ ys) → y.id ≤ last_id → ⊥
bad_first fault rest y ys (inl u) s known =
    let p = one_spelling SpellsSection section_at section_meets u.1 s.0 u.3 y u.2 s.1 (sym u.4 ∙ s.2) u.5 s.3 in
    let large : last_id < y.id = subst (λ (v : SectionValue). last_id < v.id) p.0 u.6 in
    omega (arith, large, known)
bad_first fault rest y ys (inr n) s known = n.1 s.0 s.1 y s.2 s.3

plain_known : (fs : List FrameValue) → AreKnown fs → All (λ (v : SectionValue). v.id ≤ last_id) (plain fs)
plain_known fs known = All-map (λ (v : SectionValue). v.id ≤ last_id) (λ (f : FrameValue). f.section) fs known

known_after : (before : List SectionValue) (y : SectionValue) (ys : List SectionValue) → All (λ (v : SectionValue). v.id ≤ last_id) (before ++ y ∷ ys) → y.id ≤ last_id
known_after [] y ys known = known 0 y (omega arith)
known_after (x ∷ xs) y ys known = known_after xs y ys (λ k d within. known (suc k) d (omega (arith, within)))

-- whole sections, and after them some that are at fault, are no component
bad_after : (bytes : List ℕ) (fault : ReadFault) (at : ℕ) → StopsAt bytes fault at → (fs : List FrameValue) → SpellsComponent bytes fs → ⊥
bad_after bytes fault at stop fs s =
    let b = stop.before in
    let same : b.text ++ stop.rest ≡ s.rest = append_cancel_left component_header (b.text ++ stop.rest) s.rest (sym b.cut ∙ s.cut) in
    let items = plain_items 8 s.rest fs s.has_frames in
    let after = items_after (plain stop.fs) b.text stop.rest (plain fs) (plain_items 8 b.text stop.fs b.has_frames) (subst (λ (r : List ℕ). SpellsItems SpellsSection r (plain fs)) (sym same) items) in
    go after.0 after.1 after.2
  where
    go : (others : List SectionValue) → plain fs ≡ plain stop.fs ++ others → SpellsItems SpellsSection stop.rest others → ⊥
    go [] e t = stop.is_left t
    go (y ∷ ys) e t = bad_first fault stop.rest y ys stop.is_bad t (known_after (plain stop.fs) y ys (subst (All (λ (v : SectionValue). v.id ≤ last_id)) e (plain_known fs s.are_known)))

-- the bytes of a header of version 13
other_version : (bytes : List ℕ) (version : ℕ) (rest others : List ℕ) → version ≢ 13 → HasHeader bytes version rest → bytes ≡ component_header ++ others → ⊥
other_version bytes version rest others other h e =
    let same = sym h.cut ∙ e in
    let low : h.low ≡ 0x0d = ap (λ (b : List ℕ). get_or b 4 0) same in
    let high : h.high ≡ 0x00 = ap (λ (b : List ℕ). get_or b 5 0) same in
    other (h.has_version ∙ rw (low, high) refl)

pub refused_nothing : (bytes : List ℕ) (fault : FileFault) (byte : Option ℕ) → IsFaultAt bytes fault byte → fault ≢ Memory → (fs : List FrameValue) → SpellsComponent bytes fs → ⊥
refused_nothing bytes Memory byte a n fs s = n refl
refused_nothing bytes (Version version) byte a n fs s = other_version bytes version a.1.0 s.rest a.0 a.1.1 s.cut
refused_nothing bytes (Read fault) None a n fs s = a.1 (13, s.rest, record { low = 0x0d; high = 0x00; cut = s.cut; has_version = refl })
refused_nothing bytes (Read fault) (Some at) a n fs s = bad_after bytes fault at a fs s
