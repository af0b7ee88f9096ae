-- Sections are in order exactly where each takes a position after the one before.
use Rattle.std.proofs.Common.{◌≡◌, ◌≢◌, ℕ, suc, ◌+◌, ◌<◌, ◌≤◌, List, [], ◌∷◌, length, map, drop, Bool, true, false, Option, Some, None, refl, sym, ◌∙◌, ap, arith, inl, inr, ◌⊎◌, eqb-true, eq-eqb}
use Rattle.std.specs.Prelude.{◌==◌, nat_lt, if◌then◌else◌, All}
use Rattle.std.specs.List.{AllPairs}
use Rattle.std.proofs.lemmas.Bool.{false≢true, ltb-true, ltb-false, lt-ltb, le-ltb}
use Rattle.std.proofs.lemmas.Bool.Decides.{nat_tests}
use Rattle.std.proofs.lemmas.List.Elements.{All-nil, All-cons, All-head, All-tail, All-weaker}
use Rattle.std.proofs.lemmas.List.{at_drop_more, at_drop_all}
use Rattle.std.proofs.Math.ListN.{get_or}
use Rattle.std.proofs.lemmas.List.Kept.{AllPairs-cons}
use Rattle.wc_read.specs.Sections.{SectionValue, section_value}
use Rattle.wc_read.specs.declared.sections.Section.{Section}
use Rattle.wc_read.specs.Order.{section_position, ComesBefore, IsSection, AreInOrder}
use Rattle.wc_read.specs.Options.{◌>>=◌}
use Rattle.wc_read.specs.Reading.Reader.{name_at}
use Rattle.wc_read.specs.Reading.Order.{next_position}
use Rattle.wc_read.proofs.OptionsLemmas.{some_same, some_none, bind_some, bind_none}
use Rattle.wc_read.proofs.MeetsLemmas.{bind_is, if_is}
use Rattle.wc_read.proofs.TypesLemmas.{name_meets}

abbrev IsAbove : ℕ → SectionValue → Type 0
IsAbove position s = s.id ≢ 0 → position < section_position s.id

-- sections that may occur after a position
record AreAfter (position : ℕ) (ss : List SectionValue) : Type 0 where
  each : All IsSection ss
  above : All (IsAbove position) ss
  ordered : AllPairs ComesBefore ss

pairs_head : {X : Type 0} (R : X → X → Type 0) (x : X) (xs : List X) → AllPairs R (x ∷ xs) → All (R x) xs
pairs_head R x xs h = λ k d within. h 0 (suc k) d (omega arith) (omega (arith, within))

pairs_tail : {X : Type 0} (R : X → X → Type 0) (x : X) (xs : List X) → AllPairs R (x ∷ xs) → AllPairs R xs
pairs_tail R x xs h = λ i j d below within. h (suc i) (suc j) d (omega (arith, below)) (omega (arith, within))

-- the position of one section

next_custom : (position : ℕ) (s : SectionValue) → s.id ≡ 0 → next_position position s ≡ (name_at s.content >>= λ _. Some position)
unfolding next_position
next_custom position s e = rw e refl

next_other : (position : ℕ) (s : SectionValue) → (s.id ≡ 0 → ⊥) → next_position position s ≡ (if nat_lt 12 s.id then None else (if nat_lt position (section_position s.id) then Some (section_position s.id) else None))
unfolding next_position
next_other position s ne = by (s.id == 0) refl
  where
    by : (test : Bool) → (s.id == 0) ≡ test → next_position position s ≡ (if nat_lt 12 s.id then None else (if nat_lt position (section_position s.id) then Some (section_position s.id) else None))
    by true t = absurd (ne (eqb-true s.id 0 t))
    by false t = rw t refl

-- what a test with the better half last says
past_is : {A : Type 0} (b : Bool) (o : Option A) (y : A) → (if b then None else o) ≡ Some y → (b ≡ false) × (o ≡ Some y)
past_is true o y e = some_none y (sym e)
past_is false o y e = (refl, e)

record IsNextPosition (position : ℕ) (s : SectionValue) (next : ℕ) : Type 0 where
  is : IsSection s
  above : IsAbove position s
  next_is : ((s.id ≡ 0) × (next ≡ position)) ⊎ ((s.id ≡ 0 → ⊥) × (next ≡ section_position s.id))

next_position_is : (position : ℕ) (s : SectionValue) (next : ℕ) → next_position position s ≡ Some next → IsNextPosition position s next
next_position_is position s next e = by (s.id == 0) refl
  where
    by : (test : Bool) → (s.id == 0) ≡ test → IsNextPosition position s next
    by true t =
        let zero : s.id ≡ 0 = eqb-true s.id 0 t in
        let b = bind_is (name_at s.content) (λ _. Some position) next (sym (next_custom position s zero) ∙ e) in
        let m = name_meets.parses s.content b.0.0 b.0.1 b.1 in
        record {
          is = record { known = omega (arith, zero); named = λ _. (b.0.0, m.0, b.0.1, m.1, m.2) };
          above = λ ne. absurd (ne zero);
          next_is = inl (zero, sym (some_same position next b.2));
        }
    by false t =
        let other : s.id ≡ 0 → ⊥ = λ zero. false≢true (sym t ∙ eq-eqb s.id 0 zero) in
        let p = past_is (nat_lt 12 s.id) (if nat_lt position (section_position s.id) then Some (section_position s.id) else None) next (sym (next_other position s other) ∙ e) in
        let q = if_is (nat_lt position (section_position s.id)) (section_position s.id) next p.1 in
        record {
          is = record { known = ltb-false 12 s.id p.0; named = λ zero. absurd (other zero) };
          above = λ _. ltb-true position (section_position s.id) q.0;
          next_is = inr (other, sym q.1);
        }

-- all sections

-- the position after several sections
unfoldable pub last_position : ℕ → List SectionValue → Option ℕ
last_position position [] = Some position
last_position position (s ∷ ss) = next_position position s >>= λ next. last_position next ss

after_from : (position : ℕ) (ss : List SectionValue) (n : ℕ) → last_position position ss ≡ Some n → AreAfter position ss
unfolding last_position
after_from position [] n e = record { each = All-nil IsSection; above = All-nil (IsAbove position); ordered = λ i j d below within. absurd (omega (arith, within)) }
after_from position (s ∷ ss) n e =
    let b = bind_is (next_position position s) (λ next. last_position next ss) n e in
    let r = after_from b.0 ss n b.2 in
    let p = next_position_is position s b.0 b.1 in
    record {
      each = All-cons IsSection s ss p.is r.each;
      above = All-cons (IsAbove position) s ss p.above (All-weaker (IsAbove b.0) (IsAbove position) (λ t a ne. lower position s b.0 p (section_position t.id) (a ne)) ss r.above);
      ordered = AllPairs-cons ComesBefore s ss (All-weaker (IsAbove b.0) (ComesBefore s) (λ t a some ne. first position s b.0 p some (section_position t.id) (a ne)) ss r.above) r.ordered;
    }
  where
    lower : (position : ℕ) (s : SectionValue) (next : ℕ) → IsNextPosition position s next → (at : ℕ) → next < at → position < at
    lower position s next p at lt = elim p.next_is [ inl c ↦ omega (arith, c.1, lt) | inr c ↦ omega (arith, c.1, p.above c.0, lt) ]

    first : (position : ℕ) (s : SectionValue) (next : ℕ) → IsNextPosition position s next → s.id ≢ 0 → (at : ℕ) → next < at → section_position s.id < at
    first position s next p some at lt = elim p.next_is [ inl c ↦ absurd (some c.0) | inr c ↦ rw c.1 at lt ]

record HasNext (position : ℕ) (s : SectionValue) (ss : List SectionValue) : Type 0 where
  next : ℕ
  is : next_position position s ≡ Some next
  after : AreAfter next ss

has_next : (position : ℕ) (s : SectionValue) (ss : List SectionValue) → AreAfter position (s ∷ ss) → HasNext position s ss
has_next position s ss h = by (s.id == 0) refl (All-head IsSection s ss h.each)
  where
    step : (next : ℕ) → next_position position s ≡ Some next → All (IsAbove next) ss → HasNext position s ss
    step next e above = record { next = next; is = e; after = record { each = All-tail IsSection s ss h.each; above = above; ordered = pairs_tail ComesBefore s ss h.ordered } }

    by : (test : Bool) → (s.id == 0) ≡ test → IsSection s → HasNext position s ss
    by true t is =
        let zero : s.id ≡ 0 = eqb-true s.id 0 t in
        let b = is.named zero in
        let read : name_at s.content ≡ Some (b.0, b.2) = ap name_at b.3 ∙ name_meets.again b.1 b.0 b.2 b.4 in
        step position (next_custom position s zero ∙ bind_some (name_at s.content) (λ _. Some position) (b.0, b.2) read) (All-tail (IsAbove position) s ss h.above)
    by false t is =
        let other : s.id ≡ 0 → ⊥ = λ zero. false≢true (sym t ∙ eq-eqb s.id 0 zero) in
        let low : nat_lt 12 s.id ≡ false = le-ltb 12 s.id is.known in
        let high : nat_lt position (section_position s.id) ≡ true = lt-ltb position (section_position s.id) (All-head (IsAbove position) s ss h.above other) in
        step (section_position s.id) (next_other position s other ∙ rw (low, high) refl) (All-weaker (ComesBefore s) (IsAbove (section_position s.id)) (λ u f. f other) ss (pairs_head ComesBefore s ss h.ordered))

last_from : (position : ℕ) (ss : List SectionValue) → AreAfter position ss → (n : ℕ) × (last_position position ss ≡ Some n)
unfolding last_position
last_from position [] h = (position, refl)
last_from position (s ∷ ss) h =
    let t = has_next position s ss h in
    let r = last_from t.next ss t.after in
    (r.0, bind_some (next_position position s) (λ next. last_position next ss) t.next t.is ∙ r.1)

-- the position of a section other than a custom one is above 0
position_some : (id : ℕ) → id ≢ 0 → 0 < section_position id
position_some id ne = grind (arith, nat_tests, ne)

pub order_found : (ss : List SectionValue) (n : ℕ) → last_position 0 ss ≡ Some n → AreInOrder ss
order_found ss n e = let h = after_from 0 ss n e in record { each = h.each; ordered = h.ordered }

pub order_finds : (ss : List SectionValue) → AreInOrder ss → (n : ℕ) × (last_position 0 ss ≡ Some n)
order_finds ss h = last_from 0 ss (record { each = h.each; above = All-weaker IsSection (IsAbove 0) (λ s _ ne. position_some s.id ne) ss h.each; ordered = h.ordered })

pub no_order : (ss : List SectionValue) → last_position 0 ss ≡ None → AreInOrder ss → ⊥
no_order ss none h = let f = order_finds ss h in some_none f.0 (sym f.1 ∙ none)

-- the loop over sections, one step on
pub position_more : (position : ℕ) (xs : List Section) (i : ℕ) (d : Section) (next : ℕ) → i < length xs → next_position position (section_value (get_or xs i d)) ≡ Some next → last_position position (map section_value (drop i xs)) ≡ last_position next (map section_value (drop (i + 1) xs))
unfolding last_position
position_more position xs i d next within e =
    at_drop_more (λ ys. last_position position (map section_value ys)) xs i d within ∙ bind_some (next_position position (section_value (get_or xs i d))) (λ n. last_position n (map section_value (drop (i + 1) xs))) next e

pub position_fails : (position : ℕ) (xs : List Section) (i : ℕ) (d : Section) → i < length xs → next_position position (section_value (get_or xs i d)) ≡ None → last_position position (map section_value (drop i xs)) ≡ None
unfolding last_position
position_fails position xs i d within e =
    at_drop_more (λ ys. last_position position (map section_value ys)) xs i d within ∙ bind_none (next_position position (section_value (get_or xs i d))) (λ n. last_position n (map section_value (drop (i + 1) xs))) e

pub position_end : (position : ℕ) (xs : List Section) (i : ℕ) → length xs ≤ i → last_position position (map section_value (drop i xs)) ≡ Some position
unfolding last_position
position_end position xs i past = at_drop_all (λ ys. last_position position (map section_value ys)) xs i past
