-- What is reached from sets of sources alone.
use Rattle.std.proofs.Common.{◌≡◌, ◌≢◌, ℕ, ◌+◌, ◌-◌, ◌<◌, ◌≤◌, Bool, true, false, List, [], ◌∷◌, ◌++◌, take, map, length, get_or, min, refl, sym, ◌∙◌, ap, subst, inl, inr, arith, Option, Some}
use Rattle.std.specs.Prelude.{◌↔◌, ◌==◌, ◌&&◌, not, Contains, filter, if◌then◌else◌}
use Rattle.std.specs.Int.{bit_at}
use Rattle.std.specs.List.{slice_get, sum_by}
use Rattle.std.specs.Option.{option_map_or}
use Rattle.std.proofs.lemmas.Bool.{cases_lt, eq-eqb, eqb-true}
use Rattle.std.proofs.lemmas.Bool.Decides.{eqb_tells}
use Rattle.std.proofs.lemmas.List.{get_or_past, length_push, take_more}
use Rattle.std.proofs.lemmas.List.Elements.{filter-append}
use Rattle.std.proofs.lemmas.List.{map-append}
use Rattle.std.proofs.lemmas.List.Sums.{sum_by-cons}
use Rattle.std.proofs.lemmas.Nat.Bits.{bit_at-zero}
use Rattle.std.proofs.lemmas.Option.{slice_get-get_or, slice_get_past, slice_get_within}
use Rattle.wc_graph.specs.Labels.{HasLabel, IsSpread}
use Rattle.wc_graph.specs.Alone.{AreAlone, AreCounted, IsAlone}
use Rattle.wc_graph.specs.Leads.{HasPath}
use Rattle.wc_graph.specs.Positions.{IsAt}
use Rattle.wc_graph.specs.Private.Alone.{AreAppended, IsAloneBy, alone_among, is_alone}
use Rattle.wc_graph.specs.Private.Marks.{AreOthers, AreSetLabels}
use Rattle.wc_graph.specs.declared.alone.Alone.{Alone}
use Rattle.wc_graph.proofs.ChainTreeLemmas.{push_cases}

-- a word has one label and not another one
and_not : (a b : Bool) → (a && not b) ≡ true → (a ≡ true) × (b ≡ false)
and_not true true e = absurd (let bad : false ≡ true = e in cc bad)
and_not true false e = (refl, refl)
and_not false b e = (e, absurd (let bad : false ≡ true = e in cc bad))

tests_tell : (w bit : ℕ) → (((bit_at w 63 == 1) && not (bit_at w bit == 1)) ≡ true) ↔ ((bit_at w 63 ≡ 1) × (bit_at w bit ≢ 1))
tests_tell w bit = (
  λ t. let b = and_not (bit_at w 63 == 1) (bit_at w bit == 1) t in
      (eqb-true (bit_at w 63) 1 b.0, λ h. let bad : true ≡ false = sym (eq-eqb (bit_at w bit) 1 h) ∙ b.1 in cc bad),
  λ h. elim (eqb_tells (bit_at w bit) 1) [
    | inl e ↦ absurd (h.1 e.1)
    | inr n ↦ ap (λ (a : Bool). a && not (bit_at w bit == 1)) (eq-eqb (bit_at w 63) 1 h.0) ∙ ap not n.0
  ],
)

labels_tell : (words : List ℕ) (bit x : ℕ) → (is_alone words bit x ≡ true) ↔ (HasLabel words x 63 × ¬ (HasLabel words x bit))
labels_tell words bit x = elim (cases_lt x (length words)) [
  | inl less ↦
      let is : is_alone words bit x ≡ ((bit_at (get_or words x 0) 63 == 1) && not (bit_at (get_or words x 0) bit == 1)) =
      ap (λ (o : Option ℕ). option_map_or (λ (word : ℕ). (bit_at word 63 == 1) && not (bit_at word bit == 1)) o false) (slice_get-get_or words x 0 less) in
      let t = tests_tell (get_or words x 0) bit in (λ h. t.0 (sym is ∙ h), λ h. is ∙ t.1 h)
  | inr past ↦
      let is : is_alone words bit x ≡ false =
      ap (λ (o : Option ℕ). option_map_or (λ (word : ℕ). (bit_at word 63 == 1) && not (bit_at word bit == 1)) o false) (slice_get_past words x past) in (
        λ h. absurd (let bad : false ≡ true = sym is ∙ h in cc bad),
        λ h. absurd (let z : 0 ≡ 1 = sym (ap (λ (v : ℕ). bit_at v 63) (get_or_past words x 0 past) ∙ bit_at-zero 63) ∙ h.0 in omega (arith, z)),
      )
]

module _ (names : ℕ → List ℕ) (sources : List (Option ℕ)) (sets : List (List ℕ)) (start size : ℕ) (labels others words : List ℕ)
    (l : AreSetLabels sources sets start size labels) (o : AreOthers sources labels others) (s : IsSpread names others words) where
  -- what sources reach
  reached_by : (x : ℕ) → HasLabel words x 63 ↔ ((p y : ℕ) × IsAt sources p y × HasPath names y x)
  reached_by x = (
    λ h. let t = (s.labelled x 63).0 h in let r = (o.labelled t.0 63 (omega arith)).0 t.1 in (r.0.0, t.0, r.0.1, (t.2, t.3)),
    λ r. (s.labelled x 63).1 (r.1, (o.labelled r.1 63 (omega arith)).1 ((r.0, r.2), λ h. absurd (let b = ((l.labelled r.1 63).0 h).0 in omega (arith, b))), r.3.0, r.3.1),
  )

  module _ (bit : ℕ) (fits : bit < 63) (set : List ℕ) (is : slice_get sets (start + bit) ≡ Some set) where
    in_set : (y : ℕ) → HasLabel labels y bit → (q : ℕ) × Contains set q × IsAt sources q y
    in_set y h =
        let r = ((l.labelled y bit).0 h).1 in
        let same : r.0 ≡ set = (let both : Some r.0 ≡ Some set = sym r.2 ∙ is in cc both) in
        (r.1, subst (λ (z : List ℕ). Contains z r.1) same r.3, r.4)

    alone_from : (x : ℕ) → ¬ (HasLabel words x bit) → (p y : ℕ) → IsAt sources p y → HasPath names y x → (q : ℕ) × Contains set q × IsAt sources q y
    alone_from x n p y at (path, w) = elim (eqb_tells (bit_at (get_or labels y 0) bit) 1) [
      | inl e ↦ in_set y e.1
      | inr none ↦ absurd (n ((s.labelled x bit).1 (y, (o.labelled y bit (omega (arith, fits))).1 ((p, at), none.1), path, w)))
    ]

    not_others : (x : ℕ) → ((p y : ℕ) → IsAt sources p y → HasPath names y x → (q : ℕ) × Contains set q × IsAt sources q y) → ¬ (HasLabel words x bit)
    not_others x all h =
        let t = (s.labelled x bit).0 h in
        let r = (o.labelled t.0 bit (omega (arith, fits))).0 t.1 in
        let q = all r.0.0 t.0 r.0.1 (t.2, t.3) in
        r.1 ((l.labelled t.0 bit).1 (fits, (set, q.0, is, q.1, q.2)))

    alone_is : (x : ℕ) → (is_alone words bit x ≡ true) ↔ IsAlone names sources set x
    alone_is x = (
      λ t. let h = (labels_tell words bit x).0 t in record { reached = (reached_by x).0 h.0; alone = alone_from x h.1 },
      λ a. (labels_tell words bit x).1 ((reached_by x).1 a.reached, not_others x a.alone),
    )

    pub counted_is : (items : List (ℕ × ℕ)) (a : Alone) → IsAloneBy words items bit a → AreCounted names sources items set a
    counted_is items a by = record {
      picked = alone_among words bit items;
      are_picked = ((λ (i : ℕ × ℕ). is_alone words bit i.0), (λ i c. alone_is i.0), refl);
      items = by.0;
      size = by.1;
    }

-- ---- of each set
pub record AreAloneTo (names : ℕ → List ℕ) (sources : List (Option ℕ)) (items : List (ℕ × ℕ)) (sets : List (List ℕ)) (found : List Alone) : Type 0 where
  pub most : length found ≤ length sets
  pub at : (u : ℕ) (set : List ℕ) (a : Alone) → slice_get sets u ≡ Some set → slice_get found u ≡ Some a → AreCounted names sources items set a

pub none_alone : (names : ℕ → List ℕ) (sources : List (Option ℕ)) (items : List (ℕ × ℕ)) (sets : List (List ℕ)) → AreAloneTo names sources items sets []
none_alone names sources items sets = record { most = omega arith; at = λ u set a e f. absurd (let w = slice_get_within [] u a f in omega (arith, w)) }

pub alone_next : (names : ℕ → List ℕ) (sources : List (Option ℕ)) (items : List (ℕ × ℕ)) (sets : List (List ℕ)) (size : ℕ) (labels others words : List ℕ)
    (old new : List Alone) → AreSetLabels sources sets (length old) size labels → AreOthers sources labels others → IsSpread names others words
    → AreAppended words items (min (length old + 63) (length sets)) old new → AreAloneTo names sources items sets old → AreAloneTo names sources items sets new
alone_next names sources items sets size labels others words old new l o s a h = record {
  most = let e = a.each in omega (arith, e);
  at = λ u set x e f. elim (a.at u x f) [
    | inl before ↦ h.at u set x e before
    | inr r ↦
        counted_is names sources sets (length old) size labels others words l o s r.0 r.1 set (ap (slice_get sets) (sym r.2) ∙ e) items x r.3
  ];
}

pub alone_all : (names : ℕ → List ℕ) (sources : List (Option ℕ)) (items : List (ℕ × ℕ)) (sets : List (List ℕ)) (found : List Alone)
    → length sets ≤ length found → AreAloneTo names sources items sets found → AreAlone names sources items sets found
alone_all names sources items sets found over h = record { each = let m = h.most in omega (arith, m, over); at = h.at }

-- ---- of the sets of a run
pub appended_none : (words : List ℕ) (items : List (ℕ × ℕ)) (old : List Alone) → AreAppended words items (length old) old old
appended_none words items old = record { each = refl; at = λ u a e. inl e }

pub appended_next : (words : List ℕ) (items : List (ℕ × ℕ)) (next bit : ℕ) (old mid : List Alone) (a : Alone) → length old ≤ next → bit ≡ next - length old
    → bit < 63 → IsAloneBy words items bit a → AreAppended words items next old mid → AreAppended words items (next + 1) old (mid ++ a ∷ [])
appended_next words items next bit old mid a from is fits by h = record {
  each = let n = length_push mid a in let e = h.each in omega (arith, n, e);
  at = λ u x e. elim (push_cases mid a u x e) [
    | inl before ↦ h.at u x before
    | inr last ↦
        let k = h.each in let p = last.0 in
        inr (bit, fits, omega (arith, k, p, is, from), subst (IsAloneBy words items bit) (sym last.1) by)
  ];
}

-- ---- sizes and their sum
one_size : (words : List ℕ) (bit : ℕ) (item : ℕ × ℕ) (b : Bool) → is_alone words bit item.0 ≡ b
    → map (λ (x : ℕ × ℕ). x.1) (alone_among words bit (item ∷ [])) ≡ (if b then item.1 ∷ [] else [])
one_size words bit item true t = ap (λ (d : Bool). map (λ (x : ℕ × ℕ). x.1) (if d then item ∷ [] else [])) t
one_size words bit item false t = ap (λ (d : Bool). map (λ (x : ℕ × ℕ). x.1) (if d then item ∷ [] else [])) t

pub sizes_next : (words : List ℕ) (bit : ℕ) (items : List (ℕ × ℕ)) (i : ℕ) (d : ℕ × ℕ) (old new : List ℕ) → i < length items
    → old ≡ map (λ (x : ℕ × ℕ). x.1) (alone_among words bit (take i items)) → (b : Bool) → b ≡ is_alone words bit (get_or items i d).0
    → new ≡ old ++ (if b then (get_or items i d).1 ∷ [] else []) → new ≡ map (λ (x : ℕ × ℕ). x.1) (alone_among words bit (take (i + 1) items))
sizes_next words bit items i d old new within e b is f =
    let item = get_or items i d in
    f ∙ (ap (λ (z : List ℕ). z ++ (if b then item.1 ∷ [] else [])) e
    ∙ sym (ap (λ (z : List (ℕ × ℕ)). map (λ (x : ℕ × ℕ). x.1) (alone_among words bit z)) (take_more items i d within)
    ∙ (ap (map (λ (x : ℕ × ℕ). x.1)) (filter-append (λ (x : ℕ × ℕ). is_alone words bit x.0) (take i items) (item ∷ []))
    ∙ (map-append (λ (x : ℕ × ℕ). x.1) (alone_among words bit (take i items)) (alone_among words bit (item ∷ []))
    ∙ ap (λ (z : List ℕ). map (λ (x : ℕ × ℕ). x.1) (alone_among words bit (take i items)) ++ z) (one_size words bit item b (sym is))))))

pub sum_mapped : {X : Type 0} (f : X → ℕ) (xs : List X) → sum_by (λ (n : ℕ). n) (map f xs) ≡ sum_by f xs
sum_mapped f [] = refl
sum_mapped f (x ∷ xs) = sum_by-cons (λ (n : ℕ). n) (f x) (map f xs) ∙ (ap (λ (n : ℕ). f x + n) (sum_mapped f xs) ∙ sym (sum_by-cons f x xs))
