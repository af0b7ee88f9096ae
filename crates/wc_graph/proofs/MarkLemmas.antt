-- Labels that are added to words.
use Rattle.std.proofs.Common.{◌≡◌, ◌≢◌, ℕ, ◌+◌, ◌-◌, ◌^◌, ◌%◌, ◌<◌, ◌≤◌, List, [], ◌∷◌, ◌++◌, take, length, get_or, set, refl, sym, ◌∙◌, ap, subst, ◌⊎◌, inl, inr, arith, bit_or, Option, Some, None}
use Rattle.std.specs.Prelude.{◌↔◌, Contains, replicate}
use Rattle.std.specs.List.{slice_get}
use Rattle.std.specs.Int.{bit_at}
use Rattle.std.specs.Int.Bits.{bit_xor}
use Rattle.std.proofs.lemmas.Bool.{cases_lt}
use Rattle.std.proofs.lemmas.Bool.Decides.{eqb_tells}
use Rattle.std.proofs.lemmas.List.{get_or_past, get_or-replicate, get_or-set_same, get_or-set_other, length-replicate, length-set, take_more}
use Rattle.std.proofs.lemmas.List.Elements.{Contains-append_left, Contains-push, Contains-push_cases}
use Rattle.std.proofs.lemmas.Nat.Bits.{bit_at-lt, bit_at-pow_other, bit_at-pow_same, bit_at-zero, bit_at_ones, bit_at_xor}
use Rattle.std.proofs.lemmas.Option.{get_or_from_slice_get, slice_get-get_or, slice_get_within}
use Rattle.wc_graph.specs.Labels.{HasLabel}
use Rattle.wc_graph.specs.Positions.{AreBelow, IsAt}
use Rattle.wc_graph.specs.Private.Marks.{AreLabelsAt, AreLabelsOf, AreOthers, AreSetLabels, IsInSet, IsJoined}
use Rattle.wc_graph.proofs.LabelLemmas.{either_bit, left_bit, none_in, right_bit}

pub some_same : {A : Type 0} (a b : A) → Some a ≡ Some b → a ≡ b
some_same a b e = cc e

-- a word is joined to that of an item, if there is one
pub joined_some : (item : Option ℕ) (i word : ℕ) (old new : List ℕ) → item ≡ Some i → i < length old → new ≡ set old i (bit_or (get_or old i 0) word)
    → IsJoined item word old new
joined_some item i word old new is within e = record {
  sized = ap length e ∙ length-set old i (bit_or (get_or old i 0) word);
  joined = λ x label. (to x label, from x label);
}
  where
    all : ℕ
    all = bit_or (get_or old i 0) word

    here : get_or new i 0 ≡ all
    here = ap (λ (z : List ℕ). get_or z i 0) e ∙ get_or-set_same old i all 0 within

    there : (x : ℕ) → x ≢ i → get_or new x 0 ≡ get_or old x 0
    there x n = ap (λ (z : List ℕ). get_or z x 0) e ∙ get_or-set_other old i x all 0 n

    to : (x label : ℕ) → HasLabel new x label → HasLabel old x label ⊎ ((item ≡ Some x) × (bit_at word label ≡ 1))
    to x label h = elim (eqb_tells x i) [
      | inl same ↦ elim (either_bit (get_or old i 0) word label (subst (λ (v : ℕ). bit_at v label ≡ 1) here (subst (λ (z : ℕ). HasLabel new z label) same.1 h))) [
        | inl o ↦ inl (subst (λ (z : ℕ). HasLabel old z label) (sym same.1) o)
        | inr b ↦ inr (is ∙ ap Some (sym same.1), b)
      ]
      | inr other ↦ inl (subst (λ (v : ℕ). bit_at v label ≡ 1) (there x other.1) h)
    ]

    from : (x label : ℕ) → HasLabel old x label ⊎ ((item ≡ Some x) × (bit_at word label ≡ 1)) → HasLabel new x label
    from x label (inl o) = elim (eqb_tells x i) [
      | inl same ↦ subst (λ (z : ℕ). HasLabel new z label) (sym same.1)
          (subst (λ (v : ℕ). bit_at v label ≡ 1) (sym here) (left_bit (get_or old i 0) word label (subst (λ (z : ℕ). HasLabel old z label) same.1 o)))
      | inr other ↦ subst (λ (v : ℕ). bit_at v label ≡ 1) (sym (there x other.1)) o
    ]
    from x label (inr b) =
        subst (λ (z : ℕ). HasLabel new z label) (some_same i x (sym is ∙ b.0))
        (subst (λ (v : ℕ). bit_at v label ≡ 1) (sym here) (right_bit (get_or old i 0) word label b.1))

pub joined_none : (item : Option ℕ) (word : ℕ) (old : List ℕ) → item ≡ None → IsJoined item word old old
joined_none item word old is = record {
  sized = refl;
  joined = λ x label. (λ h. inl h, λ s. elim s [ inl h ↦ h | inr b ↦ absurd (let bad : None ≡ Some x = sym is ∙ b.0 in cc bad) ]);
}

-- no item of new words has a label
pub none_has : (n x label : ℕ) → HasLabel (replicate n 0) x label → ⊥
none_has n x label h =
    let z : get_or (replicate n 0) x 0 ≡ 0 = elim (cases_lt x n) [
      | inl less ↦ get_or-replicate n x 0 0 less
      | inr past ↦ get_or_past (replicate n 0) x 0 (let l = length-replicate {A = ℕ} n 0 in omega (arith, l, past))
    ] in
    let b : bit_at (get_or (replicate n 0) x 0) label ≡ 0 = ap (λ (v : ℕ). bit_at v label) z ∙ bit_at-zero label in
    let e : 0 ≡ 1 = sym b ∙ h in absurd (omega (arith, e))

-- the word of one label has no other
one_label : (bit label : ℕ) → bit_at (2 ^ bit) label ≡ 1 → label ≡ bit
one_label bit label h = elim (eqb_tells label bit) [
  | inl e ↦ e.1
  | inr n ↦ let z : 0 ≡ 1 = sym (bit_at-pow_other bit label n.1) ∙ h in absurd (omega (arith, z))
]

-- what is read of a row at a position is there
read_at : (things : List (Option ℕ)) (p x : ℕ) (d : Option ℕ) → p < length things → get_or things p d ≡ Some x → IsAt things p x
read_at things p x d within e = slice_get-get_or things p d within ∙ ap Some e

at_read : (things : List (Option ℕ)) (p x : ℕ) (d : Option ℕ) → IsAt things p x → get_or things p d ≡ Some x
at_read things p x d h = get_or_from_slice_get things p (Some x) d h

-- ---- labels of sources, one after another
pub record AreLabelsTo (sources : List (Option ℕ)) (start size next : ℕ) (labels : List ℕ) : Type 0 where
  pub sized : length labels ≡ size
  pub labelled : (x label : ℕ) → HasLabel labels x label ↔ ((start + label < next) × IsAt sources (start + label) x)

pub labels_begun : (sources : List (Option ℕ)) (start size next : ℕ) (labels : List ℕ) → next ≤ start → length labels ≡ size → labels ≡ replicate size 0
    → AreLabelsTo sources start size next labels
labels_begun sources start size next labels less n e = record {
  sized = n;
  labelled = λ x label. (
    λ h. absurd (none_has size x label (subst (λ (z : List ℕ). HasLabel z x label) e h)),
    λ h. absurd (let l = h.0 in omega (arith, l, less)),
  );
}

pub labels_next : (sources : List (Option ℕ)) (start size next word : ℕ) (d : Option ℕ) (old new : List ℕ) → start ≤ next → next < length sources
    → word ≡ 2 ^ (next - start) → AreLabelsTo sources start size next old → IsJoined (get_or sources next d) word old new
    → AreLabelsTo sources start size (next + 1) new
labels_next sources start size next word d old new from within w a j = record {
  sized = j.sized ∙ a.sized;
  labelled = λ x label. (to x label, back x label);
}
  where
    to : (x label : ℕ) → HasLabel new x label → (start + label < next + 1) × IsAt sources (start + label) x
    to x label h = elim ((j.joined x label).0 h) [
      | inl o ↦ let r = (a.labelled x label).0 o in (let l = r.0 in omega (arith, l), r.1)
      | inr b ↦
          let same : label ≡ next - start = one_label (next - start) label (subst (λ (v : ℕ). bit_at v label ≡ 1) w b.1) in
          let here : next ≡ start + label = omega (arith, same, from) in
          (omega (arith, here), subst (λ (p : ℕ). IsAt sources p x) here (read_at sources next x d within b.0))
    ]

    back : (x label : ℕ) → (start + label < next + 1) × IsAt sources (start + label) x → HasLabel new x label
    back x label h = elim (cases_lt (start + label) next) [
      | inl less ↦ (j.joined x label).1 (inl ((a.labelled x label).1 (less, h.1)))
      | inr more ↦
          let l = h.0 in
          let here : start + label ≡ next = omega (arith, l, more) in
          let same : label ≡ next - start = omega (arith, here) in
          (j.joined x label).1 (inr (
            at_read sources next x d (subst (λ (p : ℕ). IsAt sources p x) here h.1),
            ap (λ (v : ℕ). bit_at v label) w ∙ (ap (bit_at (2 ^ (next - start))) same ∙ bit_at-pow_same (next - start)),
          ))
    ]

pub labels_all : (sources : List (Option ℕ)) (start size next : ℕ) (labels : List ℕ) → (start + 64 ≤ next) ⊎ (length sources ≤ next)
    → AreLabelsTo sources start size next labels → AreLabelsAt sources start size labels
labels_all sources start size next labels least a = record {
  sized = a.sized;
  labelled = λ x label l. (
    λ h. ((a.labelled x label).0 h).1,
    λ r. (a.labelled x label).1 (
      elim least [
        | inl all ↦ omega (arith, l, all)
        | inr over ↦ (let w = slice_get_within sources (start + label) (Some x) r in omega (arith, w, over))
      ],
      r,
    ),
  );
}

-- ---- the labels of owners, item by item
pub record AreGatheredTo (words : List ℕ) (owners : List (Option ℕ)) (count next : ℕ) (gathered : List ℕ) : Type 0 where
  pub sized : length gathered ≡ count
  pub labelled : (u label : ℕ) → HasLabel gathered u label ↔ ((y : ℕ) × (y < next) × IsAt owners y u × HasLabel words y label)

pub gathered_begun : (words : List ℕ) (owners : List (Option ℕ)) (count : ℕ) (gathered : List ℕ) → length gathered ≡ count → gathered ≡ replicate count 0
    → AreGatheredTo words owners count 0 gathered
gathered_begun words owners count gathered n e = record {
  sized = n;
  labelled = λ u label. (
    λ h. absurd (none_has count u label (subst (λ (z : List ℕ). HasLabel z u label) e h)),
    λ h. absurd (let l = h.1 in omega (arith, l)),
  );
}

pub gathered_next : (words : List ℕ) (owners : List (Option ℕ)) (count next word : ℕ) (d : Option ℕ) (old new : List ℕ) → next < length owners
    → word ≡ get_or words next 0 → AreGatheredTo words owners count next old → IsJoined (get_or owners next d) word old new
    → AreGatheredTo words owners count (next + 1) new
gathered_next words owners count next word d old new within w a j = record {
  sized = j.sized ∙ a.sized;
  labelled = λ u label. (to u label, back u label);
}
  where
    to : (u label : ℕ) → HasLabel new u label → (y : ℕ) × (y < next + 1) × IsAt owners y u × HasLabel words y label
    to u label h = elim ((j.joined u label).0 h) [
      | inl o ↦ let r = (a.labelled u label).0 o in (r.0, let l = r.1 in omega (arith, l), r.2, r.3)
      | inr b ↦ (next, omega arith, read_at owners next u d within b.0, subst (λ (v : ℕ). bit_at v label ≡ 1) w b.1)
    ]

    back : (u label : ℕ) → (y : ℕ) × (y < next + 1) × IsAt owners y u × HasLabel words y label → HasLabel new u label
    back u label (y, l, at, h) = elim (cases_lt y next) [
      | inl less ↦ (j.joined u label).1 (inl ((a.labelled u label).1 (y, less, at, h)))
      | inr more ↦
          let here : y ≡ next = omega (arith, l, more) in
          (j.joined u label).1 (inr (
            at_read owners next u d (subst (λ (p : ℕ). IsAt owners p u) here at),
            subst (λ (v : ℕ). bit_at v label ≡ 1) (sym w) (subst (λ (p : ℕ). HasLabel words p label) here h),
          ))
    ]

pub gathered_all : (words : List ℕ) (owners : List (Option ℕ)) (count next : ℕ) (gathered : List ℕ) → length owners ≤ next → AreGatheredTo words owners count next gathered
    → (u label : ℕ) → HasLabel gathered u label ↔ ((y : ℕ) × IsAt owners y u × HasLabel words y label)
gathered_all words owners count next gathered over a u label = (
  λ h. let r = (a.labelled u label).0 h in (r.0, r.2, r.3),
  λ r. (a.labelled u label).1 (r.0, let w = slice_get_within owners r.0 (Some u) r.1 in omega (arith, w, over), r.1, r.2),
)

-- ---- the items of sources at some positions, one after another
pub labelled_none : (sources : List (Option ℕ)) (bit : ℕ) (old : List ℕ) → AreLabelsOf sources [] bit old old
labelled_none sources bit old = record {
  sized = refl;
  labelled = λ x label. (λ h. inl h, λ s. elim s [ inl h ↦ h | inr r ↦ absurd (none_in r.1 r.2) ]);
}

pub labelled_next : (sources : List (Option ℕ)) (positions : List ℕ) (next bit word : ℕ) (source : Option ℕ) (old mid new : List ℕ) → next < length positions
    → ((x : ℕ) → (source ≡ Some x) ↔ IsAt sources (get_or positions next 0) x) → word ≡ 2 ^ bit → AreLabelsOf sources (take next positions) bit old mid
    → IsJoined source word mid new → AreLabelsOf sources (take (next + 1) positions) bit old new
labelled_next sources positions next bit word source old mid new within is w a j = record {
  sized = j.sized ∙ a.sized;
  labelled = λ x label. (to x label, back x label);
}
  where
    more : take (next + 1) positions ≡ take next positions ++ get_or positions next 0 ∷ []
    more = take_more positions next 0 within

    to : (x label : ℕ) → HasLabel new x label
        → HasLabel old x label ⊎ ((label ≡ bit) × (p : ℕ) × Contains (take (next + 1) positions) p × IsAt sources p x)
    to x label h = elim ((j.joined x label).0 h) [
      | inl m ↦ elim ((a.labelled x label).0 m) [
        | inl o ↦ inl o
        | inr r ↦ inr (r.0, r.1, subst (λ (z : List ℕ). Contains z r.1) (sym more) (Contains-append_left (take next positions) (get_or positions next 0 ∷ []) r.1 r.2), r.3)
      ]
      | inr b ↦ inr (
        one_label bit label (subst (λ (v : ℕ). bit_at v label ≡ 1) w b.1),
        get_or positions next 0,
        subst (λ (z : List ℕ). Contains z (get_or positions next 0)) (sym more) (Contains-push (take next positions) (get_or positions next 0)),
        (is x).0 b.0,
      )
    ]

    back : (x label : ℕ) → HasLabel old x label ⊎ ((label ≡ bit) × (p : ℕ) × Contains (take (next + 1) positions) p × IsAt sources p x) → HasLabel new x label
    back x label (inl o) = (j.joined x label).1 (inl ((a.labelled x label).1 (inl o)))
    back x label (inr (e, p, c, at)) = elim (Contains-push_cases (take next positions) (get_or positions next 0) p (subst (λ (z : List ℕ). Contains z p) more c)) [
      | inl o ↦ (j.joined x label).1 (inl ((a.labelled x label).1 (inr (e, p, o, at))))
      | inr last ↦ (j.joined x label).1 (inr (
        (is x).1 (subst (λ (q : ℕ). IsAt sources q x) (sym last) at),
        ap (λ (v : ℕ). bit_at v label) w ∙ (ap (bit_at (2 ^ bit)) e ∙ bit_at-pow_same bit),
      ))
    ]

-- ---- the items of sets of sources, one after another
pub record AreSetLabelsTo (sources : List (Option ℕ)) (sets : List (List ℕ)) (start size next : ℕ) (labels : List ℕ) : Type 0 where
  pub sized : length labels ≡ size
  pub labelled : (x label : ℕ) → HasLabel labels x label ↔ ((start + label < next) × IsInSet sources sets (start + label) x)

pub sets_begun : (sources : List (Option ℕ)) (sets : List (List ℕ)) (start size next : ℕ) (labels : List ℕ) → next ≤ start → length labels ≡ size
    → labels ≡ replicate size 0 → AreSetLabelsTo sources sets start size next labels
sets_begun sources sets start size next labels less n e = record {
  sized = n;
  labelled = λ x label. (
    λ h. absurd (none_has size x label (subst (λ (z : List ℕ). HasLabel z x label) e h)),
    λ h. absurd (let l = h.0 in omega (arith, l, less)),
  );
}

pub sets_next : (sources : List (Option ℕ)) (sets : List (List ℕ)) (start size next bit : ℕ) (one : List ℕ) (old new : List ℕ) → start ≤ next
    → bit ≡ next - start → slice_get sets next ≡ Some one → AreSetLabelsTo sources sets start size next old → AreLabelsOf sources one bit old new
    → AreSetLabelsTo sources sets start size (next + 1) new
sets_next sources sets start size next bit one old new from is at a j = record {
  sized = j.sized ∙ a.sized;
  labelled = λ x label. (to x label, back x label);
}
  where
    to : (x label : ℕ) → HasLabel new x label → (start + label < next + 1) × IsInSet sources sets (start + label) x
    to x label h = elim ((j.labelled x label).0 h) [
      | inl o ↦ let r = (a.labelled x label).0 o in (let l = r.0 in omega (arith, l), r.1)
      | inr r ↦
          let same = r.0 in
          let here : next ≡ start + label = omega (arith, same, is, from) in
          (omega (arith, here), (one, r.1, subst (λ (u : ℕ). slice_get sets u ≡ Some one) here at, r.2, r.3))
    ]

    back : (x label : ℕ) → (start + label < next + 1) × IsInSet sources sets (start + label) x → HasLabel new x label
    back x label (l, (ps, p, q, c, h)) = elim (cases_lt (start + label) next) [
      | inl less ↦ (j.labelled x label).1 (inl ((a.labelled x label).1 (less, (ps, p, q, c, h))))
      | inr more ↦
          let here : start + label ≡ next = omega (arith, l, more) in
          let same : ps ≡ one = some_same ps one (sym q ∙ (ap (slice_get sets) here ∙ at)) in
          (j.labelled x label).1 (inr (omega (arith, here, is), p, subst (λ (z : List ℕ). Contains z p) same c, h))
    ]

pub sets_all : (sources : List (Option ℕ)) (sets : List (List ℕ)) (start size next : ℕ) (labels : List ℕ) → next ≤ start + 63
    → (start + 63 ≤ next) ⊎ (length sets ≤ next) → AreSetLabelsTo sources sets start size next labels → AreSetLabels sources sets start size labels
sets_all sources sets start size next labels most least a = record {
  sized = a.sized;
  labelled = λ x label. (
    λ h. let r = (a.labelled x label).0 h in (let l = r.0 in omega (arith, l, most), r.1),
    λ r. (a.labelled x label).1 (
      elim least [
        | inl all ↦ (let l = r.0 in omega (arith, l, all))
        | inr over ↦ (let w = slice_get_within sets (start + label) r.1.0 r.1.2 in omega (arith, w, over))
      ],
      r.1,
    ),
  );
}

-- ---- labels that items have not, source by source
xor_bit : (w label : ℕ) → label < 64 → bit_at (bit_xor w (2 ^ 64 - 1)) label ≡ (bit_at w label + 1) % 2
xor_bit w label h = bit_at_xor w (2 ^ 64 - 1) label ∙ ap (λ (b : ℕ). (bit_at w label + b) % 2) (bit_at_ones 64 label h)

turned : (b : ℕ) → b < 2 → (b + 1) % 2 ≡ 1 → b ≢ 1
turned b l e h = let f : 0 ≡ 1 = sym (ap (λ (z : ℕ). (z + 1) % 2) h) ∙ e in absurd (omega (arith, f))

turned_back : (b : ℕ) → b < 2 → b ≢ 1 → (b + 1) % 2 ≡ 1
turned_back b l n = let z : b ≡ 0 = omega (arith, l, n) in ap (λ (y : ℕ). (y + 1) % 2) z

pub record AreOthersTo (sources : List (Option ℕ)) (labels : List ℕ) (next : ℕ) (others : List ℕ) : Type 0 where
  pub sized : length others ≡ length labels
  pub labelled : (x label : ℕ) → label < 64 → HasLabel others x label ↔ (((p : ℕ) × (p < next) × IsAt sources p x) × ¬ (HasLabel labels x label))

pub others_begun : (sources : List (Option ℕ)) (labels others : List ℕ) → length others ≡ length labels → others ≡ replicate (length labels) 0
    → AreOthersTo sources labels 0 others
others_begun sources labels others n e = record {
  sized = n;
  labelled = λ x label l. (
    λ h. absurd (none_has (length labels) x label (subst (λ (z : List ℕ). HasLabel z x label) e h)),
    λ h. absurd (let l = h.0.1 in omega (arith, l)),
  );
}

pub others_next : (sources : List (Option ℕ)) (labels : List ℕ) (next word : ℕ) (d : Option ℕ) (old new : List ℕ) → next < length sources
    → AreBelow (length labels) sources
    → ((x w : ℕ) → get_or sources next d ≡ Some x → slice_get labels x ≡ Some w → word ≡ bit_xor w (2 ^ 64 - 1))
    → AreOthersTo sources labels next old → IsJoined (get_or sources next d) word old new → AreOthersTo sources labels (next + 1) new
others_next sources labels next word d old new within below is a j = record {
  sized = j.sized ∙ a.sized;
  labelled = λ x label l. (to x label l, back x label l);
}
  where
    bits : (x label : ℕ) → label < 64 → get_or sources next d ≡ Some x → bit_at word label ≡ (bit_at (get_or labels x 0) label + 1) % 2
    bits x label l e =
        ap (λ (v : ℕ). bit_at v label) (is x (get_or labels x 0) e (slice_get-get_or labels x 0 (below next x (read_at sources next x d within e))))
        ∙ xor_bit (get_or labels x 0) label l

    to : (x label : ℕ) → label < 64 → HasLabel new x label → ((p : ℕ) × (p < next + 1) × IsAt sources p x) × ¬ (HasLabel labels x label)
    to x label l h = elim ((j.joined x label).0 h) [
      | inl o ↦ let r = (a.labelled x label l).0 o in ((r.0.0, let s = r.0.1 in omega (arith, s), r.0.2), r.1)
      | inr b ↦ (
        (next, omega arith, read_at sources next x d within b.0),
        turned (bit_at (get_or labels x 0) label) (bit_at-lt (get_or labels x 0) label) (sym (bits x label l b.0) ∙ b.1),
      )
    ]

    back : (x label : ℕ) → label < 64 → ((p : ℕ) × (p < next + 1) × IsAt sources p x) × ¬ (HasLabel labels x label) → HasLabel new x label
    back x label l ((p, s, at), n) = elim (cases_lt p next) [
      | inl less ↦ (j.joined x label).1 (inl ((a.labelled x label l).1 ((p, less, at), n)))
      | inr more ↦
          let here : p ≡ next = omega (arith, s, more) in
          let e : get_or sources next d ≡ Some x = at_read sources next x d (subst (λ (q : ℕ). IsAt sources q x) here at) in
          (j.joined x label).1 (inr (e, bits x label l e ∙ turned_back (bit_at (get_or labels x 0) label) (bit_at-lt (get_or labels x 0) label) n))
    ]

pub others_all : (sources : List (Option ℕ)) (labels : List ℕ) (next : ℕ) (others : List ℕ) → length sources ≤ next → AreOthersTo sources labels next others
    → AreOthers sources labels others
others_all sources labels next others over a = record {
  sized = a.sized;
  labelled = λ x label l. (
    λ h. let r = (a.labelled x label l).0 h in ((r.0.0, r.0.2), r.1),
    λ r. (a.labelled x label l).1 ((r.0.0, let w = slice_get_within sources r.0.0 (Some x) r.0.1 in omega (arith, w, over), r.0.1), r.1),
  );
}
