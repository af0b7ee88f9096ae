-- Labels that come to items, and are passed on.
use Rattle.std.proofs.Common.{◌≡◌, ◌≢◌, ℕ, ◌+◌, ◌-◌, ◌^◌, ◌<◌, ◌≤◌, List, [], ◌∷◌, ◌++◌, take, length, get_or, set, max, refl, sym, ◌∙◌, ap, subst, ◌⊎◌, inl, inr, arith, bit_or}
use Rattle.std.specs.Prelude.{All, Contains}
use Rattle.std.specs.Int.{bit_at}
use Rattle.std.specs.List.{sum_by}
use Rattle.std.proofs.lemmas.Bool.{cases_lt}
use Rattle.std.proofs.lemmas.Bool.Decides.{eqb_tells}
use Rattle.std.proofs.lemmas.List.{get_or_past, get_or-set_same, get_or-set_other, length-set, length_push, take_more}
use Rattle.std.proofs.lemmas.List.Elements.{All-contains, Contains-append_cases, Contains-append_left, Contains-append_right, Contains-push, Contains-push_cases}
use Rattle.std.proofs.lemmas.List.Sums.{sum_by-set}
use Rattle.std.proofs.lemmas.Nat.Bits.{bit_at-lt, bit_at-zero, bit_at_or}
use Rattle.wc_graph.specs.Reached.{IsPath}
use Rattle.wc_graph.proofs.GrowthLemmas.{longer}
use Rattle.wc_graph.specs.Labels.{HasLabel, IsSpread}
use Rattle.wc_graph.specs.Private.Labels.{AreNoted, HasCome, IsJoined, IsNoted, IsSpreading}

pub none_in : (x : ℕ) → Contains [] x → ⊥
none_in x c = let h = c.1 in absurd (omega (arith, h))

pub only_item : (x y : ℕ) → Contains (x ∷ []) y → x ≡ y
only_item x y c = elim (Contains-push_cases [] x y c) [ inl n ↦ absurd (none_in y n) | inr e ↦ e ]

pub right_bit : (a w label : ℕ) → bit_at w label ≡ 1 → bit_at (bit_or a w) label ≡ 1
right_bit a w label h = bit_at_or a w label ∙ (ap (max (bit_at a label)) h ∙ (let b = bit_at-lt a label in omega (arith, b)))

pub left_bit : (a w label : ℕ) → bit_at a label ≡ 1 → bit_at (bit_or a w) label ≡ 1
left_bit a w label h = bit_at_or a w label ∙ (ap (λ (z : ℕ). max z (bit_at w label)) h ∙ (let b = bit_at-lt w label in omega (arith, b)))

larger_is : (a b : ℕ) → a < 2 → a ≢ 1 → max a b ≡ 1 → b ≡ 1
larger_is a b h n e = omega arith

pub either_bit : (a w label : ℕ) → bit_at (bit_or a w) label ≡ 1 → (bit_at a label ≡ 1) ⊎ (bit_at w label ≡ 1)
either_bit a w label h = elim (eqb_tells (bit_at a label) 1) [
  | inl e ↦ inl e.1
  | inr n ↦ inr (larger_is (bit_at a label) (bit_at w label) (bit_at-lt a label) n.1 (sym (bit_at_or a w label) ∙ h))
]

-- nothing changes where an item has the labels
pub come_already : (word x old : ℕ) (words waiting : List ℕ) → old ≡ get_or words x 0 → bit_or old word ≡ old → HasCome word (x ∷ []) words waiting words waiting
come_already word x old words waiting read same = record {
  size = refl;
  come = λ y label c b. subst (λ (z : ℕ). HasLabel words z label) (only_item x y c)
      (subst (λ (v : ℕ). bit_at v label ≡ 1) read (subst (λ (v : ℕ). bit_at v label ≡ 1) same (right_bit old word label b)));
  kept = λ y label h. h;
  only = λ y label h. inl h;
  changed = λ y. inr refl;
  waits = λ y h. h;
  there = λ y h. inl h;
  less = omega arith;
}

falls : (top s s' old new n n' : ℕ) → s' + (top - old) ≡ s + (top - new) → n' ≡ n + 1 → old < new → new < top → s' + n' ≤ s + n
falls top s s' old new n n' e p more fits = omega arith

module _ (word x all : ℕ) (words waiting : List ℕ) (within : x < length words) (j : IsJoined (get_or words x 0) word all) where
  come_new : HasCome word (x ∷ []) words waiting (set words x all) (waiting ++ x ∷ [])
  come_new = record {
    size = length-set words x all;
    come = λ y label c b. subst (λ (z : ℕ). HasLabel (set words x all) z label) (only_item x y c)
        (has label (right_bit (get_or words x 0) word label b));
    kept = λ y label h. elim (eqb_tells y x) [
      | inl e ↦ subst (λ (z : ℕ). HasLabel (set words x all) z label) (sym e.1)
          (has label (left_bit (get_or words x 0) word label (subst (λ (z : ℕ). HasLabel words z label) e.1 h)))
      | inr n ↦ ap (λ (v : ℕ). bit_at v label) (other y n.1) ∙ h
    ];
    only = λ y label h. elim (eqb_tells y x) [
      | inl e ↦ elim (either_bit (get_or words x 0) word label (had label (subst (λ (z : ℕ). HasLabel (set words x all) z label) e.1 h))) [
        | inl o ↦ inl (subst (λ (z : ℕ). HasLabel words z label) (sym e.1) o)
        | inr b ↦ inr (subst (Contains (x ∷ [])) (sym e.1) (Contains-push [] x), b)
      ]
      | inr n ↦ inl (ap (λ (v : ℕ). bit_at v label) (sym (other y n.1)) ∙ h)
    ];
    changed = λ y. elim (eqb_tells y x) [
      | inl e ↦ inl (subst (Contains (waiting ++ x ∷ [])) (sym e.1) (Contains-push waiting x))
      | inr n ↦ inr (other y n.1)
    ];
    waits = λ y h. Contains-append_left waiting (x ∷ []) y h;
    there = λ y h. Contains-append_cases waiting (x ∷ []) y h;
    less = falls (2 ^ 64) (sum_by (λ (w : ℕ). 2 ^ 64 - w) words) (sum_by (λ (w : ℕ). 2 ^ 64 - w) (set words x all)) (get_or words x 0) all
        (length waiting) (length (waiting ++ x ∷ [])) (sum_by-set (λ (w : ℕ). 2 ^ 64 - w) words x all 0 within) (length_push waiting x) j.more j.fits;
  }
    where
      at : get_or (set words x all) x 0 ≡ bit_or (get_or words x 0) word
      at = get_or-set_same words x all 0 within ∙ j.is

      other : (y : ℕ) → y ≢ x → get_or (set words x all) y 0 ≡ get_or words y 0
      other y n = get_or-set_other words x y all 0 n

      has : (label : ℕ) → bit_at (bit_or (get_or words x 0) word) label ≡ 1 → HasLabel (set words x all) x label
      has label h = ap (λ (v : ℕ). bit_at v label) at ∙ h

      had : (label : ℕ) → HasLabel (set words x all) x label → bit_at (bit_or (get_or words x 0) word) label ≡ 1
      had label h = ap (λ (v : ℕ). bit_at v label) (sym at) ∙ h

-- an item that lacked a label waits
pub come_more : (word x old all : ℕ) (words waiting waiting' : List ℕ) → x < length words → old ≡ get_or words x 0 → waiting' ≡ waiting ++ x ∷ []
    → IsJoined old word all → HasCome word (x ∷ []) words waiting (set words x all) waiting'
come_more word x old all words waiting waiting' within read pushed j =
    subst (λ (z : List ℕ). HasCome word (x ∷ []) words waiting (set words x all) z) (sym pushed)
    (come_new word x all words waiting within (subst (λ (v : ℕ). IsJoined v word all) read j))

pub come_none : (word : ℕ) (words waiting : List ℕ) → HasCome word [] words waiting words waiting
come_none word words waiting = record {
  size = refl;
  come = λ y label c b. absurd (none_in y c);
  kept = λ y label h. h;
  only = λ y label h. inl h;
  changed = λ y. inr refl;
  waits = λ y h. h;
  there = λ y h. inl h;
  less = omega arith;
}

come_then : (word : ℕ) (xs ys w q w' q' w'' q'' : List ℕ) → HasCome word xs w q w' q' → HasCome word ys w' q' w'' q'' → HasCome word (xs ++ ys) w q w'' q''
come_then word xs ys w q w' q' w'' q'' a b = record {
  size = b.size ∙ a.size;
  come = λ y label c h. elim (Contains-append_cases xs ys y c) [ inl i ↦ b.kept y label (a.come y label i h) | inr i ↦ b.come y label i h ];
  kept = λ y label h. b.kept y label (a.kept y label h);
  only = λ y label h. elim (b.only y label h) [
    | inl o ↦ elim (a.only y label o) [ inl p ↦ inl p | inr i ↦ inr (Contains-append_left xs ys y i.0, i.1) ]
    | inr i ↦ inr (Contains-append_right xs ys y i.0, i.1)
  ];
  changed = λ y. elim (b.changed y) [
    | inl c ↦ inl c
    | inr e ↦ elim (a.changed y) [ inl c ↦ inl (b.waits y c) | inr f ↦ inr (e ∙ f) ]
  ];
  waits = λ y h. b.waits y (a.waits y h);
  there = λ y h. elim (b.there y h) [
    | inl o ↦ elim (a.there y o) [ inl p ↦ inl p | inr i ↦ inr (Contains-append_left xs ys y i) ]
    | inr i ↦ inr (Contains-append_right xs ys y i)
  ];
  less = let f = a.less in let g = b.less in omega (arith, f, g);
}

pub come_next : (word : ℕ) (items w q w' q' w'' q'' : List ℕ) (i : ℕ) → i < length items → HasCome word (take i items) w q w' q'
    → HasCome word (get_or items i 0 ∷ []) w' q' w'' q'' → HasCome word (take (i + 1) items) w q w'' q''
come_next word items w q w' q' w'' q'' i h a b =
    subst (λ (z : List ℕ). HasCome word z w q w'' q'') (sym (take_more items i 0 h)) (come_then word (take i items) (get_or items i 0 ∷ []) w q w' q' w'' q'' a b)

-- ---- the items that have labels
pub noted_none : (labels : List ℕ) → AreNoted labels 0 []
noted_none labels = record { all = λ x h. absurd (omega (arith, h)); there = λ x c. absurd (none_in x c) }

pub noted_more : (labels waiting waiting' : List ℕ) (i word : ℕ) → word ≡ get_or labels i 0 → AreNoted labels i waiting → IsNoted i word waiting waiting' → AreNoted labels (i + 1) waiting'
noted_more labels waiting waiting' i word read a (inl (e, same)) = record {
  all = λ x h. elim (cases_lt x i) [
    | inl less ↦ subst (λ (z : List ℕ). Contains z x ⊎ (get_or labels x 0 ≡ 0)) (sym same) (a.all x less)
    | inr more ↦ let here : i ≡ x = omega (arith, h, more) in inr (ap (λ (z : ℕ). get_or labels z 0) (sym here) ∙ (sym read ∙ e))
  ];
  there = λ x c. let l = a.there x (subst (λ (z : List ℕ). Contains z x) same c) in omega (arith, l);
}
noted_more labels waiting waiting' i word read a (inr pushed) = record {
  all = λ x h. elim (cases_lt x i) [
    | inl less ↦ elim (a.all x less) [ inl c ↦ inl (subst (λ (z : List ℕ). Contains z x) (sym pushed) (Contains-append_left waiting (i ∷ []) x c)) | inr e ↦ inr e ]
    | inr more ↦ let here : i ≡ x = omega (arith, h, more) in
        inl (subst (λ (z : List ℕ). Contains z x) (sym pushed) (subst (Contains (waiting ++ i ∷ [])) here (Contains-push waiting i)))
  ];
  there = λ x c. elim (Contains-push_cases waiting i x (subst (λ (z : List ℕ). Contains z x) pushed c)) [
    | inl o ↦ let l = a.there x o in omega (arith, l)
    | inr e ↦ omega (arith, e)
  ];
}

-- ---- what is passed on
no_label : (labels : List ℕ) (x label : ℕ) → get_or labels x 0 ≡ 0 → HasLabel labels x label → ⊥
no_label labels x label e h =
    let z : bit_at (get_or labels x 0) label ≡ 0 = ap (λ (v : ℕ). bit_at v label) e ∙ bit_at-zero label in
    let n : 0 ≡ 1 = sym z ∙ h in absurd (omega (arith, n))

module _ (names : ℕ → List ℕ) (labels : List ℕ) where
  pub spread_begun : (waiting : List ℕ) → AreNoted labels (length labels) waiting → IsSpreading names labels labels waiting
  spread_begun waiting a = record {
    size = refl;
    begun = λ x label h. h;
    led = λ x label h. (x, h, [], refl);
    passed = λ x. elim (cases_lt x (length labels)) [
      | inl less ↦ elim (a.all x less) [ inl c ↦ inl c | inr e ↦ inr (λ y label c h. absurd (no_label labels x label e h)) ]
      | inr past ↦ inr (λ y label c h. absurd (no_label labels x label (get_or_past labels x 0 past) h))
    ];
    there = a.there;
  }

  pub spread_next : (words words' rest waiting waiting' : List ℕ) (x : ℕ) → waiting ≡ rest ++ x ∷ [] → IsSpreading names labels words waiting
      → HasCome (get_or words x 0) (names x) words rest words' waiting' → All (λ y. y < length labels) (names x) → IsSpreading names labels words' waiting'
  spread_next words words' rest waiting waiting' x popped s h below = record {
    size = h.size ∙ s.size;
    begun = λ y label l. h.kept y label (s.begun y label l);
    led = λ y label l. elim (h.only y label l) [
      | inl o ↦ s.led y label o
      | inr i ↦ let r = s.led x label i.1 in (r.0, r.1, r.2 ++ y ∷ [], longer names r.0 r.2 x y r.3 i.0)
    ];
    passed = λ y. elim (h.changed y) [
      | inl c ↦ inl c
      | inr same ↦ elim (eqb_tells y x) [
        | inl e ↦ inr (λ z label c l. h.come z label (subst (λ (v : ℕ). Contains (names v) z) e.1 c) (subst (λ (v : ℕ). HasLabel words v label) e.1 (back y same label l)))
        | inr n ↦ elim (s.passed y) [
          | inl c ↦ elim (Contains-push_cases rest x y (subst (λ (z : List ℕ). Contains z y) popped c)) [
            | inl o ↦ inl (h.waits y o)
            | inr e ↦ absurd (n.1 (sym e))
          ]
          | inr p ↦ inr (λ z label c l. h.kept z label (p z label c (back y same label l)))
        ]
      ]
    ];
    there = λ y c. elim (h.there y c) [
      | inl o ↦ s.there y (subst (λ (z : List ℕ). Contains z y) (sym popped) (Contains-append_left rest (x ∷ []) y o))
      | inr i ↦ All-contains (λ v. v < length labels) (names x) y below i
    ];
  }
    where
      back : (y : ℕ) → get_or words' y 0 ≡ get_or words y 0 → (label : ℕ) → HasLabel words' y label → HasLabel words y label
      back y same label l = ap (λ (v : ℕ). bit_at v label) (sym same) ∙ l

  along : (words : List ℕ) → ((x y label : ℕ) → Contains (names x) y → HasLabel words x label → HasLabel words y label)
      → (label a : ℕ) (path : List ℕ) (y : ℕ) → HasLabel words a label → IsPath names a path y → HasLabel words y label
  along words closed label a [] y h p = subst (λ (z : ℕ). HasLabel words z label) p h
  along words closed label a (z ∷ zs) y h p = along words closed label z zs y (closed a z label p.0 h) p.1

  pub spread_over : (words waiting : List ℕ) → length waiting ≡ 0 → IsSpreading names labels words waiting → IsSpread names labels words
  spread_over words waiting none s = record {
    each = s.size;
    labelled = λ x label. (s.led x label, λ r. along words closed label r.0 r.2 x (s.begun r.0 label r.1) r.3);
  }
    where
      closed : (x y label : ℕ) → Contains (names x) y → HasLabel words x label → HasLabel words y label
      closed x y label c h = elim (s.passed x) [ inl w ↦ absurd (let l = w.1 in omega (arith, l, none)) | inr p ↦ p y label c h ]
