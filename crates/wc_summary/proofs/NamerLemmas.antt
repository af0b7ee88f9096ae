-- Which functions of the main module name imports, and how many imports are of an interface, step by step.
use Rattle.std.proofs.Common.{◌≡◌, ℕ, ◌+◌, ◌-◌, ◌^◌, ◌<◌, ◌≤◌, min, Bool, true, false, ◌↔◌, ◌⊎◌, cond, ◌||◌, ◌&&◌, List, [], ◌∷◌, ◌++◌, append-nil, length, length-take, take, get_or, set, length-set, nat_eq, slice_get, slice_index, true≢false, Option, Some, None, refl, sym, ◌∙◌, ap, subst, inl, inr, arith}
use Rattle.std.specs.Prelude.{count_by, replicate, slice_index_or}
use Rattle.std.specs.List.{All, filter, list_any, range_with_len}
use Rattle.std.specs.Option.{option_eq}
use Rattle.std.specs.Str.{bytes_eq}
use Rattle.std.proofs.Math.Bool.{or-true}
use Rattle.std.proofs.lemmas.Bool.{cases_Bool, cases_lt, ne_eqb}
use Rattle.std.proofs.lemmas.List.{length_push, map-id, take_more}
use Rattle.std.proofs.lemmas.List.Elements.{All-filter}
use Rattle.std.proofs.lemmas.List.Folds.{list_any-append}
use Rattle.std.proofs.lemmas.List.FromFn.{filter_of_map_range_with_len_more, get_or-range_with_len, length-range_with_len}
use Rattle.std.proofs.lemmas.List.Sums.{count_by-le-length, count_by_more_no, count_by_more_yes}
use Rattle.std.proofs.lemmas.Option.{slice_get-get_or}
use Rattle.std.specs.Int.{bit_at}
use Rattle.std.proofs.lemmas.Bool.Decides.{eqb_tells}
use Rattle.std.proofs.lemmas.List.{get_or-replicate, get_or-set_other, get_or-set_same, get_or_past, length-replicate}
use Rattle.wc_maps.proofs.ListLemmas.{slice_get_last}
use Rattle.wc_paths.proofs.CallListLemmas.{nat_eq_same}
use Rattle.wc_paths.specs.Items.{CountsValue, GraphValue, counts_of, has_item}
use Rattle.wc_paths.specs.Numbers.{item_count, number_of, numbers_in}
use Rattle.wc_paths.specs.declared.items.PathItem.{PathItem}
use Rattle.wc_paths.proofs.NumbersLemmas.{number_below}
use Rattle.wc_graph.specs.Labels.{HasLabel, IsSpread}
use Rattle.wc_summary.specs.Leads.{AreReached, is_root, is_tag}
use Rattle.wc_summary.specs.Summary.{PartsView}
use Rattle.wc_summary.specs.Entries.{EntriesView, IsChanged, interfaces_of, parts_of}
use Rattle.wc_summary.specs.Private.Entries.{counted, named_by, with_namer}
use Rattle.wc_summary.specs.Private.SummaryMain.{AreMarked, CountsEach, NotesNamed, NotesUpTo, is_named, is_namer, is_reached_at, named_at, with_by, with_count}
use Rattle.wc_summary.specs.Private.Tags.{tag_at}

-- ---- counts

count_start : (n : ℕ) (p : PartsView) → p.main.imports ≡ n → p ≡ with_count n p
count_start n p is = ap (λ (k : ℕ). with_count k p) is

pub counts_none : (es : EntriesView) → CountsEach [] es es
counts_none es = record { listed = refl; each = λ interface zero_before. count_start 0 (parts_of es interface) zero_before }

-- the place of an interface, and whether it is that of another one
tag_there : (interfaces : List (List ℕ)) (u : ℕ) → u < length interfaces → tag_at interfaces (Some u) ≡ Some (slice_index_or interfaces u [])
tag_there interfaces u within = slice_get-get_or interfaces u [] within

counted_more : (n : ℕ) (p : PartsView) → n + 1 < 2 ^ 64 → counted (with_count n p) ≡ with_count (n + 1) p
counted_more n p fits = let same : min (n + 1) (2 ^ 64 - 1) ≡ n + 1 = omega arith in ap (λ (k : ℕ). with_count k p) same

module _ (places : List (Option ℕ)) (i : ℕ) (old now new : EntriesView) (within : i < length places) (fits : length places < 2 ^ 64) (h : CountsEach (take i places) old now) where
  -- a place at which there is none
  pub counts_skipped : get_or places i None ≡ None → CountsEach (take (i + 1) places) old now
  counts_skipped none = record {
    listed = h.listed;
    each = λ interface zero_before.
        let test : Option ℕ → Bool = λ p. is_tag interface (tag_at (interfaces_of old) p) in
        let same : count_by test (take (i + 1) places) ≡ count_by test (take i places) =
        count_by_more_no test places i None within (ap test none) in
        h.each interface zero_before ∙ ap (λ (k : ℕ). with_count k (parts_of old interface)) (sym same);
  }

  -- one at which an interface is
  pub counts_more : (u : ℕ) → get_or places i None ≡ Some u → u < length (interfaces_of old) → IsChanged counted u now new → CountsEach (take (i + 1) places) old new
  counts_more u at below changed = record {
    listed = changed.listed ∙ h.listed;
    each = λ interface zero_before.
        let x : List ℕ = slice_index_or (interfaces_of old) u [] in
        let there : slice_get (interfaces_of old) u ≡ Some x = tag_there (interfaces_of old) u below in
        let test : Option ℕ → Bool = λ p. is_tag interface (tag_at (interfaces_of old) p) in
        let answer : test (get_or places i None) ≡ bytes_eq interface x = ap test at ∙ ap (is_tag interface) there in
        let few : count_by test (take i places) ≤ i = fewer test in
        let step = changed.each x interface (ap (λ l. slice_get l u) h.listed ∙ there) in
        let before = h.each interface zero_before in
        counted_one interface x test answer few (parts_of new interface) (parts_of now interface) step before;
  }
    where
      fewer : (test : Option ℕ → Bool) → count_by test (take i places) ≤ i
      fewer test = omega (arith, count_by-le-length test (take i places), length-take i places)

      counted_one : (interface x : List ℕ) (test : Option ℕ → Bool) → test (get_or places i None) ≡ bytes_eq interface x → count_by test (take i places) ≤ i
          → (after before : PartsView) → after ≡ cond (bytes_eq interface x) (counted before) before → before ≡ with_count (count_by test (take i places)) (parts_of old interface)
          → after ≡ with_count (count_by test (take (i + 1) places)) (parts_of old interface)
      counted_one interface x test answer few after before step was = elim (cases_Bool (bytes_eq interface x)) [
        | inl on ↦ (let more : count_by test (take (i + 1) places) ≡ count_by test (take i places) + 1 = count_by_more_yes test places i None within (answer ∙ on) in
            (rw on at step) ∙ (ap counted was ∙ (counted_more (count_by test (take i places)) (parts_of old interface) (omega arith)
            ∙ ap (λ (k : ℕ). with_count k (parts_of old interface)) (sym more))))
        | inr off ↦ (let same : count_by test (take (i + 1) places) ≡ count_by test (take i places) = count_by_more_no test places i None within (answer ∙ off) in
            (rw off at step) ∙ (was ∙ ap (λ (k : ℕ). with_count k (parts_of old interface)) (sym same)))
      ]

-- ---- functions

pub named_none : (owners : List (Option ℕ)) (function : ℕ) (es : EntriesView) → NotesNamed owners function [] es es
named_none owners function es = record { listed = refl; each = λ interface. refl }

-- a function that is noted again changes nothing
namer_twice : (by : List ℕ) (function : ℕ) → with_namer (with_namer by function) function ≡ with_namer by function
namer_twice by function = elim (cases_Bool (option_eq nat_eq (slice_get by (length by - 1)) (Some function))) [
  | inl on ↦ rw (on, on) refl
  | inr off ↦ rw off (let again : option_eq nat_eq (slice_get (by ++ function ∷ []) (length (by ++ function ∷ []) - 1)) (Some function) ≡ true =
      ap (λ (o : Option ℕ). option_eq nat_eq o (Some function)) (let last : length (by ++ function ∷ []) - 1 ≡ length by = (let n = length_push by function in omega (arith, n)) in
      ap (slice_get (by ++ function ∷ [])) last ∙ slice_get_last by function) ∙ nat_eq_same function in rw again refl)
]

named_twice : (function : ℕ) (p : PartsView) → named_by function (named_by function p) ≡ named_by function p
named_twice function p = ap (λ (by : List ℕ). with_by by p) (namer_twice p.main.by function)

named_either : (a b : Bool) (function : ℕ) (after before p : PartsView) → after ≡ cond b (named_by function before) before → before ≡ cond a (named_by function p) p
    → after ≡ cond (a || b) (named_by function p) p
named_either true true function after before p step was = step ∙ (ap (named_by function) was ∙ named_twice function p)
named_either true false function after before p step was = step ∙ was
named_either false true function after before p step was = step ∙ ap (named_by function) was
named_either false false function after before p step was = step ∙ was

or_none : (a : Bool) → (a || false) ≡ a
or_none true = refl
or_none false = refl

module _ (owners : List (Option ℕ)) (function : ℕ) (named : List ℕ) (i n : ℕ) (old now new : EntriesView) (within : i < length named) (at : get_or named i 0 ≡ n)
    (h : NotesNamed owners function (take i named) old now)
  where
    more : (interface : List ℕ) → is_named (interfaces_of old) owners (take (i + 1) named) interface
        ≡ (is_named (interfaces_of old) owners (take i named) interface || is_tag interface (tag_at (interfaces_of old) (slice_index_or owners n None)))
    more interface =
        let test : ℕ → Bool = λ m. is_tag interface (tag_at (interfaces_of old) (slice_index_or owners m None)) in
        ap (list_any test) (take_more named i 0 within ∙ ap (λ (m : ℕ). take i named ++ m ∷ []) at)
        ∙ (list_any-append test (take i named) (n ∷ []) ∙ ap (λ b. list_any test (take i named) || b) (or_none (test n)))

    -- an item that is no import of an interface
    pub named_skipped : slice_index_or owners n None ≡ None → NotesNamed owners function (take (i + 1) named) old now
    named_skipped none = record {
      listed = h.listed;
      each = λ interface. h.each interface
          ∙ ap (λ b. cond b (named_by function (parts_of old interface)) (parts_of old interface))
          (sym (more interface ∙ (ap (λ (p : Option ℕ). is_named (interfaces_of old) owners (take i named) interface || is_tag interface (tag_at (interfaces_of old) p)) none
          ∙ or_none (is_named (interfaces_of old) owners (take i named) interface))));
    }

    pub named_more : (u : ℕ) → slice_index_or owners n None ≡ Some u → u < length (interfaces_of old) → IsChanged (named_by function) u now new
        → NotesNamed owners function (take (i + 1) named) old new
    named_more u owned below changed = record {
      listed = changed.listed ∙ h.listed;
      each = λ interface.
          let x : List ℕ = slice_index_or (interfaces_of old) u [] in
          let there : slice_get (interfaces_of old) u ≡ Some x = tag_there (interfaces_of old) u below in
          let answer : is_tag interface (tag_at (interfaces_of old) (slice_index_or owners n None)) ≡ bytes_eq interface x =
          ap (λ (p : Option ℕ). is_tag interface (tag_at (interfaces_of old) p)) owned ∙ ap (is_tag interface) there in
          named_either (is_named (interfaces_of old) owners (take i named) interface) (bytes_eq interface x) function (parts_of new interface) (parts_of now interface) (parts_of old interface)
          (changed.each x interface (ap (λ l. slice_get l u) h.listed ∙ there)) (h.each interface)
          ∙ ap (λ b. cond b (named_by function (parts_of old interface)) (parts_of old interface))
          (sym (more interface ∙ ap (λ b. is_named (interfaces_of old) owners (take i named) interface || b) answer));
    }

-- ---- roots

pub marked_none : (c : CountsValue) (words : List ℕ) → AreMarked c [] words words
marked_none c words = record { sized = refl; at = λ n within. refl }

module _ (c : CountsValue) (roots : List PathItem) (i : ℕ) (d : PathItem) (old now : List ℕ) (within : i < length roots) (h : AreMarked c (take i roots) old now) where
  root_more : (n : ℕ) → is_root c (take (i + 1) roots) n ≡ (is_root c (take i roots) n || (has_item c (get_or roots i d) && nat_eq n (number_of c (get_or roots i d))))
  root_more n =
      let test : PathItem → Bool = λ x. has_item c x && nat_eq n (number_of c x) in
      ap (list_any test) (take_more roots i d within)
      ∙ (list_any-append test (take i roots) (get_or roots i d ∷ []) ∙ ap (λ b. list_any test (take i roots) || b) (or_none (test (get_or roots i d))))

  pub marked_skipped : has_item c (get_or roots i d) ≡ false → AreMarked c (take (i + 1) roots) old now
  marked_skipped off = record {
    sized = h.sized;
    at = λ n below. h.at n below ∙ ap (λ b. cond b 1 (slice_index old n))
        (sym (root_more n ∙ (ap (λ b. is_root c (take i roots) n || (b && nat_eq n (number_of c (get_or roots i d)))) off ∙ or_none (is_root c (take i roots) n))));
  }

  pub marked_more : (new : List ℕ) → has_item c (get_or roots i d) ≡ true → number_of c (get_or roots i d) < length old → new ≡ set now (number_of c (get_or roots i d)) 1
      → AreMarked c (take (i + 1) roots) old new
  marked_more new on below put = record {
    sized = ap length put ∙ (length-set now (number_of c (get_or roots i d)) 1 ∙ h.sized);
    at = λ n inside. ap (λ l. slice_index l n) put ∙ (elim (eqb_tells n (number_of c (get_or roots i d))) [
      | inl same ↦ (let all : is_root c (take (i + 1) roots) n ≡ true = root_more n ∙ (ap (λ b. is_root c (take i roots) n || (b && nat_eq n (number_of c (get_or roots i d)))) on
          ∙ (ap (λ b. is_root c (take i roots) n || b) same.0 ∙ or-true _)) in
          ap (λ (k : ℕ). get_or (set now (number_of c (get_or roots i d)) 1) k 0) same.1
          ∙ (get_or-set_same now (number_of c (get_or roots i d)) 1 0 (omega (arith, h.sized)) ∙ ap (λ b. cond b 1 (slice_index old n)) (sym all)))
      | inr other ↦ (let rest : is_root c (take (i + 1) roots) n ≡ is_root c (take i roots) n =
          root_more n ∙ (ap (λ b. is_root c (take i roots) n || (b && nat_eq n (number_of c (get_or roots i d)))) on
          ∙ (ap (λ b. is_root c (take i roots) n || b) other.0 ∙ or_none (is_root c (take i roots) n))) in
          get_or-set_other now (number_of c (get_or roots i d)) n 1 0 other.1 ∙ (h.at n inside ∙ ap (λ b. cond b 1 (slice_index old n)) (sym rest)))
    ]);
  }

-- the words of both lists of roots, and what is spread of them

root_below : (c : CountsValue) (roots : List PathItem) (n : ℕ) → is_root c roots n ≡ true → n < item_count c
root_below c [] n e = absurd (true≢false (sym e))
root_below c (x ∷ roots) n e = elim (cases_Bool (has_item c x)) [
  | inl on ↦ elim (eqb_tells n (number_of c x)) [
    | inl same ↦ (let below : number_of c x < item_count c = number_below c x on in omega (arith, same.1))
    | inr other ↦ root_below c roots n (rw (on, other.0) at e)
  ]
  | inr off ↦ root_below c roots n (rw off at e)
]

bits : (a b : Bool) → (bit_at (cond b 1 (cond a 1 0)) 0 ≡ 1) ↔ ((a ≡ true) ⊎ (b ≡ true))
bits true true = (λ e. inl refl, λ e. refl)
bits true false = (λ e. inl refl, λ e. refl)
bits false true = (λ e. inr refl, λ e. refl)
bits false false = (λ e. absurd (omega (arith, e)), λ e. absurd (elim e [ inl x ↦ true≢false (sym x) | inr x ↦ true≢false (sym x) ]))

module _ (g : GraphValue) (first second : List PathItem) (zeros one both words : List ℕ) (size : length zeros ≡ item_count (counts_of g))
    (none : (n : ℕ) → slice_index zeros n ≡ 0) (in_first : AreMarked (counts_of g) first zeros one) (in_second : AreMarked (counts_of g) second one both)
    (all : IsSpread (numbers_in g) both words)
  where
    word : (n : ℕ) → n < length zeros → slice_index both n ≡ cond (is_root (counts_of g) second n) 1 (cond (is_root (counts_of g) first n) 1 0)
    word n below =
        in_second.at n (omega (arith, in_first.sized))
        ∙ ap (λ (k : ℕ). cond (is_root (counts_of g) second n) 1 k) (in_first.at n below ∙ ap (λ (k : ℕ). cond (is_root (counts_of g) first n) 1 k) (none n))

    past : (n : ℕ) → length zeros ≤ n → slice_index both n ≡ 0
    past n beyond = get_or_past both n 0 (omega (arith, in_first.sized, in_second.sized))

    labelled : (n : ℕ) → HasLabel both n 0 ↔ ((is_root (counts_of g) first n ≡ true) ⊎ (is_root (counts_of g) second n ≡ true))
    labelled n = elim (cases_lt n (length zeros)) [
      | inl below ↦ subst (λ (k : ℕ). (bit_at k 0 ≡ 1) ↔ ((is_root (counts_of g) first n ≡ true) ⊎ (is_root (counts_of g) second n ≡ true))) (sym (word n below))
          (bits (is_root (counts_of g) first n) (is_root (counts_of g) second n))
      | inr beyond ↦ (
        λ e. absurd (let bad : bit_at 0 0 ≡ 1 = ap (λ (k : ℕ). bit_at k 0) (sym (past n beyond)) ∙ e in omega (arith, bad)),
        λ e. absurd (elim e [ inl x ↦ (let b : n < item_count (counts_of g) = root_below (counts_of g) first n x in omega (arith, size)) | inr x ↦ (let b : n < item_count (counts_of g) = root_below (counts_of g) second n x in omega (arith, size)) ]),
      )
    ]

    pub reached_from : AreReached g first second words
    reached_from = record {
      sized = all.each ∙ (in_second.sized ∙ (in_first.sized ∙ size));
      at = λ n. (
        λ e. (let (root, has, path, leads) = (all.labelled n 0).0 e in (root, (labelled root).0 has, path, leads)),
        λ e. (let (root, is, path, leads) = e in (all.labelled n 0).1 (root, (labelled root).1 is, path, leads)),
      );
    }

pub marked_as : (c d : CountsValue) (roots others : List PathItem) (old new : List ℕ) → c ≡ d → roots ≡ others → AreMarked c roots old new → AreMarked d others old new
marked_as c d roots others old new counts same h =
    subst (λ (z : CountsValue). AreMarked z others old new) counts (subst (λ (z : List PathItem). AreMarked c z old new) same h)

pub reached_words : (g : GraphValue) (first second : List PathItem) (zeros one both words : List ℕ) (count : ℕ) → zeros ≡ replicate count 0 → count ≡ item_count (counts_of g)
    → AreMarked (counts_of g) first zeros one → AreMarked (counts_of g) second one both → IsSpread (numbers_in g) both words → AreReached g first second words
reached_words g first second zeros one both words count is size p q all =
    reached_from g first second zeros one both words (ap length is ∙ (length-replicate count 0 ∙ size)) (λ n. ap (λ (l : List ℕ). slice_index l n) is ∙ zero_at n) p q all
  where
    zero_at : (n : ℕ) → slice_index (replicate count 0) n ≡ 0
    zero_at n = elim (cases_lt n count) [
      | inl less ↦ get_or-replicate count n 0 0 less
      | inr over ↦ get_or_past (replicate count 0) n 0 (let l = length-replicate {A = ℕ} count 0 in omega (arith, l, over))
    ]

-- ---- the functions of a module, one after another

by_none : (p : PartsView) → p.main.by ≡ [] → p ≡ with_by [] p
by_none p is = ap (λ (by : List ℕ). with_by by p) is

pub up_to_none : (g : GraphValue) (owners : List (Option ℕ)) (words : List ℕ) (es : EntriesView) → NotesUpTo g owners words 0 es es
up_to_none g owners words es = record { listed = refl; each = λ interface none. by_none (parts_of es interface) none }

-- the last of some numbers below one is not this one
not_last_below : (xs : List ℕ) (n : ℕ) → All (λ x. x < n) xs → option_eq nat_eq (slice_get xs (length xs - 1)) (Some n) ≡ false
not_last_below [] n below = refl
not_last_below (x ∷ xs) n below =
    let k : ℕ = length (x ∷ xs) - 1 in
    let within : k < length (x ∷ xs) = omega arith in
    let lower : get_or (x ∷ xs) k 0 < n = below k 0 within in
    ap (λ (o : Option ℕ). option_eq nat_eq o (Some n)) (slice_get-get_or (x ∷ xs) k 0 within) ∙ ne_eqb (get_or (x ∷ xs) k 0) n (λ e. omega (arith, e))

namer_appended : (p : ℕ → Bool) (count : ℕ) → with_namer (filter p (range_with_len 0 count)) count ≡ filter p (range_with_len 0 count) ++ count ∷ []
namer_appended p count =
    let off : option_eq nat_eq (slice_get (filter p (range_with_len 0 count)) (length (filter p (range_with_len 0 count)) - 1)) (Some count) ≡ false =
    not_last_below (filter p (range_with_len 0 count)) count (All-filter p (λ x. x < count) (range_with_len 0 count) (λ k d within. let inside : k < count = omega (arith, length-range_with_len 0 count) in
    subst (λ (x : ℕ). x < count) (sym (get_or-range_with_len 0 count k d inside)) (omega arith))) in
    rw off refl

range_more : (p : ℕ → Bool) (count : ℕ) → filter p (range_with_len 0 (count + 1)) ≡ filter p (range_with_len 0 count) ++ cond (p count) (count ∷ []) []
range_more p count =
    ap (filter p) (sym (map-id (range_with_len 0 (count + 1))))
    ∙ (filter_of_map_range_with_len_more p (λ x. x) 0 count count (omega arith)
    ∙ ap (λ z. filter p z ++ cond (p count) (count ∷ []) []) (map-id (range_with_len 0 count)))

namers_choice : (p : ℕ → Bool) (count : ℕ) (b : Bool) (q : PartsView) → p count ≡ b
    → cond b (named_by count (with_by (filter p (range_with_len 0 count)) q)) (with_by (filter p (range_with_len 0 count)) q)
    ≡ with_by (filter p (range_with_len 0 (count + 1))) q
namers_choice p count true q is =
    ap (λ (by : List ℕ). with_by by q)
    (namer_appended p count ∙ sym (range_more p count ∙ ap (λ b. filter p (range_with_len 0 count) ++ cond b (count ∷ []) []) is))
namers_choice p count false q is =
    ap (λ (by : List ℕ). with_by by q)
    (sym (range_more p count ∙ (ap (λ b. filter p (range_with_len 0 count) ++ cond b (count ∷ []) []) is ∙ append-nil (filter p (range_with_len 0 count)))))

module _ (g : GraphValue) (owners : List (Option ℕ)) (words : List ℕ) (i : ℕ) (old now : EntriesView) (h : NotesUpTo g owners words i old now) where
  pub up_to_skipped : is_reached_at g words i ≡ false → NotesUpTo g owners words (i + 1) old now
  up_to_skipped off = record {
    listed = h.listed;
    each = λ interface none.
        h.each interface none
        ∙ namers_choice (is_namer g (interfaces_of old) owners words interface) i false (parts_of old interface)
        (ap (λ b. b && is_named (interfaces_of old) owners (named_at g i) interface) off);
  }

  pub up_to_more : (new : EntriesView) → is_reached_at g words i ≡ true → NotesNamed owners i (named_at g i) now new → NotesUpTo g owners words (i + 1) old new
  up_to_more new on noted = record {
    listed = noted.listed ∙ h.listed;
    each = λ interface none.
        let names : Bool = is_named (interfaces_of old) owners (named_at g i) interface in
        noted.each interface
        ∙ (ap (λ l. cond (is_named l owners (named_at g i) interface) (named_by i (parts_of now interface)) (parts_of now interface)) h.listed
        ∙ (ap (λ (p : PartsView). cond names (named_by i p) p) (h.each interface none)
        ∙ namers_choice (is_namer g (interfaces_of old) owners words interface) i names (parts_of old interface)
        (ap (λ b. b && is_named (interfaces_of old) owners (named_at g i) interface) on)));
  }
