-- Names in ascending order, and where each is.
use Rattle.std.proofs.Common.{take-append-drop, ◌≡◌, ◌≢◌, ℕ, zero, suc, ◌+◌, ◌-◌, ◌<◌, ◌≤◌, ◌&&◌, Bool, true, false, List, [], ◌∷◌, ◌++◌, length, map, take, drop, set, get_or, Option, Some, None, inl, inr, refl, sym, ap, subst, ◌∙◌, arith}
use Rattle.std.specs.Prelude.{slice_get}
use Rattle.std.specs.Bool.{Decides}
use Rattle.std.specs.List.{Contains}
use Rattle.std.specs.List.Sorted.{IsSorted, IsSortedBy, IsNonDecreasingBy, IsPartitionPoint, IsPermutation}
use Rattle.std.specs.Cmp.{IsTotalOrder, tied_then}
use Rattle.std.specs.Cmp.Lexicographic.{slice_cmp}
use Rattle.std.specs.Option.{option_map}
use Rattle.std.specs.Ordering.{is_lt, is_eq, nat_cmp, ordering_then, ordering_reverse, ordering_index}
use Rattle.std.specs.Str.{bytes_eq}
use Rattle.std.specs.declared.cmp.Ordering.{Ordering}
use Rattle.std.specs.declared.cmp.Ordering.TheVariants.{Less, Equal, Greater}
use Rattle.std.proofs.lemmas.Bool.{true≢false, cases_eq, cases_order}
use Rattle.std.proofs.lemmas.Bool.Decides.{Decides-and, Decides-like}
use Rattle.std.proofs.lemmas.Cmp.{nat_list_cmp_total, on_total, then_total, tied_itself}
use Rattle.std.proofs.lemmas.List.{take_more, take_all, length-append, length-map, length-set, map-append, get_or_default}
use Rattle.std.proofs.lemmas.List.Elements.{Contains-push_cases, Contains-push, Contains-append_left}
use Rattle.std.proofs.lemmas.List.Sorted.{searchable_from_sorted, Contains-permutation, length_permutation, IsPermutation-sym}
use Rattle.std.proofs.lemmas.Map.Text.{is_eq-slice_cmp}
use Rattle.std.proofs.lemmas.Option.{slice_get-map, slice_get-get_or, slice_get_within, get_or_from_slice_get}
use Rattle.std.proofs.lemmas.Slice.Eq.{bytes_eq-Decides}
use Rattle.wc_maps.proofs.ListLemmas.{slice_get_last}
use Rattle.wc_dedupe.specs.Private.NamePositions.{Texts, named, names_of, NameEntry, entry_name, names_cmp, entries_cmp, Ascend, AreEntries, PushesNew, HavePositions}
use Rattle.wc_dedupe.specs.Renaming.{ImportName}

-- an entry of empty texts
abbrev pub no_entry : NameEntry
no_entry = (record { ref_ptr = (0, 0); now = [] }, record { ref_ptr = (0, 0); now = [] }, 0)

abbrev pub no_texts : Texts
no_texts = (record { ref_ptr = (0, 0); now = [] }, record { ref_ptr = (0, 0); now = [] })

-- a name by its index
pub name_of_index : (ts : List Texts) (k : ℕ) (d : Texts) → k < length ts → slice_get (names_of ts) k ≡ Some (named (get_or ts k d))
name_of_index ts k d h = slice_get-map named ts k ∙ ap (option_map named) (slice_get-get_or ts k d h)

-- texts that are tested as equal
pub same_names : (l t : Texts) → true ≡ (bytes_eq l.0.now t.0.now && bytes_eq l.1.now t.1.now) → named l ≡ named t
same_names l t e = both (bytes_eq l.0.now t.0.now) (bytes_eq l.1.now t.1.now) refl refl e
  where
    both : (a b : Bool) → bytes_eq l.0.now t.0.now ≡ a → bytes_eq l.1.now t.1.now ≡ b → true ≡ (a && b) → named l ≡ named t
    both true true p q h = let one = (bytes_eq-Decides l.0.now t.0.now).0 p in let two = (bytes_eq-Decides l.1.now t.1.now).0 q in rw (one, two) refl
    both true false p q h = absurd (true≢false h)
    both false b p q h = absurd (true≢false h)

-- elements after one is set, and of a list with more

pub slice_get_set : {X : Type 0} (xs : List X) (i : ℕ) (x : X) → i < length xs → slice_get (set xs i x) i ≡ Some x
slice_get_set [] i x h = absurd (omega (arith, h))
slice_get_set (y ∷ xs) zero x h = refl
slice_get_set (y ∷ xs) (suc i) x h = slice_get_set xs i x (omega (arith, h))

pub slice_get_set_other : {X : Type 0} (xs : List X) (i j : ℕ) (x : X) → i ≢ j → slice_get (set xs i x) j ≡ slice_get xs j
slice_get_set_other [] i j x h = refl
slice_get_set_other (y ∷ xs) zero zero x h = absurd (h refl)
slice_get_set_other (y ∷ xs) zero (suc j) x h = refl
slice_get_set_other (y ∷ xs) (suc i) zero x h = refl
slice_get_set_other (y ∷ xs) (suc i) (suc j) x h = slice_get_set_other xs i j x (λ e. h (ap suc e))

pub slice_get_more : {X : Type 0} (xs ys : List X) (i : ℕ) (x : X) → slice_get xs i ≡ Some x → slice_get (xs ++ ys) i ≡ Some x
slice_get_more [] ys i x e = cc
slice_get_more (y ∷ xs) ys zero x e = e
slice_get_more (y ∷ xs) ys (suc i) x e = slice_get_more xs ys i x e

-- the order of names

pub names_total : IsTotalOrder names_cmp
names_total = then_total (on_total (λ (n : ImportName). n.module_name) nat_list_cmp_total) (on_total (λ (n : ImportName). n.name) nat_list_cmp_total)

pub order_less : (a b : ImportName) (i j : ℕ) → is_lt (ordering_then (names_cmp b a) (nat_cmp j i)) ≡ false → (names_cmp b a ≡ Equal → ⊥) → names_cmp a b ≡ Less
order_less a b i j h differ = names_total.antisymm a b ∙ by (names_cmp b a) refl h
  where
    by : (o : Ordering) → names_cmp b a ≡ o → is_lt (ordering_then o (nat_cmp j i)) ≡ false → ordering_reverse o ≡ Less
    by Less e h = absurd (true≢false h)
    by Equal e h = absurd (differ e)
    by Greater e h = refl

pub ascend_push : (ts : List Texts) (t : Texts) → Ascend ts → ((l : Texts) → slice_get ts (length ts - 1) ≡ Some l → names_cmp (named l) (named t) ≡ Less) → Ascend (ts ++ t ∷ [])
ascend_push [] t up less = tt
ascend_push (x ∷ []) t up less = (less x refl, tt)
ascend_push (x ∷ y ∷ ts) t up less =
    let next : length (x ∷ y ∷ ts) - 1 ≡ suc (length (y ∷ ts) - 1) = omega arith in
    (up.0, ascend_push (y ∷ ts) t up.1 (λ l e. less l (subst (λ (i : ℕ). slice_get (x ∷ y ∷ ts) i ≡ Some l) (sym next) e)))

ascend_at : (ts : List Texts) → Ascend ts → (k : ℕ) (d : Texts) → k + 1 < length ts → names_cmp (named (get_or ts k d)) (named (get_or ts (k + 1) d)) ≡ Less
ascend_at [] up k d h = absurd (omega (arith, h))
ascend_at (x ∷ []) up k d h = absurd (omega (arith, h))
ascend_at (x ∷ y ∷ ts) up zero d h = up.0
ascend_at (x ∷ y ∷ ts) up (suc k) d h =
    let next : suc (k + 1) ≡ suc k + 1 = omega arith in
    subst (λ (i : ℕ). names_cmp (named (get_or (y ∷ ts) k d)) (named (get_or (x ∷ y ∷ ts) i d)) ≡ Less) next (ascend_at (y ∷ ts) up.1 k d (omega (arith, h)))

ascend_sorted : (ts : List Texts) → Ascend ts → IsSortedBy (λ a b. is_lt (names_cmp (named a) (named b))) ts
ascend_sorted ts up k d low h = rw (names_total.antisymm (named (get_or ts (k + 1) d)) (named (get_or ts k d)), ascend_at ts up k d h) refl

-- what a binary search asks
pub searchable : (ts : List Texts) (x : ImportName) → Ascend ts → IsNonDecreasingBy (λ y. ordering_index (names_cmp (named y) x)) ts
searchable ts x up = searchable_from_sorted names_total named ts x (ascend_sorted ts up)

names_tie : (a b : ImportName) → Decides (is_eq (names_cmp a b)) (a ≡ b)
names_tie a b =
    rw (← tied_then (slice_cmp nat_cmp a.module_name b.module_name) (slice_cmp nat_cmp a.name b.name), is_eq-slice_cmp a.module_name b.module_name, is_eq-slice_cmp a.name b.name)
    (Decides-like (bytes_eq a.module_name b.module_name && bytes_eq a.name b.name) both (λ e. (ap (λ (n : ImportName). n.module_name) e, ap (λ (n : ImportName). n.name) e))
    (Decides-and (bytes_eq a.module_name b.module_name) (bytes_eq a.name b.name) (bytes_eq-Decides a.module_name b.module_name) (bytes_eq-Decides a.name b.name)))
  where
    both : (a.module_name ≡ b.module_name) × (a.name ≡ b.name) → a ≡ b
    both h = ap (λ (m : List ℕ). record { module_name = m; name = a.name }) h.0 ∙ ap (λ (q : List ℕ). record { module_name = b.module_name; name = q }) h.1

pub names_equal : (a b : ImportName) → names_cmp a b ≡ Equal → a ≡ b
names_equal a b e = (names_tie a b).0 (ap is_eq e)

not_before_itself : (x : ImportName) → names_cmp x x ≡ Less → ⊥
not_before_itself x e = let h : Less ≡ Equal = sym e ∙ tied_itself names_total x in cc

later_less : (t : Texts) (ts : List Texts) → Ascend (t ∷ ts) → (q : ℕ) (x : ImportName) → slice_get (names_of ts) q ≡ Some x → names_cmp (named t) x ≡ Less
later_less t [] up q x e = cc
later_less t (y ∷ ts) up zero x e = let is : named y ≡ x = cc in subst (λ (z : ImportName). names_cmp (named t) z ≡ Less) is up.0
later_less t (y ∷ ts) up (suc q) x e = names_total.trans (named t) (named y) x up.0 (later_less y ts up.1 q x e)

ascend_tail : (t : Texts) (ts : List Texts) → Ascend (t ∷ ts) → Ascend ts
ascend_tail t [] up = tt
ascend_tail t (y ∷ ts) up = up.1

-- a name is in one position
pub one_position : (ts : List Texts) → Ascend ts → (p q : ℕ) (x : ImportName) → slice_get (names_of ts) p ≡ Some x → slice_get (names_of ts) q ≡ Some x → p ≡ q
one_position [] up p q x a b = cc
one_position (t ∷ ts) up zero zero x a b = refl
one_position (t ∷ ts) up zero (suc q) x a b = let is : named t ≡ x = cc in absurd (not_before_itself x (subst (λ (z : ImportName). names_cmp z x ≡ Less) is (later_less t ts up q x b)))
one_position (t ∷ ts) up (suc p) zero x a b = let is : named t ≡ x = cc in absurd (not_before_itself x (subst (λ (z : ImportName). names_cmp z x ≡ Less) is (later_less t ts up p x a)))
one_position (t ∷ ts) up (suc p) (suc q) x a b = ap suc (one_position ts (ascend_tail t ts up) p q x a b)

-- where a binary search finds none, the name is none of the list
pub absent : (ts : List Texts) (x : ImportName) (p : ℕ) → IsPartitionPoint (λ y. names_cmp (named y) x ≡ Less) (λ y. names_cmp (named y) x ≡ Greater) ts p → ¬ Contains (names_of ts) x
absent ts x p parts c = by (slice_get ts c.0) refl
  where
    there : slice_get (names_of ts) c.0 ≡ Some x
    there = slice_get-get_or (names_of ts) c.0 x c.1 ∙ ap Some c.2

    by : (o : Option Texts) → slice_get ts c.0 ≡ o → ⊥
    by None e = let none : None ≡ Some x = sym (slice_get-map named ts c.0 ∙ ap (option_map named) e) ∙ there in cc
    by (Some t) e =
        let both : Some (named t) ≡ Some x = sym (slice_get-map named ts c.0 ∙ ap (option_map named) e) ∙ there in
        let same : named t ≡ x = cc in
        let at : get_or ts c.0 t ≡ t = get_or_from_slice_get ts c.0 t t e in
        let tie : names_cmp (named (get_or ts c.0 t)) x ≡ Equal = subst (λ (z : Texts). names_cmp (named z) x ≡ Equal) (sym at) (subst (λ (z : ImportName). names_cmp z x ≡ Equal) (sym same) (tied_itself names_total x)) in
        elim (cases_order c.0 p) [
          | inl is ↦ after t tie (omega (arith, is))
          | inr distinct ↦ elim distinct [
            | inl less ↦ let low : Less ≡ Equal = sym (parts.0 c.0 t (omega arith) less) ∙ tie in cc
            | inr more ↦ after t tie (omega (arith, more))
          ]
        ]
      where
        after : (t : Texts) → names_cmp (named (get_or ts c.0 t)) x ≡ Equal → p ≤ c.0 → ⊥
        after t tie above = let high : Greater ≡ Equal = sym (parts.1 c.0 t above (omega (arith, c.1, length-map ts named))) ∙ tie in cc

-- what is there after a name was appended where it is not the last

pub record IsAfterPush (old more : List Texts) (t : Texts) : Type 0 where
  pub some : 0 < length more
  pub last : slice_get (names_of more) (length more - 1) ≡ Some (named t)
  pub last_is : (l : Texts) → slice_get more (length more - 1) ≡ Some l → named l ≡ named t
  pub stays : (p : ℕ) (x : ImportName) → slice_get (names_of old) p ≡ Some x → slice_get (names_of more) p ≡ Some x

pushed : (old : List Texts) (t : Texts) → IsAfterPush old (old ++ t ∷ []) t
pushed old t =
    let at : length (old ++ t ∷ []) - 1 ≡ length old = omega (arith, length-append old (t ∷ [])) in
    record {
      some = omega (arith, length-append old (t ∷ []));
      last = rw at (slice_get-map named (old ++ t ∷ []) (length old) ∙ ap (option_map named) (slice_get_last old t));
      last_is = λ l e. let same : Some t ≡ Some l = sym (slice_get_last old t) ∙ (rw at at e) in let is : t ≡ l = cc in ap named (sym is);
      stays = λ p x e. subst (λ (ns : List ImportName). slice_get ns p ≡ Some x) (sym (map-append named old (t ∷ []))) (slice_get_more (names_of old) (named t ∷ []) p x e);
    }

pub after_push : (old more : List Texts) (t : Texts) → PushesNew old more t → IsAfterPush old more t
after_push old more t (inl h) = subst (λ (m : List Texts). IsAfterPush old m t) (sym h.3) (record {
  some = let within = slice_get_within old (length old - 1) h.0 h.1 in omega (arith, within);
  last = slice_get-map named old (length old - 1) ∙ ap (option_map named) h.1 ∙ ap Some h.2;
  last_is = λ l e. let same : Some h.0 ≡ Some l = sym h.1 ∙ e in let is : h.0 ≡ l = cc in ap named (sym is) ∙ h.2;
  stays = λ p x e. e;
})
after_push old more t (inr h) = subst (λ (m : List Texts). IsAfterPush old m t) (sym h.1) (pushed old t)

-- the walk over entries in order, as far as its first k

pub record IsWalked (entries : List NameEntry) (k : ℕ) (distinct : List Texts) (positions : List ℕ) : Type 0 where
  pub wide : length positions ≡ length entries
  pub up : Ascend distinct
  pub end : (l : Texts) → slice_get distinct (length distinct - 1) ≡ Some l → (0 < k) × ((d : NameEntry) → named l ≡ entry_name (get_or entries (k - 1) d))
  pub put : (e : NameEntry) → Contains (take k entries) e → (p : ℕ) × (slice_get positions e.2 ≡ Some p) × (slice_get (names_of distinct) p ≡ Some (entry_name e))

pub walk_start : (entries : List NameEntry) (positions : List ℕ) → length positions ≡ length entries → IsWalked entries 0 [] positions
walk_start entries positions wide = record { wide = wide; up = tt; end = λ l e. cc; put = λ e c. absurd (omega (arith, c.1)) }

module _ (names : List ImportName) (entries : List NameEntry) (k : ℕ) (e : NameEntry) (all : AreEntries names (length names) entries) (sorted : IsSorted entries_cmp entries)
    (lt : k < length entries) (is : e ≡ get_or entries k e) (distinct more : List Texts) (positions : List ℕ) (walk : IsWalked entries k distinct positions) (push : PushesNew distinct more (e.0, e.1)) where
  there : Contains entries e
  there = (k, lt, sym is)

  in_range : e.2 < length positions
  in_range = omega (arith, slice_get_within names e.2 (entry_name e) (all.names e there), all.as_long, walk.wide)

  -- the last name is before that of a later entry
  less : (l : Texts) → slice_get distinct (length distinct - 1) ≡ Some l → (named l ≢ entry_name e) → names_cmp (named l) (entry_name e) ≡ Less
  less l last differ =
      let some = (walk.end l last).0 in
      let before = (walk.end l last).1 e in
      let next : k - 1 + 1 ≡ k = omega (arith, some) in
      let rises = sorted (k - 1) e (omega arith) (omega (arith, some, lt)) in
      subst (λ (z : ImportName). names_cmp z (entry_name e) ≡ Less) (sym before)
      (order_less (entry_name (get_or entries (k - 1) e)) (entry_name e) (get_or entries (k - 1) e).2 e.2
      (rw (next, ← is) at rises)
      (λ tie. differ (before ∙ sym (names_equal (entry_name e) (entry_name (get_or entries (k - 1) e)) tie))))

  up_more : Ascend more
  up_more = elim push [
    | inl h ↦ subst (λ (m : List Texts). Ascend m) (sym h.3) walk.up
    | inr h ↦ subst (λ (m : List Texts). Ascend m) (sym h.1) (ascend_push distinct (e.0, e.1) walk.up (λ l last. less l last (h.0 l last)))
  ]

  pub walk_more : IsWalked entries (k + 1) more (set positions e.2 (length more - 1))
  walk_more =
      let after = after_push distinct more (e.0, e.1) push in
      record {
        wide = length-set positions e.2 (length more - 1) ∙ walk.wide;
        up = up_more;
        end = λ l last. (omega arith, λ d. after.last_is l last ∙ ap entry_name (is ∙ same_at d));
        put = λ x c. elim (cases_eq e.2 x.2) [
          | inl same ↦
              let name : entry_name e ≡ entry_name x = one_name x (anywhere x c) same in
              (length more - 1, subst (λ (i : ℕ). slice_get (set positions e.2 (length more - 1)) i ≡ Some (length more - 1)) same (slice_get_set positions e.2 (length more - 1) in_range), after.last ∙ ap Some name)
          | inr other ↦ elim (Contains-push_cases (take k entries) e x (split x c)) [
            | inl before ↦
                let old = walk.put x before in
                (old.0, slice_get_set_other positions e.2 x.2 (length more - 1) other ∙ old.1, after.stays old.0 (entry_name x) old.2)
            | inr here ↦ absurd (other (ap (λ (z : NameEntry). z.2) here))
          ]
        ];
      }
    where
      same_at : (d : NameEntry) → get_or entries k e ≡ get_or entries (k + 1 - 1) d
      same_at d = get_or_default entries k e d lt ∙ ap (λ (i : ℕ). get_or entries i d) (let same : k ≡ k + 1 - 1 = omega arith in same)

      split : (x : NameEntry) → Contains (take (k + 1) entries) x → Contains (take k entries ++ e ∷ []) x
      split x c = subst (λ (es : List NameEntry). Contains es x) (take_more entries k e lt ∙ ap (λ (z : NameEntry). take k entries ++ z ∷ []) (sym is)) c

      anywhere : (x : NameEntry) → Contains (take (k + 1) entries) x → Contains entries x
      anywhere x c = subst (λ (es : List NameEntry). Contains es x) (take-append-drop (k + 1) entries) (Contains-append_left (take (k + 1) entries) (drop (k + 1) entries) x c)

      one_name : (x : NameEntry) → Contains entries x → e.2 ≡ x.2 → entry_name e ≡ entry_name x
      one_name x c same =
          let a = all.names e there in
          let b = all.names x c in
          let both : Some (entry_name e) ≡ Some (entry_name x) = sym a ∙ ap (λ (i : ℕ). slice_get names i) same ∙ b in
          cc

pub walk_at : (names : List ImportName) (entries : List NameEntry) (k : ℕ) (d : NameEntry) → AreEntries names (length names) entries → IsSorted entries_cmp entries → k < length entries → (distinct more : List Texts) (positions : List ℕ) → IsWalked entries k distinct positions
    → PushesNew distinct more ((get_or entries k d).0, (get_or entries k d).1) → IsWalked entries (k + 1) more (set positions (get_or entries k d).2 (length more - 1))
walk_at names entries k d all sorted lt distinct more positions walk push =
    walk_more names entries k (get_or entries k d) all sorted lt (get_or_default entries k d (get_or entries k d) lt) distinct more positions walk push

pub index_within : (names : List ImportName) (entries : List NameEntry) (k : ℕ) (d : NameEntry) → AreEntries names (length names) entries → k < length entries → (get_or entries k d).2 < length entries
index_within names entries k d all lt =
    let there : Contains entries (get_or entries k d) = (k, lt, get_or_default entries k (get_or entries k d) d lt) in
    omega (arith, slice_get_within names (get_or entries k d).2 (entry_name (get_or entries k d)) (all.names (get_or entries k d) there), all.as_long)

pub walk_end : (names : List ImportName) (entries : List NameEntry) (distinct : List Texts) (positions : List ℕ) → AreEntries names (length names) entries → IsWalked entries (length entries) distinct positions → HavePositions names (names_of distinct) positions
walk_end names entries distinct positions all walk = record {
  as_long = walk.wide ∙ all.as_long;
  found = λ i n is.
      let e = all.all i (slice_get_within names i n is) in
      let put = walk.put e.0 (subst (λ (es : List NameEntry). Contains es e.0) (sym (take_all (length entries) entries (omega arith))) e.1) in
      let both : Some (entry_name e.0) ≡ Some n = sym (all.names e.0 e.1) ∙ ap (λ (j : ℕ). slice_get names j) e.2 ∙ is in
      (put.0, subst (λ (j : ℕ). slice_get positions j ≡ Some put.0) e.2 put.1, put.2 ∙ both);
}

-- entries that are made one after another, and sorted

pub entries_more : (names : List ImportName) (k : ℕ) (entries : List NameEntry) (e : NameEntry) → e.2 ≡ k → slice_get names k ≡ Some (entry_name e) → AreEntries names k entries → AreEntries names (k + 1) (entries ++ e ∷ [])
entries_more names k entries e at name made = record {
  as_long = length-append entries (e ∷ []) ∙ ap (λ n. n + 1) made.as_long;
  names = λ x c. elim (Contains-push_cases entries e x c) [
    | inl before ↦ made.names x before
    | inr here ↦ subst (λ (z : NameEntry). slice_get names z.2 ≡ Some (entry_name z)) here (ap (λ (j : ℕ). slice_get names j) at ∙ name)
  ];
  all = λ i h. elim (cases_eq i k) [
    | inl same ↦ (e, Contains-push entries e, at ∙ sym same)
    | inr other ↦ let old = made.all i (omega (arith, h, other)) in (old.0, Contains-append_left entries (e ∷ []) old.0 old.1, old.2)
  ];
}

pub entries_sorted : (names : List ImportName) (k : ℕ) (xs ys : List NameEntry) → IsPermutation xs ys → AreEntries names k xs → AreEntries names k ys
entries_sorted names k xs ys moved made = record {
  as_long = length_permutation xs ys moved ∙ made.as_long;
  names = λ e c. made.names e (Contains-permutation ys xs e (IsPermutation-sym xs ys moved) c);
  all = λ i h. let old = made.all i h in (old.0, Contains-permutation xs ys old.0 moved old.1, old.2);
}
