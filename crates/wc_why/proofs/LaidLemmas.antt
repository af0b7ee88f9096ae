-- A module of a tree, item after item; and the names of its functions.
use Rattle.std.proofs.Common.{◌≡◌, ℕ, zero, suc, ◌+◌, ◌<◌, List, [], ◌∷◌, ◌++◌, length, map, take, get_or, Bool, true, false, ◌||◌, cond, nat_eq, Option, Some, None, refl, sym, ◌∙◌, ap, subst, inl, inr, arith, append_assoc, append-nil}
use Rattle.std.specs.Prelude.{Contains, filter}
use Rattle.std.specs.List.{filter_map, list_any, slice_get}
use Rattle.std.specs.Map.{lookup}
use Rattle.std.specs.Option.{option_map, option_to_list}
use Rattle.std.proofs.lemmas.Bool.{eqb-true}
use Rattle.std.proofs.lemmas.Cmp.{nat_eq_equiv}
use Rattle.std.proofs.lemmas.List.{length-map, length_push, map-append, take-append-le, take_all}
use Rattle.std.proofs.lemmas.List.Elements.{filter-append, filter_map-append}
use Rattle.std.proofs.lemmas.Option.{slice_get_within}
use Rattle.wc_graph.proofs.ChainTreeLemmas.{push_cases}
use Rattle.wc_graph.proofs.ListLemmas.{get_front, get_last, in_filter}
use Rattle.wc_read.specs.Names.{GlobalNameValue, is_wanted}
use Rattle.wc_why.specs.Component.{AreNames, IsLaid, ShownView, all_functions, functions_of, callers_at, callers_of, caller_named, first_three, laid_item, root_of, roots_of}
use Rattle.wc_why.specs.Paths.{joined}
use Rattle.wc_why.specs.Texts.{name_at, name_of}
use Rattle.wc_why.specs.Tree.{TreeItemView, TreeModuleView, TreeRootView}
use Rattle.wc_why.specs.Private.Modules.{shown_view}
use Rattle.wc_why.specs.declared.layout.ShownItem.{ShownItem}
use Rattle.wc_why.proofs.ViewLemmas.{view_more}
use Rattle.wc_why.specs.Private.Layout.{AreNamesBy, IsItemPut, indices_of, is_index, item_after}

pub joined_append : {X : Type 0} (xs ys : List (List X)) → joined (xs ++ ys) ≡ joined xs ++ joined ys
joined_append [] ys = refl
joined_append (x ∷ xs) ys = ap (λ l. x ++ l) (joined_append xs ys) ∙ sym (append_assoc x (joined xs) (joined ys))

pub joined_more : {A X : Type 0} (f : A → List X) (xs : List A) (x : A) → joined (map f (xs ++ x ∷ [])) ≡ joined (map f xs) ++ f x
joined_more f xs x =
    ap joined (map-append f xs (x ∷ [])) ∙ (joined_append (map f xs) (f x ∷ []) ∙ ap (λ l. joined (map f xs) ++ l) (append-nil (f x)))

module _ (names : List GlobalNameValue) (adapter : Option (List ℕ)) (shown : List ShownView) (s : ShownView) (old new : TreeModuleView) (laid : IsLaid names adapter shown old)
    (put : IsItemPut names s old new) where
  one_root : filter_map root_of (s ∷ []) ≡ option_to_list s.root
  one_root = by s.root refl
    where
      by : (o : Option TreeRootView) → s.root ≡ o → filter_map root_of (s ∷ []) ≡ option_to_list o
      by None e = rw e refl
      by (Some r) e = rw e refl

  abbrev with : ℕ → ℕ → TreeItemView
  with roots callers = record {
    item = s.item;
    name = name_of names s.item;
    root = option_map (λ (r : TreeRootView). roots) s.root;
    from = s.from;
    callers = callers_at callers s.called;
    only = s.only;
  }

  last_item : item_after names old s ≡ laid_item names shown s
  last_item =
      let roots : length old.roots ≡ length (roots_of shown) = ap length laid.roots in
      let callers : length old.callers ≡ length (callers_of shown) = ap length laid.callers ∙ length-map (callers_of shown) (caller_named names) in
      ap (λ k. with k (length old.callers)) roots ∙ ap (with (length (roots_of shown))) callers

  pub laid_more : IsLaid names adapter (shown ++ s ∷ []) new
  laid_more = record {
    named = put.adapter ∙ laid.named;
    roots = put.roots ∙ (ap (λ l. l ++ option_to_list s.root) laid.roots
        ∙ sym (filter_map-append root_of shown (s ∷ []) ∙ ap (λ l. roots_of shown ++ l) one_root));
    callers = put.callers ∙ (ap (λ l. l ++ map (caller_named names) (first_three s)) laid.callers
        ∙ sym (ap (map (caller_named names)) (joined_more first_three shown s) ∙ map-append (caller_named names) (callers_of shown) (first_three s)));
    each = ap length put.items ∙ (length_push old.items (item_after names old s) ∙ (ap (λ k. k + 1) laid.each ∙ sym (length_push shown s)));
    items = λ i x e. elim (push_cases shown s i x e) [
      | inl before ↦
          let lt = slice_get_within shown i x before in
          ap (λ l. slice_get l i) put.items
          ∙ (get_front old.items (item_after names old s ∷ []) i (laid_item names (take i shown) x) (laid.items i x before)
          ∙ ap (λ l. Some (laid_item names l x)) (sym (take-append-le i shown (s ∷ []) (omega (arith, lt)))))
      | inr last ↦
          let (is, same) = last in
          let len : length old.items ≡ i = laid.each ∙ sym is in
          let front : take i (shown ++ s ∷ []) ≡ shown = take-append-le i shown (s ∷ []) (omega (arith, is)) ∙ take_all i shown (omega (arith, is)) in
          ap (λ l. slice_get l i) put.items
          ∙ (subst (λ k. slice_get (old.items ++ item_after names old s ∷ []) k ≡ Some (item_after names old s)) len (get_last old.items (item_after names old s))
          ∙ (ap (λ y. Some y) last_item ∙ (ap (λ y. Some (laid_item names shown y)) (sym same) ∙ ap (λ l. Some (laid_item names l x)) (sym front))))
    ];
  }

-- names that are wanted are found among those that are kept
any_of : (n : ℕ) (xs : List ℕ) → Contains xs n → list_any (nat_eq n) xs ≡ true
any_of n [] (k, lt, e) = absurd (omega (arith, lt))
any_of n (x ∷ xs) (zero, lt, e) = rw (ap (nat_eq n) (let same : x ≡ n = e in same) ∙ nat_eq_equiv.refl n) refl
any_of n (x ∷ xs) (suc k, lt, e) = by (nat_eq n x) (any_of n xs (k, omega (arith, lt), e))
  where
    by : (b : Bool) → list_any (nat_eq n) xs ≡ true → (b || list_any (nat_eq n) xs) ≡ true
    by true h = refl
    by false h = h

kept_name : (wanted : List ℕ) (n : ℕ) (all : List GlobalNameValue) → list_any (nat_eq n) wanted ≡ true → lookup (nat_eq n) (filter (is_wanted wanted) all) ≡ lookup (nat_eq n) all
kept_name wanted n [] h = refl
kept_name wanted n (e ∷ all) h = by (is_wanted wanted e) (nat_eq n e.0) refl refl (kept_name wanted n all h)
  where
    by : (kept here : Bool) → is_wanted wanted e ≡ kept → nat_eq n e.0 ≡ here → lookup (nat_eq n) (filter (is_wanted wanted) all) ≡ lookup (nat_eq n) all
        → lookup (nat_eq n) (filter (is_wanted wanted) (e ∷ all)) ≡ lookup (nat_eq n) (e ∷ all)
    by true true k is rest = rw (k, is) refl
    by true false k is rest = rw (k, is) rest
    by false true k is rest =
        absurd (let same : n ≡ e.0 = eqb-true n e.0 is in let no : true ≡ false = sym h ∙ (ap (λ m. list_any (nat_eq m) wanted) same ∙ k) in cc)
    by false false k is rest = rw (k, is) rest

pub names_are : (bytes functions wanted : List ℕ) (names : List GlobalNameValue) → wanted ≡ indices_of functions → AreNamesBy bytes wanted names → AreNames bytes functions names
names_are bytes functions wanted names are (inl (all, given, is)) = inl (all, given, λ n c. by n c (is_index n) refl)
  where
    by : (n : ℕ) → Contains functions n → (b : Bool) → is_index n ≡ b → name_at names n ≡ name_at all n
    by n c true e =
        let there : Contains wanted n = subst (λ l. Contains l n) (sym are) (in_filter is_index functions n c e) in
        ap (λ b. cond b (lookup (nat_eq n) names) None) e
        ∙ (ap (lookup (nat_eq n)) is ∙ (kept_name wanted n all (any_of n wanted there) ∙ sym (ap (λ b. cond b (lookup (nat_eq n) all) None) e)))
    by n c false e = ap (λ b. cond b (lookup (nat_eq n) names) None) e ∙ sym (ap (λ b. cond b (lookup (nat_eq n) all) None) e)
names_are bytes functions wanted names are (inr none) = inr none

-- the functions that are shown, one item after another
pub functions_more : (items : List ShownItem) (i : ℕ) (d : ShownItem) (old new : List ℕ) → i < length items → new ≡ old ++ indices_of (functions_of (shown_view (get_or items i d)))
    → old ≡ indices_of (all_functions (map shown_view (take i items))) → new ≡ indices_of (all_functions (map shown_view (take (i + 1) items)))
functions_more items i d old new lt step before =
    let more : all_functions (map shown_view (take (i + 1) items)) ≡ all_functions (map shown_view (take i items)) ++ functions_of (shown_view (get_or items i d)) =
    ap all_functions (view_more shown_view items i d lt) ∙ joined_more functions_of (map shown_view (take i items)) (shown_view (get_or items i d)) in
    step
    ∙ (ap (λ l. l ++ indices_of (functions_of (shown_view (get_or items i d)))) before
    ∙ sym (ap indices_of more ∙ filter-append is_index (all_functions (map shown_view (take i items))) (functions_of (shown_view (get_or items i d)))))
