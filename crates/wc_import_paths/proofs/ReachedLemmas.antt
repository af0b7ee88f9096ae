-- Functions to which roots lead, as they are marked.
use Rattle.std.proofs.Common.{◌≡◌, ◌∙◌, ℕ, zero, suc, replicate, ◌+◌, ◌<◌, Bool, true, false, ◌&&◌, ◌||◌, List, [], ◌∷◌, length, take, get_or, ap, refl, subst, sym, inl, inr}
use Rattle.std.specs.Prelude.{Contains, ◌↔◌, nat_lt, All, slice_index_or}
use Rattle.std.proofs.Math.Bool.{or-false}
use Rattle.std.proofs.lemmas.Bool.{and_from, and_parts, cases_Bool, eqb-true, or_cases, or_left}
use Rattle.std.proofs.lemmas.List.{take_more}
use Rattle.std.proofs.lemmas.List.Folds.{list_any-append, list_any_at}
use Rattle.std.specs.List.{list_any}
use Rattle.wc_read.specs.declared.operators.Space.TheVariants.{Types, Funcs, Tables, Memories, Globals}
use Rattle.wc_maps.proofs.ListLemmas.{contains_head, contains_tail}
use Rattle.wc_graph.specs.Reached.{IsReachedFrom}
use Rattle.wc_paths.proofs.CallListLemmas.{nat_eq_same}
use Rattle.wc_paths.specs.Callers.{AreReached, is_reached}
use Rattle.wc_paths.specs.Counts.{counts_value}
use Rattle.wc_paths.specs.Items.{CountsValue, GraphValue, counts_of}
use Rattle.wc_paths.specs.Numbers.{item_at, item_count, number_of, numbers_in, numbers_of}
use Rattle.wc_paths.specs.Paths.{AreClosed, IsFaultFrom, IsReachedIn, IsReachedInAny}
use Rattle.wc_graph.specs.Search.{IsTreeOf}
use Rattle.wc_graph.specs.declared.tree.Tree.{Tree}
use Rattle.wc_why.specs.Rows.{row_in}
use Rattle.wc_paths.specs.declared.paths.PathFault.{PathFault}
use Rattle.wc_paths.specs.declared.paths.PathFault.TheVariants.{LiveBody}
use Rattle.wc_paths.specs.declared.items.PathItem.{PathItem}
use Rattle.wc_paths.specs.declared.items.PathItem.TheVariants.{Item, Elements, Data}
use Rattle.wc_paths.proofs.NumbersLemmas.{item_back}
use Rattle.wc_paths.proofs.PathLemmas.{fault_of, item_reached, items_closed, number_reached, numbers_below, reached_there}
use Rattle.wc_import_paths.specs.Rows.{AreRowsFor}
use Rattle.wc_import_paths.specs.declared.rows.ModuleRows.{ModuleRows}
use Rattle.wc_import_paths.proofs.RowLemmas.{rows_back, rows_over, rows_within}
use Rattle.wc_import_paths.specs.Private.Reached.{AreMarked, IsFaultOf, IsFound, Marks, is_function, is_function_at, marks}

-- one number more
three : (a b l x : Bool) → ((a || (l && b)) || (l && x)) ≡ (a || (l && (b || x)))
three true b l x = refl
three false true true x = refl
three false false true x = refl
three false b false x = refl

pub marks_next : (c : CountsValue) (numbers : List ℕ) (k d : ℕ) (old now new : List Bool) → k < length numbers → length now ≡ length old
    → Marks c (take k numbers) old now → marks (item_at c (get_or numbers k d)) now new → Marks c (take (k + 1) numbers) old new
marks_next c numbers k d old now new lt same h m n =
    let any = list_any (is_function_at c n) in
    let x = is_function_at c n (get_or numbers k d) in
    m n
    ∙ ((λ t. h n t || (nat_lt n (same t) && x))
    ∙ (three (is_reached old n) (any (take k numbers)) (nat_lt n (length old)) x
    ∙ ap (λ b. is_reached old n || (nat_lt n (length old) && b))
    (sym (ap any (take_more numbers k d lt) ∙ (list_any-append (is_function_at c n) (take k numbers) (get_or numbers k d ∷ [])
    ∙ ap (λ b. any (take k numbers) || b) (or-false x))))))

pub no_marks : (c : CountsValue) (old : List Bool) → Marks c [] old old
no_marks c old n = same (is_reached old n) (nat_lt n (length old))
  where
    same : (a l : Bool) → a ≡ (a || (l && false))
    same true l = refl
    same false true = refl
    same false false = refl

-- a test that one of some numbers passes
any_has : (p : ℕ → Bool) (xs : List ℕ) → list_any p xs ≡ true → (x : ℕ) × Contains xs x × (p x ≡ true)
any_has p [] h = let bad : false ≡ true = h in absurd cc
any_has p (x ∷ xs) h = elim (cases_Bool (p x)) [
  | inl yes_it ↦ (x, contains_head xs x, yes_it)
  | inr no_it ↦ let rest = any_has p xs (sym (ap (λ b. b || list_any p xs) no_it) ∙ h) in (rest.0, contains_tail x xs rest.0 rest.1, rest.2)
]

has_any : (p : ℕ → Bool) (xs : List ℕ) (x : ℕ) → Contains xs x → p x ≡ true → list_any p xs ≡ true
has_any p xs x (k, lt, e) is = list_any_at p xs k x lt (ap p e ∙ is)

function_is : (n : ℕ) (x : PathItem) → is_function n x ≡ true → x ≡ Item Funcs n
function_is n (Item Funcs m) e = ap (λ z. Item Funcs z) (sym (eqb-true n m e))
function_is n (Item Types m) e = let bad : false ≡ true = e in absurd cc
function_is n (Item Tables m) e = let bad : false ≡ true = e in absurd cc
function_is n (Item Memories m) e = let bad : false ≡ true = e in absurd cc
function_is n (Item Globals m) e = let bad : false ≡ true = e in absurd cc
function_is n (Elements m) e = let bad : false ≡ true = e in absurd cc
function_is n (Data m) e = let bad : false ≡ true = e in absurd cc

-- the functions of what two lists of roots reach
module _ (g : GraphValue) (first second : List PathItem) (f s : List ℕ) (are_first : IsFound g first f) (are_second : IsFound g second s) (v : List Bool)
    (marked : AreMarked (counts_of g) f s v) (n : ℕ)
  where
    abbrev c : CountsValue
    c = counts_of g

    in_list : (roots : List PathItem) (found : List ℕ) → IsFound g roots found → list_any (is_function_at c n) found ≡ true → IsReachedIn g roots (Item Funcs n)
    in_list roots found are h =
        let one = any_has (is_function_at c n) found h in
        subst (IsReachedIn g roots) (function_is n (item_at c one.0) one.2) (item_reached g roots one.0 ((are one.0).0 one.1))

    of_list : (roots : List PathItem) (found : List ℕ) → IsFound g roots found → IsReachedIn g roots (Item Funcs n)
        → (nat_lt n c.funcs ≡ true) × (list_any (is_function_at c n) found ≡ true)
    of_list roots found are r =
        let there = reached_there g roots (Item Funcs n) r in
        let x = number_of c (Item Funcs n) in (
          there,
          has_any (is_function_at c n) found x ((are x).1 (number_reached g roots (Item Funcs n) r))
              (ap (is_function n) (item_back c (Item Funcs n) there) ∙ nat_eq_same n),
        )

    pub reached_are : (is_reached v n ≡ true) ↔ IsReachedInAny g first second (Item Funcs n)
    reached_are = (
      (λ h.
          let both = and_parts (nat_lt n c.funcs) (list_any (is_function_at c n) f || list_any (is_function_at c n) s) (sym (marked n) ∙ h) in
          elim (or_cases (list_any (is_function_at c n) f) (list_any (is_function_at c n) s) both.1) [
            | inl one ↦ inl (in_list first f are_first one)
            | inr two ↦ inr (in_list second s are_second two)
          ]),
      (λ r. marked n ∙ back r),
    )
      where
        back : IsReachedInAny g first second (Item Funcs n)
            → (nat_lt n c.funcs && (list_any (is_function_at c n) f || list_any (is_function_at c n) s)) ≡ true
        back (inl r) =
            let h = of_list first f are_first r in
            and_from (nat_lt n c.funcs) (list_any (is_function_at c n) f || list_any (is_function_at c n) s) h.0
            (or_left (list_any (is_function_at c n) f) (list_any (is_function_at c n) s) h.1)
        back (inr r) =
            let h = of_list second s are_second r in
            and_from (nat_lt n c.funcs) (list_any (is_function_at c n) f || list_any (is_function_at c n) s) h.0
            (right (list_any (is_function_at c n) f) (list_any (is_function_at c n) s) h.1)
          where
            right : (a b : Bool) → b ≡ true → (a || b) ≡ true
            right true b h = refl
            right false b h = h

-- the functions of two lists of numbers, of so many
pub both_marked : (c : CountsValue) (first second : List ℕ) (none middle all : List Bool) → ((n : ℕ) → is_reached none n ≡ false) → length none ≡ c.funcs
    → length middle ≡ length none → Marks c first none middle → Marks c second middle all → AreMarked c first second all
both_marked c first second none middle all off sized same a b n =
    b n
    ∙ ((λ t. (a n ∙ ap (λ z. z || (nat_lt n (length none) && list_any (is_function_at c n) first)) (off n)) t
    || (nat_lt n (same t) && list_any (is_function_at c n) second))
    ∙ (join (nat_lt n (length none)) (list_any (is_function_at c n) first) (list_any (is_function_at c n) second)
    ∙ ap (λ z. nat_lt n z && (list_any (is_function_at c n) first || list_any (is_function_at c n) second)) sized))
  where
    join : (l a b : Bool) → ((false || (l && a)) || (l && b)) ≡ (l && (a || b))
    join true a b = refl
    join false a b = refl

pub reached_by : (g : GraphValue) (r : ModuleRows) → AreRowsFor g r → (first second : List PathItem) (f s : List ℕ) → IsFound g first f → IsFound g second s
    → (xs : List ℕ) → xs ≡ f → (ys : List ℕ) → ys ≡ s → (v : List Bool) → AreMarked (counts_value r.counts) xs ys v → AreReached g first second v
reached_by g r h first second f s are_first are_second xs ex ys ey v marked n =
    reached_are g first second f s are_first are_second v (λ k. marked k ∙ (λ t. nat_lt k (h.counted t).funcs
    && (list_any (is_function_at (h.counted t) k) (ex t) || list_any (is_function_at (h.counted t) k) (ey t)))) n

-- what a list of roots reaches, by rows

pub found_by : (g : GraphValue) (r : ModuleRows) (h : AreRowsFor g r) (roots : List PathItem) (numbers : List ℕ) → numbers ≡ numbers_of g roots
    → (t : Tree) → IsTreeOf (row_in r.rows.starts.items r.rows.names.items) numbers t → IsFound g roots t.order.items
found_by g r h roots numbers are t is n = (
  (λ c. subst (λ z. IsReachedFrom (numbers_in g) z n) are (rows_over g r h numbers (below g roots numbers are) n ((is.reached n).0 c))),
  (λ w. (is.reached n).1 (rows_back g r h numbers (below g roots numbers are) n (subst (λ z. IsReachedFrom (numbers_in g) z n) (sym are) w))),
)
  where
    below : (g : GraphValue) (roots : List PathItem) (numbers : List ℕ) → numbers ≡ numbers_of g roots → All (λ k. k < item_count (counts_of g)) numbers
    below g roots numbers are = subst (λ z. All (λ k. k < item_count (counts_of g)) z) (sym are) (numbers_below (counts_of g) roots)

module _ (g : GraphValue) (r : ModuleRows) (h : AreRowsFor g r) (roots : List PathItem) (numbers : List ℕ) (are : numbers ≡ numbers_of g roots) where
  within : All (λ k. k < item_count (counts_of g)) numbers
  within = subst (λ z. All (λ k. k < item_count (counts_of g)) z) (sym are) (numbers_below (counts_of g) roots)

  pub closed_by : ((x : ℕ) → IsReachedFrom (row_in r.rows.starts.items r.rows.names.items) numbers x → slice_index_or r.rows.closed.items x false ≡ true)
      → AreClosed g (IsReachedIn g roots)
  closed_by all =
      items_closed g roots
      (λ n w.
      let there = subst (λ z. IsReachedFrom (numbers_in g) z n) (sym are) w in
      sym (h.are.closes n (rows_within g r h numbers within n there)) ∙ all n (rows_back g r h numbers within n there))

  pub fault_by : (n : ℕ) (x : PathItem) → x ≡ item_at (counts_value r.counts) n → (index : ℕ) → x ≡ Item Funcs index
      → IsReachedFrom (row_in r.rows.starts.items r.rows.names.items) numbers n → slice_index_or r.rows.closed.items n false ≡ false
      → IsFaultFrom g (IsReachedIn g roots) (LiveBody index)
  fault_by n x is index func w off =
      let there = rows_over g r h numbers within n w in
      fault_of g roots (counts_value r.counts) h.counted n x is index func (subst (λ z. IsReachedFrom (numbers_in g) z n) are there)
      (sym (h.are.closes n (rows_within g r h numbers within n there)) ∙ off)

  pub fault_is : (n : ℕ) (x : PathItem) → x ≡ item_at (counts_value r.counts) n → (f : PathFault) → IsFaultOf x f
      → IsReachedFrom (row_in r.rows.starts.items r.rows.names.items) numbers n → slice_index_or r.rows.closed.items n false ≡ false
      → IsFaultFrom g (IsReachedIn g roots) f
  fault_is n x is f (inl none) w off = subst (IsFaultFrom g (IsReachedIn g roots)) (sym none) tt
  fault_is n x is f (inr (index, func, of)) w off = subst (IsFaultFrom g (IsReachedIn g roots)) (sym of) (fault_by n x is index func w off)

-- none is marked at first
pub none_reached : (size : ℕ) (v : List Bool) → v ≡ replicate size false → (n : ℕ) → is_reached v n ≡ false
none_reached size v is n = ap (λ z. is_reached z n) is ∙ none size n
  where
    none : (size n : ℕ) → is_reached (replicate size false) n ≡ false
    none zero n = refl
    none (suc size) zero = refl
    none (suc size) (suc n) = none size n
