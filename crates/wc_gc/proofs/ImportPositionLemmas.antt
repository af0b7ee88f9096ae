-- Each import is one item, and each item one import.
use Rattle.std.proofs.Common.{◌≡◌, ◌≢◌, ℕ, zero, suc, ◌+◌, ◌<◌, ◌≤◌, List, [], ◌∷◌, ◌++◌, length, map, take, drop, refl, sym, ◌∙◌, ap, subst, Bool, true, false, cond, inl, inr, arith}
use Rattle.std.proofs.Common.{Option, Some, None, set, append-nil}
use Rattle.std.specs.Prelude.{Contains, IfSome, MatchOption}
use Rattle.std.specs.List.{slice_get}
use Rattle.std.specs.Option.{option_map_or}
use Rattle.std.proofs.lemmas.Bool.{true≢false}
use Rattle.std.proofs.lemmas.Bool.Decides.{eqb_tells}
use Rattle.std.proofs.lemmas.List.{length-set, take_all, take_more}
use Rattle.std.proofs.lemmas.List.Elements.{Contains-push_cases}
use Rattle.std.proofs.lemmas.Option.{get_or_from_slice_get, same_Some, slice_get_within}
use Rattle.wc_read.specs.Imports.{ImportValue, import_value}
use Rattle.wc_read.specs.declared.types.Import.{Import}
use Rattle.wc_read.specs.declared.types.ImportType.{ImportType}
use Rattle.wc_read.specs.declared.types.ImportType.TheVariants.{Func, Table, Memory, Global}
use Rattle.wc_read.specs.declared.operators.Space.{Space}
use Rattle.wc_read.specs.declared.operators.Space.TheVariants.{Types, Funcs, Tables, Memories, Globals}
use Rattle.wc_read.specs.Decoded.{ItemIndex}
use Rattle.wc_read.specs.ImportItems.{IsImportItem, is_in_space, positions_from}
use Rattle.wc_gc.specs.Private.ImportPositions.{AreBySpace, import_at}
use Rattle.wc_gc.specs.declared.import_positions.ImportSpaces.{ImportSpaces}
use Rattle.wc_graph.proofs.ListLemmas.{get_set_other as set_other}
use Rattle.wc_graph.proofs.ListLemmas.{set_same}

-- positions are of imports

below_more : (a most : ℕ) (ps : List ℕ) (p : ℕ) → a < most → ((k : ℕ) → slice_get ps k ≡ Some p → (a + 1 ≤ p) × (p < most)) → (b : Bool) (n : ℕ)
    → slice_get (cond b (a ∷ ps) ps) n ≡ Some p → (a ≤ p) × (p < most)
below_more a most ps p l h true zero e = let same : a ≡ p = cc e in (omega arith, omega arith)
below_more a most ps p l h true (suc n) e = let r = h n e in let low = r.0 in (omega (arith, low), r.1)
below_more a most ps p l h false n e = let r = h n e in let low = r.0 in (omega (arith, low), r.1)

pub position_below : (space : Space) (is : List ImportValue) (a n p : ℕ) → slice_get (positions_from space a is) n ≡ Some p → (a ≤ p) × (p < a + length is)
position_below space [] a n p e = absurd cc
position_below space (i ∷ is) a n p e =
    below_more a (a + length (i ∷ is)) (positions_from space (a + 1) is) p (omega arith)
    (λ k f. let r = position_below space is (a + 1) k p f in let low = r.0 in let high = r.1 in (omega (arith, low), omega (arith, high))) (is_in_space space i.ty) n e

-- no import is in two spaces
one_space : (t : ImportType) (s u : Space) → is_in_space s t ≡ true → is_in_space u t ≡ true → s ≡ u
one_space (Func x) Funcs Funcs a b = refl
one_space (Func x) Funcs Types a b = absurd cc
one_space (Func x) Funcs Tables a b = absurd cc
one_space (Func x) Funcs Memories a b = absurd cc
one_space (Func x) Funcs Globals a b = absurd cc
one_space (Func x) Types u a b = absurd cc
one_space (Func x) Tables u a b = absurd cc
one_space (Func x) Memories u a b = absurd cc
one_space (Func x) Globals u a b = absurd cc
one_space (Table x) Tables Tables a b = refl
one_space (Table x) Tables Types a b = absurd cc
one_space (Table x) Tables Funcs a b = absurd cc
one_space (Table x) Tables Memories a b = absurd cc
one_space (Table x) Tables Globals a b = absurd cc
one_space (Table x) Types u a b = absurd cc
one_space (Table x) Funcs u a b = absurd cc
one_space (Table x) Memories u a b = absurd cc
one_space (Table x) Globals u a b = absurd cc
one_space (Memory x) Memories Memories a b = refl
one_space (Memory x) Memories Types a b = absurd cc
one_space (Memory x) Memories Funcs a b = absurd cc
one_space (Memory x) Memories Tables a b = absurd cc
one_space (Memory x) Memories Globals a b = absurd cc
one_space (Memory x) Types u a b = absurd cc
one_space (Memory x) Funcs u a b = absurd cc
one_space (Memory x) Tables u a b = absurd cc
one_space (Memory x) Globals u a b = absurd cc
one_space (Global x) Globals Globals a b = refl
one_space (Global x) Globals Types a b = absurd cc
one_space (Global x) Globals Funcs a b = absurd cc
one_space (Global x) Globals Tables a b = absurd cc
one_space (Global x) Globals Memories a b = absurd cc
one_space (Global x) Types u a b = absurd cc
one_space (Global x) Funcs u a b = absurd cc
one_space (Global x) Tables u a b = absurd cc
one_space (Global x) Memories u a b = absurd cc

-- an import is one item
abbrev Same : Space → Space → ℕ → ℕ → Type 0
Same s u n k = (s ≡ u) × (n ≡ k)

one_more : (s u : Space) (a p : ℕ) (ps qs : List ℕ) (b c : Bool) → ((j : ℕ) → slice_get ps j ≡ Some p → a + 1 ≤ p) → ((j : ℕ) → slice_get qs j ≡ Some p → a + 1 ≤ p)
    → ((i j : ℕ) → slice_get ps i ≡ Some p → slice_get qs j ≡ Some p → Same s u i j) → (b ≡ true → c ≡ true → s ≡ u) → (s ≡ u → b ≡ c)
    → (n k : ℕ) → slice_get (cond b (a ∷ ps) ps) n ≡ Some p → slice_get (cond c (a ∷ qs) qs) k ≡ Some p → Same s u n k
one_more s u a p ps qs true true lp lq rest same bits zero zero e f = (same refl refl, refl)
one_more s u a p ps qs true true lp lq rest same bits zero (suc k) e f = absurd (let x : a ≡ p = cc e in let y = lq k f in omega (arith, y))
one_more s u a p ps qs true true lp lq rest same bits (suc n) zero e f = absurd (let x : a ≡ p = cc f in let y = lp n e in omega (arith, y))
one_more s u a p ps qs true true lp lq rest same bits (suc n) (suc k) e f = let r = rest n k e f in (r.0, ap suc r.1)
one_more s u a p ps qs true false lp lq rest same bits zero k e f = absurd (let x : a ≡ p = cc e in let y = lq k f in omega (arith, y))
one_more s u a p ps qs true false lp lq rest same bits (suc n) k e f = absurd (true≢false (bits (rest n k e f).0))
one_more s u a p ps qs false true lp lq rest same bits n zero e f = absurd (let x : a ≡ p = cc f in let y = lp n e in omega (arith, y))
one_more s u a p ps qs false true lp lq rest same bits n (suc k) e f = absurd (true≢false (sym (bits (rest n k e f).0)))
one_more s u a p ps qs false false lp lq rest same bits n k e f = rest n k e f

one_item : (is : List ImportValue) (s u : Space) (a n k p : ℕ) → slice_get (positions_from s a is) n ≡ Some p → slice_get (positions_from u a is) k ≡ Some p → Same s u n k
one_item [] s u a n k p e f = absurd cc
one_item (i ∷ is) s u a n k p e f =
    one_more s u a p (positions_from s (a + 1) is) (positions_from u (a + 1) is) (is_in_space s i.ty) (is_in_space u i.ty)
    (λ j h. (position_below s is (a + 1) j p h).0) (λ j h. (position_below u is (a + 1) j p h).0)
    (λ m j x y. one_item is s u (a + 1) m j p x y) (one_space i.ty s u) (λ x. ap (λ z. is_in_space z i.ty) x) n k e f

pub import_once : (is : List ImportValue) (k : ℕ) (x y : ItemIndex) → IsImportItem is k x → IsImportItem is k y → x ≡ y
import_once is k x y e f = let r = one_item is x.0 y.0 0 x.1 y.1 k e f in pair x.0 y.0 x.1 y.1 r.0 r.1
  where
    pair : (s u : Space) (n m : ℕ) → s ≡ u → n ≡ m → ◌≡◌ {A = ItemIndex} (s, n) (u, m)
    pair s u n m a b = ap {B = ItemIndex} (λ z. (z, n)) a ∙ ap {B = ItemIndex} (λ z. (u, z)) b

-- a list of positions that grows

pub position_end : (space : Space) (is : List Import) (k : ℕ) (put all : List ℕ) → length is ≤ k → put ++ positions_from space k (map import_value (drop k is)) ≡ all → put ≡ all
position_end space is k put all h w = sym (append-nil put) ∙ (ap (λ z. put ++ positions_from space k (map import_value z)) (sym (none is k h)) ∙ w)
  where
    none : (xs : List Import) (k : ℕ) → length xs ≤ k → drop k xs ≡ []
    none [] zero h = refl
    none [] (suc k) h = refl
    none (x ∷ xs) zero h = absurd (omega (arith, h))
    none (x ∷ xs) (suc k) h = none xs k (omega (arith, h))

-- the imports of all spaces

pub at_by_space : (is : List ImportValue) (s : ImportSpaces) (x : ItemIndex) → AreBySpace is s → import_at s x ≡ slice_get (positions_from x.0 0 is) x.1
at_by_space is s (Types, n) r = sym (no_types is 0 n)
  where
    no_types : (is : List ImportValue) (a n : ℕ) → slice_get (positions_from Types a is) n ≡ None
    no_types [] a n = refl
    no_types (i ∷ is) a n = no_types is (a + 1) n
at_by_space is s (Funcs, n) r = ap (λ z. slice_get z n) r.funcs
at_by_space is s (Tables, n) r = ap (λ z. slice_get z n) r.tables
at_by_space is s (Memories, n) r = ap (λ z. slice_get z n) r.memories
at_by_space is s (Globals, n) r = ap (λ z. slice_get z n) r.globals

-- lists in which one element is put

-- where the items of imports are, among the first so many of some items

pub record ArePositions (is : List ImportValue) (order : List ItemIndex) (count : ℕ) (positions : List (Option ℕ)) : Type 0 where
  pub each : length positions ≡ length is
  pub at : (k : ℕ) (x : ItemIndex) (position : Option ℕ) → IsImportItem is k x → slice_get positions k ≡ Some position
      → MatchOption position (¬ (Contains (take count order) x)) (λ p. slice_get order p ≡ Some x)

module _ (is : List ImportValue) (order : List ItemIndex) (count : ℕ) (positions : List (Option ℕ)) (x : ItemIndex) (there : slice_get order count ≡ Some x) where
  -- an item that is passed is no item of an import that it is not
  other_kept : (y : ItemIndex) (position : Option ℕ) → y ≢ x → MatchOption position (¬ (Contains (take count order) y)) (λ p. slice_get order p ≡ Some y)
      → MatchOption position (¬ (Contains (take (count + 1) order) y)) (λ p. slice_get order p ≡ Some y)
  other_kept y None other h = λ c.
      elim (Contains-push_cases (take count order) x y (subst (λ z. Contains z y) (one_more_taken) c)) [
        | inl old ↦ h old
        | inr new ↦ other (sym new)
      ]
    where
      one_more_taken : take (count + 1) order ≡ take count order ++ x ∷ []
      one_more_taken = take_more order count x (slice_get_within order count x there) ∙ ap (λ z. take count order ++ z ∷ []) (get_or_from_slice_get order count x x there)
  other_kept y (Some p) other h = h

  pub positions_other : ((k : ℕ) → ¬ (IsImportItem is k x)) → ArePositions is order count positions → ArePositions is order (count + 1) positions
  positions_other none a = record {
    each = a.each;
    at = λ k y position i s. other_kept y position (λ e. none k (subst (IsImportItem is k) e i)) (a.at k y position i s);
  }

  pub positions_found : (import : ℕ) → IsImportItem is import x → ArePositions is order count positions → ArePositions is order (count + 1) (set positions import (Some count))
  positions_found import mine a = record {
    each = length-set positions import (Some count) ∙ a.each;
    at = λ k y position i s. elim (eqb_tells k import) [
      | inl same ↦ at_found k y position i s same.1
      | inr other ↦ at_other k y position i s other.1
    ];
  }
    where
      at_found : (k : ℕ) (y : ItemIndex) (position : Option ℕ) → IsImportItem is k y → slice_get (set positions import (Some count)) k ≡ Some position → k ≡ import
          → MatchOption position (¬ (Contains (take (count + 1) order) y)) (λ p. slice_get order p ≡ Some y)
      at_found k y position i s e =
          let same : y ≡ x = import_once is import y x (subst (λ z. IsImportItem is z y) e i) mine in
          let within : import < length positions = let h = slice_get_within (set positions import (Some count)) k position s in let l = length-set positions import (Some count) in omega (arith, h, l, e) in
          let put : Some count ≡ position = same_Some (Some count) position (sym (set_same positions import (Some count) within) ∙ (ap (slice_get (set positions import (Some count))) (sym e) ∙ s)) in
          subst (λ z. MatchOption z (¬ (Contains (take (count + 1) order) y)) (λ p. slice_get order p ≡ Some y)) put (there ∙ ap Some (sym same))

      at_other : (k : ℕ) (y : ItemIndex) (position : Option ℕ) → IsImportItem is k y → slice_get (set positions import (Some count)) k ≡ Some position → k ≢ import
          → MatchOption position (¬ (Contains (take (count + 1) order) y)) (λ p. slice_get order p ≡ Some y)
      at_other k y position i s other =
          other_kept y position (λ e. other (same_Some k import (sym (subst (IsImportItem is k) e i) ∙ mine)))
          (a.at k y position i (sym (set_other positions import k (Some count) other) ∙ s))

pub positions_end : (is : List ImportValue) (order : List ItemIndex) (count : ℕ) (positions : List (Option ℕ)) → length order ≤ count → ArePositions is order count positions
    → (k : ℕ) (x : ItemIndex) (position : Option ℕ) → IsImportItem is k x → slice_get positions k ≡ Some position
    → MatchOption position (¬ (Contains order x)) (λ p. slice_get order p ≡ Some x)
positions_end is order count positions over a k x position i s =
    subst (λ z. MatchOption position (¬ (Contains z x)) (λ p. slice_get order p ≡ Some x)) (take_all count order over) (a.at k x position i s)

pub positions_next : (is : List ImportValue) (s : ImportSpaces) (order : List ItemIndex) (count : ℕ) (positions positions' : List (Option ℕ)) (x : ItemIndex) (o : Option ℕ)
    → AreBySpace is s → slice_get order count ≡ Some x → o ≡ import_at s x → positions' ≡ option_map_or (λ k. set positions k (Some count)) o positions
    → ArePositions is order count positions → ArePositions is order (count + 1) positions'
positions_next is s order count positions positions' x None b there e put a =
    subst (ArePositions is order (count + 1)) (sym put)
    (positions_other is order count positions x there (λ k i. none k (e ∙ (at_by_space is s x b ∙ i))) a)
  where
    none : (k : ℕ) → None ≡ Some k → ⊥
    none k q = absurd (cc q)
positions_next is s order count positions positions' x (Some k) b there e put a =
    subst (ArePositions is order (count + 1)) (sym put)
    (positions_found is order count positions x there k (sym (at_by_space is s x b) ∙ sym e) a)

pub import_within : (is : List ImportValue) (s : ImportSpaces) (x : ItemIndex) (o : Option ℕ) (size : ℕ) → AreBySpace is s → o ≡ import_at s x → size ≡ length is
    → IfSome o (λ k. k < size)
import_within is s x None size b e l = tt
import_within is s x (Some k) size b e l = let r = (position_below x.0 is 0 x.1 k (sym (at_by_space is s x b) ∙ sym e)).1 in omega (arith, r, l)
