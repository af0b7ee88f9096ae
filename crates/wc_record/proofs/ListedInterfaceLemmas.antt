-- Interfaces in a row: where each of them is, and those that a set has.
use Rattle.std.proofs.Common.{◌≡◌, ℕ, ◌+◌, ◌<◌, zero, suc, Bool, true, false, cond, ◌||◌, List, [], ◌∷◌, ◌++◌, Option, Some, None, Vec, map, filter, length, take, get_or, All, refl, sym, ap, ◌∙◌, subst, append-nil, arith}
use Rattle.std.specs.Cmp.{IsEquivalence}
use Rattle.std.specs.List.{flat_map}
use Rattle.std.specs.List.Retain.{DiffersFromLast, IsFiltered}
use Rattle.std.specs.List.Sorted.{IsPermutation, IsSorted}
use Rattle.std.specs.Map.{lookup, set_value}
use Rattle.std.specs.Option.{IsSome, option_map_or}
use Rattle.std.specs.Ordering.{nat_cmp}
use Rattle.std.specs.Prelude.{◌==◌, nat_eq}
use Rattle.std.specs.declared.alloc.Global.{Global}
use Rattle.std.proofs.lemmas.List.{length-map, map-append, take_more}
use Rattle.std.proofs.lemmas.List.Folds.{list_any-append}
use Rattle.std.proofs.lemmas.Map.{lookup-set_value}
use Rattle.wc_resolve.proofs.KeyLemmas.{nat_from, nat_to}
use Rattle.wc_resolve.specs.Dependencies.{id_of_interface, interface_ids}
use Rattle.wc_resolve.specs.declared.ids.InterfaceId.{InterfaceId}
use Rattle.wc_selection.proofs.KeyIndexLemmas.{positions_in}
use Rattle.wc_selection.proofs.PositionLemmas.{has, none_from, positions_more, sorted_from, sorted_once, union}
use Rattle.wc_selection.specs.KeyIndex.{positions_from}
use Rattle.wc_world.proofs.UsedLemmas.{among, turned}
use Rattle.wc_world.specs.Used.{same_interface}
use Rattle.wc_record.specs.Private.ListedInterfaces.{ArePositions, ListsMore, id_at, listed}

abbrev pub Lists : Type 0
Lists = List (InterfaceId × Vec ℕ Global)

-- lists under interfaces, one position after another

id_equivalence : IsEquivalence same_interface
id_equivalence = record {
  refl = λ x. nat_to x.0 x.0 refl;
  symm = λ x y. turned x.0 y.0;
  congr = λ x y z same. ap (λ (n : ℕ). n == z.0) (nat_from x.0 y.0 same);
}

one_id : (id x y : InterfaceId) → same_interface id x ≡ true → same_interface id y ≡ same_interface x y
one_id id x y same = ap (λ (n : ℕ). n == y.0) (nat_from id.0 x.0 same)

abbrev items_in : Option (Vec ℕ Global) → List ℕ
items_in o = option_map_or (λ (v : Vec ℕ Global). v.items) o []

module _ (old new : Lists) (id : InterfaceId) (w : Vec ℕ Global) (x : ℕ) where
  listed_step : ((q : InterfaceId) → lookup (same_interface q) new ≡ cond (same_interface id q) (Some w) (lookup (same_interface q) old))
      → w.items ≡ listed old id.0 ++ x ∷ [] → ListsMore old new id.0 x
  listed_step put is q = step (id.0 == q) refl
    where
      b : InterfaceId
      b = record { 0 = q }

      step : (c : Bool) → (id.0 == q) ≡ c → listed new q ≡ listed old q ++ cond (id.0 == q) (x ∷ []) []
      step true same =
          let here : id.0 ≡ q = nat_from id.0 q same in
          ap items_in (put b ∙ ap (λ c. cond c (Some w) (lookup (same_interface b) old)) same) ∙ is
          ∙ (λ i. listed old (here i) ++ cond (sym same i) (x ∷ []) [])
      step false other =
          ap items_in (put b ∙ ap (λ c. cond c (Some w) (lookup (same_interface b) old)) other) ∙ sym (append-nil (listed old q))
          ∙ ap (λ c. listed old q ++ cond c (x ∷ []) []) (sym other)

  -- after the others of its interface
  pub listed_after : (v : Vec ℕ Global) → new ≡ set_value (same_interface id) old w → lookup (same_interface id) old ≡ Some v → w.items ≡ v.items ++ x ∷ []
      → ListsMore old new id.0 x
  listed_after v put there is =
      listed_step
      (λ q. ap (lookup (same_interface q)) put
      ∙ lookup-set_value id_equivalence (same_interface id) (one_id id) q w old (subst IsSome (sym there) refl))
      (is ∙ ap (λ o. items_in o ++ x ∷ []) (sym there))

  -- as the first of its interface
  pub listed_first : ((q : InterfaceId) → lookup (same_interface q) new ≡ cond (same_interface id q) (Some w) (lookup (same_interface q) old))
      → lookup (same_interface id) old ≡ None → w.items ≡ x ∷ [] → ListsMore old new id.0 x
  listed_first put none is = listed_step put (is ∙ ap (λ o. items_in o ++ x ∷ []) (sym none))

pub listed_there : (entries : Lists) (id : InterfaceId) (v : Vec ℕ Global) → lookup (same_interface id) entries ≡ Some v → listed entries id.0 ≡ v.items
listed_there entries id v is = ap items_in is

-- the positions of one interface more

length_passed : (ids : List InterfaceId) (k : ℕ) → k < length ids → k ≡ length (interface_ids (take k ids))
length_passed [] k lt = absurd (omega arith)
length_passed (x ∷ ids) zero lt = refl
length_passed (x ∷ ids) (suc k) lt = ap suc (length_passed ids k (omega arith))

passed_more : (ids : List InterfaceId) (k : ℕ) (d : InterfaceId) → k < length ids
    → interface_ids (take (k + 1) ids) ≡ interface_ids (take k ids) ++ (get_or ids k d).0 ∷ []
passed_more ids k d lt = ap interface_ids (take_more ids k d lt) ∙ map-append id_of_interface (take k ids) (get_or ids k d ∷ [])

pub positions_next : (ids : List InterfaceId) (k : ℕ) (d : InterfaceId) (old new : Lists) → k < length ids → ListsMore old new (get_or ids k d).0 k
    → ArePositions (interface_ids (take k ids)) old → ArePositions (interface_ids (take (k + 1) ids)) new
positions_next ids k d old new lt more before q =
    let x : ℕ = (get_or ids k d).0 in
    more q ∙ ap (λ l. l ++ cond (x == q) (k ∷ []) []) (before q)
    ∙ sym (ap (positions_from 0 (λ (j : ℕ). j == q)) (passed_more ids k d lt)
    ∙ positions_more 0 k (λ (j : ℕ). j == q) (interface_ids (take k ids)) x (let passed = length_passed ids k lt in omega (arith, passed)))

-- the positions of the interfaces of a set

abbrev pub found_under : Lists → List InterfaceId → List ℕ
found_under entries set = flat_map (listed entries) (interface_ids set)

found_same : (n : ℕ) (ids : List ℕ) (entries : Lists) (set : List InterfaceId) → ArePositions ids entries
    → has n (found_under entries set) ≡ has n (positions_from 0 (among set) ids)
found_same n ids entries [] are = ap (has n) (sym (none_from 0 ids))
found_same n ids entries (x ∷ set) are =
    list_any-append (nat_eq n) (listed entries x.0) (found_under entries set)
    ∙ (λ i. has n (are x.0 i) || found_same n ids entries set are i)
    ∙ sym (union n 0 (λ (j : ℕ). j == x.0) (among set) ids)

pub positions_are : (ids : List ℕ) (entries : Lists) (set : List InterfaceId) (found sorted once : List ℕ) → ArePositions ids entries
    → found ≡ found_under entries set → IsPermutation found sorted → IsSorted nat_cmp sorted → IsFiltered (DiffersFromLast nat_eq) [] sorted once
    → once ≡ positions_from 0 (among set) ids
positions_are ids entries set found sorted once are is moved up kept =
    sorted_from (found_under entries set) once (among set) ids (λ n. found_same n ids entries set are)
    (sorted_once (found_under entries set) found sorted once is moved up kept)

-- positions are in range
pub positions_below : (test : ℕ → Bool) (ids : List InterfaceId) (positions : List ℕ) → positions ≡ positions_from 0 test (interface_ids ids)
    → All (λ (p : ℕ). p < length ids) positions
positions_below test ids positions is =
    subst (λ (n : ℕ). All (λ (p : ℕ). p < n) positions) (length-map ids id_of_interface)
    (subst (All (λ (p : ℕ). p < length (interface_ids ids))) (sym is)
    (positions_in 0 (length (interface_ids ids)) test (interface_ids ids) (omega arith)))

-- the interfaces at positions

id_there : (front : List ℕ) (k : ℕ) (ids : List ℕ) → id_at (front ++ k ∷ ids) (length front) ≡ k
id_there [] k ids = refl
id_there (x ∷ front) k ids = id_there front k ids

append_one : (front : List ℕ) (k : ℕ) (ids : List ℕ) → (front ++ k ∷ []) ++ ids ≡ front ++ k ∷ ids
append_one [] k ids = refl
append_one (x ∷ front) k ids = ap (λ l. x ∷ l) (append_one front k ids)

length_more : (front : List ℕ) (k : ℕ) → length (front ++ k ∷ []) ≡ suc (length front)
length_more [] k = refl
length_more (x ∷ front) k = ap suc (length_more front k)

kept_at : (f : ℕ → ℕ) (b : Bool) (low : ℕ) (ps : List ℕ) (k : ℕ) (rest : List ℕ) → f low ≡ k → map f ps ≡ rest
    → map f (cond b (low ∷ ps) ps) ≡ cond b (k ∷ rest) rest
kept_at f true low ps k rest here h = λ i. here i ∷ h i
kept_at f false low ps k rest here h = h

ids_from : (test : ℕ → Bool) (front ids all : List ℕ) (low : ℕ) → low ≡ length front → front ++ ids ≡ all
    → map (id_at all) (positions_from low test ids) ≡ filter test ids
ids_from test front [] all low is cut = refl
ids_from test front (k ∷ ids) all low is cut =
    kept_at (id_at all) (test k) low (positions_from (suc low) test ids) k (filter test ids)
    ((λ i. id_at (sym cut i) (is i)) ∙ id_there front k ids)
    (ids_from test (front ++ k ∷ []) ids all (suc low) (ap suc is ∙ sym (length_more front k)) (append_one front k ids ∙ cut))

pub ids_found : (test : ℕ → Bool) (ids positions : List ℕ) → positions ≡ positions_from 0 test ids → map (id_at ids) positions ≡ filter test ids
ids_found test ids positions is = ap (map (id_at ids)) is ∙ ids_from test [] ids ids 0 refl refl

-- the interface at one position more

id_here : (ids : List InterfaceId) (p : ℕ) (d : InterfaceId) → p < length ids → id_at (interface_ids ids) p ≡ (get_or ids p d).0
id_here [] p d lt = absurd (omega arith)
id_here (y ∷ ids) zero d lt = refl
id_here (y ∷ ids) (suc p) d lt = id_here ids p d (omega (arith, lt))

pub found_next : (ids : List InterfaceId) (positions : List ℕ) (k : ℕ) (d : InterfaceId) (found after : List InterfaceId) → k < length positions
    → get_or positions k 0 < length ids → after ≡ found ++ get_or ids (get_or positions k 0) d ∷ []
    → interface_ids found ≡ map (id_at (interface_ids ids)) (take k positions)
    → interface_ids after ≡ map (id_at (interface_ids ids)) (take (k + 1) positions)
found_next ids positions k d found after lt below put before =
    let f : ℕ → ℕ = id_at (interface_ids ids) in
    let here : (get_or ids (get_or positions k 0) d).0 ≡ f (get_or positions k 0) = sym (id_here ids (get_or positions k 0) d below) in
    ap interface_ids put ∙ map-append id_of_interface found (get_or ids (get_or positions k 0) d ∷ []) ∙ (λ i. before i ++ here i ∷ [])
    ∙ sym (ap (map f) (take_more positions k 0 lt) ∙ map-append f (take k positions) (get_or positions k 0 ∷ []))
