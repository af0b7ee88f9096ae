-- Lists that are read item by item.
use Rattle.std.proofs.Common.{◌≡◌, ℕ, ◌+◌, ◌<◌, ◌≤◌, zero, suc, arith, append-nil, Result, IfErr, List, [], ◌∷◌, ◌++◌, map, length, get_or, drop, Ok, Err, Vec, refl, sym, ap, subst, ◌∙◌, append_assoc, drop-cons, add-one}
use Rattle.std.proofs.lemmas.List.{map-append}
use Rattle.json.specs.Json.{Json, array}
use Rattle.json.specs.Value.{value_view, items_view}
use Rattle.json.proofs.Trees.{view-Array}
use Rattle.json.specs.declared.value.Value.{Value, Array}
use Rattle.wc_json.specs.Fault.{IsFaultOf, Reading, ◌>>=◌}
use Rattle.wc_json.specs.FromJson.{HasItems, items_from, list}
use Rattle.wc_json.specs.Paths.{at_step, index_step}
use Rattle.wc_json.specs.declared.fault.JsonFault.{JsonFault}
use Rattle.wc_json.specs.declared.fault.JsonFault.TheVariants.{Memory}
use Rattle.wc_json.proofs.FaultLemmas.{IsFaultOf_bind}

-- what is read, after the items before it
abbrev pub after : {A : Type 0} → List A → Reading (List A) → Reading (List A)
after before reading = reading >>= (λ rest. Ok (before ++ rest))

-- an item more before
after-push : {A : Type 0} (before : List A) (a : A) (reading : Reading (List A))
    → after before (reading >>= (λ rest. Ok (a ∷ rest))) ≡ after (before ++ a ∷ []) reading
after-push before a (Ok xs) = ap Ok (sym (append_assoc before (a ∷ []) xs))
after-push before a (Err f) = refl

-- the view of a list is read from its first item on
pub list-value_view : {A X : Type 0} (read : Json → Reading A) (value : Value X) (v : Vec (Value X) X) (vs : List (Value X)) → value ≡ Array v
    → vs ≡ v.items → list read (value_view value) ≡ items_from read 0 (items_view vs)
list-value_view read value v vs e is =
    ap (λ w. list read (value_view w)) e ∙ ap (list read) (view-Array v) ∙ ap (λ xs. items_from read 0 (items_view xs)) (sym is)

-- a list that is not empty has items
pub items_there : {X : Type 0} (value : Value X) (v : Vec (Value X) X) → value ≡ Array v → (length v.items ≡ 0 → ⊥) → HasItems (value_view value)
items_there {X} value v is some = subst HasItems (sym (ap value_view is ∙ view-Array v)) (filled v.items some)
  where
    filled : (xs : List (Value X)) → (length xs ≡ 0 → ⊥) → HasItems (array (items_view xs))
    filled [] some = some refl
    filled (x ∷ xs) some = tt

-- memory may run out where a list has items
pub memory_for_items : {T : Type 0} (r : Result T JsonFault) (j : Json) → HasItems j → IfErr r (λ f. f ≡ Memory → HasItems j)
memory_for_items (Ok x) j some = tt
memory_for_items (Err f) j some = λ _. some

-- all items are read
drop_past : {Y : Type 0} (xs : List Y) (n : ℕ) → length xs ≤ n → drop n xs ≡ []
drop_past [] zero h = refl
drop_past [] (suc n) h = refl
drop_past (x ∷ xs) zero h = absurd (omega (arith, h))
drop_past (x ∷ xs) (suc n) h = drop_past xs n (omega (arith, h))

pub after-all : {A X : Type 0} (read : Json → Reading A) (vs : List (Value X)) (n : ℕ) (before : List A) → length vs ≤ n
    → after before (items_from read n (items_view (drop n vs))) ≡ Ok before
after-all read vs n before past =
    ap (λ l. after before (items_from read n (items_view l))) (drop_past vs n past) ∙ ap Ok (append-nil before)

-- one item v at the index n, of which k is the number in the code
module _ {A X : Type 0} (read : Json → Reading A) (vs : List (Value X)) (n k : ℕ) (v : Value X) (within : n < length vs) (e : v ≡ get_or vs n v)
    (is : k ≡ n) where
  at_index : (P : Reading A → Type 0) → P (at_step (index_step k) (read (value_view v))) → P (at_step (index_step n) (read (value_view (get_or vs n v))))
  at_index P h =
      let Q : ℕ → Type 0 = λ i. P (at_step (index_step i) (read (value_view v))) in
      let R : Value X → Type 0 = λ w. P (at_step (index_step n) (read (value_view w))) in
      subst R e (subst Q is h)

  -- the item is read
  pub after-item : {L : Type 0} (view : L → A) (before now : List L) (x : L) → at_step (index_step k) (read (value_view v)) ≡ Ok (view x)
      → now ≡ before ++ x ∷ []
      → after (map view before) (items_from read n (items_view (drop n vs))) ≡ after (map view now) (items_from read (n + 1) (items_view (drop (n + 1) vs)))
  after-item view before now x h p =
      rw (p, map-append view before (x ∷ []), drop-cons vs n v within, at_index (λ t. t ≡ Ok (view x)) h, add-one n) (after-push (map view before) (view x) _)

  -- the item is wrong
  pub IsFaultOf_item : (fault : JsonFault) (before : List A) → IsFaultOf fault (at_step (index_step k) (read (value_view v)))
      → IsFaultOf fault (after before (items_from read n (items_view (drop n vs))))
  IsFaultOf_item fault before h =
      rw (drop-cons vs n v within) (IsFaultOf_bind fault _ (λ rest. Ok (before ++ rest))
      (IsFaultOf_bind fault (at_step (index_step n) (read (value_view (get_or vs n v)))) _ (at_index (IsFaultOf fault) h)))
