-- Maps that are read member by member.
use Rattle.std.proofs.Common.{◌≡◌, ℕ, suc, ◌+◌, ◌<◌, Bool, true, false, List, [], ◌∷◌, map, length, get_or, drop, Ok, Vec, refl, sym, ap, subst, ◌∙◌, drop-cons, add-one, if◌then◌else◌}
use Rattle.std.specs.Borrow.{Bor}
use Rattle.indexmap.specs.IndexMap.{insert_entry}
use Rattle.json.specs.Json.{Json}
use Rattle.json.specs.Value.{value_view, members_view}
use Rattle.json.specs.declared.value.Value.{Value, Object}
use Rattle.json.proofs.Trees.{view-Object}
use Rattle.wc_json.specs.Fault.{IsFaultOf, Reading}
use Rattle.wc_json.specs.Maps.{entries, entries_after}
use Rattle.wc_json.specs.Paths.{at_step, key_step}
use Rattle.wc_json.specs.declared.fault.JsonFault.{JsonFault}
use Rattle.wc_json.proofs.FaultLemmas.{IsFaultOf_bind}

-- the view of a map after an insertion is its view before, with the view of the entry inserted
module _ {K V L W : Type 0} (eq : K → K → Bool) (view_eq : L → L → Bool) (key : K → L) (value : V → W)
    (same : (a b : K) → eq a b ≡ view_eq (key a) (key b)) where
  abbrev pub entries_view : List (K × V) → List (L × W)
  entries_view es = map (λ e. (key e.0, value e.1)) es

  entries_view-if : (b : Bool) (k : K) (v w : V) (es fs : List (K × V))
      → entries_view (if b then (k, v) ∷ es else ((k, w) ∷ fs)) ≡ (if b then (key k, value v) ∷ entries_view es else ((key k, value w) ∷ entries_view fs))
  entries_view-if true k v w es fs = refl
  entries_view-if false k v w es fs = refl

  pub entries_view-insert_entry : (es : List (K × V)) (k : K) (v : V)
      → entries_view (insert_entry eq es k v) ≡ insert_entry view_eq (entries_view es) (key k) (value v)
  entries_view-insert_entry [] k v = refl
  entries_view-insert_entry (e ∷ es) k v = entries_view-if (eq k e.0) e.0 v e.1 es (insert_entry eq es k v)
      ∙ rw (same k e.0, entries_view-insert_entry es k v) refl

-- the view of an object is read from its first member on
pub entries-value_view : {A L X : Type 0} (same : L → L → Bool) (key : List ℕ → A → L) (read : Json → Reading A) (value : Value X)
    (v : Vec (Bor (List ℕ) × Value X) X) (vs : List (Bor (List ℕ) × Value X)) → value ≡ Object v → vs ≡ v.items
    → entries same key read (value_view value) ≡ entries_after same key read [] (members_view vs)
entries-value_view same key read value v vs e is =
    ap (λ w. entries same key read (value_view w)) e ∙ ap (entries same key read) (view-Object v)
    ∙ ap (λ xs. entries_after same key read [] (members_view xs)) (sym is)

-- one member m at the index n
module _ {A L X : Type 0} (same : L → L → Bool) (key : List ℕ → A → L) (read : Json → Reading A) (vs : List (Bor (List ℕ) × Value X)) (n : ℕ)
    (m : Bor (List ℕ) × Value X) (within : n < length vs) (e : m ≡ get_or vs n m) where
  -- the member is read
  pub entries_after-member : (before : List (L × A)) (a : A) → at_step (key_step m.0.now) (read (value_view m.1)) ≡ Ok a
      → entries_after same key read before (members_view (drop n vs)) ≡ entries_after same key read (insert_entry same before (key m.0.now a) a)
      (members_view (drop (n + 1) vs))
  entries_after-member before a h =
      let P : Bor (List ℕ) × Value X → Type 0 = λ w. at_step (key_step w.0.now) (read (value_view w.1)) ≡ Ok a in
      rw (drop-cons vs n m within, subst P e h, add-one n)
      (ap (λ (w : Bor (List ℕ) × Value X). entries_after same key read (insert_entry same before (key w.0.now a) a) (members_view (drop (suc n) vs))) (sym e))

  -- the member is wrong
  pub IsFaultOf_member : (fault : JsonFault) (before : List (L × A)) → IsFaultOf fault (at_step (key_step m.0.now) (read (value_view m.1)))
      → IsFaultOf fault (entries_after same key read before (members_view (drop n vs)))
  IsFaultOf_member fault before h =
      let P : Bor (List ℕ) × Value X → Type 0 = λ w. IsFaultOf fault (at_step (key_step w.0.now) (read (value_view w.1))) in
      rw (drop-cons vs n m within) (IsFaultOf_bind fault _ _ (subst P e h))
