-- A search in an adapter.
use Rattle.std.proofs.Common.{◌≡◌, ℕ, ◌+◌, ◌-◌, ◌<◌, ◌≤◌, List, [], ◌∷◌, ◌++◌, take, length, get_or, subst, sym, ◌∙◌, ap, refl, Bool, true, false, ◌⊎◌, ltb-true}
use Rattle.std.proofs.Common.{inl, inr, arith, ◌&&◌, Option, Some, None, append_assoc, append-nil}
use Rattle.std.specs.Prelude.{not, is_some, IsTrue, Contains, All, ◌↔◌, Result, Ok, Err, OnOk}
use Rattle.std.proofs.lemmas.List.{take_more, take_all, get_or_append_left, map-append}
use Rattle.std.proofs.lemmas.List.Elements.{filter-append, filter_passes, All-contains, Contains-get_or}
use Rattle.std.specs.List.{cons_option, list_all}
use Rattle.wc_read.specs.BodyOperators.{body_of}
use Rattle.wc_read.specs.InitOperators.{index_instr}
use Rattle.wc_read.specs.Inits.{end_value}
use Rattle.wc_read.specs.declared.init_operators.InitIndex.{InitIndex}
use Rattle.wc_read.specs.declared.types.ValType.{ValType}
use Rattle.wc_read.specs.declared.operators.Space.TheVariants.{Types, Memories}
use Rattle.std.specs.Option.{option_map, option_to_list}
use Rattle.std.proofs.lemmas.List.Folds.{list_all-append}
use Rattle.std.proofs.lemmas.Grind.{flat_map-append}
use Rattle.std.proofs.Math.Bool.{and-false}
use Rattle.wc_read.specs.Operators.{InstrValue, immediates_value, instr_value}
use Rattle.wc_read.specs.Reading.Instructions.{instr_of}
use Rattle.wc_read.specs.declared.operators.Immediates.{Immediates}
use Rattle.wc_read.specs.declared.operators.Immediates.TheVariants.{Index as has_index}
use Rattle.wc_read.specs.declared.operators.Index.{Index}
use Rattle.wc_read.specs.Bodies.{BodyValue, local_types}
use Rattle.wc_read.specs.declared.bodies.Locals.{Locals}
use Rattle.wc_read.specs.References.{is_segment, reference, refs_of, type_reference, type_refs_of}
use Rattle.wc_read.specs.Types.{type_index, type_indices}
use Rattle.wc_read.specs.Passing.{ArePassable, IsPassable, IsPassableCode, run_and_left}
use Rattle.wc_read.specs.declared.operators.Refs.{Refs}
use Rattle.wc_read.specs.declared.operators.Instr.{Instr}
use Rattle.wc_read.specs.Decoded.{DecodedModule, ItemIndex, is_in, size_of}
use Rattle.wc_read.specs.Entries.{refs_in, entry_refs, entry_at, present, refs_list, type_items, val_type_refs, instr_refs, code_refs, init_refs, body_refs}
use Rattle.wc_graph.specs.Reached.{IsPath, IsReachedFrom}
use Rattle.wc_graph.specs.Growth.{IsTied, HasGrown, IsGrown}
use Rattle.wc_gc.specs.Private.Search.{FindsItems, IsKnownCode, finds}
use Rattle.wc_gc.specs.InRange.{is_operator_in_range, is_code_in_range, is_body_in_range, is_item_in_range}
use Rattle.wc_gc.specs.LiveItems.{IsCount}
use Rattle.wc_gc.specs.declared.search.Search.{Search}
use Rattle.wc_graph.proofs.GrowthLemmas.{IsSearched, grown_none, grown_old, only_if_tied, search_start, search_step, search_end}
use Rattle.wc_gc.proofs.SearchLemmas.{items_decided}

-- what was found, of which so many were passed and are in range
pub record IsAt (m : DecodedModule) (roots : List ItemIndex) (has : ItemIndex → Bool) (found : List ItemIndex) (next : ℕ) : Type 0 where
  pub searched : IsSearched (refs_in m) roots has found next
  pub in_range : (k : ℕ) (d : ItemIndex) → k < next → is_item_in_range m (get_or found k d) ≡ true

pub roots_more : (has : ItemIndex → Bool) (found : List ItemIndex) (has' : ItemIndex → Bool) (found' : List ItemIndex) (has'' : ItemIndex → Bool)
    (found'' : List ItemIndex) (roots : List ItemIndex) (i : ℕ) (d : ItemIndex) → i < length roots
    → IsGrown has found has' found' (take i roots) → IsGrown has' found' has'' found'' (get_or roots i d ∷ [])
    → IsGrown has found has'' found'' (take (i + 1) roots)
roots_more has found has' found' has'' found'' roots i d h a b =
    subst (λ (z : List ItemIndex). IsGrown has found has'' found'' z) (sym (take_more roots i d h))
    (only_if_tied has found has' found' has'' found'' (take i roots) (get_or roots i d ∷ []) a b)

pub start_at : (m : DecodedModule) (roots : List ItemIndex) (has0 : ItemIndex → Bool) (found0 : List ItemIndex) (has : ItemIndex → Bool)
    (found : List ItemIndex) (i : ℕ) → length roots ≤ i
    → IsGrown has0 found0 has found (take i roots) → found0 ≡ [] → IsTied has0 found0 → IsAt m roots has found 0
start_at m roots has0 found0 has found i over g e tied = record {
  searched = search_start (refs_in m) roots has found
      (subst (λ (z : List ItemIndex). HasGrown z has found roots) e
      (subst (λ (z : List ItemIndex). HasGrown found0 has found z) (take_all i roots over) (g tied)));
  in_range = λ k d h. absurd (omega arith);
}

pub step_at : (m : DecodedModule) (roots : List ItemIndex) (has : ItemIndex → Bool) (found : List ItemIndex) (next : ℕ) (has' : ItemIndex → Bool)
    (found' : List ItemIndex) (x : ItemIndex) → next < length found
    → ((d : ItemIndex) → get_or found next d ≡ x) → IsAt m roots has found next → IsGrown has found has' found' (refs_in m x) → is_item_in_range m x ≡ true
    → IsAt m roots has' found' (next + 1)
step_at m roots has found next has' found' x lt at s g good = record {
  searched = search_step (refs_in m) roots has found next has' found' x lt at s.searched grown;
  in_range = λ k d h. elim (below k h) [
    | inl old ↦ subst (λ (z : ItemIndex). is_item_in_range m z ≡ true) (sym (same k d (omega arith))) (s.in_range k d old)
    | inr e ↦ subst (λ (z : ItemIndex). is_item_in_range m z ≡ true) (sym (ap (λ (j : ℕ). get_or found' j d) e ∙ (same next d lt ∙ at d))) good
  ];
}
  where
    grown : HasGrown found has' found' (refs_in m x)
    grown = g s.searched.tied

    same : (k : ℕ) (d : ItemIndex) → k < length found → get_or found' k d ≡ get_or found k d
    same k d h = ap (λ (z : List ItemIndex). get_or z k d) grown.after.1 ∙ get_or_append_left found grown.after.0 d k h

    below : (k : ℕ) → k < next + 1 → (k < next) ⊎ (k ≡ next)
    below k h = grind arith

pub reached_at : (m : DecodedModule) (roots : List ItemIndex) (has : ItemIndex → Bool) (found : List ItemIndex) (next : ℕ) → length found ≤ next
    → IsAt m roots has found next → (x : ItemIndex) → IsTrue (has x) ↔ IsReachedFrom (refs_in m) roots x
reached_at m roots has found next over s = search_end (refs_in m) roots has found next over s.searched

-- all that is found is reached, and once: so there are as many turns as reached items
pub count_at : (m : DecodedModule) (roots : List ItemIndex) (has : ItemIndex → Bool) (found : List ItemIndex) (next : ℕ) → length found ≤ next
    → IsAt m roots has found next → IsCount (IsReachedFrom (refs_in m) roots) next
count_at m roots has found next over s = (
  found,
  s.searched.tied.distinct,
  (λ x. ((λ r. s.searched.tied.is_listed x ((reached_at m roots has found next over s x).1 r)), s.searched.are_reached x)),
  (let w = s.searched.within in omega arith),
)

pub reached_in_range : (m : DecodedModule) (roots : List ItemIndex) (has : ItemIndex → Bool) (found : List ItemIndex) (next : ℕ) → length found ≤ next
    → IsAt m roots has found next
    → (x : ItemIndex) → IsReachedFrom (refs_in m) roots x → is_item_in_range m x ≡ true
reached_in_range m roots has found next over s x r =
    let c = s.searched.tied.is_listed x ((reached_at m roots has found next over s x).1 r) in
    subst (λ (z : ItemIndex). is_item_in_range m z ≡ true) c.2 (s.in_range c.0 x (let h = c.1 in omega arith))

-- what is reached is there

pub there_from : (m : DecodedModule) (x : ItemIndex) (path : List ItemIndex) (y : ItemIndex) → IsTrue (is_in m x) → IsPath (refs_in m) x path y
    → IsTrue (is_in m y)
there_from m x [] y h w = subst (λ (z : ItemIndex). IsTrue (is_in m z)) w h
there_from m x (z ∷ path) y h w = there_from m z path y (All-contains (λ (v : ItemIndex). is_in m v ≡ true) (refs_in m x) z
    (filter_passes (is_in m) (entry_refs (entry_at m x))) w.0) w.1

pub there_at : (m : DecodedModule) (roots : List ItemIndex) (has : ItemIndex → Bool) (found : List ItemIndex) (next : ℕ)
    → All (λ (x : ItemIndex). IsTrue (is_in m x)) roots → IsAt m roots has found next
    → next < length found → (x : ItemIndex) → get_or found next x ≡ x → IsTrue (is_in m x)
there_at m roots has found next small s lt x at =
    let r = s.searched.are_reached x (subst (Contains found) at (Contains-get_or found next x lt)) in
    there_from m r.0 r.2 x (All-contains (λ (v : ItemIndex). IsTrue (is_in m v)) roots r.0 small r.1) r.3

pub bad_at : (m : DecodedModule) (roots : List ItemIndex) (has : ItemIndex → Bool) (found : List ItemIndex) (next : ℕ) → IsAt m roots has found next
    → next < length found → (x : ItemIndex) → get_or found next x ≡ x → IsReachedFrom (refs_in m) roots x
bad_at m roots has found next s lt x at = s.searched.are_reached x (subst (Contains found) at (Contains-get_or found next x lt))

-- so all that is found is there
pub all_there : (m : DecodedModule) (roots : List ItemIndex) (has : ItemIndex → Bool) (found : List ItemIndex) (next : ℕ)
    → All (λ (x : ItemIndex). IsTrue (is_in m x)) roots → IsAt m roots has found next
    → All (λ (x : ItemIndex). x.1 < size_of m x.0) found
all_there m roots has found next small s = λ k d h.
    let x = get_or found k d in
    let r = s.searched.are_reached x (Contains-get_or found k d h) in
    ltb-true x.1 (size_of m x.0) (there_from m r.0 r.2 x (All-contains (λ (v : ItemIndex). IsTrue (is_in m v)) roots r.0 small r.1) r.3)

-- searches

pub finds_none : {L : Type 0} (has : L → ℕ → Bool) (a : Search L) → FindsItems has a a []
finds_none has a = λ tied. grown_none _ _ tied

pub finds_more : {L : Type 0} (has : L → ℕ → Bool) (a b c : Search L) (xs ys : List ItemIndex) → FindsItems has a b xs → FindsItems has b c ys
    → FindsItems has a c (xs ++ ys)
finds_more has a b c xs ys p q = only_if_tied _ _ _ _ _ _ xs ys p q

-- of those items that are there
pub finds_present : {L : Type 0} (has : L → ℕ → Bool) (m : DecodedModule) (a b c : Search L) (xs ys : List ItemIndex) → FindsItems has a b (present m xs)
    → FindsItems has b c (present m ys) → FindsItems has a c (present m (xs ++ ys))
finds_present has m a b c xs ys p q = subst (FindsItems has a c) (sym (filter-append (is_in m) xs ys)) (finds_more has a b c (present m xs) (present m ys) p q)

-- those of an operator: the types of a `select`, and its references
pub finds_named : {L : Type 0} (has : L → ℕ → Bool) (m : DecodedModule) (a b c : Search L) (r : Refs) (i : InstrValue) → r ≡ refs_of i.immediates
    → FindsItems has a b (present m (type_items (type_refs_of i.immediates))) → FindsItems has b c (present m (refs_list r))
    → FindsItems has a c (present m (instr_refs i))
finds_named has m a b c r i e p q =
    subst (λ (z : Refs). FindsItems has a c (present m (type_items (type_refs_of i.immediates) ++ refs_list z))) e
    (finds_present has m a b c (type_items (type_refs_of i.immediates)) (refs_list r) p q)

-- the types that value types name, one value type more

types_first : (o : Option ℕ) (ns : List ℕ) → type_items (cons_option o ns) ≡ option_to_list (option_map (λ n. (Types, n)) o) ++ type_items ns
types_first None ns = refl
types_first (Some n) ns = refl

types_push : (ts : List ValType) (t : ValType) → val_type_refs (ts ++ t ∷ []) ≡ val_type_refs ts ++ option_to_list (type_reference t)
types_push [] t = types_first (type_index t) [] ∙ append-nil (option_to_list (type_reference t))
types_push (u ∷ ts) t =
    types_first (type_index u) (type_indices (ts ++ t ∷ []))
    ∙ (ap (λ (z : List ItemIndex). option_to_list (type_reference u) ++ z) (types_push ts t)
    ∙ (sym (append_assoc (option_to_list (type_reference u)) (val_type_refs ts) (option_to_list (type_reference t)))
    ∙ ap (λ (z : List ItemIndex). z ++ option_to_list (type_reference t)) (sym (types_first (type_index u) (type_indices ts)))))

-- those of the first of some value types were found, and whether the adapter has them all
pub record AreTypesFound {L : Type 0} (has : L → ℕ → Bool) (m : DecodedModule) (ts : List ValType) (a b : Search L) (there : Bool) : Type 0 where
  pub found : FindsItems has a b (present m (val_type_refs ts))
  pub all : there ≡ list_all (is_in m) (val_type_refs ts)

types_push_more : {L : Type 0} (has : L → ℕ → Bool) (m : DecodedModule) (ts : List ValType) (t : ValType) (a b c : Search L) (there now : Bool)
    → AreTypesFound has m ts a b there → FindsItems has b c (present m (option_to_list (type_reference t)))
    → now ≡ list_all (is_in m) (option_to_list (type_reference t)) → AreTypesFound has m (ts ++ t ∷ []) a c (there && now)
types_push_more has m ts t a b c there now s f k = record {
  found = subst (λ (z : List ItemIndex). FindsItems has a c (present m z)) (sym (types_push ts t))
      (finds_present has m a b c (val_type_refs ts) (option_to_list (type_reference t)) s.found f);
  all = ap (λ (x : Bool). x && now) s.all ∙ (ap (λ (x : Bool). list_all (is_in m) (val_type_refs ts) && x) k
      ∙ sym (ap (list_all (is_in m)) (types_push ts t) ∙ list_all-append (is_in m) (val_type_refs ts) (option_to_list (type_reference t))));
}

pub types_more : {L : Type 0} (has : L → ℕ → Bool) (m : DecodedModule) (ts : List ValType) (i : ℕ) (d : ValType) (a b c : Search L) (there now : Bool)
    → i < length ts → AreTypesFound has m (take i ts) a b there
    → FindsItems has b c (present m (option_to_list (type_reference (get_or ts i d))))
    → now ≡ list_all (is_in m) (option_to_list (type_reference (get_or ts i d))) → AreTypesFound has m (take (i + 1) ts) a c (there && now)
types_more has m ts i d a b c there now h s f k =
    subst (λ (z : List ValType). AreTypesFound has m z a c (there && now)) (sym (take_more ts i d h))
    (types_push_more has m (take i ts) (get_or ts i d) a b c there now s f k)

-- the type of one
pub type_alone : (t : ValType) → val_type_refs (t ∷ []) ≡ option_to_list (type_reference t)
type_alone t = types_push [] t

-- a run of locals more
pub run_more : {L : Type 0} (has : L → ℕ → Bool) (m : DecodedModule) (runs : List Locals) (i : ℕ) (d : Locals) (a b c : Search L) (there now : Bool)
    → i < length runs → AreTypesFound has m (local_types (take i runs)) a b there
    → FindsItems has b c (present m (option_to_list (type_reference (get_or runs i d).ty)))
    → now ≡ list_all (is_in m) (option_to_list (type_reference (get_or runs i d).ty)) → AreTypesFound has m (local_types (take (i + 1) runs)) a c (there && now)
run_more has m runs i d a b c there now h s f k =
    subst (λ (z : List ValType). AreTypesFound has m z a c (there && now))
    (sym (ap local_types (take_more runs i d h) ∙ map-append (λ (l : Locals). l.ty) (take i runs) (get_or runs i d ∷ [])))
    (types_push_more has m (local_types (take i runs)) (get_or runs i d).ty a b c there now s f k)

-- operators that were gone through

code_push : (is : List InstrValue) (i : InstrValue) → code_refs (is ++ i ∷ []) ≡ code_refs is ++ instr_refs i
code_push is i = flat_map-append instr_refs is (i ∷ []) ∙ ap (λ z. code_refs is ++ z) (append-nil (instr_refs i))

in_range_push : (m : DecodedModule) (is : List InstrValue) (i : InstrValue)
    → is_code_in_range m (is ++ i ∷ []) ≡ (is_code_in_range m is && (is_operator_in_range m i && true))
in_range_push m is i = list_all-append (is_operator_in_range m) is (i ∷ [])

pub finds_code : {L : Type 0} (has : L → ℕ → Bool) (m : DecodedModule) (a b c : Search L) (is : List InstrValue) (i : InstrValue)
    → FindsItems has a b (present m (code_refs is)) → FindsItems has b c (present m (instr_refs i)) → FindsItems has a c (present m (code_refs (is ++ i ∷ [])))
finds_code has m a b c is i p q = subst (λ (z : List ItemIndex). FindsItems has a c (present m z)) (sym (code_push is i))
    (finds_present has m a b c (code_refs is) (instr_refs i) p q)

-- those of a body, of which some are left: the types of its locals, and what the operators before name
pub record IsBodyFound {L : Type 0} (has : L → ℕ → Bool) (m : DecodedModule) (body : Option BodyValue) (locals : List Locals) (a b : Search L)
    (left : Option (List InstrValue)) : Type 0 where
  pub before : List InstrValue
  pub split : body ≡ option_map (λ is. body_of locals (before ++ is)) left
  pub found : FindsItems has a b (present m (val_type_refs (local_types locals) ++ code_refs before))
  pub there : list_all (is_in m) (val_type_refs (local_types locals)) ≡ true
  pub in_range : is_code_in_range m before ≡ true

map_push : (locals : List Locals) (before : List InstrValue) (i : InstrValue) (o : Option (List InstrValue))
    → option_map (λ is. body_of locals (before ++ is)) (option_map (λ is. i ∷ is) o) ≡ option_map (λ is. body_of locals ((before ++ i ∷ []) ++ is)) o
map_push locals before i None = refl
map_push locals before i (Some is) = ap (λ (z : List InstrValue). Some (body_of locals z)) (sym (append_assoc before (i ∷ []) is))

pub body_start : {L : Type 0} (has : L → ℕ → Bool) (m : DecodedModule) (body : Option BodyValue) (locals : List Locals) (a b : Search L)
    (left : Option (List InstrValue))
    → body ≡ option_map (body_of locals) left → FindsItems has a b (present m (val_type_refs (local_types locals)))
    → list_all (is_in m) (val_type_refs (local_types locals)) ≡ true → IsBodyFound has m body locals a b left
body_start has m body locals a b left e f there = record {
  before = [];
  split = e;
  found = subst (λ (z : List ItemIndex). FindsItems has a b (present m z)) (sym (append-nil (val_type_refs (local_types locals)))) f;
  there = there;
  in_range = refl;
}

-- one more of what a body names
refs_more : {L : Type 0} (has : L → ℕ → Bool) (m : DecodedModule) (a b c : Search L) (types : List ItemIndex) (before is : List InstrValue)
    → FindsItems has a b (present m (types ++ code_refs before)) → FindsItems has b c (present m (code_refs is))
    → FindsItems has a c (present m (types ++ code_refs (before ++ is)))
refs_more has m a b c types before is p q =
    subst (λ (z : List ItemIndex). FindsItems has a c (present m z))
    (append_assoc types (code_refs before) (code_refs is) ∙ ap (λ (z : List ItemIndex). types ++ z) (sym (flat_map-append instr_refs before is)))
    (finds_present has m a b c (types ++ code_refs before) (code_refs is) p q)

pub body_more : {L : Type 0} (has : L → ℕ → Bool) (m : DecodedModule) (body : Option BodyValue) (locals : List Locals) (a b c : Search L)
    (left after : Option (List InstrValue)) (i : InstrValue)
    → IsBodyFound has m body locals a b left → left ≡ option_map (λ is. i ∷ is) after → FindsItems has b c (present m (instr_refs i))
    → is_operator_in_range m i ≡ true
    → IsBodyFound has m body locals a c after
body_more has m body locals a b c left after i s e f good = record {
  before = s.before ++ i ∷ [];
  split = s.split ∙ ap (option_map (λ is. body_of locals (s.before ++ is))) e ∙ map_push locals s.before i after;
  found = refs_more has m a b c (val_type_refs (local_types locals)) s.before (i ∷ []) s.found
      (subst (λ (z : List ItemIndex). FindsItems has b c (present m z)) (sym (append-nil (instr_refs i))) f);
  there = s.there;
  in_range = in_range_push m s.before i ∙ (ap (λ (z : Bool). z && (is_operator_in_range m i && true)) s.in_range ∙ ap (λ (z : Bool). true && (z && true)) good);
}

-- operators were passed over that name nothing, or memory 0, which was found

pub finds_old : {L : Type 0} (has : L → ℕ → Bool) (a : Search L) (x : ItemIndex) → finds has a x ≡ true → FindsItems has a a (x ∷ [])
finds_old has a x old = grown_old items_decided (finds has a) (finds has a) a.order.items x old (record { present = old; others = λ y new. refl })

finds_passable : {L : Type 0} (has : L → ℕ → Bool) (m : DecodedModule) (a : Search L) (memory : Bool) (i : InstrValue)
    → (memory ≡ true → (finds has a (Memories, 0) ≡ true) × (is_in m (Memories, 0) ≡ true))
    → ArePassable memory (refs_of i.immediates) → type_refs_of i.immediates ≡ [] → FindsItems has a a (present m (instr_refs i))
finds_passable has m a memory i known (inl e) types = rw (types, e) (finds_none has a)
finds_passable has m a memory i known (inr (may, e)) types = let k = known may in rw (types, e, k.1) (finds_old has a (Memories, 0) k.0)

in_range_passable : (m : DecodedModule) (memory : Bool) (i : InstrValue) → (memory ≡ true → is_in m (Memories, 0) ≡ true) → IsPassable memory i
    → is_operator_in_range m i ≡ true
in_range_passable m memory i known (inl e, segment, types) = rw (types, e, segment) refl
in_range_passable m memory i known (inr (may, e), segment, types) = rw (types, e, known may, segment) refl

pub known_code : {L : Type 0} (has : L → ℕ → Bool) (m : DecodedModule) (a : Search L) (memory : Bool) (is : List InstrValue)
    → (memory ≡ true → (finds has a (Memories, 0) ≡ true) × (is_in m (Memories, 0) ≡ true))
    → IsPassableCode memory is → IsKnownCode has m a is
known_code has m a memory [] known n = (finds_none has a, refl)
known_code has m a memory (i ∷ is) known n =
    let rest = known_code has m a memory is known n.1 in (
      finds_present has m a a a (instr_refs i) (code_refs is) (finds_passable has m a memory i known n.0.0 n.0.2) rest.0,
      rw (in_range_passable m memory i (λ may. (known may).1) n.0, rest.1) refl,
    )

map_those : (locals : List Locals) (before is : List InstrValue) (o : Option (List InstrValue))
    → option_map (λ xs. body_of locals (before ++ xs)) (run_and_left is o) ≡ option_map (λ xs. body_of locals ((before ++ is) ++ xs)) o
map_those locals before is None = refl
map_those locals before is (Some xs) = ap (λ (z : List InstrValue). Some (body_of locals z)) (sym (append_assoc before is xs))

pub body_passed : {L : Type 0} (has : L → ℕ → Bool) (m : DecodedModule) (body : Option BodyValue) (locals : List Locals) (a b : Search L)
    (left after : Option (List InstrValue)) (is : List InstrValue)
    → IsBodyFound has m body locals a b left → left ≡ run_and_left is after → IsKnownCode has m b is → IsBodyFound has m body locals a b after
body_passed has m body locals a b left after is s e n = record {
  before = s.before ++ is;
  split = s.split ∙ (ap (option_map (λ xs. body_of locals (s.before ++ xs))) e ∙ map_those locals s.before is after);
  found = refs_more has m a b b (val_type_refs (local_types locals)) s.before is s.found n.0;
  there = s.there;
  in_range = list_all-append (is_operator_in_range m) s.before is ∙ (ap (λ (z : Bool). z && is_code_in_range m is) s.in_range ∙ n.1);
}

whole_body : {L : Type 0} (has : L → ℕ → Bool) (m : DecodedModule) (body : Option BodyValue) (locals : List Locals) (a b : Search L)
    (left : Option (List InstrValue))
    → (s : IsBodyFound has m body locals a b left) → left ≡ Some [] → body ≡ Some (body_of locals s.before)
whole_body has m body locals a b left s e =
    s.split ∙ ap (option_map (λ is. body_of locals (s.before ++ is))) e ∙ ap (λ (z : List InstrValue). Some (body_of locals z)) (append-nil s.before)

pub body_end : {L : Type 0} (has : L → ℕ → Bool) (m : DecodedModule) (body : Option BodyValue) (locals : List Locals) (a b : Search L)
    (left : Option (List InstrValue))
    → IsBodyFound has m body locals a b left → left ≡ Some [] → FindsItems has a b (present m (body_refs body))
body_end has m body locals a b left s e = subst (λ (z : Option BodyValue). FindsItems has a b (present m (body_refs z)))
    (sym (whole_body has m body locals a b left s e)) s.found

pub body_in_range : {L : Type 0} (has : L → ℕ → Bool) (m : DecodedModule) (body : Option BodyValue) (locals : List Locals) (a b : Search L)
    (left : Option (List InstrValue))
    → IsBodyFound has m body locals a b left → left ≡ Some [] → is_body_in_range m body ≡ true
body_in_range has m body locals a b left s e =
    ap (is_body_in_range m) (whole_body has m body locals a b left s e)
    ∙ (ap (λ (z : Bool). z && is_code_in_range m s.before) s.there ∙ s.in_range)

out_of_range_in : (m : DecodedModule) (before is : List InstrValue) (i : InstrValue) → is_operator_in_range m i ≡ false
    → is_code_in_range m (before ++ i ∷ is) ≡ false
out_of_range_in m [] is i bad = ap (λ (z : Bool). z && is_code_in_range m is) bad
out_of_range_in m (x ∷ before) is i bad =
    ap (λ (z : Bool). is_operator_in_range m x && z) (out_of_range_in m before is i bad) ∙ and-false (is_operator_in_range m x)

pub body_out_of_range : {L : Type 0} (has : L → ℕ → Bool) (m : DecodedModule) (body : Option BodyValue) (locals : List Locals) (a b : Search L)
    (left after : Option (List InstrValue)) (i : InstrValue)
    → IsBodyFound has m body locals a b left → left ≡ option_map (λ is. i ∷ is) after → is_operator_in_range m i ≡ false → is_body_in_range m body ≡ false
body_out_of_range has m body locals a b left after i s e bad =
    ap (is_body_in_range m) (s.split ∙ ap (option_map (λ is. body_of locals (s.before ++ is))) e) ∙ go after
  where
    go : (o : Option (List InstrValue)) → is_body_in_range m (option_map (λ is. body_of locals (s.before ++ is)) (option_map (λ is. i ∷ is) o)) ≡ false
    go None = refl
    go (Some is) = ap (λ (z : Bool). z && is_code_in_range m (s.before ++ i ∷ is)) s.there ∙ out_of_range_in m s.before is i bad

-- those of an initialiser, of which some operators are left
pub record IsInitFound {L : Type 0} (has : L → ℕ → Bool) (m : DecodedModule) (init : Option (List InstrValue)) (a b : Search L) (left : Option (List InstrValue)) : Type 0 where
  pub before : List InstrValue
  pub split : init ≡ run_and_left before left
  pub found : FindsItems has a b (present m (code_refs before))
  pub some : is_some left ≡ true

pub init_start : {L : Type 0} (has : L → ℕ → Bool) (m : DecodedModule) (init : Option (List InstrValue)) (a : Search L) → is_some init ≡ true → IsInitFound has m init a a init
init_start has m init a some = record { before = []; split = whole init; found = finds_none has a; some = some }
  where
    whole : (o : Option (List InstrValue)) → o ≡ run_and_left [] o
    whole None = refl
    whole (Some is) = refl

pub init_more : {L : Type 0} (has : L → ℕ → Bool) (m : DecodedModule) (init : Option (List InstrValue)) (a b c : Search L) (left after : Option (List InstrValue)) (i : InstrValue)
    → IsInitFound has m init a b left → left ≡ option_map (λ is. i ∷ is) after → FindsItems has b c (present m (instr_refs i)) → IsInitFound has m init a c after
init_more has m init a b c left after i s e f = record {
  before = s.before ++ i ∷ [];
  split = s.split ∙ (ap (run_and_left s.before) e ∙ moved after);
  found = finds_code has m a b c s.before i s.found f;
  some = sym (is_there after) ∙ (ap is_some (sym e) ∙ s.some);
}
  where
    moved : (o : Option (List InstrValue)) → run_and_left s.before (option_map (λ is. i ∷ is) o) ≡ run_and_left (s.before ++ i ∷ []) o
    moved None = refl
    moved (Some is) = ap Some (sym (append_assoc s.before (i ∷ []) is))

    is_there : (o : Option (List InstrValue)) → is_some (option_map (λ is. i ∷ is) o) ≡ is_some o
    is_there None = refl
    is_there (Some is) = refl

pub init_end : {L : Type 0} (has : L → ℕ → Bool) (m : DecodedModule) (init : Option (List InstrValue)) (a b : Search L) (left : Option (List InstrValue))
    → IsInitFound has m init a b left → left ≡ Some [] → FindsItems has a b (present m (init_refs init))
init_end has m init a b left s e = subst (λ (z : Option (List InstrValue)). FindsItems has a b (present m (init_refs z)))
    (sym (s.split ∙ (ap (run_and_left s.before) e ∙ ap Some (append-nil s.before)))) s.found

-- an initialiser of one operator, which names one item
pub init_index_refs : (init : Option (List InstrValue)) (i : InitIndex) → init ≡ Some (index_instr i ∷ end_value ∷ []) → init_refs init ≡ option_to_list (reference i.index)
init_index_refs init i e = ap init_refs e ∙ (append-nil (option_to_list (reference i.index) ++ []) ∙ append-nil (option_to_list (reference i.index)))

-- where there is no initialiser, nothing is named
pub finds_no_init : {L : Type 0} (has : L → ℕ → Bool) (m : DecodedModule) (a : Search L) (init : Option (List InstrValue)) → is_some init ≡ false → FindsItems has a a (present m (init_refs init))
finds_no_init has m a None none = finds_none has a
finds_no_init has m a (Some is) none = absurd cc

-- items of a module that was read

-- of a last step, where it is Ok
pub finds_present_then : {L E : Type 0} (has : L → ℕ → Bool) (m : DecodedModule) (a b c : Search L) (xs ys : List ItemIndex) (r : Result Unit E)
    → FindsItems has a b (present m xs) → OnOk r (FindsItems has b c (present m ys)) → OnOk r (FindsItems has a c (present m (xs ++ ys)))
finds_present_then has m a b c xs ys (Ok u) p q = finds_present has m a b c xs ys p q
finds_present_then has m a b c xs ys (Err e) p q = q

-- the type of a global, and then what its initialiser names
pub finds_global_then : {L E : Type 0} (has : L → ℕ → Bool) (m : DecodedModule) (a b c : Search L) (t : ValType) (ys : List ItemIndex) (r : Result Unit E)
    → FindsItems has a b (present m (option_to_list (type_reference t))) → OnOk r (FindsItems has b c (present m ys))
    → OnOk r (FindsItems has a c (present m (val_type_refs (t ∷ []) ++ ys)))
finds_global_then has m a b c t ys r p q =
    subst (λ (z : List ItemIndex). OnOk r (FindsItems has a c (present m (z ++ ys)))) (sym (type_alone t))
    (finds_present_then has m a b c (option_to_list (type_reference t)) ys r p q)

-- an operator of one index

pub index_refs : (v : Instr) (i : Index) → v.immediates ≡ has_index i → instr_refs (instr_value v) ≡ option_to_list (reference i)
index_refs v i e = ap (λ (u : Immediates). instr_refs (instr_of v.opcode (immediates_value u))) e ∙ append-nil (option_to_list (reference i))

pub index_in_range : (m : DecodedModule) (v : Instr) (i : Index) → v.immediates ≡ has_index i
    → is_operator_in_range m (instr_value v) ≡ (list_all (is_in m) (option_to_list (reference i)) && not (is_segment i.kind))
index_in_range m v i e =
    ap (λ (u : Immediates). is_operator_in_range m (instr_of v.opcode (immediates_value u))) e
    ∙ ap (λ (xs : List ItemIndex). list_all (is_in m) xs && not (is_segment i.kind)) (append-nil (option_to_list (reference i)))
