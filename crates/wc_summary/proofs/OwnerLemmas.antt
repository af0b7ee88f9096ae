-- Items that are owned by the places of their imports, one after another.
use Rattle.std.proofs.Common.{◌≡◌, ◌≢◌, ℕ, zero, suc, ◌+◌, ◌-◌, ◌<◌, ◌≤◌, Bool, true, false, List, [], ◌∷◌, ◌++◌, map, take, length, get_or, set, refl, sym, ◌∙◌, ap, subst, ◌⊎◌, inl, inr, arith, Option, Some, None}
use Rattle.std.specs.Prelude.{◌↔◌, cond, count_by, replicate, String, string_bytes}
use Rattle.std.specs.Borrow.{Bor}
use Rattle.std.specs.declared.alloc.Global.{Global}
use Rattle.std.specs.List.{filter_map, find, range_with_len, slice_get}
use Rattle.std.specs.Map.{lookup}
use Rattle.std.specs.Option.{option_and_then, option_map, option_or, option_to_list}
use Rattle.std.specs.Str.{bytes_eq}
use Rattle.std.proofs.lemmas.List.Elements.{filter_map-append}
use Rattle.std.proofs.lemmas.List.Folds.{find-append}
use Rattle.std.proofs.lemmas.Slice.Eq.{bytes_eq-Decides}
use Rattle.std.proofs.lemmas.Bool.{cases_lt}
use Rattle.std.proofs.lemmas.Bool.Decides.{eqb_tells}
use Rattle.std.proofs.lemmas.List.{get_or-replicate, get_or-set_same, get_or-set_other, length-replicate, length-set, map-append, take_more}
use Rattle.std.proofs.lemmas.List.Sums.{count_by_more_no, count_by_more_yes}
use Rattle.std.proofs.lemmas.Option.{get_or_from_slice_get, slice_get-get_or, slice_get_within}
use Rattle.wc_read.specs.Exports.{ExportValue, export_value}
use Rattle.wc_read.specs.Imports.{ImportValue}
use Rattle.wc_read.specs.Items.{DefValue, FuncValue, imported, local}
use Rattle.wc_read.specs.declared.exports.Export.{Export}
use Rattle.wc_read.specs.declared.types.ImportType.{ImportType}
use Rattle.wc_read.specs.declared.types.ImportType.TheVariants.{Func, Table, Memory, Global as global_import}
use Rattle.wc_gc.specs.LiveChains.{item_named}
use Rattle.wc_gc.specs.LiveItems.{names_of}
use Rattle.wc_read.specs.ImportItems.{is_in_space}
use Rattle.wc_graph.proofs.ListLemmas.{get_some}
use Rattle.wc_graph.proofs.ListLemmas.{range_more}
use Rattle.wc_paths.specs.Items.{CountsValue, has_item, space_item}
use Rattle.wc_paths.specs.Numbers.{item_at, number_of}
use Rattle.wc_paths.specs.Roots.{AreImportItems, export_item, import_item, import_space}
use Rattle.wc_paths.specs.declared.items.PathItem.{PathItem}
use Rattle.wc_paths.proofs.NumbersLemmas.{item_back}
use Rattle.wc_graph.specs.Positions.{IsAt}
use Rattle.wc_summary.specs.Leads.{as_number, own_body, sized_body}
use Rattle.wc_summary.specs.Private.Leads.{AddsNamed, HasNamed, IsOwned, Named, is_name, sized_in}
use Rattle.wc_summary.proofs.UseLemmas.{one_listed}

-- ---- the place of one item

pub owned_some : (item place : Option ℕ) (i v : ℕ) (old new : List (Option ℕ)) → item ≡ Some i → place ≡ Some v → i < length old → new ≡ set old i place
    → IsOwned item place old new
owned_some item place i v old new is at within e = record {
  sized = ap length e ∙ length-set old i place;
  at = λ n u h. elim (eqb_tells n i) [
    | inl same ↦ inr (is ∙ ap Some (sym same.1), sym here ∙ (ap (λ (k : ℕ). get_or new k None) (sym same.1) ∙ get_or_from_slice_get new n (Some u) None h))
    | inr other ↦ inl (slice_get-get_or old n None (let w = slice_get_within new n (Some u) h in let l = sized in omega (arith, w, l))
        ∙ ap Some (sym (there n other.1) ∙ get_or_from_slice_get new n (Some u) None h))
  ];
  noted = λ n u f g. let same : i ≡ n = (let both : Some i ≡ Some n = sym is ∙ f in cc both) in
      subst (λ (k : ℕ). IsAt new k u) same (slice_get-get_or new i None (let l = sized in omega (arith, within, l)) ∙ ap Some (here ∙ g));
  kept = λ n u h not_item. let other : n ≢ i = (λ s. not_item (is ∙ ap Some (sym s))) in
      slice_get-get_or new n None (let w = slice_get_within old n (Some u) h in let l = sized in omega (arith, w, l))
      ∙ ap Some (there n other ∙ get_or_from_slice_get old n (Some u) None h);
}
  where
    sized : length new ≡ length old
    sized = ap length e ∙ length-set old i place

    here : get_or new i None ≡ place
    here = ap (λ (z : List (Option ℕ)). get_or z i None) e ∙ get_or-set_same old i place None within

    there : (n : ℕ) → n ≢ i → get_or new n None ≡ get_or old n None
    there n o = ap (λ (z : List (Option ℕ)). get_or z n None) e ∙ get_or-set_other old i n place None o

pub owned_not : (item place : Option ℕ) (old : List (Option ℕ)) → (item ≡ None) ⊎ (place ≡ None) → IsOwned item place old old
owned_not item place old missing = record {
  sized = refl;
  at = λ n u h. inl h;
  noted = λ n u f g. elim missing [
    | inl none ↦ absurd (let bad : None ≡ Some n = sym none ∙ f in cc bad)
    | inr none ↦ absurd (let bad : None ≡ Some u = sym none ∙ g in cc bad)
  ];
  kept = λ n u h other. h;
}

-- ---- items of imports differ

own_space : (ty : ImportType) → is_in_space (import_space ty) ty ≡ true
own_space (Func index) = refl
own_space (Table t) = refl
own_space (Memory t) = refl
own_space (global_import t) = refl

step_by : (p : ImportValue → Bool) (xs : List ImportValue) (k : ℕ) (d : ImportValue) → k < length xs → (b : Bool) → p (get_or xs k d) ≡ b
    → count_by p (take k xs) ≤ count_by p (take (k + 1) xs)
step_by p xs k d h true e = let m = count_by_more_yes p xs k d h e in omega (arith, m)
step_by p xs k d h false e = let m = count_by_more_no p xs k d h e in omega (arith, m)

rises : (p : ImportValue → Bool) (xs : List ImportValue) (k : ℕ) (i : ImportValue) (d : ℕ) → k + d ≤ length xs → count_by p (take k xs) ≤ count_by p (take (k + d) xs)
rises p xs k i zero h = (let z : k + 0 ≡ k = omega arith in let e = ap (λ (n : ℕ). count_by p (take n xs)) z in omega (arith, e))
rises p xs k i (suc d) h =
    let r = rises p xs k i d (omega (arith, h)) in
    let s = step_by p xs (k + d) i (omega (arith, h)) (p (get_or xs (k + d) i)) refl in
    let z : k + d + 1 ≡ k + suc d = omega arith in
    let e = ap (λ (n : ℕ). count_by p (take n xs)) z in
    omega (arith, r, s, e)

-- two imports of one space have indices of their own
before_one : (imports : List ImportValue) (k l : ℕ) (i j : ImportValue) → slice_get imports k ≡ Some i → slice_get imports l ≡ Some j → k < l
    → import_item imports k i ≢ import_item imports l j
before_one imports k l i j e f less same =
    let space : import_space i.ty ≡ import_space j.ty = cc same in
    let index : count_by (λ (x : ImportValue). is_in_space (import_space i.ty) x.ty) (take k imports)
    ≡ count_by (λ (x : ImportValue). is_in_space (import_space j.ty) x.ty) (take l imports) = cc same in
    let p = (λ (x : ImportValue). is_in_space (import_space i.ty) x.ty) in
    let w = slice_get_within imports k i e in
    let v = slice_get_within imports l j f in
    let more = count_by_more_yes p imports k i w (ap p (get_or_from_slice_get imports k i i e) ∙ own_space i.ty) in
    let back : k + 1 + (l - (k + 1)) ≡ l = omega (arith, less) in
    let most = rises p imports (k + 1) i (l - (k + 1)) (omega (arith, less, v)) in
    let at = ap (λ (n : ℕ). count_by p (take n imports)) back in
    let same_count : count_by p (take l imports) ≡ count_by (λ (x : ImportValue). is_in_space (import_space j.ty) x.ty) (take l imports) =
    ap (λ s. count_by (λ (x : ImportValue). is_in_space s x.ty) (take l imports)) space in
    omega (arith, index, more, most, at, same_count)

pub number_by : (c : CountsValue) (x : PathItem) (n : ℕ) (b : Bool) → has_item c x ≡ b → cond b (Some (number_of c x)) None ≡ Some n → (has_item c x ≡ true) × (number_of c x ≡ n)
number_by c x n true h e = (h, let same : Some (number_of c x) ≡ Some n = e in cc same)
number_by c x n false h e = absurd (let bad : None ≡ Some n = e in cc bad)

pub one_number : (c : CountsValue) (x y : PathItem) (n : ℕ) → as_number c x ≡ Some n → as_number c y ≡ Some n → x ≡ y
one_number c x y n e f =
    let h = number_by c x n (has_item c x) refl e in
    let k = number_by c y n (has_item c y) refl f in
    sym (item_back c x h.0) ∙ (ap (item_at c) (h.1 ∙ sym k.1) ∙ item_back c y k.0)

-- ---- item by item
pub record AreOwnersTo (c : CountsValue) (imports : List ImportValue) (places : List (Option ℕ)) (size next : ℕ) (owners : List (Option ℕ)) : Type 0 where
  pub sized : length owners ≡ size
  pub at : (n u : ℕ) → IsAt owners n u ↔ ((k : ℕ) × (i : ImportValue) × (k < next) × (slice_get imports k ≡ Some i) × IsAt places k u
      × (as_number c (import_item imports k i) ≡ Some n))

nothing_at : (size n u : ℕ) → IsAt (replicate size None) n u → ⊥
nothing_at size n u h =
    let w = slice_get_within (replicate size None) n (Some u) h in
    let l = length-replicate {A = Option ℕ} size None in
    let e : get_or (replicate size None) n None ≡ None = get_or-replicate size n None None (omega (arith, w, l)) in
    let bad : None ≡ Some u = sym e ∙ get_or_from_slice_get (replicate size None) n (Some u) None h in cc bad

pub owners_begun : (c : CountsValue) (imports : List ImportValue) (places : List (Option ℕ)) (size : ℕ) (owners : List (Option ℕ)) → length owners ≡ size
    → owners ≡ replicate size None → AreOwnersTo c imports places size 0 owners
owners_begun c imports places size owners l e = record {
  sized = l;
  at = λ n u. (
    λ h. absurd (nothing_at size n u (subst (λ (z : List (Option ℕ)). IsAt z n u) e h)),
    λ r. absurd (let h = r.2 in omega (arith, h)),
  );
}

pub owners_next : (c : CountsValue) (imports : List ImportValue) (items : List PathItem) (places : List (Option ℕ)) (size next : ℕ) (item place d : Option ℕ) (x : PathItem)
    (old new : List (Option ℕ)) → length places ≡ length imports → next < length places → AreImportItems imports items → get_or items next x ≡ x
    → item ≡ as_number c x → get_or places next d ≡ place → AreOwnersTo c imports places size next old → IsOwned item place old new
    → AreOwnersTo c imports places size (next + 1) new
owners_next c imports items places size next item place d x old new sized within are here is at a o = record {
  sized = o.sized ∙ a.sized;
  at = λ n u. (to n u, back n u);
}
  where
    i : ImportValue
    i = (get_some imports next (omega (arith, sized, within))).0

    i_is : slice_get imports next ≡ Some i
    i_is = (get_some imports next (omega (arith, sized, within))).1

    x_is : x ≡ import_item imports next i
    x_is = sym here ∙ get_or_from_slice_get items next (import_item imports next i) x (are.at next i i_is)

    number_is : (n : ℕ) → item ≡ Some n → as_number c (import_item imports next i) ≡ Some n
    number_is n e = ap (as_number c) (sym x_is) ∙ (sym is ∙ e)

    to : (n u : ℕ) → IsAt new n u → (k : ℕ) × (j : ImportValue) × (k < next + 1) × (slice_get imports k ≡ Some j) × IsAt places k u × (as_number c (import_item imports k j) ≡ Some n)
    to n u h = elim (o.at n u h) [
      | inl before ↦ let r = (a.at n u).0 before in (r.0, r.1, (let l = r.2 in omega (arith, l)), r.3, r.4, r.5)
      | inr now ↦ (next, i, omega arith, i_is, slice_get-get_or places next d within ∙ ap Some (at ∙ now.1), number_is n now.0)
    ]

    back : (n u : ℕ) → (k : ℕ) × (j : ImportValue) × (k < next + 1) × (slice_get imports k ≡ Some j) × IsAt places k u × (as_number c (import_item imports k j) ≡ Some n) → IsAt new n u
    back n u (k, j, l, e, p, q) = elim (cases_lt k next) [
      | inl less ↦ o.kept n u ((a.at n u).1 (k, j, less, e, p, q))
          (λ g. before_one imports k next j i e i_is less (one_number c (import_item imports k j) (import_item imports next i) n q (number_is n g)))
      | inr more ↦
          let same : k ≡ next = omega (arith, l, more) in
          let one : j ≡ i = (let both : Some j ≡ Some i = sym e ∙ (ap (slice_get imports) same ∙ i_is) in cc both) in
          o.noted n u
          (is ∙ (ap (as_number c) x_is ∙ (ap (λ (z : ImportValue). as_number c (import_item imports next z)) (sym one)
          ∙ (ap (λ (z : ℕ). as_number c (import_item imports z j)) (sym same) ∙ q))))
          (sym at ∙ get_or_from_slice_get places next (Some u) d (subst (λ (z : ℕ). IsAt places z u) same p))
    ]

pub owners_all : (c : CountsValue) (imports : List ImportValue) (places : List (Option ℕ)) (size next : ℕ) (owners : List (Option ℕ)) → length places ≤ next
    → AreOwnersTo c imports places size next owners
    → (n u : ℕ) → IsAt owners n u ↔ ((k : ℕ) × (i : ImportValue) × (slice_get imports k ≡ Some i) × IsAt places k u × (as_number c (import_item imports k i) ≡ Some n))
owners_all c imports places size next owners over a n u = (
  λ h. let r = (a.at n u).0 h in (r.0, r.1, r.3, r.4, r.5),
  λ r. (a.at n u).1 (r.0, r.1, (let w = slice_get_within places r.0 (Some u) r.3 in omega (arith, w, over)), r.2, r.3, r.4),
)

-- ---- items by the names of exports, of each name the first

pub named_none : (named : Named) → named ≡ [] → HasNamed [] named
named_none named e name = ap (lookup (is_name name)) e

pub named_next : (exports : List ExportValue) (e : ExportValue) (old new : Named) → HasNamed exports old → AddsNamed e old new → HasNamed (exports ++ e ∷ []) new
named_next exports e old new h a name =
    a name ∙ (ap (λ (o : Option PathItem). option_or o (cond (bytes_eq name.now e.name) (Some (export_item e)) None)) (h name)
    ∙ by (find (λ (x : ExportValue). bytes_eq name.now x.name) exports) refl (bytes_eq name.now e.name) refl)
  where
    by : (o : Option ExportValue) → find (λ (x : ExportValue). bytes_eq name.now x.name) exports ≡ o → (b : Bool) → bytes_eq name.now e.name ≡ b
        → option_or (option_map space_item (item_named exports name.now)) (cond (bytes_eq name.now e.name) (Some (export_item e)) None)
        ≡ option_map space_item (item_named (exports ++ e ∷ []) name.now)
    by (Some y) f b g =
        rw (find-append (λ (x : ExportValue). bytes_eq name.now x.name) exports (e ∷ []), f) refl
    by None f true g = rw (find-append (λ (x : ExportValue). bytes_eq name.now x.name) exports (e ∷ []), f, g) refl
    by None f false g = rw (find-append (λ (x : ExportValue). bytes_eq name.now x.name) exports (e ∷ []), f, g) refl

not_equal : (a b : List ℕ) (c : Bool) → bytes_eq a b ≡ c → bytes_eq b a ≡ false → bytes_eq a b ≡ false
not_equal a b false g f = g
not_equal a b true g f = absurd (let bad : true ≡ false = sym ((bytes_eq-Decides b a).1 (sym ((bytes_eq-Decides a b).0 g))) ∙ f in cc bad)

pub adds_new : (e : ExportValue) (key : Bor (List ℕ)) (x : PathItem) (old new : Named) → key.now ≡ e.name → x ≡ export_item e → lookup (is_name key) old ≡ None
    → ((q : Bor (List ℕ)) → lookup (is_name q) new ≡ cond (is_name key q) (Some x) (lookup (is_name q) old)) → AddsNamed e old new
adds_new e key x old new named is none put name = by (bytes_eq name.now key.now) refl
  where
    kept : (o : Option PathItem) → option_or o None ≡ o
    kept None = refl
    kept (Some y) = refl

    by : (b : Bool) → bytes_eq name.now key.now ≡ b
        → lookup (is_name name) new ≡ option_or (lookup (is_name name) old) (cond (bytes_eq name.now e.name) (Some (export_item e)) None)
    by true f =
        let same : name.now ≡ key.now = (bytes_eq-Decides name.now key.now).0 f in
        let nothing : lookup (is_name name) old ≡ None = ap (λ (z : List ℕ). lookup (λ (k : Bor (List ℕ)). bytes_eq z k.now) old) same ∙ none in
        let turned : is_name key name ≡ true = (bytes_eq-Decides key.now name.now).1 (sym same) in
        put name ∙ (ap (λ (b : Bool). cond b (Some x) (lookup (is_name name) old)) turned
        ∙ (ap Some is ∙ sym (ap (λ (o : Option PathItem). option_or o (cond (bytes_eq name.now e.name) (Some (export_item e)) None)) nothing
        ∙ ap (λ (b : Bool). cond b (Some (export_item e)) None) (ap (bytes_eq name.now) (sym named) ∙ f))))
    by false f =
        let turned : is_name key name ≡ false = not_equal key.now name.now (bytes_eq key.now name.now) refl f in
        put name ∙ (ap (λ (b : Bool). cond b (Some x) (lookup (is_name name) old)) turned
        ∙ sym (ap (λ (b : Bool). option_or (lookup (is_name name) old) (cond b (Some (export_item e)) None)) (ap (bytes_eq name.now) (sym named) ∙ f)
        ∙ kept (lookup (is_name name) old)))

pub named_more : (exports : List Export) (i : ℕ) (d : Export) (old new : Named) → i < length exports → HasNamed (map export_value (take i exports)) old
    → AddsNamed (export_value (get_or exports i d)) old new → HasNamed (map export_value (take (i + 1) exports)) new
named_more exports i d old new h n a =
    subst (λ (es : List ExportValue). HasNamed es new)
    (sym (ap (map export_value) (take_more exports i d h) ∙ map-append export_value (take i exports) (get_or exports i d ∷ [])))
    (named_next (map export_value (take i exports)) (export_value (get_or exports i d)) old new n a)

-- ---- names, one after another
pub sources_next : (f : List ℕ → Option ℕ) (names : List (String Global)) (i : ℕ) (d : String Global) (old new : List (Option ℕ)) (x : Option ℕ) → i < length names
    → old ≡ map f (names_of (take i names)) → x ≡ f (string_bytes (get_or names i d)) → new ≡ old ++ x ∷ [] → new ≡ map f (names_of (take (i + 1) names))
sources_next f names i d old new x h e is put =
    put ∙ (ap (λ (z : List (Option ℕ)). z ++ x ∷ []) e ∙ (ap (λ (z : Option ℕ). map f (names_of (take i names)) ++ z ∷ []) is
    ∙ sym (ap (λ (z : List (String Global)). map f (names_of z)) (take_more names i d h)
    ∙ (ap (map f) (map-append string_bytes (take i names) (get_or names i d ∷ [])) ∙ map-append f (names_of (take i names)) (string_bytes (get_or names i d) ∷ [])))))

-- ---- functions, one after another
one_size : (number : ℕ) (types f : ℕ) (o : Option FuncValue) (v : FuncValue) → o ≡ Some v → number ≡ types + f
    → sized_in number v.def ≡ map (λ (b : ℕ × ℕ). (types + b.0, b.1)) (option_to_list (option_map (λ (body : List ℕ). (f, length body)) (option_and_then own_body o)))
one_size number types f o v e n = rw e (by v.def)
  where
    by : (d : DefValue (List ℕ)) → sized_in number d
        ≡ map (λ (b : ℕ × ℕ). (types + b.0, b.1)) (option_to_list (option_map (λ (body : List ℕ). (f, length body)) (elim d as (λ z. Option (List ℕ)) [ imported a b ↦ None | local body ↦ Some body ])))
    by (imported a b) = refl
    by (local body) = ap (λ (k : ℕ). (k, length body) ∷ []) n

pub bodies_next : (funcs : List FuncValue) (types f number : ℕ) (v : FuncValue) (old new : List (ℕ × ℕ)) → slice_get funcs f ≡ Some v → number ≡ types + f
    → old ≡ map (λ (b : ℕ × ℕ). (types + b.0, b.1)) (filter_map (sized_body funcs) (range_with_len 0 f)) → new ≡ old ++ sized_in number v.def
    → new ≡ map (λ (b : ℕ × ℕ). (types + b.0, b.1)) (filter_map (sized_body funcs) (range_with_len 0 (f + 1)))
bodies_next funcs types f number v old new at n e put =
    let add : ℕ × ℕ → ℕ × ℕ = (λ b. (types + b.0, b.1)) in
    put ∙ (ap (λ (z : List (ℕ × ℕ)). z ++ sized_in number v.def) e
    ∙ (ap (λ (z : List (ℕ × ℕ)). map add (filter_map (sized_body funcs) (range_with_len 0 f)) ++ z) (one_size number types f (slice_get funcs f) v at n)
    ∙ sym (ap (λ (z : List ℕ). map add (filter_map (sized_body funcs) z)) (ap (range_with_len 0) (let more : f + 1 ≡ suc f = omega arith in more) ∙ (range_more 0 f
    ∙ ap (λ (k : ℕ). range_with_len 0 f ++ k ∷ []) (let same : 0 + f ≡ f = omega arith in same)))
    ∙ (ap (map add) (filter_map-append (sized_body funcs) (range_with_len 0 f) (f ∷ []))
    ∙ (map-append add (filter_map (sized_body funcs) (range_with_len 0 f)) (filter_map (sized_body funcs) (f ∷ []))
    ∙ ap (λ (z : List (ℕ × ℕ)). map add (filter_map (sized_body funcs) (range_with_len 0 f)) ++ map add z) (one_listed (sized_body funcs) f (sized_body funcs f) refl))))))
