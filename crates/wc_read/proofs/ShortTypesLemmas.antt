-- Types of parameters and results in one list.
use Rattle.std.specs.Prelude.{◌==◌}
use Rattle.std.proofs.Common.{◌≡◌, ◌≢◌, ◌⊎◌, inl, inr, ℕ, zero, suc, ◌+◌, ◌-◌, ◌<◌, ◌≤◌, List, [], ◌∷◌, ◌++◌, length, take, drop, min, get_or, set, Option, Some, refl, sym, ◌∙◌, ap, subst, arith, length-append, length-drop, length-take-le, length-set, get_or-take, get_or-drop, get_or-set_same, get_or-set_other}
use Rattle.std.proofs.lemmas.List.{same_lists, get_or_append_left, get_or_push, take_more}
use Rattle.wc_read.specs.Types.{FuncTypeValue, func_type_value}
use Rattle.wc_read.specs.Contents.{func_type_code}
use Rattle.wc_read.specs.Reading.Reader.{number_at, vector_at, byte_at, where_at}
use Rattle.wc_read.specs.Reading.Types.{val_type_at}
use Rattle.wc_read.specs.Reading.Contents.{func_type_at}
use Rattle.wc_read.specs.Private.ShortTypes.{IsPut, HasRead}
use Rattle.wc_read.specs.declared.types.ValType.{ValType}
use Rattle.wc_read.specs.declared.types.FuncType.{FuncType}
use Rattle.wc_read.proofs.OptionsLemmas.{bind_some}
use Rattle.wc_read.proofs.CountedLemmas.{IsPartRead, part_start, part_more, part_end}

-- so many at most

pub take_most : {A : Type 0} (n : ℕ) (xs : List A) → length xs ≤ n → xs ≡ take n xs
take_most n xs h = sym (all n xs h)
  where
    all : {A : Type 0} (n : ℕ) (xs : List A) → length xs ≤ n → take n xs ≡ xs
    all zero [] h = refl
    all zero (x ∷ xs) h = absurd (omega arith)
    all (suc n) [] h = refl
    all (suc n) (x ∷ xs) h = ap (λ ys. x ∷ ys) (all n xs (omega arith))

pub drop_most : {A : Type 0} (n : ℕ) (xs : List A) → drop (min n (length xs)) xs ≡ drop n xs
drop_most n xs = elim (two n (length xs)) [
  | inl h ↦ (let e : min n (length xs) ≡ n = omega arith in ap (λ k. drop k xs) e)
  | inr h ↦ (let e : min n (length xs) ≡ length xs = omega arith in ap (λ k. drop k xs) e ∙ (none (length xs) xs (omega arith) ∙ sym (none n xs h)))
]
  where
    two : (a b : ℕ) → (a ≤ b) ⊎ (b ≤ a)
    two a b = grind arith

    none : {A : Type 0} (n : ℕ) (xs : List A) → length xs ≤ n → drop n xs ≡ []
    none zero [] h = refl
    none zero (x ∷ xs) h = absurd (omega arith)
    none (suc n) [] h = refl
    none (suc n) (x ∷ xs) h = none n xs (omega arith)

-- types that are put into places, one after another

pub none_put : (from : ℕ) (types : List ValType) → IsPut from [] types types
none_put from types = record { places = refl; kept = λ k d h. refl; put = λ k d h. absurd (omega (arith, h)) }

pub one_put : (from at : ℕ) (ts before now : List ValType) (v : ValType) → IsPut from ts before now → at ≡ length ts → from + at < length now → IsPut from (ts ++ v ∷ []) before (set now (from + at) v)
one_put from at ts before now v p many within = record {
  places = length-set now (from + at) v ∙ p.places;
  kept = λ k d h. get_or-set_other now (from + at) k v d (λ e. omega (arith, h, e)) ∙ p.kept k d h;
  put = λ k d h. elim (place k (omega (arith, h, length-append ts (v ∷ [])))) [
    | inl low ↦
        get_or-set_other now (from + at) (from + k) v d (λ e. omega (arith, low, many, e))
        ∙ (p.put k d low ∙ sym (get_or_append_left ts (v ∷ []) d k low))
    | inr last ↦
        let same : from + k ≡ from + at = omega (arith, last, many) in
        ap (λ n. get_or (set now (from + at) v) n d) same ∙ (get_or-set_same now (from + at) v d within ∙ sym (get_or_push ts v d k (sym last)))
  ];
}
  where
    place : (k : ℕ) → k < length ts + 1 → (k < length ts) ⊎ (k ≡ length ts)
    place k h = grind arith

pub put_more : (from at : ℕ) (values before now : List ValType) (d : ValType) → IsPut from (take at values) before now → at < length values → from + at < length now → IsPut from (take (at + 1) values) before (set now (from + at) (get_or values at d))
put_more from at values before now d p inside within =
    subst (λ (ts : List ValType). IsPut from ts before (set now (from + at) (get_or values at d))) (sym (take_more values at d inside))
    (one_put from at (take at values) before now (get_or values at d) p (sym (length-take-le at values (omega arith))) within)

-- the types of parameters, and after them those of results

pub short_made_params : (p : ℕ) (ps rs t0 t1 t2 : List ValType) → p ≡ length ps → IsPut 0 ps t0 t1 → IsPut p rs t1 t2 → p ≤ length t2 → take p t2 ≡ ps
short_made_params p ps rs t0 t1 t2 many a b within =
    let size = length-take-le p t2 within in
    same_lists (take p t2) ps (size ∙ many) (λ k d h.
    let below : k < p = omega (arith, h, size) in
    let own : k < length ps = omega (arith, below, many) in
    let here : 0 + k ≡ k = omega arith in
    get_or-take p t2 k d below ∙ (b.kept k d below ∙ subst (λ (n : ℕ). get_or t1 n d ≡ get_or ps k d) here (a.put k d own)))

pub short_made_results : (p r : ℕ) (rs t1 t2 : List ValType) → r ≡ length rs → IsPut p rs t1 t2 → p + r ≤ length t2 → take r (drop p t2) ≡ rs
short_made_results p r rs t1 t2 many b within =
    let long : r ≤ length (drop p t2) = omega (arith, length-drop p t2, within) in
    let size = length-take-le r (drop p t2) long in
    same_lists (take r (drop p t2)) rs (size ∙ many) (λ k d h.
    let below : k < r = omega (arith, h, size) in
    get_or-take r (drop p t2) k d below ∙ (get_or-drop p t2 k d ∙ b.put k d (omega (arith, below, many))))

-- the loop that reads them

pub record IsReading (from count index : ℕ) (rest bytes : List ℕ) (before now : List ValType) : Type 0 where
  pub types : List ValType
  pub part : IsPartRead val_type_at types (count - index) rest (vector_at val_type_at bytes)
  pub many : index ≡ length types
  pub placed : IsPut from types before now

pub reading_start : (from count : ℕ) (rest bytes : List ℕ) (before : List ValType) → number_at 32 bytes ≡ Some (count, rest) → IsReading from count 0 rest bytes before before
reading_start from count rest bytes before e = record {
  types = [];
  part = (let all : count - 0 ≡ count = omega arith in rw all (part_start val_type_at bytes count rest e));
  many = refl;
  placed = none_put from before;
}

pub reading_more : (from count index : ℕ) (rest bytes : List ℕ) (before now : List ValType) (t : ValType) (after : List ℕ) → IsReading from count index rest bytes before now → index < count → val_type_at rest ≡ Some (t, after) → from + index < length now
    → IsReading from count (index + 1) after bytes before (set now (from + index) t)
reading_more from count index rest bytes before now t after r below e within =
    let left : count - index ≡ suc (count - (index + 1)) = omega arith in
    record {
      types = r.types ++ t ∷ [];
      part = part_more val_type_at r.types (count - (index + 1)) rest (vector_at val_type_at bytes) t after (rw left at r.part) e;
      many = ap (λ (n : ℕ). n + 1) r.many ∙ sym (length-append r.types (t ∷ []));
      placed = one_put from index r.types before now t r.placed r.many within;
    }

pub reading_end : (from count index : ℕ) (rest bytes : List ℕ) (before now : List ValType) → IsReading from count index rest bytes before now → index ≡ count → from + count ≤ 4 → HasRead from bytes rest before now count
reading_end from count index rest bytes before now r e within =
    let none : count - index ≡ 0 = omega arith in
    record {
      types = r.types;
      read = part_end val_type_at r.types rest (vector_at val_type_at bytes) (rw none at r.part);
      many = sym e ∙ r.many;
      within = within;
      placed = r.placed;
    }

-- a function type of such types

pub type_is : (v : FuncTypeValue) (ps rs : List ValType) → v.params ≡ ps → v.results ≡ rs → v ≡ record { params = ps; results = rs }
type_is v ps rs e f = ap (λ (p : List ValType). record { params = p; results = v.results }) e ∙ ap (λ (r : List ValType). record { params = ps; results = r }) f

pub short_read : (input : List ℕ) (code : ℕ) (rest mid left : List ℕ) (t0 t1 t2 : List ValType) (p r : ℕ) (f : FuncType) → input ≡ code ∷ rest → code ≡ func_type_code → HasRead 0 rest mid t0 t1 p → HasRead p mid left t1 t2 r → length t2 ≡ 4
    → (func_type_value f).params ≡ take p t2 → (func_type_value f).results ≡ take r (drop p t2) → func_type_at input ≡ Some (func_type_value f, left)
unfolding func_type_at
short_read input code rest mid left t0 t1 t2 p r f e is a b size fp fr =
    let first : where_at (λ b. b == func_type_code) byte_at input ≡ Some (code, rest) = rw (e, is) refl in
    let params = fp ∙ short_made_params p a.types b.types t0 t1 t2 a.many a.placed b.placed (omega (arith, size, b.within)) in
    let results = fr ∙ short_made_results p r b.types t1 t2 b.many b.placed (omega (arith, size, b.within)) in
    bind_some (where_at (λ b. b == func_type_code) byte_at input) _ (code, rest) first
    ∙ (bind_some (vector_at val_type_at rest) _ (a.types, mid) a.read
    ∙ (bind_some (vector_at val_type_at mid) _ (b.types, left) b.read
    ∙ ap (λ (v : FuncTypeValue). Some (v, left)) (sym (type_is (func_type_value f) a.types b.types params results))))
