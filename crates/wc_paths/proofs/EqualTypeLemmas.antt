-- The first of some types that are equal.
use Rattle.std.proofs.Common.{◌≡◌, ℕ, zero, suc, ◌+◌, ◌<◌, Bool, true, false, cond, List, [], ◌∷◌, ◌++◌, length, Option, Some, None, nat_eq, ◌&&◌, refl, sym, ◌∙◌, ap, subst, arith, inl, inr}
use Rattle.std.specs.Prelude.{◌≢◌, ◌⊎◌, MatchOption}
use Rattle.std.specs.Cmp.Lexicographic.{pointwise}
use Rattle.std.specs.List.{flat_map, slice_get}
use Rattle.std.specs.Map.{lookup}
use Rattle.std.specs.Option.{option_map_or}
use Rattle.indexmap.specs.IndexMap.{insert_entry}
use Rattle.std.proofs.lemmas.Bool.{and_from, and_parts, both_ways, cases_lt, cases_order}
use Rattle.std.proofs.lemmas.Option.{same_Some}
use Rattle.std.proofs.lemmas.Slice.Eq.{bytes_eq-Decides}
use Rattle.wc_read.specs.Types.{FuncTypeValue}
use Rattle.wc_read.specs.declared.types.ValType.{ValType}
use Rattle.wc_read.specs.declared.types.ValType.TheVariants.{I32, I64, F32, F64, V128, FuncRef, ExternRef, FuncRefNonNull, ExternRefNonNull, TypeRef}
use Rattle.wc_paths.specs.Private.EqualTypes.{AreFirstBefore, AreTypesBefore, IsFirstType, IsKeyOf, TypeKey, is_key, type_numbers}

-- types are had back from their numbers

abbrev variants : ℕ → List ValType
variants i =
    I32 ∷ I64 ∷ F32 ∷ F64 ∷ V128 ∷ FuncRef ∷ ExternRef ∷ FuncRefNonNull ∷ ExternRefNonNull ∷ TypeRef true i ∷ TypeRef false i ∷ []

abbrev type_of : ℕ → ℕ → ValType
type_of n i = option_map_or (λ (t : ValType). t) (slice_get (variants i) n) I32

abbrev types_of : List ℕ → List ValType
types_of [] = []
types_of (n ∷ []) = []
types_of (n ∷ i ∷ ns) = type_of n i ∷ types_of ns

types_back : (ts : List ValType) → types_of (flat_map type_numbers ts) ≡ ts
types_back [] = refl
types_back (I32 ∷ ts) = ap (λ z. I32 ∷ z) (types_back ts)
types_back (I64 ∷ ts) = ap (λ z. I64 ∷ z) (types_back ts)
types_back (F32 ∷ ts) = ap (λ z. F32 ∷ z) (types_back ts)
types_back (F64 ∷ ts) = ap (λ z. F64 ∷ z) (types_back ts)
types_back (V128 ∷ ts) = ap (λ z. V128 ∷ z) (types_back ts)
types_back (FuncRef ∷ ts) = ap (λ z. FuncRef ∷ z) (types_back ts)
types_back (ExternRef ∷ ts) = ap (λ z. ExternRef ∷ z) (types_back ts)
types_back (FuncRefNonNull ∷ ts) = ap (λ z. FuncRefNonNull ∷ z) (types_back ts)
types_back (ExternRefNonNull ∷ ts) = ap (λ z. ExternRefNonNull ∷ z) (types_back ts)
types_back (TypeRef true i ∷ ts) = ap (λ z. TypeRef true i ∷ z) (types_back ts)
types_back (TypeRef false i ∷ ts) = ap (λ z. TypeRef false i ∷ z) (types_back ts)

types_same : (a b : List ValType) → flat_map type_numbers a ≡ flat_map type_numbers b → a ≡ b
types_same a b e = sym (types_back a) ∙ (ap types_of e ∙ types_back b)

type_same : (t u : FuncTypeValue) → t.params ≡ u.params → t.results ≡ u.results → t ≡ u
type_same t u p r = ap (λ z. of_parts z t.results) p ∙ ap (of_parts u.params) r where
  of_parts : List ValType → List ValType → FuncTypeValue
  of_parts params results = record { params = params; results = results }

-- a key that a type has is its own, and no other type has it

pub key_is : (t : FuncTypeValue) (k : TypeKey) → IsKeyOf t k → is_key t k ≡ true
key_is t k (p, r) =
    and_from (pointwise nat_eq (flat_map type_numbers t.params) k.0.items) (pointwise nat_eq (flat_map type_numbers t.results) k.1.items)
    ((bytes_eq-Decides (flat_map type_numbers t.params) k.0.items).1 (sym p)) ((bytes_eq-Decides (flat_map type_numbers t.results) k.1.items).1 (sym r))

pub key_one : (t u : FuncTypeValue) (k : TypeKey) → IsKeyOf t k → is_key u k ≡ true → u ≡ t
key_one t u k (p, r) e =
    let both = and_parts (pointwise nat_eq (flat_map type_numbers u.params) k.0.items) (pointwise nat_eq (flat_map type_numbers u.results) k.1.items) e in
    type_same u t (types_same u.params t.params ((bytes_eq-Decides (flat_map type_numbers u.params) k.0.items).0 both.0 ∙ p))
    (types_same u.results t.results ((bytes_eq-Decides (flat_map type_numbers u.results) k.1.items).0 both.1 ∙ r))

-- a look-up by its key
pub looked : (t : FuncTypeValue) (k : TypeKey) → IsKeyOf t k → (es : List (TypeKey × ℕ)) (o : Option ℕ)
    → o ≡ lookup (λ (y : TypeKey). pointwise nat_eq k.0.items y.0.items && pointwise nat_eq k.1.items y.1.items) es → lookup (is_key t) es ≡ o
looked t k (p, r) es o is =
    ap (λ (xs : List ℕ). lookup (λ (y : TypeKey). pointwise nat_eq xs y.0.items && pointwise nat_eq (flat_map type_numbers t.results) y.1.items) es) (sym p)
    ∙ (ap (λ (xs : List ℕ). lookup (λ (y : TypeKey). pointwise nat_eq k.0.items y.0.items && pointwise nat_eq xs y.1.items) es) (sym r) ∙ sym is)

-- what is put in where there was nothing comes last

inserted : {K X : Type 0} (eq : K → K → Bool) (es : List (K × X)) (k : K) (v : X) → lookup (eq k) es ≡ None → insert_entry eq es k v ≡ es ++ (k, v) ∷ []
inserted eq [] k v none = refl
inserted eq (e ∷ es) k v none = by (eq k e.0) none (inserted eq es k v) where
  by : (b : Bool) → cond b (Some e.1) (lookup (eq k) es) ≡ None → (lookup (eq k) es ≡ None → insert_entry eq es k v ≡ es ++ (k, v) ∷ [])
      → cond b ((e.0, v) ∷ es) (e ∷ insert_entry eq es k v) ≡ e ∷ (es ++ (k, v) ∷ [])
  by true bad next = absurd (let f : ⊥ = cc bad in f)
  by false rest next = ap (λ z. e ∷ z) (next rest)

lookup_last : {K X : Type 0} (test : K → Bool) (es : List (K × X)) (k : K) (v : X) → lookup test es ≡ None
    → lookup test (es ++ (k, v) ∷ []) ≡ cond (test k) (Some v) None
lookup_last test [] k v none = refl
lookup_last test (e ∷ es) k v none = by (test e.0) none (lookup_last test es k v) where
  by : (b : Bool) → cond b (Some e.1) (lookup test es) ≡ None
      → (lookup test es ≡ None → lookup test (es ++ (k, v) ∷ []) ≡ cond (test k) (Some v) None)
      → cond b (Some e.1) (lookup test (es ++ (k, v) ∷ [])) ≡ cond (test k) (Some v) None
  by true bad next = absurd (let f : ⊥ = cc bad in f)
  by false rest next = next rest

lookup_other : {K X : Type 0} (test : K → Bool) (es : List (K × X)) (k : K) (v : X) → test k ≡ false
    → lookup test (es ++ (k, v) ∷ []) ≡ lookup test es
lookup_other test [] k v apart = ap (λ b. cond b (Some v) None) apart
lookup_other test (e ∷ es) k v apart = ap (λ o. cond (test e.0) (Some e.1) o) (lookup_other test es k v apart)

-- before the first type there is none
pub types_start : (types : List FuncTypeValue) → AreTypesBefore types 0 []
types_start types t j lt = absurd (omega (arith, lt))

module _ (types : List FuncTypeValue) (n : ℕ) (t : FuncTypeValue) (is : slice_get types n ≡ Some t) (old : List (TypeKey × ℕ)) (before : AreTypesBefore types n old) where
  -- none of the types up to n is another one that none before n was
  none_more : (u : FuncTypeValue) → ¬ (u ≡ t) → ((j : ℕ) → j < n → slice_get types j ≢ Some u) → (j : ℕ) → j < n + 1 → slice_get types j ≢ Some u
  none_more u other none j lt e =
      elim (cases_lt j n) [
        | inl less ↦ none j less e
        | inr past ↦ let same : j ≡ n = omega (arith, lt, past) in other (same_Some u t (sym e ∙ (ap (slice_get types) same ∙ is)))
      ]

  -- a type that was noted
  pub noted : (first : ℕ) → lookup (is_key t) old ≡ Some first → AreTypesBefore types (n + 1) old × IsFirstType types t first
  noted first found = (λ u. by u (lookup (is_key u) old) refl (before u), subst (λ o. MatchOption o ((j : ℕ) → j < n → slice_get types j ≢ Some t) (IsFirstType types t)) found (before t))
    where
      by : (u : FuncTypeValue) (o : Option ℕ) → lookup (is_key u) old ≡ o → MatchOption o ((j : ℕ) → j < n → slice_get types j ≢ Some u) (IsFirstType types u)
          → MatchOption o ((j : ℕ) → j < n + 1 → slice_get types j ≢ Some u) (IsFirstType types u)
      by u (Some k) e h = h
      by u None e h = none_more u (λ same. let bad : Some first ≡ None = sym found ∙ (ap (λ z. lookup (is_key z) old) (sym same) ∙ e) in let f : ⊥ = cc bad in f) h

  -- one that is new
  pub new_noted : (eq : TypeKey → TypeKey → Bool) (k : TypeKey) (new : List (TypeKey × ℕ)) → IsKeyOf t k → lookup (is_key t) old ≡ None
      → lookup (eq k) old ≡ None → new ≡ insert_entry eq old k n → AreTypesBefore types (n + 1) new × IsFirstType types t n
  new_noted eq k new key none absent put =
      (λ u. subst (λ o. MatchOption o ((j : ℕ) → j < n + 1 → slice_get types j ≢ Some u) (IsFirstType types u)) (sym (at u)) (by u (is_key u k) refl), first)
    where
      at : (u : FuncTypeValue) → lookup (is_key u) new ≡ cond (is_key u k) (Some n) (lookup (is_key u) old)
      at u = ap (lookup (is_key u)) (put ∙ inserted eq old k n absent) ∙ each (is_key u k) refl where
        each : (b : Bool) → is_key u k ≡ b → lookup (is_key u) (old ++ (k, n) ∷ []) ≡ cond b (Some n) (lookup (is_key u) old)
        each true e =
            lookup_last (is_key u) old k n (ap (λ z. lookup (is_key z) old) (key_one t u k key e) ∙ none) ∙ ap (λ b. cond b (Some n) None) e
        each false e = lookup_other (is_key u) old k n e

      first : IsFirstType types t n
      first = record {
        is = is;
        first = subst (λ o. MatchOption o ((j : ℕ) → j < n → slice_get types j ≢ Some t) (IsFirstType types t)) none (before t);
      }

      other : (u : FuncTypeValue) (o : Option ℕ) → ¬ (u ≡ t) → MatchOption o ((j : ℕ) → j < n → slice_get types j ≢ Some u) (IsFirstType types u)
          → MatchOption o ((j : ℕ) → j < n + 1 → slice_get types j ≢ Some u) (IsFirstType types u)
      other u (Some m) apart h = h
      other u None apart h = none_more u apart h

      by : (u : FuncTypeValue) (b : Bool) → is_key u k ≡ b
          → MatchOption (cond b (Some n) (lookup (is_key u) old)) ((j : ℕ) → j < n + 1 → slice_get types j ≢ Some u) (IsFirstType types u)
      by u true e = subst (λ z. IsFirstType types z n) (sym (key_one t u k key e)) first
      by u false e =
          other u (lookup (is_key u) old) (λ same. both_ways (is_key u k) e (ap (λ z. is_key z k) same ∙ key_is t k key)) (before u)

-- the first types, one after another

pub firsts_start : (types : List FuncTypeValue) → AreFirstBefore types 0 []
firsts_start types = record { sized = refl; at = λ i k t e. absurd cc }

pub firsts_more : (types : List FuncTypeValue) (n : ℕ) (t : FuncTypeValue) (firsts new : List ℕ) (first : ℕ) → slice_get types n ≡ Some t
    → AreFirstBefore types n firsts → IsFirstType types t first → new ≡ firsts ++ first ∷ [] → AreFirstBefore types (n + 1) new
firsts_more types n t firsts new first is h f e = record { sized = (let l = ap length e in let m = long firsts in let s = h.sized in omega (arith, l, m, s)); at = at } where
  long : (xs : List ℕ) → length (xs ++ first ∷ []) ≡ length xs + 1
  long [] = refl
  long (x ∷ xs) = let l = long xs in omega (arith, l)

  found : (xs : List ℕ) (i k : ℕ) → slice_get (xs ++ first ∷ []) i ≡ Some k → (slice_get xs i ≡ Some k) ⊎ ((i ≡ length xs) × (first ≡ k))
  found [] zero k g = inr (refl, same_Some first k g)
  found [] (suc i) k g = absurd cc
  found (x ∷ xs) zero k g = inl g
  found (x ∷ xs) (suc i) k g =
      elim (found xs i k g) [
        | inl there ↦ inl there
        | inr last ↦ inr (ap suc last.0, last.1)
      ]

  at : (i k : ℕ) (u : FuncTypeValue) → slice_get new i ≡ Some k → slice_get types i ≡ Some u → IsFirstType types u k
  at i k u g w =
      elim (found firsts i k (ap (λ z. slice_get z i) (sym e) ∙ g)) [
        | inl there ↦ h.at i k u there w
        | inr last ↦ subst (IsFirstType types u) last.1 (subst (λ z. IsFirstType types z first)
            (same_Some t u (sym is ∙ (ap (slice_get types) (sym (last.0 ∙ h.sized)) ∙ w))) f)
      ]

-- types that are equal have one first, and others have others

pub first_same : (types : List FuncTypeValue) (t : FuncTypeValue) (a b : ℕ) → IsFirstType types t a → IsFirstType types t b → a ≡ b
first_same types t a b f g =
    elim (cases_order a b) [
      | inl same ↦ same
      | inr other ↦ elim other [ inl less ↦ absurd (g.first a less f.is) | inr more ↦ absurd (f.first b more g.is) ]
    ]

pub first_one : (types : List FuncTypeValue) (t u : FuncTypeValue) (a : ℕ) → IsFirstType types t a → IsFirstType types u a → t ≡ u
first_one types t u a f g = same_Some t u (sym f.is ∙ g.is)
