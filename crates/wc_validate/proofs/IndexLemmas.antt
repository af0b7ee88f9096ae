-- Look-ups in lists that are passed part by part, and in indices of them.
use Rattle.std.proofs.Common.{◌≡◌, ℕ, Bool, true, false, cond, List, [], ◌∷◌, ◌++◌, Option, Some, None, is_some, refl, sym, ap, subst, ◌∙◌}
use Rattle.std.specs.Map.{lookup}
use Rattle.std.specs.Str.{bytes_eq}
use Rattle.std.proofs.lemmas.Slice.Eq.{bytes_eq-Decides}
use Rattle.wc_adapters.specs.Adapters.{InstanceView}
use Rattle.wc_validate.specs.Imports.AdapterTypes.{first_some}
use Rattle.wc_validate.specs.Private.Imports.Arguments.{AreMatched, IsArgumentOf, IsIndexOf, Matches}
use Rattle.wc_validate.specs.Imports.Entries.{first_by}
use Rattle.wc_validate.specs.declared.imports.arguments.Argument.{Argument}

pub first_some_none : {X : Type 0} (o : Option X) → first_some o None ≡ o
first_some_none None = refl
first_some_none (Some x) = refl

pub first_some_assoc : {X : Type 0} (a b c : Option X) → first_some (first_some a b) c ≡ first_some a (first_some b c)
first_some_assoc None b c = refl
first_some_assoc (Some x) b c = refl

pub first_by_append : {X Y : Type 0} (f : X → Option Y) (xs ys : List X) → first_by f (xs ++ ys) ≡ first_some (first_by f xs) (first_by f ys)
first_by_append f [] ys = refl
first_by_append f (x ∷ xs) ys = ap (first_some (f x)) (first_by_append f xs ys) ∙ sym (first_some_assoc (f x) (first_by f xs) (first_by f ys))

-- with one more after the others
pub first_by_push : {X Y : Type 0} (f : X → Option Y) (xs : List X) (y : X) → first_by f (xs ++ y ∷ []) ≡ first_some (first_by f xs) (f y)
first_by_push f xs y = first_by_append f xs (y ∷ []) ∙ ap (first_some (first_by f xs)) (first_some_none (f y))

lookup_at : {X : Type 0} (b : Bool) (x : X) (p q r : Option X) → p ≡ first_some q r → cond b (Some x) p ≡ first_some (cond b (Some x) q) r
lookup_at true x p q r h = refl
lookup_at false x p q r h = h

pub lookup_push : {K X : Type 0} (test : K → Bool) (es : List (K × X)) (k : K) (v : X)
    → lookup test (es ++ (k, v) ∷ []) ≡ first_some (lookup test es) (cond (test k) (Some v) None)
lookup_push test [] k v = refl
lookup_push test (e ∷ es) k v =
    lookup_at (test e.0) e.1 (lookup test (es ++ (k, v) ∷ [])) (lookup test es) (cond (test k) (Some v) None) (lookup_push test es k v)

module _ {X : Type 0} (index entries : List (List ℕ × X)) (k : List ℕ) (v : X) (same : IsIndexOf index entries) where
  -- a new name goes after the others
  pub index_more : IsIndexOf (index ++ (k, v) ∷ []) (entries ++ (k, v) ∷ [])
  index_more name =
      lookup_push (bytes_eq name) index k v ∙ (ap (λ z. first_some z (cond (bytes_eq name k) (Some v) None)) (same name)
      ∙ sym (lookup_push (bytes_eq name) entries k v))

  kept_at : (name : List ℕ) (o : Option X) (b : Bool) → lookup (bytes_eq name) entries ≡ o → bytes_eq name k ≡ b → is_some (lookup (bytes_eq k) entries) ≡ true
      → o ≡ first_some o (cond b (Some v) None)
  kept_at name (Some x) b is test there = refl
  kept_at name None false is test there = refl
  kept_at name None true is test there =
      let none : lookup (bytes_eq k) entries ≡ None = subst (λ z. lookup (bytes_eq z) entries ≡ None) ((bytes_eq-Decides name k).0 test) is in
      let both : false ≡ true = sym (ap is_some none) ∙ there in
      absurd (let bad : ⊥ = cc both in bad)

  -- a name that is there counts no more
  pub index_kept : is_some (lookup (bytes_eq k) index) ≡ true → IsIndexOf index (entries ++ (k, v) ∷ [])
  index_kept there name =
      same name
      ∙ (kept_at name (lookup (bytes_eq name) entries) (bytes_eq name k) refl refl (subst (λ z. is_some z ≡ true) (same k) there)
      ∙ sym (lookup_push (bytes_eq name) entries k v))

abbrev pub Arguments : Type 0
Arguments = List (List ℕ × Argument)

abbrev pub Instances : Type 0
Instances = List (List ℕ × InstanceView)

matches_first : (a b : Option Argument) (v w : Option InstanceView) → Matches a v → Matches b w → Matches (first_some a b) (first_some v w)
matches_first None b None w h more = more
matches_first (Some a) b (Some v) w h more = h
matches_first None b (Some v) w h more = absurd h
matches_first (Some a) b None w h more = absurd h

matches_one : (t : Bool) (a : Argument) (v : InstanceView) → IsArgumentOf a v → Matches (cond t (Some a) None) (cond t (Some v) None)
matches_one true a v h = h
matches_one false a v h = tt

matches_kept : (a : Option Argument) (v w : Option InstanceView) → Matches a v → (a ≡ None → w ≡ None) → Matches a (first_some v w)
matches_kept None None w h none = rw (none refl) tt
matches_kept (Some a) (Some v) w h none = h
matches_kept None (Some v) w h none = absurd h
matches_kept (Some a) None w h none = absurd h

module _ (index : Arguments) (entries : Instances) (k : List ℕ) (v : InstanceView) (same : AreMatched index entries) where
  pub matches_more : (a : Argument) → IsArgumentOf a v → AreMatched (index ++ (k, a) ∷ []) (entries ++ (k, v) ∷ [])
  matches_more a is m =
      rw (lookup_push (bytes_eq m) index k a, lookup_push (bytes_eq m) entries k v)
      (matches_first (lookup (bytes_eq m) index) (cond (bytes_eq m k) (Some a) None) (lookup (bytes_eq m) entries) (cond (bytes_eq m k) (Some v) None) (same m)
      (matches_one (bytes_eq m k) a v is))

  passed_at : (m : List ℕ) (b : Bool) → bytes_eq m k ≡ b → is_some (lookup (bytes_eq k) index) ≡ true → lookup (bytes_eq m) index ≡ None
      → cond b (Some v) None ≡ None
  passed_at m false test there none = refl
  passed_at m true test there none =
      let gone : lookup (bytes_eq k) index ≡ None = subst (λ z. lookup (bytes_eq z) index ≡ None) ((bytes_eq-Decides m k).0 test) none in
      let both : false ≡ true = sym (ap is_some gone) ∙ there in
      absurd (let bad : ⊥ = cc both in bad)

  pub matches_passed : is_some (lookup (bytes_eq k) index) ≡ true → AreMatched index (entries ++ (k, v) ∷ [])
  matches_passed there m =
      rw (lookup_push (bytes_eq m) entries k v)
      (matches_kept (lookup (bytes_eq m) index) (lookup (bytes_eq m) entries) (cond (bytes_eq m k) (Some v) None) (same m)
      (passed_at m (bytes_eq m k) refl there))
