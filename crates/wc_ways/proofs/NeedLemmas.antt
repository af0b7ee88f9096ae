-- Which types are noted, and the first root that needs each, root by root.
use Rattle.std.proofs.Common.{◌≡◌, ◌<◌, ◌≤◌, ◌↔◌, ◌⊎◌, ℕ, Bool, true, false, cond, List, [], ◌∷◌, ◌++◌, ◌+◌, map, take, get_or, String, Global, Result, Ok, Err, OnOk, Option, Some, None, is_some, length, nat_eq, nat_lt, slice_get, IsTrue, refl, sym, ◌∙◌, ap, subst, inl, inr, append-nil, append_assoc}
use Rattle.std.specs.List.{Contains, flat_map}
use Rattle.std.specs.Map.{keys_of}
use Rattle.std.specs.Option.{option_or}
use Rattle.std.proofs.lemmas.Bool.{cases_Bool, ltb-true}
use Rattle.std.proofs.lemmas.Cmp.{nat_eq_equiv}
use Rattle.std.proofs.lemmas.List.{map-append, take_all, take_more}
use Rattle.std.proofs.lemmas.List.Concat.{flat_map-append}
use Rattle.std.proofs.lemmas.List.Folds.{flat_map-map}
use Rattle.std.proofs.lemmas.List.Elements.{Contains-append_cases, Contains-append_left, Contains-append_right}
use Rattle.std.proofs.lemmas.Map.Views.{Contains-keys_from_lookup, IsSome-lookup_from_Contains}
use Rattle.std.proofs.lemmas.Option.{slice_get_cases}
use Rattle.std.proofs.lemmas.Simd.{map-map}
use Rattle.wc_names.proofs.FirstMemberLemmas.{or_none}
use Rattle.wc_resolve.specs.Kinds.{ResolveView}
use Rattle.wc_resolve.specs.Live.{AddsListings, IsComplete, list_union, listing_of, with_live}
use Rattle.wc_resolve.specs.Views.{FunctionView, function_entry, interface_view, type_entry}
use Rattle.wc_texts.specs.Names.{named_view}
use Rattle.wc_resolve.specs.Roots.{function_roots, interface_roots, named_function_roots, named_type_roots, param_roots, static_roots, type_roots}
use Rattle.wc_resolve.specs.declared.functions.FunctionKind.{FunctionKind}
use Rattle.wc_resolve.specs.declared.types.WitType.{WitType}
use Rattle.wc_resolve.specs.declared.worlds.Interface.{Interface}
use Rattle.wc_resolve.specs.declared.ids.TypeId.{TypeId}
use Rattle.wc_resolve.proofs.KeyLemmas.{nat_from}
use Rattle.wc_resolve.proofs.ListUnionLemmas.{list_union_has, with_from}
use Rattle.wc_maps.proofs.ListLemmas.{contains_head, contains_tail}
use Rattle.wc_ways.specs.TypeRoots.{Needs, TypeRoot, all_needed, first_root, listing_in, needs_of}
use Rattle.wc_ways.specs.Private.Needs.{AddsFirst, AddsNeeds, Finds, Noted, noted_in, noted_needs, noted_types, root_view}
use Rattle.wc_ways.specs.declared.needs.Found.{Found}
use Rattle.wc_ways.specs.declared.needs.Needing.{Needing}
use Rattle.wc_ways.specs.declared.needs.TypeRoot.{TypeRoot as DeclaredRoot}
use Rattle.wc_ways.proofs.ListLemmas.{flat_flat}

-- what is found first in one list after another

pub or_first : {X : Type 0} (x y z : Option X) → option_or (option_or x y) z ≡ option_or x (option_or y z)
or_first None y z = refl
or_first (Some x) y z = refl

root_there : (b : Bool) (root : TypeRoot) (xs ys : Needs) (t : ℕ) → first_root (xs ++ ys) t ≡ option_or (first_root xs t) (first_root ys t)
    → cond b (Some root) (first_root (xs ++ ys) t) ≡ option_or (cond b (Some root) (first_root xs t)) (first_root ys t)
root_there true root xs ys t h = refl
root_there false root xs ys t h = h

root_append : (xs ys : Needs) (t : ℕ) → first_root (xs ++ ys) t ≡ option_or (first_root xs t) (first_root ys t)
root_append [] ys t = refl
root_append (x ∷ xs) ys t = root_there (nat_eq t x.0) x.1 xs ys t (root_append xs ys t)

-- nothing is added, and needs after others

pub first_none : (noted : Noted) → AddsFirst noted noted []
first_none noted t = sym (or_none (first_root (noted_needs noted) t))

first_both : (a b c : Noted) (xs ys : Needs) → AddsFirst a b xs → AddsFirst b c ys → AddsFirst a c (xs ++ ys)
first_both a b c xs ys p q t =
    q t
    ∙ (ap (λ z. option_or z (first_root ys t)) (p t)
    ∙ (or_first (first_root (noted_needs a) t) (first_root xs t) (first_root ys t) ∙ ap (option_or (first_root (noted_needs a) t)) (sym (root_append xs ys t))))

pub needs_none : (r : ResolveView) (noted : Noted) → AddsNeeds r noted noted []
needs_none r noted = λ complete. (complete, first_none noted)

pub needs_both : (r : ResolveView) (a b c : Noted) (xs ys : Needs) → AddsNeeds r a b xs → AddsNeeds r b c ys → AddsNeeds r a c (xs ++ ys)
needs_both r a b c xs ys p q = λ complete.
    let x = p complete in
    let y = q x.0 in (y.0, first_both a b c xs ys x.1 y.1)

pub needs_both_on_ok : {E : Type 0} (r : ResolveView) (a b c : Noted) (xs ys : Needs) (result : Result (Unit {0}) E) → AddsNeeds r a b xs → OnOk result (AddsNeeds r b c ys)
    → OnOk result (AddsNeeds r a c (xs ++ ys))
needs_both_on_ok r a b c xs ys (Ok u) p q = needs_both r a b c xs ys p q
needs_both_on_ok r a b c xs ys (Err e) p q = tt

pub finds_none : (g : Needing) (f : Found) → Finds g f f []
finds_none g f = needs_none g.resolve.now (noted_in f)

pub finds_both : (g : Needing) (a b c : Found) (xs ys : List ℕ) → Finds g a b xs → Finds g b c ys → Finds g a c (xs ++ ys)
finds_both g a b c xs ys p q =
    let r = g.resolve.now in
    let root = root_view g.root in
    subst (AddsNeeds r (noted_in a) (noted_in c)) (sym (flat_map-append (λ (t : ℕ). all_needed root (listing_in r t)) xs ys))
    (needs_both r (noted_in a) (noted_in b) (noted_in c) (needs_of r root xs) (needs_of r root ys) p q)

pub finds_both_on_ok : {E : Type 0} (g : Needing) (a b c : Found) (xs ys : List ℕ) (result : Result (Unit {0}) E) → Finds g a b xs → OnOk result (Finds g b c ys)
    → OnOk result (Finds g a c (xs ++ ys))
finds_both_on_ok g a b c xs ys (Ok u) p q = finds_both g a b c xs ys p q
finds_both_on_ok g a b c xs ys (Err e) p q = tt

-- parameters, one after another
pub params_more : (g : Needing) (params : List (String Global × WitType)) (n : ℕ) (x : String Global × WitType) (old mid new : Found) → n < length params
    → x ≡ get_or params n x → Finds g old mid (param_roots (take n params)) → Finds g mid new (type_roots x.1) → Finds g old new (param_roots (take (n + 1) params))
params_more g params n x old mid new lt is p q =
    let f : String Global × WitType → List ℕ = λ y. type_roots y.1 in
    subst (Finds g old new)
    (sym (ap param_roots (take_more params n x lt ∙ ap (λ z. take n params ++ z ∷ []) (sym is)) ∙ (flat_map-append f (take n params) (x ∷ []) ∙ ap (λ z. flat_map f (take n params) ++ z) (append-nil (f x)))))
    (finds_both g old mid new (param_roots (take n params)) (type_roots x.1) p q)

pub params_all : (g : Needing) (params : List (String Global × WitType)) (n : ℕ) (old now : Found) → length params ≤ n → Finds g old now (param_roots (take n params))
    → Finds g old now (param_roots params)
params_all g params n old now over p = subst (λ z. Finds g old now (param_roots z)) (take_all n params over) p

-- the types of a function, and of an interface, as the code has them
pub function_types : (kind : FunctionKind) (params deref : List (String Global × WitType)) (back : List ℕ) → deref ≡ params
    → static_roots kind ++ (param_roots deref ++ back) ≡ static_roots kind ++ (flat_map (λ (p : List ℕ × WitType). type_roots p.1) (map named_view params) ++ back)
function_types kind params deref back same =
    ap (λ z. static_roots kind ++ (z ++ back)) (ap param_roots same ∙ sym (flat_map-map (λ (p : List ℕ × WitType). type_roots p.1) named_view params))

types_named : (types : List (String Global × TypeId)) → named_type_roots types ≡ map (λ (e : List ℕ × ℕ). e.1) (map type_entry types)
types_named [] = refl
types_named (e ∷ types) = ap (λ z. e.1.0 ∷ z) (types_named types)

pub interface_types_are : (v : Interface) → named_type_roots v.types.entries ++ named_function_roots v.functions.entries ≡ interface_roots (interface_view v)
interface_types_are v =
    ap (λ z. z ++ named_function_roots v.functions.entries) (types_named v.types.entries)
    ∙ ap (λ z. map (λ (e : List ℕ × ℕ). e.1) (map type_entry v.types.entries) ++ z)
    (sym (flat_map-map (λ (e : List ℕ × FunctionView). function_roots e.1) function_entry v.functions.entries))

-- one type

pub first_known : (noted : Noted) (root : TypeRoot) (k : ℕ) → is_some (first_root (noted_needs noted) k) ≡ true → AddsFirst noted noted (all_needed root (k ∷ []))
first_known noted root k is t = elim (cases_Bool (nat_eq t k)) [
  | inl on ↦ root_stays (first_root (noted_needs noted) t) (first_root (all_needed root (k ∷ [])) t)
      (ap (λ j. is_some (first_root (noted_needs noted) j)) (nat_from t k on) ∙ is)
  | inr off ↦ sym (or_none (first_root (noted_needs noted) t))
      ∙ ap (λ b. option_or (first_root (noted_needs noted) t) (cond b (Some root) None)) (sym off)
]
  where
    root_stays : (o p : Option TypeRoot) → is_some o ≡ true → o ≡ option_or o p
    root_stays None p is = absurd (let bad : false ≡ true = is in cc)
    root_stays (Some x) p is = refl

pub first_new : (noted new : Noted) (id : TypeId) (root : DeclaredRoot) → new ≡ noted ++ (id, root) ∷ [] → AddsFirst noted new (all_needed (root_view root) (id.0 ∷ []))
first_new noted new id root is t =
    ap (λ (z : Noted). first_root (noted_needs z) t) is
    ∙ (ap (λ (z : Needs). first_root z t) (map-append (λ (e : TypeId × DeclaredRoot). (e.0.0, root_view e.1)) noted ((id, root) ∷ []))
    ∙ root_append (noted_needs noted) ((id.0, root_view root) ∷ []) t)

-- a loop: what is noted of those that were passed

pub record FirstWalk (root : TypeRoot) (all left : List ℕ) (old now : Noted) : Type 0 where
  pub passed : List ℕ
  pub split : passed ++ left ≡ all
  pub added : AddsFirst old now (all_needed root passed)

module _ (root : TypeRoot) (all : List ℕ) (old : Noted) where
  pub first_start : (left : List ℕ) → left ≡ all → FirstWalk root all left old old
  first_start left is = record { passed = []; split = is; added = first_none old }

  pub first_next : (left rest : List ℕ) (x : ℕ) (now new : Noted) → left ≡ x ∷ rest → AddsFirst now new (all_needed root (x ∷ [])) → FirstWalk root all left old now
      → FirstWalk root all rest old new
  first_next left rest x now new is adds w = record {
    passed = w.passed ++ x ∷ [];
    split = append_assoc w.passed (x ∷ []) rest ∙ (ap (λ z. w.passed ++ z) (sym is) ∙ w.split);
    added = subst (AddsFirst old new) (sym (map-append (λ (t : ℕ). (t, root)) w.passed (x ∷ [])))
        (first_both old now new (all_needed root w.passed) (all_needed root (x ∷ [])) w.added adds);
  }

  pub first_end : (left : List ℕ) (now : Noted) → left ≡ [] → FirstWalk root all left old now → AddsFirst old now (all_needed root all)
  first_end left now none w =
      subst (λ z. AddsFirst old now (all_needed root z)) (sym (append-nil w.passed) ∙ (ap (λ z. w.passed ++ z) (sym none) ∙ w.split)) w.added

pub record NeedsWalk {X : Type 0} (r : ResolveView) (f : X → Needs) (all left : List X) (old now : Noted) : Type 0 where
  pub passed : List X
  pub split : passed ++ left ≡ all
  pub added : AddsNeeds r old now (flat_map f passed)

module _ {X : Type 0} (r : ResolveView) (f : X → Needs) (all : List X) (old : Noted) where
  pub needs_start : (left : List X) → left ≡ all → NeedsWalk r f all left old old
  needs_start left is = record { passed = []; split = is; added = needs_none r old }

  pub needs_next : (left rest : List X) (x : X) (now new : Noted) → left ≡ x ∷ rest → AddsNeeds r now new (f x) → NeedsWalk r f all left old now → NeedsWalk r f all rest old new
  needs_next left rest x now new is adds w = record {
    passed = w.passed ++ x ∷ [];
    split = append_assoc w.passed (x ∷ []) rest ∙ (ap (λ z. w.passed ++ z) (sym is) ∙ w.split);
    added = subst (AddsNeeds r old new) (sym (flat_map-append f w.passed (x ∷ []) ∙ ap (λ z. flat_map f w.passed ++ z) (append-nil (f x))))
        (needs_both r old now new (flat_map f w.passed) (f x) w.added adds);
  }

  pub needs_end : (left : List X) (now : Noted) → left ≡ [] → NeedsWalk r f all left old now → AddsNeeds r old now (flat_map f all)
  needs_end left now none w =
      subst (λ z. AddsNeeds r old now (flat_map f z)) (sym (append-nil w.passed) ∙ (ap (λ z. w.passed ++ z) (sym none) ∙ w.split)) w.added

-- a loop over what names types
module _ {X : Type 0} (g : Needing) (f : X → List ℕ) (all : List X) (old : Found) where
  abbrev pub needs_by : X → Needs
  needs_by x = needs_of g.resolve.now (root_view g.root) (f x)

  abbrev pub FindsWalk : List X → Found → Type 0
  FindsWalk left now = NeedsWalk g.resolve.now needs_by all left (noted_in old) (noted_in now)

  pub finds_start : (left : List X) → left ≡ all → FindsWalk left old
  finds_start left is = needs_start g.resolve.now needs_by all (noted_in old) left is

  pub finds_next : (left rest : List X) (x : X) (now new : Found) → left ≡ x ∷ rest → Finds g now new (f x) → FindsWalk left now → FindsWalk rest new
  finds_next left rest x now new is finds w = needs_next g.resolve.now needs_by all (noted_in old) left rest x (noted_in now) (noted_in new) is finds w

  pub finds_end : (left : List X) (now : Found) → left ≡ [] → FindsWalk left now → Finds g old now (flat_map f all)
  finds_end left now none w =
      subst (AddsNeeds g.resolve.now (noted_in old) (noted_in now)) (sym (flat_flat (λ (t : ℕ). all_needed (root_view g.root) (listing_in g.resolve.now t)) f all))
      (needs_end g.resolve.now needs_by all (noted_in old) left (noted_in now) none w)

-- which types are noted

some_key : (es : Needs) (t : ℕ) (root : TypeRoot) → first_root es t ≡ Some root → Contains (keys_of es) t
some_key es t root is = Contains-keys_from_lookup nat_from t es (ap is_some is)

no_key : (es : Needs) (t : ℕ) → first_root es t ≡ None → Contains (keys_of es) t → ⊥
no_key es t none h = let bad : true ≡ false = sym (IsSome-lookup_from_Contains nat_eq_equiv t es h) ∙ ap is_some none in let wrong : ⊥ = cc bad in wrong

keys_noted : (noted : Noted) → keys_of (noted_needs noted) ≡ noted_types noted
keys_noted noted = map-map (λ (e : ℕ × TypeRoot). e.0) (λ (e : TypeId × DeclaredRoot). (e.0.0, root_view e.1)) noted

keys_all : (root : TypeRoot) (xs : List ℕ) → keys_of (all_needed root xs) ≡ xs
keys_all root [] = refl
keys_all root (x ∷ xs) = ap (λ z. x ∷ z) (keys_all root xs)

in_noted : (noted : Noted) (t : ℕ) (root : TypeRoot) → first_root (noted_needs noted) t ≡ Some root → Contains (noted_types noted) t
in_noted noted t root is = subst (λ z. Contains z t) (keys_noted noted) (some_key (noted_needs noted) t root is)

not_noted : (noted : Noted) (t : ℕ) → first_root (noted_needs noted) t ≡ None → Contains (noted_types noted) t → ⊥
not_noted noted t none h = no_key (noted_needs noted) t none (subst (λ z. Contains z t) (sym (keys_noted noted)) h)

in_all : (root : TypeRoot) (xs : List ℕ) (t : ℕ) → first_root (all_needed root xs) t ≡ Some root → Contains xs t
in_all root xs t is = subst (λ z. Contains z t) (keys_all root xs) (some_key (all_needed root xs) t root is)

not_all : (root : TypeRoot) (xs : List ℕ) (t : ℕ) → first_root (all_needed root xs) t ≡ None → Contains xs t → ⊥
not_all root xs t none h = no_key (all_needed root xs) t none (subst (λ z. Contains z t) (sym (keys_all root xs)) h)

abbrev OneRoot : TypeRoot → Option TypeRoot → Type 0
OneRoot root o = (o ≡ Some root) ⊎ (o ≡ None)

all_cases : (root : TypeRoot) (xs : List ℕ) (t : ℕ) → OneRoot root (first_root (all_needed root xs) t)
all_cases root [] t = inr refl
all_cases root (x ∷ xs) t = step (nat_eq t x) (first_root (all_needed root xs) t) (all_cases root xs t) where
  step : (b : Bool) (o : Option TypeRoot) → OneRoot root o → OneRoot root (cond b (Some root) o)
  step true o h = inl refl
  step false o h = h

same_all : (root : TypeRoot) (xs ys : List ℕ) (t : ℕ) → (Contains xs t → Contains ys t) → (Contains ys t → Contains xs t)
    → first_root (all_needed root xs) t ≡ first_root (all_needed root ys) t
same_all root xs ys t to from = both (all_cases root xs t) (all_cases root ys t) where
  both : OneRoot root (first_root (all_needed root xs) t) → OneRoot root (first_root (all_needed root ys) t) → first_root (all_needed root xs) t ≡ first_root (all_needed root ys) t
  both (inl p) (inl q) = p ∙ sym q
  both (inr p) (inr q) = p ∙ sym q
  both (inl p) (inr q) = absurd (not_all root ys t q (to (in_all root xs t p)))
  both (inr p) (inl q) = absurd (not_all root xs t p (from (in_all root ys t q)))

-- what is in a listing that was added without repeats

union_from : (live listing : List ℕ) (c : ℕ) → Contains (list_union live listing) c → Contains live c ⊎ Contains listing c
union_from live [] c h = inl h
union_from live (x ∷ listing) c h = elim (union_from (with_live live x) listing c h) [
  | inl front ↦ elim (with_from live x c front) [ inl was ↦ inl was | inr same ↦ inr (subst (Contains (x ∷ listing)) same (contains_head listing x)) ]
  | inr rest ↦ inr (contains_tail x listing c rest)
]

module _ (known listed listing : List ℕ) (is : known ++ listed ≡ list_union known listing) where
  listed_from : (x : ℕ) → Contains listed x → Contains known x ⊎ Contains listing x
  listed_from x h = union_from known listing x (subst (λ z. Contains z x) is (Contains-append_right known listed x h))

  listed_has : (x : ℕ) → Contains listing x → Contains known x ⊎ Contains listed x
  listed_has x h = Contains-append_cases known listed x (subst (λ z. Contains z x) (sym is) (list_union_has known listing x h))

  first_same : (root : TypeRoot) (x : ℕ) (o : Option TypeRoot) → (o ≡ None → Contains known x → ⊥)
      → option_or o (first_root (all_needed root listed) x) ≡ option_or o (first_root (all_needed root listing) x)
  first_same root x (Some c) none = refl
  first_same root x None none =
      same_all root listed listing x
      (λ h. elim (listed_from x h) [ inl was ↦ absurd (none refl was) | inr there ↦ there ])
      (λ h. elim (listed_has x h) [ inl was ↦ absurd (none refl was) | inr there ↦ there ])

-- the types that are noted afterwards

both_none : (a b : Option TypeRoot) → option_or a b ≡ None → (a ≡ None) × (b ≡ None)
both_none None b h = (refl, h)
both_none (Some x) b h = absurd (let bad : ⊥ = cc h in bad)

module _ (root : TypeRoot) (noted new : Noted) (listed : List ℕ) (first : AddsFirst noted new (all_needed root listed)) where
  now_in : (x : ℕ) → Contains (noted_types new) x → Contains (noted_types noted ++ listed) x
  now_in x h = by_first (first_root (noted_needs noted) x) refl (all_cases root listed x) where
    by_first : (o : Option TypeRoot) → first_root (noted_needs noted) x ≡ o → OneRoot root (first_root (all_needed root listed) x) → Contains (noted_types noted ++ listed) x
    by_first (Some c) is other = Contains-append_left (noted_types noted) listed x (in_noted noted x c is)
    by_first None is (inl some) = Contains-append_right (noted_types noted) listed x (in_all root listed x some)
    by_first None is (inr none) =
        absurd (not_noted new x (first x ∙ (ap (λ z. option_or z (first_root (all_needed root listed) x)) is ∙ none)) h)

  now_has : (x : ℕ) → Contains (noted_types noted ++ listed) x → Contains (noted_types new) x
  now_has x h = by_first (first_root (noted_needs new) x) refl where
    by_first : (o : Option TypeRoot) → first_root (noted_needs new) x ≡ o → Contains (noted_types new) x
    by_first (Some c) is = in_noted new x c is
    by_first None is =
        let none = both_none (first_root (noted_needs noted) x) (first_root (all_needed root listed) x) (sym (first x) ∙ is) in
        elim (Contains-append_cases (noted_types noted) listed x h) [
          | inl was ↦ absurd (not_noted noted x none.0 was)
          | inr more ↦ absurd (not_all root listed x none.1 more)
        ]

one_needed : (r : ResolveView) (root : TypeRoot) (t : ℕ) (b : Bool) → nat_lt t (length r.types) ≡ b → needs_of r root (t ∷ []) ≡ all_needed root (cond b (listing_of r.types t) [])
one_needed r root t b is = append-nil (all_needed root (cond (nat_lt t (length r.types)) (listing_of r.types t) [])) ∙ ap (λ b. all_needed root (cond b (listing_of r.types t) [])) is

-- a type that is there was listed beside the noted ones, and the list was noted
pub found_type : (r : ResolveView) (root : TypeRoot) (t : ℕ) (noted new : Noted) (cleared listed : List ℕ) → cleared ≡ [] → nat_lt t (length r.types) ≡ true
    → AddsListings r (noted_types noted ++ cleared) (noted_types noted ++ listed) (t ∷ []) → AddsFirst noted new (all_needed root listed)
    → AddsNeeds r noted new (needs_of r root (t ∷ []))
found_type r root t noted new cleared listed none there adds first = λ complete.
    let known : List ℕ = noted_types noted in
    let listing : List ℕ = listing_of r.types t in
    let same : known ++ cleared ≡ known = ap (λ z. known ++ z) none ∙ append-nil known in
    let p = adds (subst (IsComplete r.types) (sym same) complete) in
    let is : known ++ listed ≡ list_union known listing = p.1 ∙ (ap (λ z. list_union z (listing ++ [])) same ∙ ap (list_union known) (append-nil listing)) in (
      (λ x c here child. now_has root noted new listed first c (p.0 x c (now_in root noted new listed first x here) child)),
      (λ x. first x
          ∙ (first_same known listed listing is root x (first_root (noted_needs noted) x) (λ off h. not_noted noted x off h)
          ∙ ap (λ z. option_or (first_root (noted_needs noted) x) (first_root z x)) (sym (one_needed r root t true there)))),
    )

pub found_type_on_ok : {E : Type 0} (r : ResolveView) (root : TypeRoot) (t : ℕ) (noted new : Noted) (cleared listed : List ℕ) (result : Result (Unit {0}) E) → cleared ≡ []
    → nat_lt t (length r.types) ≡ true → AddsListings r (noted_types noted ++ cleared) (noted_types noted ++ listed) (t ∷ [])
    → OnOk result (AddsFirst noted new (all_needed root listed)) → OnOk result (AddsNeeds r noted new (needs_of r root (t ∷ [])))
found_type_on_ok r root t noted new cleared listed (Ok u) none there adds first = found_type r root t noted new cleared listed none there adds first
found_type_on_ok r root t noted new cleared listed (Err e) none there adds first = tt

-- one that isn't there
pub missing_type : (r : ResolveView) (root : TypeRoot) (t : ℕ) (noted : Noted) → nat_lt t (length r.types) ≡ false → AddsNeeds r noted noted (needs_of r root (t ∷ []))
missing_type r root t noted off = subst (AddsNeeds r noted noted) (sym (one_needed r root t false off)) (needs_none r noted)

-- a type is among those that are noted
pub known_type : (noted : Noted) (t : ℕ) (b : Bool) → b ≡ is_some (first_root (noted_needs noted) t) → IsTrue b ↔ Contains (noted_types noted) t
known_type noted t b is = (
  (λ on. subst (λ z. Contains z t) (keys_noted noted) (Contains-keys_from_lookup nat_from t (noted_needs noted) (sym is ∙ on))),
  (λ h. is ∙ IsSome-lookup_from_Contains nat_eq_equiv t (noted_needs noted) (subst (λ z. Contains z t) (sym (keys_noted noted)) h)),
)

-- whether a type is there
pub type_past : (t n : ℕ) (b : Bool) → IsTrue b ↔ (t < n) → b ≡ false → nat_lt t n ≡ false
type_past t n b test off = elim (cases_Bool (nat_lt t n)) [
  | inl on ↦ absurd (let bad : true ≡ false = sym (test.1 (ltb-true t n on)) ∙ off in cc)
  | inr past ↦ past
]

-- an interface that isn't there
pub interface_past : (r : ResolveView) (i : ℕ) (b : Bool) → IsTrue b ↔ (i < length r.interfaces) → b ≡ false → slice_get r.interfaces i ≡ None
interface_past r i b test off = elim ((slice_get_cases r.interfaces i).1) [
  | inl at ↦ absurd (let bad : true ≡ false = sym (test.1 at.1) ∙ off in cc)
  | inr past ↦ past.1
]
