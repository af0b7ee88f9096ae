-- Live types that are added for one element after another.
use Rattle.std.proofs.Common.{◌≡◌, ℕ, Iter, List, [], ◌∷◌, ◌++◌, Bool, true, false, cond, Option, Some, None, All, Result, Ok, Err, OnOk, filter, refl, sym, ap, ◌∙◌, subst, append-nil, append_assoc}
use Rattle.std.specs.Borrow.{Bor}
use Rattle.std.specs.Slice.Iter.{iter_rest, iter_steps}
use Rattle.std.proofs.lemmas.List.{nil_from_length}
use Rattle.std.specs.List.{Contains, cons_option, filter_map, flat_map}
use Rattle.std.specs.Option.{option_copied, option_to_list}
use Rattle.std.proofs.lemmas.Grind.{flat_map-append}
use Rattle.std.proofs.lemmas.List.Elements.{Contains-append_left, Contains-append_right}
use Rattle.wc_resolve.specs.declared.ids.TypeId.{TypeId}
use Rattle.wc_resolve.specs.Live.{AddsListings, IsComplete, list_union, listing_from, listing_of}
use Rattle.wc_resolve.specs.Roots.{indices}
use Rattle.wc_resolve.specs.Kinds.{ResolveView}
use Rattle.wc_resolve.proofs.ListUnionLemmas.{contains_joined, joined_from, list_union_append, list_union_has, list_union_there}
use Rattle.wc_resolve.proofs.ListingLemmas.{complete_none}
use Rattle.wc_maps.proofs.ListLemmas.{contains_head}
use Rattle.wc_adapters.specs.Entries.{Entries}
use Rattle.wc_names.specs.Views.{ImportView}
use Rattle.wc_world.specs.Live.{by_owner, import_roots, IsWithoutRepeats, live_from}
use Rattle.wc_world.specs.Private.LiveAdditions.{FunctionKey, HaveListings}
use Rattle.wc_world.specs.Private.ImportedItems.{is_in}
use Rattle.wc_world.proofs.OwnerLemmas.{repeats_front}

pub adds_none : (r : ResolveView) (live : List ℕ) → AddsListings r live live []
adds_none r live = λ complete. (complete, refl)

-- the listings of some types, and then those of others
pub adds_more : (r : ResolveView) (a b c xs ys : List ℕ) → AddsListings r a b xs → AddsListings r b c ys → AddsListings r a c (xs ++ ys)
adds_more r a b c xs ys first second = λ complete.
    let p = first complete in
    let q = second p.0 in (
      q.0,
      q.1 ∙ (ap (λ z. list_union z (listing_from r.types ys)) p.1
          ∙ (sym (list_union_append a (listing_from r.types xs) (listing_from r.types ys)) ∙ ap (list_union a) (sym (flat_map-append (listing_of r.types) xs ys)))),
    )

pub adds_more_on_ok : {T E : Type 0} (result : Result T E) (r : ResolveView) (a b c xs ys : List ℕ) → AddsListings r a b xs → OnOk result (AddsListings r b c ys) → OnOk result (AddsListings r a c (xs ++ ys))
adds_more_on_ok (Ok v) r a b c xs ys first second = adds_more r a b c xs ys first second
adds_more_on_ok (Err e) r a b c xs ys first second = tt

-- types after others, and before them some that are among these
pub adds_again : (r : ResolveView) (old mid new known before xs : List ℕ) → ((t : ℕ) → Contains known t → Contains before t) → AddsListings r old mid before → AddsListings r mid new xs → AddsListings r old new (before ++ (known ++ xs))
adds_again r old mid new known before xs has first second = λ complete.
    let p = first complete in
    let q = second p.0 in
    let f : ℕ → List ℕ = listing_of r.types in
    let there : (c : ℕ) → Contains (flat_map f known) c → Contains mid c =
    λ c h. (let k = joined_from f known c h in subst (λ z. Contains z c) (sym p.1) (list_union_has old (flat_map f before) c (contains_joined f before k.0 c (has k.0 k.1) k.2))) in (
      q.0,
      q.1 ∙ (ap (λ z. list_union z (flat_map f xs)) (sym (list_union_there mid (flat_map f known) there))
          ∙ (sym (list_union_append mid (flat_map f known) (flat_map f xs))
          ∙ (ap (list_union mid) (sym (flat_map-append f known xs))
          ∙ (ap (λ z. list_union z (flat_map f (known ++ xs))) p.1
          ∙ (sym (list_union_append old (flat_map f before) (flat_map f (known ++ xs))) ∙ ap (list_union old) (sym (flat_map-append f before (known ++ xs)))))))),
    )

-- what is found of three lists of types, the first two together
pub live_found : (r : ResolveView) (start a b xs ys zs : List ℕ) → start ≡ [] → AddsListings r start a (xs ++ ys) → AddsListings r a b zs → b ≡ live_from r (xs ++ (ys ++ zs))
live_found r start a b xs ys zs none first second =
    (subst (λ s. AddsListings r s b (xs ++ (ys ++ zs))) none (subst (AddsListings r start b) (append_assoc xs ys zs) (adds_more r start a b (xs ++ ys) zs first second)) (complete_none r.types)).1

-- what was found of some types alone is complete
pub found_complete : (r : ResolveView) (start new roots : List ℕ) → start ≡ [] → AddsListings r start new roots → IsComplete r.types new
found_complete r start new roots none adds = (subst (λ s. AddsListings r s new roots) none adds (complete_none r.types)).0

-- elements that are gone through, after the types that were added first
pub record LiveWalk {X : Type 0} (r : ResolveView) (f : X → List ℕ) (all left : List X) (first old new : List ℕ) : Type 0 where
  pub passed : List X
  pub split : passed ++ left ≡ all
  pub added : AddsListings r old new (first ++ flat_map f passed)

module _ {X : Type 0} (r : ResolveView) (f : X → List ℕ) (all left : List X) (first old : List ℕ) where
  pub live_start : (new : List ℕ) → left ≡ all → AddsListings r old new first → LiveWalk r f all left first old new
  live_start new is adds = record { passed = []; split = is; added = subst (AddsListings r old new) (sym (append-nil first)) adds }

  pub live_next : (rest : List X) (x : X) (mid new : List ℕ) → left ≡ x ∷ rest → AddsListings r mid new (f x) → LiveWalk r f all left first old mid → LiveWalk r f all rest first old new
  live_next rest x mid new is adds w = record {
    passed = w.passed ++ x ∷ [];
    split = append_assoc w.passed (x ∷ []) rest ∙ (ap (λ z. w.passed ++ z) (sym is) ∙ w.split);
    added = subst (AddsListings r old new)
        (append_assoc first (flat_map f w.passed) (f x) ∙ ap (λ z. first ++ z) (sym (flat_map-append f w.passed (x ∷ []) ∙ ap (λ z. flat_map f w.passed ++ z) (append-nil (f x)))))
        (adds_more r old mid new (first ++ flat_map f w.passed) (f x) w.added adds);
  }

  pub live_in : (rest : List X) (x : X) (new : List ℕ) → left ≡ x ∷ rest → LiveWalk r f all left first old new → Contains all x
  live_in rest x new is w = subst (λ z. Contains z x) (ap (λ z. w.passed ++ z) (sym is) ∙ w.split) (Contains-append_right w.passed (x ∷ rest) x (contains_head rest x))

  pub live_has : (P : X → Type 0) (rest : List X) (x : X) (new : List ℕ) → left ≡ x ∷ rest → All P all → LiveWalk r f all left first old new → P x
  live_has P rest x new is each w = let there = live_in rest x new is w in subst P there.2 (each there.0 x there.1)

  pub live_end : (new : List ℕ) → left ≡ [] → LiveWalk r f all left first old new → AddsListings r old new (first ++ flat_map f all)
  live_end new none w = subst (λ z. AddsListings r old new (first ++ flat_map f z)) (sym (append-nil w.passed) ∙ (ap (λ z. w.passed ++ z) (sym none) ∙ w.split)) w.added

-- the imports of a module that are gone through, and the functions of interfaces whose types were added
pub record ImportsWalk (r : ResolveView) (imports : Entries) (all left : List (List ℕ × (List ℕ × ImportView))) (keys : List FunctionKey) (old new : List ℕ) : Type 0 where
  pub have : HaveListings r keys new
  pub walk : LiveWalk r (λ (x : List ℕ × (List ℕ × ImportView)). import_roots r imports x.1.1) all left [] old new

-- adapters that are gone through after any types, among which are the known ones; which adapters are left
pub record AdaptersAfter {X : Type 0} (r : ResolveView) (f : X → List ℕ) (all : List X) (known old : List ℕ) (left : List X) (new : List ℕ) : Type 0 where
  pub passed : List X
  pub split : passed ++ left ≡ all
  pub added : (start before : List ℕ) → ((t : ℕ) → Contains known t → Contains before t) → AddsListings r start old before → AddsListings r start new (before ++ flat_map f passed)

module _ {X : Type 0} (r : ResolveView) (f : X → List ℕ) (all : List X) (known old : List ℕ) where
  pub adapters_start : (left : List X) → left ≡ all → AdaptersAfter r f all known old left old
  adapters_start left is = record { passed = []; split = is; added = λ start before has adds. subst (AddsListings r start old) (sym (append-nil before)) adds }

  pub adapters_next : (left rest : List X) (x : X) (xs mid new : List ℕ) → left ≡ x ∷ rest → f x ≡ known ++ xs → AddsListings r mid new xs → AdaptersAfter r f all known old left mid → AdaptersAfter r f all known old rest new
  adapters_next left rest x xs mid new is made adds w = record {
    passed = w.passed ++ x ∷ [];
    split = append_assoc w.passed (x ∷ []) rest ∙ (ap (λ z. w.passed ++ z) (sym is) ∙ w.split);
    added = λ start before has first.
        subst (AddsListings r start new)
        (append_assoc before (flat_map f w.passed) (f x) ∙ ap (λ z. before ++ z) (sym (flat_map-append f w.passed (x ∷ []) ∙ ap (λ z. flat_map f w.passed ++ z) (append-nil (f x)))))
        (subst (λ z. AddsListings r start new ((before ++ flat_map f w.passed) ++ z)) (sym made)
        (adds_again r start mid new known (before ++ flat_map f w.passed) xs (λ t h. Contains-append_left before (flat_map f w.passed) t (has t h)) (w.added start before has first) adds));
  }

  pub adapters_has : (left rest : List X) (x : X) (new : List ℕ) (P : X → Type 0) → left ≡ x ∷ rest → All P all → AdaptersAfter r f all known old left new → P x
  adapters_has left rest x new P is each w =
      let there : Contains all x = subst (λ z. Contains z x) (ap (λ z. w.passed ++ z) (sym is) ∙ w.split) (Contains-append_right w.passed (x ∷ rest) x (contains_head rest x)) in
      subst P there.2 (each there.0 x there.1)

  pub adapters_end : (left : List X) (new : List ℕ) → left ≡ [] → AdaptersAfter r f all known old left new
      → (start before : List ℕ) → ((t : ℕ) → Contains known t → Contains before t) → AddsListings r start old before → AddsListings r start new (before ++ flat_map f all)
  adapters_end left new none w start before has first =
      subst (λ z. AddsListings r start new (before ++ flat_map f z)) (sym (append-nil w.passed) ∙ (ap (λ z. w.passed ++ z) (sym none) ∙ w.split)) (w.added start before has first)

-- what was added of adapters, and of the functions of interfaces
pub record AdaptersWalk {X : Type 0} (r : ResolveView) (f : X → List ℕ) (all : List X) (known old : List ℕ) (left : List X) (keys : List FunctionKey) (new : List ℕ) : Type 0 where
  pub have : HaveListings r keys new
  pub complete : IsComplete r.types new
  pub after : AdaptersAfter r f all known old left new

-- elements that have one type, or none
one_listed : {Y : Type 0} (o : Option Y) (ys : List Y) → option_to_list o ++ ys ≡ cons_option o ys
one_listed None ys = refl
one_listed (Some y) ys = refl

pub each_listed : {X Y : Type 0} (f : X → Option Y) (xs : List X) → flat_map (λ x. option_to_list (f x)) xs ≡ filter_map f xs
each_listed f [] = refl
each_listed f (x ∷ xs) = one_listed (f x) (flat_map (λ x. option_to_list (f x)) xs) ∙ ap (cons_option (f x)) (each_listed f xs)

-- those that pass a test
one_kept : (b : Bool) (x : ℕ) (ys : List ℕ) → cond b (x ∷ []) [] ++ ys ≡ cond b (x ∷ ys) ys
one_kept true x ys = refl
one_kept false x ys = refl

pub each_kept : (p : ℕ → Bool) (xs : List ℕ) → flat_map (λ x. filter p (x ∷ [])) xs ≡ filter p xs
each_kept p [] = refl
each_kept p (x ∷ xs) = one_kept (p x) x (flat_map (λ x. filter p (x ∷ [])) xs) ∙ ap (λ z. cond (p x) (x ∷ z) z) (each_kept p xs)

-- the next of some ids, and that there is none
pub id_next : (old new : Iter TypeId) (id : TypeId) (x : Option (Bor TypeId)) → iter_steps old x new → Some id ≡ option_copied x → indices (iter_rest old) ≡ id.0 ∷ indices (iter_rest new)
id_next old new id None step is = absurd (let bad : ⊥ = cc is in bad)
id_next old new id (Some y) step is = let same : y.now ≡ id = cc (sym is) in ap indices step ∙ ap (λ (z : TypeId). z.0 ∷ indices (iter_rest new)) same

pub ids_end : (old new : Iter TypeId) (x : Option (Bor TypeId)) → iter_steps old x new → None ≡ option_copied x → indices (iter_rest old) ≡ []
ids_end old new None step is = ap indices (nil_from_length (iter_rest old) step.0)
ids_end old new (Some y) step is = absurd (let bad : ⊥ = cc is in bad)

-- types that are put into groups
pub record OwnerWalk (r : ResolveView) (all left : List ℕ) (groups : List (ℕ × List ℕ)) : Type 0 where
  pub passed : List ℕ
  pub split : passed ++ left ≡ all
  pub grouped : groups ≡ by_owner r passed

pub owners_start : (r : ResolveView) (all left : List ℕ) (groups : List (ℕ × List ℕ)) → left ≡ all → groups ≡ [] → OwnerWalk r all left groups
owners_start r all left groups is none = record { passed = []; split = is; grouped = none }

pub owners_next : (r : ResolveView) (all left rest : List ℕ) (t : ℕ) (old new : List (ℕ × List ℕ)) → left ≡ t ∷ rest → IsWithoutRepeats all
    → ((passed : List ℕ) → is_in passed t ≡ false → old ≡ by_owner r passed → new ≡ by_owner r (passed ++ t ∷ [])) → OwnerWalk r all left old → OwnerWalk r all rest new
owners_next r all left rest t old new is once put w =
    let split : w.passed ++ t ∷ rest ≡ all = ap (λ z. w.passed ++ z) (sym is) ∙ w.split in
    record {
      passed = w.passed ++ t ∷ [];
      split = append_assoc w.passed (t ∷ []) rest ∙ split;
      grouped = put w.passed (repeats_front w.passed rest t (subst IsWithoutRepeats (sym split) once)) w.grouped;
    }

pub owners_in : (r : ResolveView) (all left rest : List ℕ) (t : ℕ) (groups : List (ℕ × List ℕ)) → left ≡ t ∷ rest → OwnerWalk r all left groups → Contains all t
owners_in r all left rest t groups is w = subst (λ z. Contains z t) (ap (λ z. w.passed ++ z) (sym is) ∙ w.split) (Contains-append_right w.passed (t ∷ rest) t (contains_head rest t))

pub owners_end : (r : ResolveView) (all left : List ℕ) (groups : List (ℕ × List ℕ)) → left ≡ [] → OwnerWalk r all left groups → groups ≡ by_owner r all
owners_end r all left groups none w = w.grouped ∙ ap (by_owner r) (sym (append-nil w.passed) ∙ (ap (λ z. w.passed ++ z) (sym none) ∙ w.split))
