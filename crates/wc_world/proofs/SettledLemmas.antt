-- Types that later exports may pass over.
use Rattle.std.proofs.Common.{◌≡◌, ◌∙◌, ◌↔◌, ◌<◌, ℕ, length, inl, inr, Bool, true, false, cond, IsTrue, List, [], ◌∷◌, ◌++◌, Option, Some, None, String, map, refl, sym, ap, subst, arith}
use Rattle.std.specs.Prelude.{◌&&◌, ◌==◌}
use Rattle.std.specs.List.{Contains, cons_option, filter_map, list_all}
use Rattle.std.specs.Option.{option_map_or, option_to_list}
use Rattle.std.specs.declared.alloc.Global.{Global}
use Rattle.std.proofs.lemmas.Bool.{and_parts, cases_Bool, eqb-true}
use Rattle.std.proofs.lemmas.Bool.Decides.{eqb_tells}
use Rattle.std.proofs.lemmas.Cmp.{nat_eq_equiv}
use Rattle.std.proofs.lemmas.List.{get_or_past}
use Rattle.std.proofs.lemmas.Map.Views.{list_any-from_Contains, Contains-from_any}
use Rattle.std.proofs.lemmas.Option.{same_Some}
use Rattle.wc_resolve.specs.Dependencies.{interface_owning}
use Rattle.wc_resolve.specs.Kinds.{ResolveView, children, kind_at, referenced_indices, referenced_types, type_index}
use Rattle.wc_resolve.specs.Live.{AddsListings, IsComplete, listing_from}
use Rattle.wc_resolve.specs.Views.{ItemView, KeyView, KindView}
use Rattle.wc_texts.specs.Names.{named_view}
use Rattle.wc_resolve.specs.declared.ids.InterfaceId.{InterfaceId}
use Rattle.wc_resolve.specs.declared.types.WitType.{WitType}
use Rattle.wc_resolve.specs.declared.types.WitType.TheVariants.{Id}
use Rattle.wc_resolve.proofs.ListUnionLemmas.{list_union_keeps}
use Rattle.wc_maps.proofs.ListLemmas.{contains_cons, contains_head, contains_none, contains_tail}
use Rattle.wc_adapters.specs.Entries.{Entries}
use Rattle.wc_world.specs.Live.{export_roots}
use Rattle.wc_world.specs.Used.{UsedView}
use Rattle.wc_world.specs.Private.ImportedItems.{is_in}
use Rattle.wc_world.specs.Private.Marks.{holds, is_within, known_to, mark_of}
use Rattle.wc_world.specs.Private.Settled.{AreSettled, is_among, is_owner_within, is_settled_for, refers_only_to}
use Rattle.wc_world.proofs.LiveWalkLemmas.{LiveWalk}
use Rattle.wc_world.proofs.MarkLemmas.{known_cases, known_live, known_marked}

-- a test whether an index is listed
pub listed_test : (b : Bool) (xs : List ℕ) (x : ℕ) → IsTrue b ↔ Contains xs x → b ≡ is_in xs x
listed_test b xs x is =
    elim (cases_Bool (is_in xs x)) [
      | inl there ↦ (let h : b ≡ true = is.1 (Contains-from_any eqb-true x xs there) in h ∙ sym there)
      | inr none ↦ elim (cases_Bool b) [
        | inl marked ↦ (let e = sym (list_any-from_Contains nat_eq_equiv x xs (is.0 marked)) ∙ none in let bad : ⊥ = cc e in absurd bad)
        | inr left ↦ left ∙ sym none
      ]
    ]

one_and : (b : Bool) → b ≡ (b && true)
one_and true = refl
one_and false = refl

-- tests of one type, of the types of fields, of the payloads of cases, and of two payloads
pub one_test : (p : WitType → Bool) (t : WitType) → p t ≡ list_all p (t ∷ [])
one_test p t = one_and (p t)

pub fields_test : (p : WitType → Bool) (fields : List (String Global × WitType)) → list_all (λ (f : String Global × WitType). p f.1) fields ≡ list_all p (map (λ (f : List ℕ × WitType). f.1) (map named_view fields))
fields_test p [] = refl
fields_test p (f ∷ fields) = ap (λ b. p f.1 && b) (fields_test p fields)

cons_case : (p : WitType → Bool) (o : Option WitType) (rest : Bool) (ts : List WitType) → rest ≡ list_all p ts → (option_map_or p o true && rest) ≡ list_all p (cons_option o ts)
cons_case p None rest ts is = is
cons_case p (Some t) rest ts is = ap (λ b. p t && b) is

pub cases_test : (p : WitType → Bool) (cases : List (String Global × Option WitType))
    → list_all (λ (c : String Global × Option WitType). option_map_or p c.1 true) cases ≡ list_all p (filter_map (λ (c : List ℕ × Option WitType). c.1) (map named_view cases))
cases_test p [] = refl
cases_test p (c ∷ cases) = cons_case p c.1 _ _ (cases_test p cases)

pub payloads_test : (p : WitType → Bool) (ok err : Option WitType) → (option_map_or p ok true && option_map_or p err true) ≡ list_all p (option_to_list ok ++ option_to_list err)
payloads_test p None None = refl
payloads_test p None (Some t) = one_test p t
payloads_test p (Some s) None = refl
payloads_test p (Some s) (Some t) = ap (λ b. p s && b) (one_test p t)

-- what types refer to that pass
among_indices : (types : List ℕ) (ts : List WitType) → list_all (is_among types) ts ≡ true → (c : ℕ) → Contains (filter_map type_index ts) c → Contains types c
among_indices types [] h c k = absurd (contains_none c k)
among_indices types (Id i ∷ ts) h c k =
    let two = and_parts (is_in types i.0) (list_all (is_among types) ts) h in
    elim (contains_cons i.0 (filter_map type_index ts) c k) [
      | inl same ↦ subst (Contains types) same (Contains-from_any eqb-true i.0 types two.0)
      | inr rest ↦ among_indices types ts two.1 c rest
    ]
among_indices types (t ∷ ts) h c k = among_indices types ts h c k

among_children : (types : List ℕ) (o : Option KindView) → option_map_or (refers_only_to types) o true ≡ true → (c : ℕ) → Contains (option_map_or referenced_indices o []) c → Contains types c
among_children types None h c k = absurd (contains_none c k)
among_children types (Some kind) h c k = among_indices types (referenced_types kind) h c k

-- a type more
module _ (r : ResolveView) (sets : UsedView) (live : List ℕ) (old new : List (Option (Option InterfaceId))) (t : ℕ) (reach : Option InterfaceId) (are : AreSettled r sets live old)
    (put : (x : ℕ) → mark_of new x ≡ cond (x == t) (Some reach) (mark_of old x)) where
  other_same : (x : ℕ) → (x == t) ≡ false → mark_of new x ≡ mark_of old x
  other_same x other = put x ∙ ap (λ b. cond b (Some reach) (mark_of old x)) other

  itself_new : (x : ℕ) → (x == t) ≡ true → mark_of new x ≡ Some reach
  itself_new x same = put x ∙ ap (λ b. cond b (Some reach) (mark_of old x)) same

  module _ (none : mark_of old t ≡ None) where
    still_known : (m : Option InterfaceId) (c : ℕ) → Contains (known_to sets live old m) c → Contains (known_to sets live new m) c
    still_known m c h = elim (known_cases sets live old m c h) [
      | inl there ↦ known_live sets live new m c there
      | inr marked ↦ elim (eqb_tells c t) [
        | inl same ↦ absurd (let e = sym (ap (holds (is_within sets m)) (ap (mark_of old) same.1 ∙ none)) ∙ marked in let bad : ⊥ = cc e in bad)
        | inr other ↦ known_marked sets live new m c (ap (holds (is_within sets m)) (other_same c other.0) ∙ marked)
      ]
    ]

    pub settled_more : is_settled_for r sets (known_to sets live old reach) reach t ≡ true → AreSettled r sets live new
    settled_more passes = record {
      over = λ x c m is child.
          let two = and_parts (is_owner_within sets reach (interface_owning r t)) (option_map_or (refers_only_to (known_to sets live old reach)) (kind_at r.types t) true) passes in
          elim (eqb_tells x t) [
            | inl same ↦ (let e : reach ≡ m = same_Some reach m (sym (itself_new x same.0) ∙ is) in
                subst (λ z. Contains (known_to sets live new z) c) e
                (still_known reach c (among_children (known_to sets live old reach) (kind_at r.types t) two.1 c (subst (λ z. Contains (children r.types z) c) same.1 child))))
            | inr other ↦ still_known m c (are.over x c m (sym (other_same x other.0) ∙ is) child)
          ];
      owned = λ x i m is own.
          let two = and_parts (is_owner_within sets reach (interface_owning r t)) (option_map_or (refers_only_to (known_to sets live old reach)) (kind_at r.types t) true) passes in
          elim (eqb_tells x t) [
            | inl same ↦ (let e : reach ≡ m = same_Some reach m (sym (itself_new x same.0) ∙ is) in
                subst (λ z. is_within sets z i ≡ true) e
                (subst (λ o. is_owner_within sets reach o ≡ true) (ap (interface_owning r) (sym same.1) ∙ own) two.0))
            | inr other ↦ are.owned x i m (sym (other_same x other.0) ∙ is) own
          ];
    }

-- at first there are none
pub none_settled : (r : ResolveView) (sets : UsedView) (live : List ℕ) (marks : List (Option (Option InterfaceId))) → marks ≡ [] → AreSettled r sets live marks
none_settled r sets live marks none = record {
  over = λ t c reach is child. absurd (not_marked t reach is);
  owned = λ t i reach is own. absurd (not_marked t reach is);
} where
  not_marked : (t : ℕ) (reach : Option InterfaceId) → mark_of marks t ≡ Some reach → ⊥
  not_marked t reach is = (let e = sym (ap (λ z. mark_of z t) none ∙ get_or_past [] t None (omega arith)) ∙ is in let bad : ⊥ = cc e in bad)

-- once more is live
pub settled_still : (r : ResolveView) (sets : UsedView) (old new : List ℕ) (marks : List (Option (Option InterfaceId))) (roots : List ℕ) → IsComplete r.types old → AddsListings r old new roots → AreSettled r sets old marks → AreSettled r sets new marks
settled_still r sets old new marks roots complete adds are = record {
  over = λ t c reach is child. elim (known_cases sets old marks reach c (are.over t c reach is child)) [
    | inl there ↦ known_live sets new marks reach c (subst (λ z. Contains z c) (sym (adds complete).1) (list_union_keeps old (listing_from r.types roots) c there))
    | inr marked ↦ known_marked sets new marks reach c marked
  ];
  owned = are.owned;
}

-- types that are gone through, each of which is there
pub record SettledWalk (r : ResolveView) (sets : UsedView) (live left : List ℕ) (marks : List (Option (Option InterfaceId))) : Type 0 where
  pub there : (t : ℕ) → Contains left t → t < length r.types
  pub are : AreSettled r sets live marks

pub settled_next : (r : ResolveView) (sets : UsedView) (live left rest : List ℕ) (old new : List (Option (Option InterfaceId))) (t : ℕ) → left ≡ t ∷ rest → AreSettled r sets live new → SettledWalk r sets live left old → SettledWalk r sets live rest new
settled_next r sets live left rest old new t is are w = record { there = λ c h. w.there c (subst (λ z. Contains z c) (sym is) (contains_tail t rest c h)); are = are }

pub settled_in : (r : ResolveView) (sets : UsedView) (live left rest : List ℕ) (marks : List (Option (Option InterfaceId))) (t : ℕ) → left ≡ t ∷ rest → SettledWalk r sets live left marks → t < length r.types
settled_in r sets live left rest marks t is w = w.there t (subst (λ z. Contains z t) (sym is) (contains_head rest t))

-- exports that are gone through
pub record ExportsWalk (r : ResolveView) (sets : UsedView) (all left : Entries) (marks : List (Option (Option InterfaceId))) (old new : List ℕ) : Type 0 where
  pub walk : LiveWalk r (λ (x : KeyView × ItemView). export_roots r sets x.1) all left [] old new
  pub are : AreSettled r sets new marks
