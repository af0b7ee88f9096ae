-- Names under interfaces, one after another.
use Rattle.std.proofs.Common.{◌≡◌, ℕ, Bool, true, false, cond, List, [], ◌∷◌, ◌++◌, Option, Some, None, Vec, map, nat_eq, refl, sym, ap, ◌∙◌, subst, append-nil, append_assoc}
use Rattle.std.specs.Borrow.{Bor}
use Rattle.std.specs.Cmp.{IsEquivalence}
use Rattle.std.specs.List.{cons_option, filter_map}
use Rattle.std.specs.Map.{lookup, set_value}
use Rattle.std.specs.Option.{IsSome, option_and_then, option_copied, option_map_or, option_to_list}
use Rattle.std.specs.Prelude.{◌==◌, ◌&&◌}
use Rattle.std.specs.declared.alloc.Global.{Global}
use Rattle.std.proofs.lemmas.List.{map-append}
use Rattle.std.proofs.lemmas.Map.{lookup-set_value}
use Rattle.wc_why.specs.Texts.{text_of}
use Rattle.wc_resolve.proofs.KeyLemmas.{nat_from, nat_to}
use Rattle.wc_resolve.specs.declared.ids.InterfaceId.{InterfaceId}
use Rattle.wc_world.proofs.UsedLemmas.{turned}
use Rattle.wc_world.specs.Used.{same_interface}
use Rattle.wc_world.specs.Views.{ComponentWorldView, ImportMapView, ImportedView}
use Rattle.wc_ways.specs.Asked.{asked_by, asked_name, is_asked, is_under, of_world, root_text}
use Rattle.wc_ways.specs.Private.AskedKeys.{IsAskedOf, Lists, ListsMore, Names, asked_of, asked_under, names_in, texts_at, texts_in}
use Rattle.wc_ways.specs.declared.asked_keys.AskedKeys.{AskedKeys}

id_equivalence : IsEquivalence same_interface
id_equivalence = record {
  refl = λ x. nat_to x.0 x.0 refl;
  symm = λ x y. turned x.0 y.0;
  congr = λ x y z same. ap (λ (n : ℕ). n == z.0) (nat_from x.0 y.0 same);
}

one_id : (id x y : InterfaceId) → same_interface id x ≡ true → same_interface id y ≡ same_interface x y
one_id id x y same = ap (λ (n : ℕ). n == y.0) (nat_from id.0 x.0 same)

abbrev texts_by : Option (Vec (Bor (List ℕ)) Global) → List (List ℕ)
texts_by o = option_map_or texts_in o []

module _ (old new : Names) (id : InterfaceId) (w : Vec (Bor (List ℕ)) Global) (x : List ℕ) where
  listed_step : ((q : InterfaceId) → lookup (same_interface q) new ≡ cond (same_interface id q) (Some w) (lookup (same_interface q) old))
      → texts_in w ≡ names_in old id.0 ++ x ∷ [] → ListsMore old new id.0 x
  listed_step put is q = step (id.0 == q) refl
    where
      b : InterfaceId
      b = record { 0 = q }

      step : (c : Bool) → (id.0 == q) ≡ c → names_in new q ≡ names_in old q ++ cond (nat_eq q id.0) (x ∷ []) []
      step true same =
          let here : id.0 ≡ q = nat_from id.0 q same in
          ap texts_by (put b ∙ ap (λ c. cond c (Some w) (lookup (same_interface b) old)) same) ∙ is
          ∙ (ap (λ z. names_in old z ++ x ∷ []) here ∙ ap (λ c. names_in old q ++ cond c (x ∷ []) []) (sym (turned q id.0 ∙ same)))
      step false other =
          ap texts_by (put b ∙ ap (λ c. cond c (Some w) (lookup (same_interface b) old)) other) ∙ sym (append-nil (names_in old q))
          ∙ ap (λ c. names_in old q ++ cond c (x ∷ []) []) (sym (turned q id.0 ∙ other))

  -- after the others of its interface
  pub listed_after : (v : Vec (Bor (List ℕ)) Global) → new ≡ set_value (same_interface id) old w → lookup (same_interface id) old ≡ Some v → texts_in w ≡ texts_in v ++ x ∷ []
      → ListsMore old new id.0 x
  listed_after v put there is =
      listed_step
      (λ q. ap (lookup (same_interface q)) put
      ∙ lookup-set_value id_equivalence (same_interface id) (one_id id) q w old (subst IsSome (sym there) refl))
      (is ∙ ap (λ o. texts_by o ++ x ∷ []) (sym there))

  -- as the first of its interface
  pub listed_first : ((q : InterfaceId) → lookup (same_interface q) new ≡ cond (same_interface id q) (Some w) (lookup (same_interface q) old))
      → lookup (same_interface id) old ≡ None → texts_in w ≡ x ∷ [] → ListsMore old new id.0 x
  listed_first put none is = listed_step put (is ∙ ap (λ o. texts_by o ++ x ∷ []) (sym none))

-- a name more
pub pushed : (v w : Vec (Bor (List ℕ)) Global) (t : Bor (List ℕ)) → w.items ≡ v.items ++ t ∷ [] → texts_in w ≡ texts_in v ++ t.now ∷ []
pushed v w t is = ap (map text_of) is ∙ map-append text_of v.items (t ∷ [])

-- the names of what was passed, and of what is left
abbrev pub AreLeft : List ℕ → ImportMapView → ImportMapView → Names → Type 0
AreLeft key all left entries = (i : ℕ) → names_in entries i ++ filter_map (asked_name key i) left ≡ filter_map (asked_name key i) all

consed : {X : Type 0} (o : Option X) (xs : List X) → cons_option o xs ≡ option_to_list o ++ xs
consed None xs = refl
consed (Some x) xs = refl

pub left_next : (key : List ℕ) (all left rest : ImportMapView) (x : Option (List ℕ) × ImportedView) (old new : Names) → left ≡ x ∷ rest → Lists old new (asked_of key x)
    → AreLeft key all left old → AreLeft key all rest new
left_next key all left rest x old new is lists h i =
    ap (λ z. z ++ filter_map (asked_name key i) rest) (lists i)
    ∙ (append_assoc (names_in old i) (option_to_list (asked_name key i x)) (filter_map (asked_name key i) rest)
    ∙ (ap (λ z. names_in old i ++ z) (sym (consed (asked_name key i x) (filter_map (asked_name key i) rest)))
    ∙ (ap (λ z. names_in old i ++ filter_map (asked_name key i) z) (sym is) ∙ h i)))

pub left_none : (key : List ℕ) (all left : ImportMapView) (now : Names) → left ≡ [] → AreLeft key all left now → (i : ℕ) → names_in now i ≡ filter_map (asked_name key i) all
left_none key all left now none h i =
    sym (append-nil (names_in now i)) ∙ (ap (λ z. names_in now i ++ filter_map (asked_name key i) z) (sym none) ∙ h i)

-- ---- a name that is listed if it is asked about

abbrev shown_as : List ℕ → ℕ → Option (List ℕ) → Option ℕ → Option (List ℕ)
shown_as key j o p = option_and_then (λ (name : List ℕ). cond (is_under j p && is_asked key name name) (Some name) None) o

chosen : (b c : Bool) (name : List ℕ) → c ≡ true → cond b (name ∷ []) [] ≡ option_to_list (cond (b && c) (Some name) None)
chosen true c name on = ap (λ z. option_to_list (cond z (Some name) None)) (sym on)
chosen false c name on = refl

not_chosen : (b c : Bool) (name : List ℕ) → c ≡ false → [] ≡ option_to_list (cond (b && c) (Some name) None)
not_chosen true c name off = ap (λ z. option_to_list (cond z (Some name) None)) (sym off)
not_chosen false c name off = refl

under_none : (key : List ℕ) (j : ℕ) (o : Option (List ℕ)) → [] ≡ option_to_list (shown_as key j o None)
under_none key j None = refl
under_none key j (Some name) = refl

module _ (names : Names) (key : List ℕ) (x : Option (List ℕ) × ImportedView) where
  kept : ((j : ℕ) → [] ≡ option_to_list (asked_of key x j)) → Lists names names (asked_of key x)
  kept none j = sym (append-nil (names_in names j)) ∙ ap (λ z. names_in names j ++ z) (none j)

  pub lists_unnamed : x.0 ≡ None → Lists names names (asked_of key x)
  lists_unnamed e = kept (λ j t. option_to_list (shown_as key j (sym e t) x.1.interface))

  pub lists_own : x.1.interface ≡ None → Lists names names (asked_of key x)
  lists_own e = kept (λ j. under_none key j x.0 ∙ (λ t. option_to_list (shown_as key j x.0 (sym e t))))

  pub lists_shown : (name : List ℕ) (i : ℕ) (new : Names) → x.0 ≡ Some name → x.1.interface ≡ Some i → Lists names new (asked_under key i name) → Lists names new (asked_of key x)
  lists_shown name i new named at lists j = lists j ∙ (λ t. names_in names j ++ option_to_list (shown_as key j (sym named t) (sym at t)))

module _ (names : Names) (key name : List ℕ) (i : ℕ) (b : Bool) (is : b ≡ is_asked key name name) where
  pub lists_other : b ≡ false → Lists names names (asked_under key i name)
  lists_other off j =
      sym (append-nil (names_in names j)) ∙ ap (λ z. names_in names j ++ z) (not_chosen (nat_eq j i) (is_asked key name name) name (sym is ∙ off))

  pub lists_one : (new : Names) → b ≡ true → ListsMore names new i name → Lists names new (asked_under key i name)
  lists_one new on lists j = lists j ∙ ap (λ z. names_in names j ++ z) (chosen (nat_eq j i) (is_asked key name name) name (sym is ∙ on))

-- ---- the names of an interface, and of what is the world's own

texts_copied : (r : Option (Bor (Vec (Bor (List ℕ)) Global))) → texts_at r ≡ texts_by (option_copied r)
texts_copied None = refl
texts_copied (Some v) = refl

pub found_texts : (names : Names) (id : InterfaceId) (r : Option (Bor (Vec (Bor (List ℕ)) Global))) → option_copied r ≡ lookup (same_interface id) names
    → texts_at r ≡ names_in names id.0
found_texts names id r e = texts_copied r ∙ ap texts_by e

module _ (w : ComponentWorldView) (key own : List ℕ) (k : AskedKeys) (b : Bool) (h : IsAskedOf w key k) (is : b ≡ is_asked k.key.now root_text own) where
  asked_here : b ≡ is_asked key root_text own
  asked_here = is ∙ ap (λ (z : List ℕ). is_asked z root_text own) h.key

  pub own_texts : b ≡ true → texts_in k.own ≡ asked_by w key (of_world own)
  own_texts on = h.own ∙ ap (λ (c : Bool). cond c (root_text ∷ []) []) (sym on ∙ asked_here)

  pub own_none : b ≡ false → [] ≡ asked_by w key (of_world own)
  own_none off = ap (λ (c : Bool). cond c (root_text ∷ []) []) (sym off ∙ asked_here)
