-- Sets of the interfaces that exported interfaces use.
use Rattle.std.proofs.Common.{◌+◌, ◌≤◌, filter, take, length, get_or, append-nil, ◌≡◌, ◌⊎◌, ℕ, ◌<◌, List, [], ◌∷◌, ◌++◌, Bool, true, false, cond, Some, None}
use Rattle.std.proofs.Common.{Result, Ok, Err, refl, sym, ap, ◌∙◌, subst, inl, inr}
use Rattle.std.specs.Prelude.{◌==◌, ◌||◌}
use Rattle.std.specs.HashMap.{HashMap, get}
use Rattle.std.specs.HashSet.{HashSet}
use Rattle.std.specs.List.{Contains, list_any}
use Rattle.std.specs.Map.{lookup}
use Rattle.std.specs.Option.{option_map}
use Rattle.std.specs.Result.{OnOk}
use Rattle.std.proofs.lemmas.List.Elements.{Contains-get_or, Contains-push_cases, filter-append}
use Rattle.std.proofs.lemmas.List.{length-map, take_all, take_more, get_or-map}
use Rattle.std.proofs.lemmas.Bool.Decides.{eqb_tells}
use Rattle.std.proofs.Math.Bool.{or-true}
use Rattle.std.proofs.lemmas.Option.{same_Some}
use Rattle.wc_resolve.specs.declared.ids.InterfaceId.{InterfaceId}
use Rattle.wc_resolve.specs.Dependencies.{direct_dependencies, id_of_interface, interface_ids}
use Rattle.wc_resolve.specs.Kinds.{ResolveView, Leads, refers, further}
use Rattle.wc_maps.proofs.ListLemmas.{contains_cons, contains_head, contains_none, contains_tail}
use Rattle.wc_adapters.specs.Entries.{Entries}
use Rattle.wc_world.specs.Used.{IsUsedPart, HasUsedSet, IsUsedSet, Used, UsedView, exported_dependencies, has_interface, is_exported_itself, same_interface}
use Rattle.wc_world.specs.Used.{used_view}

abbrev pub among : List InterfaceId → ℕ → Bool
among ids j = list_any (λ (k : InterfaceId). j == k.0) ids

or_moved : (e f a rest : Bool) → e ≡ f → (cond e true a || rest) ≡ (a || (f || rest))
or_moved true true true rest h = refl
or_moved true true false rest h = refl
or_moved false false true rest h = refl
or_moved false false false rest h = refl
or_moved true false a rest h = absurd (let bad : ⊥ = cc h in bad)
or_moved false true a rest h = absurd (let bad : ⊥ = cc h in bad)

pub turned : (a b : ℕ) → (a == b) ≡ (b == a)
turned a b = elim (eqb_tells a b) [
  | inl same ↦ ap (λ z. z == b) same.1 ∙ ap (λ z. b == z) (sym same.1)
  | inr other ↦ elim (eqb_tells b a) [ inl same ↦ absurd (other.1 (sym same.1)) | inr too ↦ other.0 ∙ sym too.0 ]
]

-- one more is inserted of those that are left
pub insert_next : (old new : Bool) (id j : ℕ) (rest : List InterfaceId) (whole : Bool) → new ≡ cond (id == j) true old
    → (old || ((j == id) || among rest j)) ≡ whole → (new || among rest j) ≡ whole
insert_next old new id j rest whole put before = ap (λ b. b || among rest j) put ∙ (or_moved (id == j) (j == id) old (among rest j) (turned id j) ∙ before)

pub leads_on : {next : ℕ → List ℕ} {x y z : ℕ} → Leads next x y → Leads next y z → Leads next x z
leads_on (refers x y c) b = further x y _ c b
leads_on (further x w y c rest) b = further x w _ c (leads_on rest b)

-- what a set has after an interface and those that it uses are added
module _ (x : ℕ) (old inserted test new : ℕ → Bool) (put : (j : ℕ) → inserted j ≡ cond (x == j) true (old j)) (joined : (j : ℕ)
    → new j ≡ (inserted j || test j)) where
  has_cases : (j : ℕ) → new j ≡ true → (x ≡ j) ⊎ ((old j ≡ true) ⊎ (test j ≡ true))
  has_cases j h = two (inserted j) (test j) refl refl (sym (joined j) ∙ h) where
    one : (e : Bool) → (x == j) ≡ e → cond e true (old j) ≡ true → (x ≡ j) ⊎ ((old j ≡ true) ⊎ (test j ≡ true))
    one true is k = elim (eqb_tells x j) [ inl same ↦ inl same.1 | inr other ↦ absurd (let e : false ≡ true = sym other.0 ∙ is in let bad : ⊥ = cc e in bad) ]
    one false is k = inr (inl k)

    two : (a b : Bool) → inserted j ≡ a → test j ≡ b → (a || b) ≡ true → (x ≡ j) ⊎ ((old j ≡ true) ⊎ (test j ≡ true))
    two true b is at k = one (x == j) refl (sym (put j) ∙ is)
    two false true is at k = inr (inr at)
    two false false is at k = absurd (let bad : ⊥ = cc k in bad)

  has_old : (j : ℕ) → old j ≡ true → new j ≡ true
  has_old j h = joined j ∙ (ap (λ b. b || test j) (put j ∙ (ap (λ b. cond (x == j) true b) h ∙ both (x == j)))) where
    both : (e : Bool) → cond e true true ≡ true
    both true = refl
    both false = refl

  has_test : (j : ℕ) → test j ≡ true → new j ≡ true
  has_test j h = joined j ∙ (ap (λ b. inserted j || b) h ∙ or-true (inserted j))

  has_own : new x ≡ true
  has_own = elim (eqb_tells x x) [
    | inl same ↦ joined x ∙ ap (λ b. b || test x) (put x ∙ ap (λ b. cond b true (old x)) same.0)
    | inr other ↦ absurd (other.1 refl)
  ]

  pub used_part_more : (r : ResolveView) (exports : Entries) (i : ℕ) (passed : List ℕ) → IsUsedSet r exports x test
      → Contains (exported_dependencies r exports i) x → IsUsedPart r exports i passed old → IsUsedPart r exports i (passed ++ x ∷ []) new
  used_part_more r exports i passed used depends a = record {
    only_used = λ j h. only_used j (has_cases j h);
    closed = λ y j h leads. closed y j leads (has_cases y h);
    there = λ y h. elim (Contains-push_cases passed x y h) [ inl before ↦ has_old y (a.there y before) | inr same ↦ subst (λ z. new z ≡ true) same has_own ];
  } where
    only_used : (j : ℕ) → (x ≡ j) ⊎ ((old j ≡ true) ⊎ (test j ≡ true)) → Used r exports i j
    only_used j (inl same) = subst (Used r exports i) same (refers i x depends)
    only_used j (inr (inl h)) = a.only_used j h
    only_used j (inr (inr h)) = further i x j depends ((used j).0 h)

    closed : (y j : ℕ) → Used r exports y j → (x ≡ y) ⊎ ((old y ≡ true) ⊎ (test y ≡ true)) → new j ≡ true
    closed y j leads (inl same) = has_test j ((used j).1 (subst (λ z. Used r exports z j) (sym same) leads))
    closed y j leads (inr (inl h)) = has_old j (a.closed y j h leads)
    closed y j leads (inr (inr h)) = has_test j ((used j).1 (leads_on ((used y).0 h) leads))

pub used_part_none : (r : ResolveView) (exports : Entries) (i : ℕ) (test : ℕ → Bool) → ((j : ℕ) → test j ≡ false) → IsUsedPart r exports i [] test
used_part_none r exports i test none = record {
  only_used = λ j h. absurd (let e : true ≡ false = sym h ∙ none j in let bad : ⊥ = cc e in bad);
  closed = λ x j h. absurd (let e : true ≡ false = sym h ∙ none x in let bad : ⊥ = cc e in bad);
  there = λ x h. absurd (contains_none x h);
}

-- with all its dependencies a set has all that an interface uses
pub used_part_all : (r : ResolveView) (exports : Entries) (i : ℕ) (test : ℕ → Bool) → IsUsedPart r exports i (exported_dependencies r exports i) test
    → IsUsedSet r exports i test
used_part_all r exports i test a j = (λ h. a.only_used j h, λ leads. from leads) where
  from : Leads (exported_dependencies r exports) i j → test j ≡ true
  from (refers _ _ c) = a.there j c
  from (further _ y _ c rest) = a.closed y j (a.there y c) rest

-- the set of one that has such a set
pub used_set : (r : ResolveView) (exports : Entries) (sets : UsedView) (i : ℕ) (test : ℕ → Bool) → HasUsedSet r exports sets i → sets i ≡ Some test
    → IsUsedSet r exports i test
used_set r exports sets i test (own, is, used) at = subst (IsUsedSet r exports i) (same_Some _ _ (sym is ∙ at)) used

pub on_ok : {X E P Q : Type 0} (r : Result X E) → OnOk r P → (P → Q) → OnOk r Q
on_ok (Ok x) p f = f p
on_ok (Err e) p f = tt

filter_last : (p : ℕ → Bool) (xs : List ℕ) (x : ℕ) (b : Bool) → p x ≡ b → filter p (xs ++ x ∷ []) ≡ filter p xs ++ cond b (x ∷ []) []
filter_last p xs x b is = filter-append p xs (x ∷ []) ∙ ap (λ c. filter p xs ++ cond c (x ∷ []) []) is

-- the dependencies that are exported, with the next one
exported_front : (exports : Entries) (ids : List InterfaceId) (k : ℕ) (b : Bool) → k < length ids
    → is_exported_itself exports (get_or ids k (record { 0 = 0 })).0 ≡ b
    → filter (is_exported_itself exports) (take (k + 1) (interface_ids ids)) ≡ filter (is_exported_itself exports) (take k (interface_ids ids))
    ++ cond b ((get_or ids k (record { 0 = 0 })).0 ∷ []) []
exported_front exports ids k b small is =
    let short : k < length (interface_ids ids) = rw length-map small in
    let at : get_or (interface_ids ids) k 0 ≡ (get_or ids k (record { 0 = 0 })).0 = get_or-map id_of_interface ids k (record { 0 = 0 }) 0 small in
    ap (filter (is_exported_itself exports)) (take_more (interface_ids ids) k 0 short ∙ ap (λ z. take k (interface_ids ids) ++ z ∷ []) at)
    ∙ filter_last (is_exported_itself exports) (take k (interface_ids ids)) (get_or ids k (record { 0 = 0 })).0 b is

module _ (r : ResolveView) (exports : Entries) (i : ℕ) (ids : List InterfaceId) (k : ℕ) (b : Bool) (test : ℕ → Bool) (small : k < length ids)
    (is : b ≡ is_exported_itself exports (get_or ids k (record { 0 = 0 })).0) where
  -- a dependency that is exported was added; one that is not is passed over
  pub used_part_has : b ≡ true → IsUsedPart r exports i (filter (is_exported_itself exports) (take k (interface_ids ids))
      ++ (get_or ids k (record { 0 = 0 })).0 ∷ []) test
      → IsUsedPart r exports i (filter (is_exported_itself exports) (take (k + 1) (interface_ids ids))) test
  used_part_has has a = subst (λ z. IsUsedPart r exports i z test) (sym (exported_front exports ids k true small (sym is ∙ has))) a

  pub used_part_skip : b ≡ false → IsUsedPart r exports i (filter (is_exported_itself exports) (take k (interface_ids ids))) test
      → IsUsedPart r exports i (filter (is_exported_itself exports) (take (k + 1) (interface_ids ids))) test
  used_part_skip none a = subst (λ z. IsUsedPart r exports i z test)
      (sym (exported_front exports ids k false small (sym is ∙ none) ∙ append-nil (filter (is_exported_itself exports) (take k (interface_ids ids))))) a

-- an element that passes a test is among those that do
keeps_one : (p : ℕ → Bool) (xs : List ℕ) (x y : ℕ) (b : Bool) → p y ≡ b → p x ≡ true → (y ≡ x) ⊎ Contains (filter p xs) x
    → Contains (cond b (y ∷ filter p xs) (filter p xs)) x
keeps_one p xs x y true of is (inl same) = subst (Contains (y ∷ filter p xs)) same (contains_head (filter p xs) y)
keeps_one p xs x y true of is (inr rest) = contains_tail y (filter p xs) x rest
keeps_one p xs x y false of is (inl same) = absurd (let e : true ≡ false = sym is ∙ (ap p (sym same) ∙ of) in let bad : ⊥ = cc e in bad)
keeps_one p xs x y false of is (inr rest) = rest

pub filter_has : (p : ℕ → Bool) (xs : List ℕ) (x : ℕ) → Contains xs x → p x ≡ true → Contains (filter p xs) x
filter_has p [] x h is = absurd (contains_none x h)
filter_has p (y ∷ xs) x h is = keeps_one p xs x y (p y) refl is
    (elim (contains_cons y xs x h) [ inl same ↦ inl same | inr rest ↦ inr (filter_has p xs x rest is) ])

kept_from : (p : ℕ → Bool) (xs : List ℕ) (x y : ℕ) (b : Bool) → p y ≡ b → (Contains (filter p xs) x → Contains xs x × (p x ≡ true))
    → Contains (cond b (y ∷ filter p xs) (filter p xs)) x → Contains (y ∷ xs) x × (p x ≡ true)
kept_from p xs x y true of rest h =
    elim (contains_cons y (filter p xs) x h) [
      | inl same ↦ (subst (Contains (y ∷ xs)) same (contains_head xs y), ap p (sym same) ∙ of)
      | inr later ↦ (contains_tail y xs x (rest later).0, (rest later).1)
    ]
kept_from p xs x y false of rest h = (contains_tail y xs x (rest h).0, (rest h).1)

pub filter_from : (p : ℕ → Bool) (xs : List ℕ) (x : ℕ) → Contains (filter p xs) x → Contains xs x × (p x ≡ true)
filter_from p [] x h = absurd (contains_none x h)
filter_from p (y ∷ xs) x h = kept_from p xs x y (p y) refl (filter_from p xs x) h

-- the dependency that is gone through is one of the interface
pub dependency_there : (r : ResolveView) (exports : Entries) (i : ℕ) (items ids : List InterfaceId) (k : ℕ) (b : Bool)
    → interface_ids items ≡ direct_dependencies r i → ids ≡ items → k < length ids
    → b ≡ is_exported_itself exports (get_or ids k (record { 0 = 0 })).0 → b ≡ true
    → Contains (exported_dependencies r exports i) (get_or ids k (record { 0 = 0 })).0
dependency_there r exports i items ids k b are same small is has =
    let short : k < length (interface_ids ids) = rw length-map small in
    let at : get_or (interface_ids ids) k 0 ≡ (get_or ids k (record { 0 = 0 })).0 = get_or-map id_of_interface ids k (record { 0 = 0 }) 0 small in
    let own : Contains (interface_ids ids) (get_or ids k (record { 0 = 0 })).0 = subst (Contains (interface_ids ids)) at
    (Contains-get_or (interface_ids ids) k 0 short) in
    filter_has (is_exported_itself exports) (direct_dependencies r i) (get_or ids k (record { 0 = 0 })).0
    (subst (λ z. Contains z (get_or ids k (record { 0 = 0 })).0) (ap interface_ids same ∙ are) own) (sym is ∙ has)

pub used_part_end : (r : ResolveView) (exports : Entries) (i : ℕ) (items ids : List InterfaceId) (k : ℕ) (test : ℕ → Bool)
    → interface_ids items ≡ direct_dependencies r i → ids ≡ items → length ids ≤ k
    → IsUsedPart r exports i (filter (is_exported_itself exports) (take k (interface_ids ids))) test
    → IsUsedPart r exports i (exported_dependencies r exports i) test
used_part_end r exports i items ids k test are same past a =
    let long : length (interface_ids ids) ≤ k = rw length-map past in
    subst (λ z. IsUsedPart r exports i (filter (is_exported_itself exports) z) test) (take_all k (interface_ids ids) long ∙ (ap interface_ids same ∙ are)) a

pub none_among : (ids : List InterfaceId) (j : ℕ) → ids ≡ [] → among ids j ≡ false
none_among ids j none = ap (λ z. among z j) none

-- a set put into the map
pub set_put : {S T : Type 0} (m n : HashMap InterfaceId (HashSet InterfaceId S) T) (id : InterfaceId) (s : HashSet InterfaceId S) (j : ℕ)
    → get same_interface n (record { 0 = j }) ≡ cond (id.0 == j) (Some s) (get same_interface m (record { 0 = j }))
    → used_view n j ≡ cond (id.0 == j) (Some (has_interface s)) (used_view m j)
set_put m n id s j is = ap (option_map has_interface) is ∙ by (id.0 == j) where
  by : (b : Bool) → option_map has_interface (cond b (Some s) (get same_interface m (record { 0 = j }))) ≡ cond b (Some (has_interface s)) (used_view m j)
  by true = refl
  by false = refl

pub no_sets : {S T : Type 0} (m : HashMap InterfaceId (HashSet InterfaceId S) T) → m.entries ≡ [] → (i : ℕ) → used_view m i ≡ None
no_sets m none i = ap (λ es. option_map has_interface (lookup (same_interface (record { 0 = i })) es)) none
