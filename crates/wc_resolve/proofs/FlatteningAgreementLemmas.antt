-- Flat types by tables that agree in the first n core types of each type that is referred to.
use Rattle.std.proofs.Common.{◌≡◌, ℕ, zero, suc, ◌⊎◌, List, [], ◌∷◌, map, take, Option, Some, None, refl, ap, ◌∙◌, subst, inl, inr}
use Rattle.std.specs.List.{Contains, cons_option, filter_map, fold}
use Rattle.std.specs.Option.{option_map_or}
use Rattle.std.proofs.lemmas.List.Elements.{Contains-append_right}
use Rattle.wc_resolve.specs.declared.flat.WasmType.{WasmType}
use Rattle.wc_resolve.specs.declared.flat.WasmType.TheVariants.{I32}
use Rattle.wc_resolve.specs.declared.types.WitType.{WitType}
use Rattle.wc_resolve.specs.declared.types.WitType.TheVariants.{Id}
use Rattle.wc_resolve.specs.Flat.{join, join_flats, flatten_type, flatten_types, flat_payload, flat_cases, flat_kind, flat_rule}
use Rattle.wc_resolve.specs.Views.{KindView, record_kind, tuple_kind, variant_kind, option_kind, result_kind, alias_kind, TypeView}
use Rattle.wc_resolve.specs.Kinds.{children, kind_at, referenced_indices, type_index}
use Rattle.wc_resolve.proofs.FrontAgreementLemmas.{AgreeAtFront, agree_cons, agree_flat_map, agree_same}
use Rattle.wc_resolve.proofs.TypeRuleLemmas.{LooksDown}
use Rattle.wc_maps.proofs.ListLemmas.{contains_none, contains_head, contains_cons}

-- tables that agree at each index of the list
abbrev pub AgreeAtFrontAt : ℕ → (ℕ → List WasmType) → (ℕ → List WasmType) → List ℕ → Type 0
AgreeAtFrontAt n f g indices = (c : ℕ) → Contains indices c → AgreeAtFront n (f c) (g c)

-- flat types of a type that agree
abbrev pub AgreeAtFrontOfType : ℕ → (ℕ → List WasmType) → (ℕ → List WasmType) → WitType → Type 0
AgreeAtFrontOfType n f g t = AgreeAtFront n (flatten_type f t) (flatten_type g t)

pub agree_join : (n : ℕ) (xs vs ys ws : List WasmType) → AgreeAtFront n xs vs → AgreeAtFront n ys ws → AgreeAtFront n (join_flats xs ys) (join_flats vs ws)
agree_join zero xs vs ys ws e f = refl
agree_join (suc n) [] [] ys ws e f = f
agree_join (suc n) [] (v ∷ vs) ys ws e f = absurd (let bad : ⊥ = cc e in bad)
agree_join (suc n) (x ∷ xs) [] ys ws e f = absurd (let bad : ⊥ = cc e in bad)
agree_join (suc n) (x ∷ xs) (v ∷ vs) [] [] e f = e
agree_join (suc n) (x ∷ xs) (v ∷ vs) [] (w ∷ ws) e f = absurd (let bad : ⊥ = cc f in bad)
agree_join (suc n) (x ∷ xs) (v ∷ vs) (y ∷ ys) [] e f = absurd (let bad : ⊥ = cc f in bad)
agree_join (suc n) (x ∷ xs) (v ∷ vs) (y ∷ ys) (w ∷ ws) e f =
    let head : x ≡ v = cc e in
    let head2 : y ≡ w = cc f in
    let tail : take n xs ≡ take n vs = cc e in
    let tail2 : take n ys ≡ take n ws = cc f in
    let first : join x y ≡ join v w = ap (λ z. join z y) head ∙ ap (λ z. join v z) head2 in
    let rest : take n (join_flats xs ys) ≡ take n (join_flats vs ws) = agree_join n xs vs ys ws tail tail2 in
    let full : join x y ∷ take n (join_flats xs ys) ≡ join v w ∷ take n (join_flats vs ws) = ap (λ z. z ∷ take n (join_flats xs ys)) first ∙ ap (λ z. join v w ∷ z) rest in
    full

pub agree_payload : (n : ℕ) (f g : ℕ → List WasmType) (t : Option WitType) → ((s : WitType) → t ≡ Some s → AgreeAtFrontOfType n f g s) → AgreeAtFront n (flat_payload f t) (flat_payload g t)
agree_payload n f g None h = refl
agree_payload n f g (Some s) h = h s refl

agree_shared : (n : ℕ) (f g : ℕ → List WasmType) (payloads : List (Option WitType)) (xs ys : List WasmType) → ((s : WitType) → Contains payloads (Some s) → AgreeAtFrontOfType n f g s)
    → AgreeAtFront n xs ys
    → AgreeAtFront n (fold (λ shared t. join_flats shared (flat_payload f t)) xs payloads) (fold (λ shared t. join_flats shared (flat_payload g t)) ys payloads)
agree_shared n f g [] xs ys h e = e
agree_shared n f g (t ∷ payloads) xs ys h e =
    let mine : AgreeAtFront n (flat_payload f t) (flat_payload g t) = agree_payload n f g t (λ s is. h s (subst (Contains (t ∷ payloads)) is (contains_head payloads t))) in
    agree_shared n f g payloads (join_flats xs (flat_payload f t)) (join_flats ys (flat_payload g t)) (λ s k. h s (Contains-append_right (t ∷ []) payloads (Some s) k))
    (agree_join n xs ys (flat_payload f t) (flat_payload g t) e mine)

agree_cases : (n : ℕ) (f g : ℕ → List WasmType) (payloads : List (Option WitType)) → ((s : WitType) → Contains payloads (Some s) → AgreeAtFrontOfType n f g s)
    → AgreeAtFront n (flat_cases f payloads) (flat_cases g payloads)
agree_cases n f g payloads h = agree_cons n I32 _ _ (agree_shared n f g payloads [] [] h refl)

pub agree_types : (n : ℕ) (f g : ℕ → List WasmType) (types : List WitType) → ((t : WitType) → Contains types t → AgreeAtFrontOfType n f g t) → AgreeAtFront n (flatten_types f types) (flatten_types g types)
agree_types n f g types h = agree_flat_map n (flatten_type f) (flatten_type g) types h

-- the index of a type that is referred to is among the indices
index_there : (types : List WitType) (i : WitType) (c : ℕ) → type_index i ≡ Some c → Contains types i → Contains (filter_map type_index types) c
index_there [] i c e h = absurd (contains_none i h)
index_there (Id j ∷ types) i c e h =
    elim (contains_cons (Id j) types i h) [
      | inl same ↦ (let at : j.0 ≡ c = (let found : Some j.0 ≡ Some c = ap type_index same ∙ e in cc found) in subst (Contains (j.0 ∷ filter_map type_index types)) at (contains_head (filter_map type_index types) j.0))
      | inr rest ↦ Contains-append_right (j.0 ∷ []) (filter_map type_index types) c (index_there types i c e rest)
    ]
index_there (t ∷ types) i c e h =
    elim (contains_cons t types i h) [
      | inl same ↦ absurd (let found : None ≡ Some c = ap type_index same ∙ e in let bad : ⊥ = cc found in bad)
      | inr rest ↦ index_there types i c e rest
    ]

agree_type : (n : ℕ) (f g : ℕ → List WasmType) (t : WitType) → ((c : ℕ) → type_index t ≡ Some c → AgreeAtFront n (f c) (g c)) → AgreeAtFrontOfType n f g t
agree_type n f g (Id i) h = h i.0 refl
agree_type n f g t h = refl

-- flat types of what is referred to
agree_referenced : (n : ℕ) (f g : ℕ → List WasmType) (types : List WitType) → AgreeAtFrontAt n f g (filter_map type_index types) → (t : WitType) → Contains types t → AgreeAtFrontOfType n f g t
agree_referenced n f g types h t k = agree_type n f g t (λ c e. h c (index_there types t c e k))

payload_first : (o : Option WitType) (rest : List WitType) (t : WitType) → (o ≡ Some t) ⊎ Contains rest t → Contains (cons_option o rest) t
payload_first None rest t (inl e) = absurd (let bad : ⊥ = cc e in bad)
payload_first None rest t (inr k) = k
payload_first (Some s) rest t (inl e) = let same : s ≡ t = cc e in subst (Contains (s ∷ rest)) same (contains_head rest s)
payload_first (Some s) rest t (inr k) = Contains-append_right (s ∷ []) rest t k

-- the payload of a case is contained by value
payload_there : {C : Type 0} (p : C → Option WitType) (cases : List C) (t : WitType) → Contains (map p cases) (Some t) → Contains (filter_map p cases) t
payload_there p [] t h = absurd (contains_none (Some t) h)
payload_there p (c ∷ cases) t h =
    payload_first (p c) (filter_map p cases) t (elim (contains_cons (p c) (map p cases) (Some t) h) [ inl same ↦ inl same | inr rest ↦ inr (payload_there p cases t rest) ])

agree_kind : (n : ℕ) (f g : ℕ → List WasmType) (k : KindView) → AgreeAtFrontAt n f g (referenced_indices k) → AgreeAtFront n (flat_kind f k) (flat_kind g k)
agree_kind n f g (record_kind fields) h = agree_types n f g (map (λ e. e.1) fields) (agree_referenced n f g (map (λ e. e.1) fields) h)
agree_kind n f g (tuple_kind types) h = agree_types n f g types (agree_referenced n f g types h)
agree_kind n f g (variant_kind cases) h =
    agree_cases n f g (map (λ c. c.1) cases) (λ s k. agree_referenced n f g (filter_map (λ c. c.1) cases) h s (payload_there (λ c. c.1) cases s k))
agree_kind n f g (option_kind t) h = agree_cases n f g (None ∷ Some t ∷ []) (λ s k. agree_referenced n f g (t ∷ []) h s (payload_there (λ p. p) (None ∷ Some t ∷ []) s k))
agree_kind n f g (result_kind None None) h = refl
agree_kind n f g (result_kind (Some ok) None) h = agree_cases n f g (Some ok ∷ None ∷ []) (λ s k. agree_referenced n f g (ok ∷ []) h s (payload_there (λ p. p) (Some ok ∷ None ∷ []) s k))
agree_kind n f g (result_kind None (Some err)) h = agree_cases n f g (None ∷ Some err ∷ []) (λ s k. agree_referenced n f g (err ∷ []) h s (payload_there (λ p. p) (None ∷ Some err ∷ []) s k))
agree_kind n f g (result_kind (Some ok) (Some err)) h =
    agree_cases n f g (Some ok ∷ Some err ∷ []) (λ s k. agree_referenced n f g (ok ∷ err ∷ []) h s (payload_there (λ p. p) (Some ok ∷ Some err ∷ []) s k))
agree_kind n f g (alias_kind t) h = agree_referenced n f g (t ∷ []) h t (contains_head [] t)
agree_kind n f g k h = refl

agree_option : (n : ℕ) (f g : ℕ → List WasmType) (k : Option KindView) → AgreeAtFrontAt n f g (option_map_or referenced_indices k []) → AgreeAtFront n (option_map_or (flat_kind f) k []) (option_map_or (flat_kind g) k [])
agree_option n f g None h = refl
agree_option n f g (Some k) h = agree_kind n f g k h

pub agree_rule : (n : ℕ) (f g : ℕ → List WasmType) (types : List TypeView) (x : ℕ) → AgreeAtFrontAt n f g (children types x) → AgreeAtFront n (flat_rule f x (kind_at types x)) (flat_rule g x (kind_at types x))
agree_rule n f g types x h = agree_option n f g (kind_at types x) h

-- the flat types of a type depend only on those of the types that it refers to
pub flat_looks_down : (types : List TypeView) → LooksDown flat_rule types
flat_looks_down types f g x h =
    agree_same (flat_rule f x (kind_at types x)) (flat_rule g x (kind_at types x)) (λ n. agree_rule n f g types x (λ c k. ap (λ z. take n z) (h c k)))
