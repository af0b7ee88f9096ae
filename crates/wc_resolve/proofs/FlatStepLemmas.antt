-- Steps of loops that make flat types.
use Rattle.std.proofs.Common.{◌≡◌, ℕ, zero, suc, ◌+◌, ◌-◌, ◌<◌, ◌≤◌, min, List, [], ◌∷◌, ◌++◌, map, length, take, drop, set, get_or, replicate, Option, refl, sym, ap, ◌∙◌, arith, add-one}
use Rattle.std.specs.List.{fold}
use Rattle.std.proofs.lemmas.Grind.{flat_map-append}
use Rattle.std.proofs.lemmas.List.{take_more, take_min, take_all, take-append-drop, take-append-le, append-nil, length-map, length-take, get_or-map}
use Rattle.std.proofs.lemmas.List.Sums.{fold_more}
use Rattle.std.proofs.Math.Nat.{min-zero, zero-min, suc-min-suc}
use Rattle.std.proofs.Math.Seq.{take-append-add}
use Rattle.wc_resolve.specs.declared.flat.WasmType.{WasmType}
use Rattle.wc_resolve.specs.declared.types.WitType.{WitType}
use Rattle.wc_resolve.specs.Flat.{flat_payload, flat_types_kept, flatten_type, flatten_types, join, join_flats}
use Rattle.wc_resolve.proofs.FrontAgreementLemmas.{AgreeAtFront, agree_append, agree_cut}

-- what fits after others
pub put_room : {X : Type 0} (n room : ℕ) (xs ys : List X) → length xs ≤ n → room ≡ n - length xs → xs ++ take (min room (length ys)) ys ≡ take n (xs ++ ys)
put_room n room xs ys h e =
    let full : length xs + room ≡ n = omega (arith, e) in
    ap (λ z. xs ++ z) (take_min room ys) ∙ sym (take-append-add xs ys room) ∙ ap (λ z. take z (xs ++ ys)) full

pub types_more : (flat : ℕ → List WasmType) (types : List WitType) (i : ℕ) (d : WitType) (old new more : List WasmType) → i < length types
    → old ≡ take flat_types_kept (flatten_types flat (take i types)) → more ≡ flatten_type flat (get_or types i d) → new ≡ take flat_types_kept (old ++ more) → new ≡ take flat_types_kept (flatten_types flat (take (i + 1) types))
types_more flat types i d old new more small was read made =
    let front : List WasmType = flatten_types flat (take i types) in
    let next : flatten_types flat (take (i + 1) types) ≡ front ++ (flatten_type flat (get_or types i d) ++ []) =
    ap (flatten_types flat) (take_more types i d small) ∙ flat_map-append (flatten_type flat) (take i types) (get_or types i d ∷ []) in
    let plain : flatten_types flat (take (i + 1) types) ≡ front ++ more = next ∙ ap (λ z. front ++ z) (append-nil (flatten_type flat (get_or types i d)) ∙ sym read) in
    let agree : AgreeAtFront flat_types_kept (old ++ more) (front ++ more) = agree_append flat_types_kept old front more more (ap (λ z. take flat_types_kept z) was ∙ agree_cut flat_types_kept front) refl in
    made ∙ agree ∙ ap (λ z. take flat_types_kept z) (sym plain)

-- as many as are kept are those of all types
pub kept_all : (flat : ℕ → List WasmType) (types : List WitType) (i : ℕ) (now : List WasmType) → now ≡ take flat_types_kept (flatten_types flat (take i types)) → flat_types_kept ≤ length now → now ≡ take flat_types_kept (flatten_types flat types)
kept_all flat types i now was full =
    let front : List WasmType = flatten_types flat (take i types) in
    let split : flatten_types flat types ≡ front ++ flatten_types flat (drop i types) =
    ap (flatten_types flat) (sym (take-append-drop i types)) ∙ flat_map-append (flatten_type flat) (take i types) (drop i types) in
    let long : flat_types_kept ≤ length front = omega (arith, full, ap (λ z. length z) was, length-take flat_types_kept front) in
    was ∙ sym (ap (λ z. take flat_types_kept z) split ∙ take-append-le flat_types_kept front (flatten_types flat (drop i types)) long)

pub shared_more : (flat : ℕ → List WasmType) (payloads : List (Option WitType)) (i : ℕ) (d : Option WitType) (old new more : List WasmType) → i < length payloads
    → old ≡ fold (λ shared t. join_flats shared (flat_payload flat t)) [] (take i payloads) → more ≡ flat_payload flat (get_or payloads i d) → new ≡ join_flats old more
    → new ≡ fold (λ shared t. join_flats shared (flat_payload flat t)) [] (take (i + 1) payloads)
shared_more flat payloads i d old new more small was read made =
    made ∙ ap (λ z. join_flats z more) was ∙ ap (λ z. join_flats (fold (λ shared t. join_flats shared (flat_payload flat t)) [] (take i payloads)) z) read
    ∙ sym (fold_more (λ shared t. join_flats shared (flat_payload flat t)) [] payloads i d small)

-- as many as are kept
pub copies_cut : {X : Type 0} (m n : ℕ) (x : X) → replicate (min n m) x ≡ take m (replicate n x)
copies_cut zero n x = rw min-zero refl
copies_cut (suc m) zero x = rw zero-min refl
copies_cut (suc m) (suc n) x = rw suc-min-suc (ap (λ z. x ∷ z) (copies_cut m n x))

-- a part of the element at an index
pub part_read : {T Y : Type 0} (part : T → Y) (things : List T) (i : ℕ) (thing : T) (d : Y) → i < length things → thing ≡ get_or things i thing → part thing ≡ get_or (map part things) i d
part_read part things i thing d small read = sym (get_or-map part things i thing d small ∙ ap part (sym read))

pub part_small : {T Y : Type 0} (part : T → Y) (things : List T) (i : ℕ) → i < length things → i < length (map part things)
part_small part things i small = rw (length-map things part) small

pub all_parts : {T Y : Type 0} (part : T → Y) (things : List T) (i : ℕ) → length things ≤ i → take i (map part things) ≡ map part things
all_parts part things i past = take_all i (map part things) (rw (length-map things part) past)

pub cut_small : {X : Type 0} (n : ℕ) (xs ys : List X) → xs ≡ take n ys → length xs ≤ n
cut_small n xs ys e = omega (arith, ap (λ z. length z) e, length-take n ys)

-- the first n elements joined
pub joined_first : ℕ → List WasmType → List WasmType → List WasmType
joined_first zero xs ys = xs
joined_first (suc n) [] ys = []
joined_first (suc n) (x ∷ xs) [] = x ∷ xs
joined_first (suc n) (x ∷ xs) (y ∷ ys) = join x y ∷ joined_first n xs ys

pub joined_start : (xs ys : List WasmType) → joined_first 0 xs ys ≡ xs
unfolding joined_first
joined_start xs ys = refl

pub joined_step : (i : ℕ) (xs ys : List WasmType) (d e : WasmType) → i < length xs → i < length ys
    → set (joined_first i xs ys) i (join (get_or (joined_first i xs ys) i d) (get_or ys i e)) ≡ joined_first (suc i) xs ys
unfolding joined_first
joined_step i [] ys d e h k = absurd (let bad : ⊥ = omega (arith, h) in bad)
joined_step i (x ∷ xs) [] d e h k = absurd (let bad : ⊥ = omega (arith, k) in bad)
joined_step zero (x ∷ xs) (y ∷ ys) d e h k = refl
joined_step (suc i) (x ∷ xs) (y ∷ ys) d e h k = ap (λ z. join x y ∷ z) (joined_step i xs ys d e (omega (arith, h)) (omega (arith, k)))

pub joined_end : (n : ℕ) (xs ys : List WasmType) → n ≡ min (length xs) (length ys) → joined_first n xs ys ++ drop n ys ≡ join_flats xs ys
unfolding joined_first
joined_end zero [] ys h = refl
joined_end zero (x ∷ xs) [] h = append-nil (x ∷ xs)
joined_end zero (x ∷ xs) (y ∷ ys) h = absurd (let bad : ⊥ = omega (arith, h) in bad)
joined_end (suc n) [] ys h = absurd (let bad : ⊥ = omega (arith, h) in bad)
joined_end (suc n) (x ∷ xs) [] h = absurd (let bad : ⊥ = omega (arith, h) in bad)
joined_end (suc n) (x ∷ xs) (y ∷ ys) h = let less : n ≡ min (length xs) (length ys) = omega (arith, h) in ap (λ z. join x y ∷ z) (joined_end n xs ys less)

pub joined_walk_step : (i shared : ℕ) (xs ys flat : List WasmType) (d e made : WasmType) → shared ≡ min (length xs) (length ys) → i < shared → flat ≡ joined_first i xs ys
    → d ≡ get_or flat i d → made ≡ join d (get_or ys i e) → set flat i made ≡ joined_first (i + 1) xs ys
joined_walk_step i shared xs ys flat d e made h small was read join_is =
    let low : i < length xs = omega (arith, h, small) in
    let high : i < length ys = omega (arith, h, small) in
    let same : made ≡ join (get_or (joined_first i xs ys) i d) (get_or ys i e) = join_is ∙ ap (λ z. join z (get_or ys i e)) (read ∙ ap (λ z. get_or z i d) was) in
    ap (λ z. set z i made) was ∙ ap (λ z. set (joined_first i xs ys) i z) same ∙ joined_step i xs ys d e low high ∙ ap (λ z. joined_first z xs ys) (sym (add-one i))

pub joined_all : (i shared : ℕ) (xs ys flat new : List WasmType) → shared ≡ min (length xs) (length ys) → i ≤ shared → shared ≤ i → flat ≡ joined_first i xs ys
    → new ≡ flat ++ drop shared ys → new ≡ join_flats xs ys
joined_all i shared xs ys flat new h low high was put =
    let same : i ≡ shared = omega (arith, low, high) in
    put ∙ ap (λ z. z ++ drop shared ys) (was ∙ ap (λ z. joined_first z xs ys) same) ∙ joined_end shared xs ys h
