-- Exports under their names, and one taken out.
use Rattle.std.proofs.Common.{◌≡◌, ◌≢◌, ℕ, zero, suc, ◌+◌, ◌-◌, ◌<◌, List, [], ◌∷◌, ◌++◌, map, length, take, drop, get_or, set, refl, sym, ◌∙◌, ap, subst, Bool, ◌||◌, String, Global}
use Rattle.std.proofs.Common.{true, false, cond, not, Option, Some, None, arith}
use Rattle.std.specs.Prelude.{All, AllPairs, fold, position, string_bytes, is_some}
use Rattle.std.specs.List.{AllByRecursion, swap_remove, list_any}
use Rattle.std.proofs.lemmas.List.Elements.{recursion_from_All, All-take, All-set, All-head, All-from_recursion}
use Rattle.std.proofs.lemmas.List.{nil_from_length, length-map, map-set, length-take-le, take_more, take-append-drop}
use Rattle.std.specs.Option.{option_map_or}
use Rattle.std.specs.Str.{bytes_eq}
use Rattle.std.specs.Bool.{Decides}
use Rattle.std.proofs.lemmas.Slice.Eq.{bytes_eq-Decides}
use Rattle.std.specs.Borrow.{Bor}
use Rattle.indexmap.specs.IndexMap.{insert_entry}
use Rattle.wc_read.specs.Exports.{ExportValue, export_value}
use Rattle.wc_read.specs.declared.exports.Export.{Export}
use Rattle.std.proofs.Math.Seq.{drop-cons}
use Rattle.std.specs.Map.{lookup}
use Rattle.wc_gc.specs.Exports.{kept_exports, dropped_names, missing_name, is_exported, without, export_entries, AreNamed, is_required, by_name}
use Rattle.wc_read.proofs.EntryLemmas.{no_export}

-- swapping and mapping

map-take : {A B : Type 0} (f : A → B) (n : ℕ) (xs : List A) → map f (take n xs) ≡ take n (map f xs)
map-take f zero xs = refl
map-take f (suc n) [] = refl
map-take f (suc n) (x ∷ xs) = ap (λ ys. f x ∷ ys) (map-take f n xs)

pub get-map : {A B : Type 0} (f : A → B) (xs : List A) (i : ℕ) (d : A) → f (get_or xs i d) ≡ get_or (map f xs) i (f d)
get-map f [] i d = refl
get-map f (x ∷ xs) zero d = refl
get-map f (x ∷ xs) (suc i) d = get-map f xs i d

pub map-swap_remove : {A B : Type 0} (f : A → B) (xs : List A) (i : ℕ) (d : A) → map f (swap_remove xs i d) ≡ swap_remove (map f xs) i (f d)
map-swap_remove f xs i d =
    map-take f (length xs - 1) (set xs i (get_or xs (length xs - 1) d))
    ∙ (ap (take (length xs - 1)) (map-set f xs i (get_or xs (length xs - 1) d) ∙ ap (set (map f xs) i) (get-map f xs (length xs - 1) d))
    ∙ ap (λ n. take (n - 1) (set (map f xs) i (get_or (map f xs) (n - 1) (f d)))) (sym (length-map xs f)))

abbrev Pair : Type 0
Pair = Bor (List ℕ) × Export

-- what is left of exports where those of other exports that are not required are taken out
abbrev pub kept_from : List (List ℕ) → List ExportValue → List ExportValue → List ExportValue
kept_from required others exports = fold without exports (dropped_names required others)

-- one more export

pub step_kept : (required : List (List ℕ)) (x : ExportValue) (rest exports : List ExportValue) → is_required required x.name ≡ true
    → kept_from required (x ∷ rest) exports ≡ kept_from required rest exports
step_kept required x rest exports h = rw h refl

pub step_dropped : (required : List (List ℕ)) (x : ExportValue) (rest exports : List ExportValue) → is_required required x.name ≡ false
    → kept_from required (x ∷ rest) exports ≡ kept_from required rest (without exports x.name)
step_dropped required x rest exports h = rw h refl

pub named_by_name : (es : List Export) → AreNamed (map by_name es)
named_by_name es = All-from_recursion (λ (e : Pair). e.0.now ≡ e.1.name.now) (map by_name es) (go es)
  where
    go : (es : List Export) → AllByRecursion (λ (e : Pair). e.0.now ≡ e.1.name.now) (map by_name es)
    go [] = tt
    go (e ∷ es) = (refl, go es)

pub entries_by_name : (es : List Export) → export_entries (map by_name es) ≡ map export_value es
entries_by_name [] = refl
entries_by_name (e ∷ es) = ap (λ (xs : List ExportValue). export_value e ∷ xs) (entries_by_name es)

-- a set of names has one exactly where it is required
pub required_is : (name : List ℕ) (keys : List (String Global)) → list_any (λ k. bytes_eq name (string_bytes k)) keys ≡ is_required (map string_bytes keys) name
required_is name [] = refl
required_is name (k ∷ keys) = ap (λ (b : Bool). bytes_eq name (string_bytes k) || b) (required_is name keys)

pub drop_more : (es : List Export) (i : ℕ) (d : Export) → i < length es
    → map export_value (drop i es) ≡ export_value (get_or es i d) ∷ map export_value (drop (i + 1) es)
drop_more es i d h = ap (map export_value) (drop-cons es i d h ∙ ap (λ (n : ℕ). get_or es i d ∷ drop n es) (let e : suc i ≡ i + 1 = omega arith in e))

-- a turn of the loop

pub item_kept : (keys : List (String Global)) (es : List Export) (i : ℕ) (kept all : List ExportValue) → i < length es
    → list_any (λ k. bytes_eq (get_or es i no_export).name.now (string_bytes k)) keys ≡ true
    → kept_from (map string_bytes keys) (map export_value (drop i es)) kept ≡ all
    → kept_from (map string_bytes keys) (map export_value (drop (i + 1) es)) kept ≡ all
item_kept keys es i kept all h there e =
    sym (ap (λ (z : List ExportValue). kept_from (map string_bytes keys) z kept) (drop_more es i no_export h)
    ∙ step_kept (map string_bytes keys) (export_value (get_or es i no_export)) (map export_value (drop (i + 1) es)) kept
    (sym (required_is (get_or es i no_export).name.now keys) ∙ there)) ∙ e

-- an export of a new name is put after the others

pub differ : (xs ys : List ℕ) → xs ≢ ys → bytes_eq xs ys ≡ false
differ xs ys n = go (bytes_eq xs ys) (bytes_eq-Decides xs ys)
  where
    go : (b : Bool) → Decides b (xs ≡ ys) → b ≡ false
    go true d = absurd (n (d.0 refl))
    go false d = refl

insert_more : (eq : Bor (List ℕ) → Bor (List ℕ) → Bool) → ((a b : Bor (List ℕ)) → eq a b ≡ bytes_eq a.now b.now) → (es : List Export) (x : Export)
    → AllByRecursion (λ (e : Export). e.name.now ≢ x.name.now) es
    → insert_entry eq (map by_name es) x.name x ≡ map by_name (es ++ x ∷ [])
insert_more eq h [] x differing = refl
insert_more eq h (e ∷ es) x differing =
    let new : eq x.name e.name ≡ false = h x.name e.name ∙ differ x.name.now e.name.now (λ same. differing.0 (sym same)) in
    rw new (ap (λ (z : List Pair). by_name e ∷ z) (insert_more eq h es x differing.1))

-- names by their indices
name_at : (es : List Export) (i : ℕ) → (get_or es i no_export).name.now ≡ get_or (map (λ (e : ExportValue). e.name) (map export_value es)) i []
name_at es i =
    ap (λ (v : ExportValue). v.name) (get-map export_value es i no_export)
    ∙ get-map (λ (e : ExportValue). e.name) (map export_value es) i (export_value no_export)

differ_from : (es rest : List Export) (x : Export) → ((k : ℕ) → k < length es → (get_or (es ++ rest) k no_export).name.now ≢ x.name.now)
    → AllByRecursion (λ (e : Export). e.name.now ≢ x.name.now) es
differ_from [] rest x h = tt
differ_from (e ∷ es) rest x h = (h 0 (omega arith), differ_from es rest x (λ k lt. h (suc k) (omega arith)))

pub inserted : (eq : Bor (List ℕ) → Bor (List ℕ) → Bool) → ((a b : Bor (List ℕ)) → eq a b ≡ bytes_eq a.now b.now) → (es : List Export) (i : ℕ) → i < length es
    → AllPairs (λ x y. x ≢ y) (map (λ (e : ExportValue). e.name) (map export_value es)) → (entries after : List Pair) → entries ≡ map by_name (take i es)
    → after ≡ insert_entry eq entries (get_or es i no_export).name (get_or es i no_export) → after ≡ map by_name (take (i + 1) es)
inserted eq h es i lt pairs entries after was is =
    is ∙ (ap (λ (z : List Pair). insert_entry eq z (get_or es i no_export).name (get_or es i no_export)) was
    ∙ (insert_more eq h (take i es) (get_or es i no_export)
    (differ_from (take i es) (drop i es) (get_or es i no_export) (λ k below same.
    let here : k < i = (let l = length-take-le i es (omega arith) in omega (arith, below)) in
    pairs k i [] here (rw (length-map (map export_value es) (λ (e : ExportValue). e.name), length-map es export_value) lt)
    (sym (name_at es k) ∙ (ap (λ (z : List Export). (get_or z k no_export).name.now) (sym (take-append-drop i es)) ∙ (same ∙ name_at es i)))))
    ∙ ap (map by_name) (sym (take_more es i no_export lt))))

-- names that are missing

found_in : (test : Bor (List ℕ) → Bool) (name : List ℕ) (es : List Pair) → ((k : Bor (List ℕ)) → test k ≡ bytes_eq name k.now)
    → AllByRecursion (λ (e : Pair). e.0.now ≡ e.1.name.now) es → is_some (lookup test es) ≡ is_exported (export_entries es) name
found_in test name [] h n = refl
found_in test name (e ∷ es) h n =
    step (test e.0) (lookup test es)
    ∙ (ap (λ (b : Bool). b || is_some (lookup test es)) (h e.0 ∙ ap (bytes_eq name) n.0)
    ∙ ap (λ (b : Bool). bytes_eq name e.1.name.now || b) (found_in test name es h n.1))
  where
    step : (b : Bool) (o : Option Export) → is_some (cond b (Some e.1) o) ≡ (b || is_some o)
    step true o = refl
    step false o = refl

-- a look-up says whether a name is exported
pub found_is : (test : Bor (List ℕ) → Bool) (name : List ℕ) (es : List Pair) → ((k : Bor (List ℕ)) → test k ≡ bytes_eq name k.now) → AreNamed es
    → (b : Bool) → b ≡ is_some (lookup test es) → is_exported (export_entries es) name ≡ b
found_is test name es h named b e = sym (e ∙ found_in test name es h (recursion_from_All (λ (e : Pair). e.0.now ≡ e.1.name.now) es named))

pub next_missing : (exports : List ExportValue) (left rest : List (String Global)) (x : String Global) → left ≡ x ∷ rest
    → is_exported exports (string_bytes x) ≡ false → missing_name exports (map string_bytes left) ≡ Some (string_bytes x)
next_missing exports left rest x e out =
    ap (λ (z : List (String Global)). missing_name exports (map string_bytes z)) e
    ∙ ap (λ (b : Bool). cond (not b) (Some (string_bytes x)) (missing_name exports (map string_bytes rest))) out

pub next_present : (exports : List ExportValue) (left rest : List (String Global)) (x : String Global) → left ≡ x ∷ rest
    → is_exported exports (string_bytes x) ≡ true → missing_name exports (map string_bytes left) ≡ missing_name exports (map string_bytes rest)
next_present exports left rest x e out =
    ap (λ (z : List (String Global)). missing_name exports (map string_bytes z)) e
    ∙ ap (λ (b : Bool). cond (not b) (Some (string_bytes x)) (missing_name exports (map string_bytes rest))) out

-- what holds of all exports holds of those that are kept

all_or : {A : Type 0} (P : A → Type 0) (xs : List A) (d : A) → All P xs → P d → (o : Option ℕ) → All P (option_map_or (λ i. swap_remove xs i d) o xs)
all_or P xs d all one None = all
all_or P xs d all one (Some i) =
    All-take P (length xs - 1) (set xs i (get_or xs (length xs - 1) d))
    (All-set P xs i (get_or xs (length xs - 1) d) (at_end (length xs) refl) all)
  where
    at_end : (n : ℕ) → length xs ≡ n → P (get_or xs (length xs - 1) d)
    at_end zero e = subst (λ z. P (get_or z (length z - 1) d)) (sym (nil_from_length xs e)) one
    at_end (suc n) e = all (length xs - 1) d (omega arith)

all_without : (P : ExportValue → Type 0) (es : List ExportValue) (name : List ℕ) → All P es → All P (without es name)
all_without P [] name all = all
all_without P (e ∷ es) name all = all_or P (e ∷ es) e all (All-head P e es all) (position (λ (x : ExportValue). bytes_eq name x.name) (e ∷ es))

pub all_fold : (P : ExportValue → Type 0) (es : List ExportValue) (names : List (List ℕ)) → All P es → All P (fold without es names)
all_fold P es [] all = all
all_fold P es (n ∷ names) all = all_fold P (without es n) names (all_without P es n all)

pub all_kept : (P : ExportValue → Type 0) (required : List (List ℕ)) (es : List ExportValue) → All P es → All P (kept_exports required es)
all_kept P required es all = all_fold P es (dropped_names required es) all
