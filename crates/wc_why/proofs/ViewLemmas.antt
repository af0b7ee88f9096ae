-- Lists that are gone through, seen as views.
use Rattle.std.proofs.Common.{◌≡◌, ℕ, ◌+◌, ◌<◌, ◌≤◌, Some, option_map, arith, List, [], ◌∷◌, ◌++◌, length, map, take, get_or, sym, ◌∙◌, ap}
use Rattle.std.proofs.lemmas.List.{get_or-map, length-map, length-take-le, map-append, take_more}
use Rattle.std.specs.List.{slice_get}
use Rattle.std.specs.Prelude.{Err, IfOk, Ok, OnOk, Result}
use Rattle.std.proofs.lemmas.Option.{same_Some, slice_get-get_or, slice_get-map, slice_get_within}
use Rattle.wc_why.specs.Part.{PartView, part_view}
use Rattle.wc_why.specs.declared.part.Part.{Part}

pub view_more : {A B : Type 0} (v : A → B) (xs : List A) (i : ℕ) (d : A) → i < length xs → map v (take (i + 1) xs) ≡ map v (take i xs) ++ v (get_or xs i d) ∷ []
view_more v xs i d lt = ap (map v) (take_more xs i d lt) ∙ map-append v (take i xs) (get_or xs i d ∷ [])

pub view_at : {A B : Type 0} (v : A → B) (xs : List A) (i : ℕ) (d : A) → i < length xs → slice_get (map v xs) i ≡ Some (v (get_or xs i d))
view_at v xs i d lt = slice_get-map v xs i ∙ ap (option_map v) (slice_get-get_or xs i d lt)

pub view_next : {A B : Type 0} (v : A → B) (xs : List A) (i : ℕ) (d : A) → i < length xs → take (i + 1) (map v xs) ≡ take i (map v xs) ++ v (get_or xs i d) ∷ []
view_next v xs i d lt =
    let len = length-map xs v in
    take_more (map v xs) i (v d) (omega (arith, len, lt)) ∙ ap (λ y. take i (map v xs) ++ y ∷ []) (get_or-map v xs i d (v d) lt)

pub view_count : {A B : Type 0} (v : A → B) (xs : List A) (i : ℕ) → i ≤ length xs → length (take i (map v xs)) ≡ i
view_count v xs i le = length-take-le i (map v xs) (let len = length-map xs v in omega (arith, len, le))

-- what follows from what holds of a success
pub on_ok : {X E : Type 0} (r : Result X E) {P Q : Type 0} → (P → Q) → OnOk r P → OnOk r Q
on_ok (Ok x) f p = f p
on_ok (Err e) f p = p

pub if_ok : {X E : Type 0} (r : Result X E) {P Q : X → Type 0} → ((x : X) → P x → Q x) → IfOk r P → IfOk r Q
if_ok (Ok x) f p = f x p
if_ok (Err e) f p = p

pub if_both : {X E : Type 0} (r : Result X E) {P R : X → Type 0} {Q : Type 0} → ((x : X) → P x → Q → R x) → IfOk r P → OnOk r Q → IfOk r R
if_both (Ok x) f p q = f x p q
if_both (Err e) f p q = p

-- what is read of a part is that of its view
pub part_at : {R : Type 0} (f : PartView → R) (parts : List Part) (p : ℕ) (d : Part) (view : PartView) → slice_get (map part_view parts) p ≡ Some view
    → f (part_view (get_or parts p d)) ≡ f view
part_at f parts p d view at =
    let lt : p < length parts = let w = slice_get_within (map part_view parts) p view at in let len = length-map parts part_view in omega (arith, w, len) in
    ap f (same_Some (part_view (get_or parts p d)) view (sym (view_at part_view parts p d lt) ∙ at))
