-- The image of a module that was read.
use Rattle.std.proofs.Common.{◌≡◌, ℕ, zero, suc, ◌+◌, ◌<◌, List, [], ◌∷◌, ◌++◌, length, map, take, get_or, refl, sym, ◌∙◌, ap, Bool, true, false, cond, Option, Some, None, append-nil, arith}
use Rattle.std.specs.Prelude.{All, filter}
use Rattle.std.specs.List.{range_with_len, enumerate_from, filter_map, slice_get, cons_option, AllByRecursion}
use Rattle.std.specs.Option.{option_map}
use Rattle.std.specs.Borrow.{Bor}
use Rattle.std.proofs.lemmas.List.Elements.{filter-append, filter_map-append, All-from_recursion}
use Rattle.std.proofs.lemmas.List.{take_more}
use Rattle.std.proofs.lemmas.Option.{slice_get-map}
use Rattle.wc_read.specs.Bodies.{BodyValue}
use Rattle.wc_read.specs.Items.{DefValue, imported, local}
use Rattle.wc_read.specs.declared.core_module.Module.{Module}
use Rattle.wc_read.specs.declared.items.Item.{Item}
use Rattle.wc_read.specs.declared.operators.Space.TheVariants.{Funcs}
use Rattle.wc_read.specs.Decoded.{DecodedModule, decoded_module, func_code, is_code}
use Rattle.wc_gc.specs.Image.{kept_items}
use Rattle.wc_gc.specs.InRange.{is_item_in_range, is_def_in_range, is_entry_in_range}
use Rattle.wc_read.proofs.EntryLemmas.{func_at}
use Rattle.wc_graph.proofs.ListLemmas.{range_more}

-- one more index

kept_step : {A : Type 0} (has : ℕ → Bool) (n : ℕ) (xs : List A) → kept_items has (n + 1) xs ≡ kept_items has n xs ++ filter_map (slice_get xs) (cond (has n) (n ∷ []) [])
kept_step has n xs =
    let next : n + 1 ≡ suc n = omega arith in
    let last : 0 + n ≡ n = omega arith in
    let cut = ap (range_with_len 0) next ∙ (range_more 0 n ∙ ap (λ k. range_with_len 0 n ++ k ∷ []) last) in
    ap (λ ns. filter_map (slice_get xs) (filter has ns)) cut
    ∙ (ap (filter_map (slice_get xs)) (filter-append has (range_with_len 0 n) (n ∷ [])) ∙ filter_map-append (slice_get xs) (filter has (range_with_len 0 n)) (cond (has n) (n ∷ []) []))

pub kept_yes : {A : Type 0} (has : ℕ → Bool) (n : ℕ) (xs : List A) (x : A) → slice_get xs n ≡ Some x → true ≡ has n → kept_items has (n + 1) xs ≡ kept_items has n xs ++ x ∷ []
kept_yes has n xs x at h =
    kept_step has n xs ∙ (ap (λ b. kept_items has n xs ++ filter_map (slice_get xs) (cond b (n ∷ []) [])) (sym h) ∙ ap (λ o. kept_items has n xs ++ cons_option o []) at)

pub kept_no : {A : Type 0} (has : ℕ → Bool) (n : ℕ) (xs : List A) → false ≡ has n → kept_items has (n + 1) xs ≡ kept_items has n xs
kept_no has n xs h = kept_step has n xs ∙ (ap (λ b. kept_items has n xs ++ filter_map (slice_get xs) (cond b (n ∷ []) [])) (sym h) ∙ append-nil (kept_items has n xs))

-- one more of these indices

pub picked_more : {A : Type 0} (pick : ℕ → Option A) (ns : List ℕ) (i : ℕ) → i < length ns → filter_map pick (take (i + 1) ns) ≡ filter_map pick (take i ns) ++ filter_map pick (get_or ns i 0 ∷ [])
picked_more pick ns i lt = ap (filter_map pick) (take_more ns i 0 lt) ∙ filter_map-append pick (take i ns) (get_or ns i 0 ∷ [])

-- what is kept of items that are seen by a view

one_mapped : {A B : Type 0} (f : A → B) (o : Option A) (ys : List A) → cons_option (option_map f o) (map f ys) ≡ map f (cons_option o ys)
one_mapped f None ys = refl
one_mapped f (Some x) ys = refl

picked_mapped : {A B : Type 0} (f : A → B) (xs : List A) (ns : List ℕ) → filter_map (slice_get (map f xs)) ns ≡ map f (filter_map (slice_get xs) ns)
picked_mapped f xs [] = refl
picked_mapped f xs (n ∷ ns) =
    ap (λ o. cons_option o (filter_map (slice_get (map f xs)) ns)) (slice_get-map f xs n) ∙ (ap (cons_option (option_map f (slice_get xs n))) (picked_mapped f xs ns) ∙ one_mapped f (slice_get xs n) (filter_map (slice_get xs) ns))

pub kept_mapped : {A B : Type 0} (f : A → B) (has : ℕ → Bool) (n : ℕ) (xs : List A) → kept_items has n (map f xs) ≡ map f (kept_items has n xs)
kept_mapped f has n xs = picked_mapped f xs (filter has (range_with_len 0 n))

-- what holds of each item that is kept

module _ {A : Type 0} (P : A → Type 0) (has : ℕ → Bool) (xs : List A) (each : (n : ℕ) (x : A) → has n ≡ true → slice_get xs n ≡ Some x → P x) where
  one_of : (n : ℕ) (ys : List A) → has n ≡ true → AllByRecursion P ys → (o : Option A) → slice_get xs n ≡ o → AllByRecursion P (cons_option o ys)
  one_of n ys h all None e = all
  one_of n ys h all (Some x) e = (each n x h e, all)

  all_more : (n : ℕ) (ns : List ℕ) → AllByRecursion P (filter_map (slice_get xs) (filter has ns)) → (b : Bool) → has n ≡ b → AllByRecursion P (filter_map (slice_get xs) (cond b (n ∷ filter has ns) (filter has ns)))
  all_more n ns all true h = one_of n (filter_map (slice_get xs) (filter has ns)) h all (slice_get xs n) refl
  all_more n ns all false h = all

  all_of : (ns : List ℕ) → AllByRecursion P (filter_map (slice_get xs) (filter has ns))
  all_of [] = tt
  all_of (n ∷ ns) = all_more n ns (all_of ns) (has n) refl

  pub all_kept : (size : ℕ) → All P (kept_items has size xs)
  all_kept size = All-from_recursion P (kept_items has size xs) (all_of (range_with_len 0 size))

-- live functions have code

coded : (m : DecodedModule) (d : DefValue (Option BodyValue)) → is_def_in_range m d ≡ true → is_code d ≡ true
coded m (imported k n) h = refl
coded m (local None) h = absurd cc
coded m (local (Some b)) h = refl

pub live_coded : (a : Module) (n : ℕ) (f : Item ℕ (Bor (List ℕ))) → is_item_in_range (decoded_module a) (Funcs, n) ≡ true → slice_get a.funcs.items n ≡ Some f → is_code (func_code f).def ≡ true
live_coded a n f h at = coded (decoded_module a) (func_code f).def (sym (ap (is_entry_in_range (decoded_module a)) (func_at a (Funcs, n) f refl at)) ∙ h)

-- items with their indices

pub enumerated : {A : Type 0} (k : ℕ) (xs : List A) (n : ℕ) → slice_get (enumerate_from k xs) n ≡ option_map (λ x. (k + n, x)) (slice_get xs n)
enumerated k [] n = refl
enumerated k (y ∷ ys) zero = let e : k ≡ k + 0 = omega arith in ap (λ (z : ℕ). Some (z, y)) e
enumerated k (y ∷ ys) (suc n) = let e : (k + 1) + n ≡ k + suc n = omega arith in enumerated (k + 1) ys n ∙ ap (λ (z : ℕ). option_map (λ x. (z, x)) (slice_get ys n)) e

pub enumerated_read : {A B : Type 0} (f : ℕ × A → B) (xs : List A) (n : ℕ) (x : A) → slice_get xs n ≡ Some x → slice_get (map f (enumerate_from 0 xs)) n ≡ Some (f (n, x))
enumerated_read f xs n x at =
    let e : 0 + n ≡ n = omega arith in
    slice_get-map f (enumerate_from 0 xs) n ∙ ap (option_map f) (enumerated 0 xs n ∙ (ap (option_map (λ x. (0 + n, x))) at ∙ ap (λ (z : ℕ). Some (z, x)) e))

pub enumerated_none : {A B : Type 0} (f : ℕ × A → B) (xs : List A) (n : ℕ) → slice_get xs n ≡ None → slice_get (map f (enumerate_from 0 xs)) n ≡ None
enumerated_none f xs n none = slice_get-map f (enumerate_from 0 xs) n ∙ ap (option_map f) (enumerated 0 xs n ∙ ap (option_map (λ x. (0 + n, x))) none)

pub enumerated_map : {A B : Type 0} (g : A → B) (k : ℕ) (xs : List A) → enumerate_from k (map g xs) ≡ map (λ x. (x.0, g x.1)) (enumerate_from k xs)
enumerated_map g k [] = refl
enumerated_map g k (x ∷ xs) = ap (λ ys. (k, g x) ∷ ys) (enumerated_map g (k + 1) xs)

pub map_twice : {A B C : Type 0} (f : A → B) (g : B → C) (xs : List A) → map g (map f xs) ≡ map (λ x. g (f x)) xs
map_twice f g [] = refl
map_twice f g (x ∷ xs) = ap (λ ys. g (f x) ∷ ys) (map_twice f g xs)

pub map_push : {A B : Type 0} (f : A → B) (xs : List A) (x : A) → map f (xs ++ x ∷ []) ≡ map f xs ++ f x ∷ []
map_push f [] x = refl
map_push f (y ∷ xs) x = ap (λ ys. f y ∷ ys) (map_push f xs x)
