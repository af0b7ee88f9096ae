-- The first member that is there again, in lists and objects that are passed.
use Rattle.std.proofs.Common.{◌≡◌, ◌≢◌, ◌==◌, inl, inr, ℕ, suc, ◌+◌, Bool, true, false, not, ◌||◌, cond, List, [], ◌∷◌, ◌++◌, map, drop, Option, Some, None, refl, sym, ap, ◌∙◌, add-one}
use Rattle.std.specs.Option.{option_map}
use Rattle.std.specs.Borrow.{Bor}
use Rattle.std.specs.List.{list_any}
use Rattle.std.specs.Str.{bytes_eq}
use Rattle.std.proofs.lemmas.Bool.{cases_Bool, eqb-true}
use Rattle.std.proofs.lemmas.List.{map-append}
use Rattle.json.specs.Value.{value_view, items_view, members_view}
use Rattle.json.specs.declared.value.Value.{Value}
use Rattle.wc_json.specs.Paths.{index_step}
use Rattle.wc_json.specs.RepeatedMembers.{first_path, name_step, repeat_of, repeats, repeats_from, repeats_after, without_dot}

abbrev either : Option (List ℕ) → Option (List ℕ) → Option (List ℕ)
either None q = q
either (Some p) q = Some p

first_append : (a b : List (List ℕ)) → first_path (a ++ b) ≡ either (first_path a) (first_path b)
first_append [] b = refl
first_append (p ∷ a) b = refl

first_map : (f : List ℕ → List ℕ) (a : List (List ℕ)) → first_path (map f a) ≡ option_map f (first_path a)
first_map f [] = refl
first_map f (p ∷ a) = refl

-- under a step: nothing, or a path
under : (f : List ℕ → List ℕ) (a b : List (List ℕ)) → first_path (map f a ++ b) ≡ either (option_map f (first_path a)) (first_path b)
under f a b = first_append (map f a) b ∙ ap (λ o. either o (first_path b)) (first_map f a)

under_none : (f : List ℕ → List ℕ) (a b : List (List ℕ)) → None ≡ first_path a → first_path (map f a ++ b) ≡ first_path b
under_none f a b e = under f a b ∙ ap (λ o. either (option_map f o) (first_path b)) (sym e)

under_some : (f : List ℕ → List ℕ) (a b : List (List ℕ)) (p : List ℕ) → Some p ≡ first_path a → first_path (map f a ++ b) ≡ Some (f p)
under_some f a b p e = under f a b ∙ ap (λ o. either (option_map f o) (first_path b)) (sym e)

-- an item, which has no such member, or has one
module _ {A : Type 0} (xs : List (Value A)) (i : ℕ) (x : Value A) (here : drop i xs ≡ x ∷ drop (i + 1) xs) where
  pub item_none : None ≡ first_path (repeats (value_view x)) → first_path (repeats_from i (items_view (drop i xs))) ≡ first_path (repeats_from (i + 1) (items_view (drop (i + 1) xs)))
  item_none e =
      ap (λ ys. first_path (repeats_from i (items_view ys))) here
      ∙ under_none (λ path. index_step i ++ path) (repeats (value_view x)) (repeats_from (suc i) (items_view (drop (i + 1) xs))) e
      ∙ ap (λ k. first_path (repeats_from k (items_view (drop (i + 1) xs)))) (sym (add-one i))

  pub item_some : (p : List ℕ) → Some p ≡ first_path (repeats (value_view x)) → first_path (repeats_from i (items_view (drop i xs))) ≡ Some (index_step i ++ p)
  item_some p e =
      ap (λ ys. first_path (repeats_from i (items_view ys))) here
      ∙ under_some (λ path. index_step i ++ path) (repeats (value_view x)) (repeats_from (suc i) (items_view (drop (i + 1) xs))) p e

abbrev pub texts : List (Bor (List ℕ)) → List (List ℕ)
texts keys = map (λ (k : Bor (List ℕ)). k.now) keys

any_texts : (k : List ℕ) (keys : List (Bor (List ℕ))) → list_any (λ t. bytes_eq k t) (texts keys) ≡ list_any (λ y. bytes_eq k y.now) keys
any_texts k [] = refl
any_texts k (y ∷ keys) = ap (λ b. bytes_eq k y.now || b) (any_texts k keys)

fresh : (b : Bool) → true ≡ not b → b ≡ false
fresh true e = absurd (cc)
fresh false e = refl

again : (b : Bool) → false ≡ not b → b ≡ true
again true e = refl
again false e = absurd (cc)

-- a member, whose name comes again; or which is a first one, and whose value has no such member, or has one
module _ {A : Type 0} (ms : List (Bor (List ℕ) × Value A)) (i : ℕ) (m : Bor (List ℕ) × Value A) (seen : List (Bor (List ℕ)))
    (here : drop i ms ≡ m ∷ drop (i + 1) ms) where
  left : List (List ℕ)
  left = map (λ path. name_step m.0.now ++ path) (repeats (value_view m.1)) ++ repeats_after (texts seen ++ m.0.now ∷ []) (members_view (drop (i + 1) ms))

  there : first_path (repeats_after (texts seen) (members_view (drop i ms))) ≡ first_path (repeat_of (texts seen) m.0.now ++ left)
  unfolding left
  there = ap (λ ys. first_path (repeats_after (texts seen) (members_view ys))) here

  pub member_again : list_any (λ y. bytes_eq m.0.now y.now) seen ≡ true → first_path (repeats_after (texts seen) (members_view (drop i ms))) ≡ Some (name_step m.0.now)
  member_again old = there ∙ ap (λ b. first_path (cond b (name_step m.0.now ∷ []) [] ++ left)) (any_texts m.0.now seen ∙ old)

  first_one : list_any (λ y. bytes_eq m.0.now y.now) seen ≡ false → first_path (repeats_after (texts seen) (members_view (drop i ms))) ≡ first_path left
  first_one new = there ∙ ap (λ b. first_path (cond b (name_step m.0.now ∷ []) [] ++ left)) (any_texts m.0.now seen ∙ new)

  pub member_some : (p : List ℕ) → list_any (λ y. bytes_eq m.0.now y.now) seen ≡ false → Some p ≡ first_path (repeats (value_view m.1))
      → first_path (repeats_after (texts seen) (members_view (drop i ms))) ≡ Some (name_step m.0.now ++ p)
  unfolding left
  member_some p new e = first_one new ∙ under_some (λ path. name_step m.0.now ++ path) (repeats (value_view m.1)) _ p e

  pub member_none : (after : List (Bor (List ℕ))) → list_any (λ y. bytes_eq m.0.now y.now) seen ≡ false → None ≡ first_path (repeats (value_view m.1))
      → after ≡ cond (list_any (λ y. bytes_eq m.0.now y.now) seen) seen (seen ++ m.0 ∷ [])
      → first_path (repeats_after (texts seen) (members_view (drop i ms))) ≡ first_path (repeats_after (texts after) (members_view (drop (i + 1) ms)))
  unfolding left
  member_none after new e put =
      let grown : after ≡ seen ++ m.0 ∷ [] = put ∙ ap (λ b. cond b seen (seen ++ m.0 ∷ [])) new in
      first_one new
      ∙ under_none (λ path. name_step m.0.now ++ path) (repeats (value_view m.1)) _ e
      ∙ ap (λ ks. first_path (repeats_after ks (members_view (drop (i + 1) ms)))) (sym (ap texts grown ∙ map-append (λ (k : Bor (List ℕ)). k.now) seen (m.0 ∷ [])))

-- a name that was put into a set was there, or was not
pub was_there : (new : Bool) (seen : List (Bor (List ℕ))) (k : List ℕ) → new ≡ not (list_any (λ y. bytes_eq k y.now) seen) → new ≡ false → list_any (λ y. bytes_eq k y.now) seen ≡ true
was_there new seen k e f = again _ (sym f ∙ e)

pub was_new : (new : Bool) (seen : List (Bor (List ℕ))) (k : List ℕ) → new ≡ not (list_any (λ y. bytes_eq k y.now) seen) → new ≡ true → list_any (λ y. bytes_eq k y.now) seen ≡ false
was_new new seen k e t = fresh _ (sym t ∙ e)

-- a path that does not begin with a dot
pub no_dot : (path : List ℕ) → ((rest : List ℕ) → path ≢ 46 ∷ rest) → without_dot path ≡ path
no_dot [] none = refl
no_dot (c ∷ path) none = elim (cases_Bool (c == 46)) [
  | inl e ↦ absurd (none path (ap (λ x. x ∷ path) (eqb-true c 46 e)))
  | inr e ↦ ap (λ b. cond b path (c ∷ path)) e
]
