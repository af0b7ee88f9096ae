-- The tokens of the steps of a path.
use Rattle.std.proofs.Common.{◌≡◌, ℕ, ◌+◌, ◌<◌, List, [], ◌∷◌, ◌++◌, length, take, get_or, map, codes, Option, Some, None, Result, Ok, Err, OnOk, refl, sym, ◌∙◌, ap, subst, append-nil, arith}
use Rattle.std.proofs.lemmas.List.{take_all, take_more}
use Rattle.std.proofs.lemmas.List.Concat.{flat_map-append}
use Rattle.std.proofs.lemmas.Option.{slice_get-map}
use Rattle.std.specs.List.{flat_map, slice_get}
use Rattle.std.specs.Option.{option_map, option_map_or}
use Rattle.json.specs.Json.{Json}
use Rattle.json.specs.Token.{Token, begin_array, end_array, key}
use Rattle.json.specs.Tree.{json_tokens}
use Rattle.json.specs.Written.{Written}
use Rattle.wc_texts.specs.Shapes.{array_of}
use Rattle.wc_why.specs.Tree.{TreeItemView, TreeModuleView, tree_item_view, tree_module_view}
use Rattle.wc_why.specs.declared.tree.TreeModule.{TreeModule}
use Rattle.wc_why_text.specs.PathsJson.{item_steps, steps_at, steps_of}
use Rattle.wc_why_text.specs.Private.Tokens.{Puts}
use Rattle.wc_why_text.specs.Runs.{Place}
use Rattle.wc_why_text.specs.TreeLines.{new_items}
use Rattle.wc_why_text.proofs.TokenLemmas.{array_are, both}

-- nothing is written; one value; and one after others

pub none_put : (a : Written) → Puts a a []
none_put a = record { before = refl; tokens = sym (append-nil a.tokens) }

pub one_put : {E : Type 0} (a b : Written) (r : Result (Unit {0}) E) (x : Json) → OnOk r (Puts a b (json_tokens x))
    → OnOk r (Puts a b (flat_map json_tokens (x ∷ [])))
one_put a b (Ok u) x p = subst (Puts a b) (sym (append-nil (json_tokens x))) p
one_put a b (Err e) x p = tt

pub put_after : {E : Type 0} {a b : Written} (c : Written) (r : Result (Unit {0}) E) (xs : List Json) (y : Json) → Puts a b (flat_map json_tokens xs)
    → OnOk r (Puts b c (json_tokens y)) → OnOk r (Puts a c (flat_map json_tokens (xs ++ y ∷ [])))
put_after {E} {a} c (Ok u) xs y p q =
    subst (Puts a c) (sym (flat_map-append json_tokens xs (y ∷ []) ∙ ap (λ z. flat_map json_tokens xs ++ z) (append-nil (json_tokens y)))) (both p q)
put_after c (Err e) xs y p q = tt

-- the values of a list that is the same
pub array_as : {a b : Written} (name : List ℕ) (xs ys : List Json) → xs ≡ ys → Puts a b (key name ∷ json_tokens (array_of xs))
    → Puts a b (key name ∷ json_tokens (array_of ys))
array_as {a} {b} name xs ys e p = subst (λ z. Puts a b (key name ∷ json_tokens (array_of z))) e p

-- the steps of so many items
module _ (modules : List TreeModuleView) (items : List Place) where
  abbrev pub steps_so_far : ℕ → List Token
  steps_so_far n = key (codes "steps") ∷ begin_array ∷ flat_map json_tokens (steps_of modules (take n items))

  next : (n : ℕ) (d : Place) → n < length items → steps_so_far n ++ flat_map json_tokens (steps_at modules (get_or items n d)) ≡ steps_so_far (n + 1)
  next n d within =
      let x = get_or items n d in
      let more : steps_of modules (take (n + 1) items) ≡ steps_of modules (take n items) ++ steps_at modules x =
      ap (steps_of modules) (take_more items n d within) ∙ flat_map-append (steps_at modules) (take n items) (x ∷ [])
      ∙ ap (λ z. steps_of modules (take n items) ++ z) (append-nil (steps_at modules x)) in
      sym (ap (λ z. key (codes "steps") ∷ begin_array ∷ z) (ap (flat_map json_tokens) more ∙ flat_map-append json_tokens (steps_of modules (take n items)) (steps_at modules x)))

  pub steps_more : {a b c : Written} (n : ℕ) (d : Place) → n < length items → Puts a b (steps_so_far n)
      → Puts b c (flat_map json_tokens (steps_at modules (get_or items n d))) → Puts a c (steps_so_far (n + 1))
  steps_more {a} {b} {c} n d within p q = subst (Puts a c) (next n d within) (both p q)

  pub steps_done : {E : Type 0} {a b : Written} (c : Written) (n : ℕ) (r : Result (Unit {0}) E) → n ≡ length items → Puts a b (steps_so_far n)
      → OnOk r (Puts b c (end_array ∷ [])) → OnOk r (Puts a c (key (codes "steps") ∷ json_tokens (array_of (steps_of modules items))))
  steps_done {E} {a} {b} c n (Ok u) end p q =
      let all : take n items ≡ items = take_all n items (omega (arith, end)) in
      subst (Puts a c) (ap (λ z. key (codes "steps") ∷ z) (sym (array_are (steps_of modules items))))
      (both (subst (λ z. Puts a b (key (codes "steps") ∷ begin_array ∷ flat_map json_tokens (steps_of modules z))) all p) q)
  steps_done c n (Err e) end p q = tt

-- what isn't there has no steps

pub none_as : (a : Written) (tokens : List Token) → tokens ≡ [] → Puts a a tokens
none_as a tokens none = subst (Puts a a) (sym none) (none_put a)

pub no_module_there : (modules : List TreeModule) (p : Place) → None ≡ slice_get modules p.0 → flat_map json_tokens (steps_at (map tree_module_view modules) p) ≡ []
no_module_there modules p none =
    ap (λ (o : Option TreeModuleView). flat_map json_tokens (option_map_or (λ (m : TreeModuleView). option_map_or (item_steps m) (slice_get m.items p.1) []) o []))
    (slice_get-map tree_module_view modules p.0 ∙ ap (option_map tree_module_view) (sym none))

pub no_item_there : (modules : List TreeModule) (p : Place) (m : TreeModule) → Some m ≡ slice_get modules p.0 → None ≡ slice_get m.items.items p.1
    → flat_map json_tokens (steps_at (map tree_module_view modules) p) ≡ []
no_item_there modules p m there none =
    ap (λ (o : Option TreeModuleView). flat_map json_tokens (option_map_or (λ (v : TreeModuleView). option_map_or (item_steps v) (slice_get v.items p.1) []) o []))
    (slice_get-map tree_module_view modules p.0 ∙ ap (option_map tree_module_view) (sym there))
    ∙ ap (λ (o : Option TreeItemView). flat_map json_tokens (option_map_or (item_steps (tree_module_view m)) o []))
    (slice_get-map tree_item_view m.items.items p.1 ∙ ap (option_map tree_item_view) (sym none))

-- where no item has a line above, all of a path are new
pub new_none : (path : List Place) → new_items [] path ≡ path
new_none [] = refl
new_none (p ∷ path) = ap (λ l. p ∷ l) (new_none path)
