-- The tokens of an item of the tree.
use Rattle.std.proofs.Common.{◌≡◌, ℕ, zero, suc, Bool, List, ◌++◌, ◌∷◌, [], Option, Some, None, Result, OnOk, ap, codes, drop, map, subst, sym, ◌∙◌, refl, take}
use Rattle.std.proofs.lemmas.List.{take-map}
use Rattle.json.specs.Json.{Json}
use Rattle.json.specs.Token.{Token}
use Rattle.json.specs.Tree.{members_tokens}
use Rattle.json.specs.Written.{Written}
use Rattle.wc_texts.specs.Shapes.{members_of, array_of}
use Rattle.wc_why_text.specs.Private.Tokens.{Puts}
use Rattle.wc_why_text.proofs.TokenLemmas.{then}
use Rattle.json.specs.Token.{key}
use Rattle.json.specs.Tree.{json_tokens}
use Rattle.wc_why.specs.Tree.{tree_caller_view, tree_item_view}
use Rattle.wc_why_text.specs.TreeJson.{item_json, only_members, only_tokens, shown_callers}
use Rattle.wc_why.specs.declared.tree.Callers.{Callers}
use Rattle.wc_why.specs.declared.tree.TreeCaller.{TreeCaller}
use Rattle.wc_why.specs.declared.tree.TreeItem.{TreeItem}

-- an item's last member, if it has one, and its end
pub ended : {E : Type 0} {a b : Written} {xs : List Token} (c : Written) (r : Result (Unit {0}) E) (only : Option Bool) → Puts a b xs
    → OnOk r (Puts b c (only_tokens only)) → OnOk r (Puts a c (xs ++ members_tokens (members_of (only_members only))))
ended c r None p q = then _ c r p q
ended c r (Some mark) p q = then _ c r p q

-- a list that is the same
pub list_as : {X V : Type 0} {a b : Written} (name : List ℕ) (json : V → Json) (view : X → V) (xs ys : List X) → xs ≡ ys
    → Puts a b (key name ∷ json_tokens (array_of (map json (map view xs)))) → Puts a b (key name ∷ json_tokens (array_of (map json (map view ys))))
list_as {X} {V} {a} {b} name json view xs ys e p = subst (λ z. Puts a b (key name ∷ json_tokens (array_of (map json (map view z))))) e p

pub views_as : {V : Type 0} {a b : Written} (name : List ℕ) (json : V → Json) (us vs : List V) → us ≡ vs
    → Puts a b (key name ∷ json_tokens (array_of (map json us))) → Puts a b (key name ∷ json_tokens (array_of (map json vs)))
views_as {V} {a} {b} name json us vs e p = subst (λ z. Puts a b (key name ∷ json_tokens (array_of (map json z)))) e p

-- items, and the callers that they name, which are the same
pub items_as : {a b : Written} (xs ys : List TreeItem) (cs ds : List TreeCaller) → xs ≡ ys → cs ≡ ds
    → Puts a b (key (codes "items") ∷ json_tokens (array_of (map (item_json (map tree_caller_view cs)) (map tree_item_view xs))))
    → Puts a b (key (codes "items") ∷ json_tokens (array_of (map (item_json (map tree_caller_view ds)) (map tree_item_view ys))))
items_as {a} {b} xs ys cs ds e f p =
    subst (λ z. Puts a b (key (codes "items") ∷ json_tokens (array_of (map (item_json (map tree_caller_view z)) (map tree_item_view ys))))) f
    (subst (λ z. Puts a b (key (codes "items") ∷ json_tokens (array_of (map (item_json (map tree_caller_view cs)) (map tree_item_view z))))) e p)

drop_map : {X Y : Type 0} (f : X → Y) (n : ℕ) (xs : List X) → drop n (map f xs) ≡ map f (drop n xs)
drop_map f zero xs = refl
drop_map f (suc n) [] = refl
drop_map f (suc n) (x ∷ xs) = drop_map f n xs

-- the callers that are shown, seen as values
pub shown_view : {X Y : Type 0} (c : Callers) (f : X → Y) (xs : List X) → map f (shown_callers c xs) ≡ shown_callers c (map f xs)
shown_view c f xs = sym (take-map f c.shown (drop c.start xs)) ∙ ap (take c.shown) (sym (drop_map f c.start xs))
