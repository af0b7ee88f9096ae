-- Look-ups by keys and names, and look-ups among the views of what is there.
use Rattle.std.proofs.Common.{◌≡◌, ◌↔◌, Bool, true, false, cond, List, [], ◌∷◌, map, Option, Some, None, is_some, Contains, refl, sym, ◌∙◌, subst, inl, inr}
use Rattle.std.specs.Borrow.{Bor}
use Rattle.std.specs.Map.{lookup}
use Rattle.std.specs.Option.{option_copied, option_map}
use Rattle.wc_maps.proofs.LookupLemmas.{lookup_viewed}
use Rattle.wc_resolve.specs.declared.worlds.WorldKey.{WorldKey}
use Rattle.wc_resolve.specs.declared.worlds.WorldItem.{WorldItem}
use Rattle.wc_resolve.specs.contracts.worlds.WorldKeyPartialEq.TheImpl.{eq-value as key_eq}
use Rattle.wc_resolve.specs.Views.{KeyView, ItemView, item_view, key_view, world_entry}
use Rattle.wc_resolve.proofs.KeyLemmas.{key_view_eq, keys_viewed}
use Rattle.wc_maps.proofs.ListLemmas.{contains_cons, contains_head, contains_none, contains_tail}

-- the keys of what a world imports or exports
abbrev pub view_keys : List (KeyView × ItemView) → List KeyView
view_keys entries = map (λ (x : KeyView × ItemView). x.0) entries

module _ (test : WorldKey → Bool) (k : KeyView) (law : (y : WorldKey) → (test y ≡ true) ↔ (k ≡ key_view y)) where
  first_contains : (b : Bool) (e : WorldKey × WorldItem) (es : List (WorldKey × WorldItem)) → test e.0 ≡ b
      → (is_some (lookup test es) ≡ true) ↔ Contains (view_keys (map world_entry es)) k
      → (is_some (cond b (Some e.1) (lookup test es)) ≡ true) ↔ Contains (key_view e.0 ∷ view_keys (map world_entry es)) k
  first_contains true e es is rest = (
    (λ t. subst (λ (z : KeyView). Contains (key_view e.0 ∷ view_keys (map world_entry es)) z) (sym ((law e.0).0 is)) (contains_head (view_keys (map world_entry es)) (key_view e.0))),
    (λ h. refl),
  )
  first_contains false e es is rest = (
    (λ t. contains_tail (key_view e.0) (view_keys (map world_entry es)) k (rest.0 t)),
    (λ h. elim (contains_cons (key_view e.0) (view_keys (map world_entry es)) k h) [
      | inl same ↦ absurd (let there : test e.0 ≡ true = (law e.0).1 (sym same) in let e : true ≡ false = sym there ∙ is in let bad : ⊥ = cc e in bad)
      | inr later ↦ rest.1 later
    ]),
  )

  -- a look-up finds an item where the key is there
  pub lookup_contains : (es : List (WorldKey × WorldItem)) → (is_some (lookup test es) ≡ true) ↔ Contains (view_keys (map world_entry es)) k
  lookup_contains [] = ((λ t. absurd (let bad : ⊥ = cc t in bad)), (λ h. absurd (contains_none k h)))
  lookup_contains (e ∷ es) = first_contains (test e.0) e es refl (lookup_contains es)

-- the item under a key
pub item_viewed : (key : WorldKey) (es : List (WorldKey × WorldItem)) → option_map item_view (lookup (key_eq.it key) es) ≡ lookup (key_view_eq (key_view key)) (map world_entry es)
item_viewed key es = lookup_viewed key_view item_view (key_eq.it key) (key_view_eq (key_view key)) (keys_viewed key) es

-- what a reference points to
pub copied_viewed : {X B : Type 0} (g : X → B) (r : Option (Bor X)) → option_map (λ (x : Bor X). g x.now) r ≡ option_map g (option_copied r)
copied_viewed g None = refl
copied_viewed g (Some x) = refl
