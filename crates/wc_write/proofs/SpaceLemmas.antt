-- Index spaces are those of the imports, and of the defined items.
use Rattle.std.proofs.Common.{◌≡◌, ℕ, List, [], ◌∷◌, ◌++◌, map, Option, Some, None, refl, ◌∙◌, ap}
use Rattle.std.specs.Prelude.{⊤}
use Rattle.std.specs.List.{filter}
use Rattle.std.proofs.lemmas.List.{map-append}
use Rattle.std.proofs.lemmas.List.Elements.{filter_map-append}
use Rattle.wc_read.specs.Imports.{ImportValue}
use Rattle.wc_read.specs.Items.{DefValue, imported, local, ItemValue}
use Rattle.wc_read.specs.Operators.{InstrValue}
use Rattle.wc_read.specs.Spaces.{imported_item, imported_items, local_funcs}
use Rattle.wc_read.specs.declared.types.GlobalType.{GlobalType}
use Rattle.wc_read.specs.declared.types.ImportType.{ImportType}
use Rattle.wc_write.specs.Spaces.{imports_of, DefinedValue, defined}
use Rattle.wc_read.specs.Items.{item_seen}
use Rattle.wc_write.specs.BuiltValues.{is_imported, is_defined, HasImportsFirst}

-- the items of a kind by imports of that kind

module _ {T C D : Type 0} (of : ImportType → Option T) (kind : T → ImportType) (is : (t : T) → of (kind t) ≡ Some t) (view : C → D) where
  front_more : (i : ItemValue T C) (items : List (ItemValue T C)) → imported_items of (imports_of kind items) ≡ map (item_seen view) (filter is_imported items) → (d : DefValue C) → i.def ≡ d → imported_items of (imports_of kind (i ∷ items)) ≡ map (item_seen view) (filter is_imported (i ∷ items))
  front_more i items h (imported m n) e = rw (e, is i.ty) (ap (λ (r : List (ItemValue T D)). record { ty = i.ty; def = imported m n } ∷ r) h)
  front_more i items h (local x) e = rw e h

  pub imported_front : (items : List (ItemValue T C)) → imported_items of (imports_of kind items) ≡ map (item_seen view) (filter is_imported items)
  imported_front [] = refl
  imported_front (i ∷ items) = front_more i items (imported_front items) i.def refl

-- the items of a kind by imports of another kind

module _ {T U C D : Type 0} (of : ImportType → Option T) (kind : U → ImportType) (none : (u : U) → of (kind u) ≡ None) where
  none_more : (i : ItemValue U C) (items : List (ItemValue U C)) → imported_items {T = T} {C = D} of (imports_of kind items) ≡ [] → (d : DefValue C) → i.def ≡ d → imported_items {T = T} {C = D} of (imports_of kind (i ∷ items)) ≡ []
  none_more i items h (imported m n) e = rw (e, none i.ty) h
  none_more i items h (local x) e = rw e h

  pub imported_none : (items : List (ItemValue U C)) → imported_items {T = T} {C = D} of (imports_of kind items) ≡ []
  imported_none [] = refl
  imported_none (i ∷ items) = none_more i items (imported_none items) i.def refl

-- the defined items

module _ {T C D : Type 0} (view : C → D) (made : DefinedValue T C → ItemValue T D) (is : (t : T) (x : C) → made (record { ty = t; content = x }) ≡ record { ty = t; def = local (view x) }) where
  back_more : (i : ItemValue T C) (items : List (ItemValue T C)) → map made (defined items) ≡ map (item_seen view) (filter is_defined items) → (d : DefValue C) → i.def ≡ d → map made (defined (i ∷ items)) ≡ map (item_seen view) (filter is_defined (i ∷ items))
  back_more i items h (imported m n) e = rw e h
  back_more i items h (local x) e = rw (e, is i.ty x) (ap (λ (r : List (ItemValue T D)). record { ty = i.ty; def = local (view x) } ∷ r) h)

  pub defined_back : (items : List (ItemValue T C)) → map made (defined items) ≡ map (item_seen view) (filter is_defined items)
  defined_back [] = refl
  defined_back (i ∷ items) = back_more i items (defined_back items) i.def refl

-- an index space is its imported items, and its defined ones
pub space_is : {T C D : Type 0} (view : C → D) (items : List (ItemValue T C)) (front back : List (ItemValue T D)) → HasImportsFirst items → front ≡ map (item_seen view) (filter is_imported items) → back ≡ map (item_seen view) (filter is_defined items) → map (item_seen view) items ≡ front ++ back
space_is view items front back first f b =
    ap (map (item_seen view)) first ∙ map-append (item_seen view) (filter is_imported items) (filter is_defined items) ∙ rw (f, b) refl

-- items without content stay the same

item_same : {T : Type 0} (i : ItemValue T ⊤) (d : DefValue ⊤) → i.def ≡ d → item_seen (λ (x : ⊤). x) i ≡ i
item_same {T} i (imported m n) e = rw e refl
item_same {T} i (local x) e = rw e refl

pub items_same : {T : Type 0} (items : List (ItemValue T ⊤)) → map (item_seen (λ (x : ⊤). x)) items ≡ items
items_same [] = refl
items_same (i ∷ items) = rw (item_same i i.def refl, items_same items) refl

-- functions, of their types and bodies
pub funcs_zipped : {C : Type 0} (view : C → List ℕ) (os : List (DefinedValue ℕ C)) → local_funcs (map (λ o. o.ty) os) (map view (map (λ o. o.content) os)) ≡ map (λ o. record { ty = o.ty; def = local (view o.content) }) os
funcs_zipped view [] = refl
funcs_zipped view (o ∷ os) = ap (λ (r : List (ItemValue ℕ (List ℕ))). record { ty = o.ty; def = local (view o.content) } ∷ r) (funcs_zipped view os)

-- what a global is defined by
abbrev pub content_of_global : DefinedValue GlobalType (List InstrValue) → List InstrValue
content_of_global g = g.content

abbrev pub type_of_global : DefinedValue GlobalType (List InstrValue) → GlobalType
type_of_global g = g.ty

-- a map of a map
pub map_again : {A B E : Type 0} (f : B → E) (g : A → B) (xs : List A) → map f (map g xs) ≡ map (λ x. f (g x)) xs
map_again f g [] = refl
map_again {A} {B} {E} f g (x ∷ xs) = ap (λ (r : List E). f (g x) ∷ r) (map_again f g xs)

-- the items of a kind by four groups of imports, of which one is of that kind

module _ {T D : Type 0} (of : ImportType → Option T) where
  pub of_groups : (one two three four : List ImportValue) → imported_items {T = T} {C = D} of (one ++ (two ++ (three ++ four))) ≡ imported_items of one ++ (imported_items of two ++ (imported_items of three ++ imported_items of four))
  of_groups one two three four =
      filter_map-append (imported_item of) one (two ++ (three ++ four))
      ∙ ap (λ (r : List (ItemValue T D)). imported_items of one ++ r) (filter_map-append (imported_item of) two (three ++ four) ∙ ap (λ (r : List (ItemValue T D)). imported_items of two ++ r) (filter_map-append (imported_item of) three four))
