-- Functions that can be lifted, and lists to which the functions of items are added.
use Rattle.std.proofs.Common.{◌≡◌, ℕ, List, [], ◌++◌, Some, All, sym, ap, append_assoc, append-nil, ◌∙◌}
use Rattle.std.specs.Prelude.{slice_get}
use Rattle.wc_resolve.specs.Kinds.{ResolveView}
use Rattle.wc_resolve.specs.Ranges.{IsItemIn}
use Rattle.wc_resolve.specs.Views.{ItemView, KeyView, WorldView, function_item, interface_item, type_item}
use Rattle.wc_resolve.specs.WellFormed.{IsWellFormed}
use Rattle.wc_resolve.proofs.WellFormedLemmas.{IsUsableItem, export_functions_usable, export_items_in}
use Rattle.wc_record.specs.Private.ExportOptions.{IsLiftable}

-- with what the items add that are left, the list has what it had and what all add
abbrev pub IsAdded : {A B : Type 0} → (List A → List B) → List A → List A → List B → List B → Type 0
IsAdded give all rest old list = list ++ give rest ≡ old ++ give all

-- the next item adds this
pub added_next : {A B : Type 0} (give : List A → List B) (all xs ys : List A) (out old list more : List B) → give xs ≡ out ++ give ys → more ≡ list ++ out
    → IsAdded give all xs old list → IsAdded give all ys old more
added_next give all xs ys out old list more h m p =
    ap (λ zs. zs ++ give ys) m ∙ (append_assoc list out (give ys) ∙ (ap (λ zs. list ++ zs) (sym h) ∙ p))

pub added_end : {A B : Type 0} (give : List A → List B) (all rest : List A) (old list : List B) → give rest ≡ [] → IsAdded give all rest old list
    → list ≡ old ++ give all
added_end give all rest old list none p = sym (append-nil list) ∙ (ap (λ zs. list ++ zs) (sym none) ∙ p)

-- the exports of a world can be lifted

liftable : (r : ResolveView) (item : ItemView) → IsItemIn r item → IsUsableItem r item → IsLiftable r item
liftable r (interface_item i external) there usable = there
liftable r (function_item f) there usable = usable
liftable r (type_item t) there usable = tt

pub all_liftable : (r : ResolveView) → IsWellFormed r → (i : ℕ) (w : WorldView) → slice_get r.worlds i ≡ Some w
    → All (λ (x : KeyView × ItemView). IsLiftable r x.1) w.exports
all_liftable r formed i w at = λ j d small. liftable r _ (export_items_in r formed i w at j d small) (export_functions_usable r formed i w at j d small)
