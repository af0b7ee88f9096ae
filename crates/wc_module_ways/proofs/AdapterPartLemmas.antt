-- What is known of adapters, one after another.
use Rattle.std.proofs.Common.{◌≡◌, ℕ, ◌+◌, ◌<◌, All, List, [], ◌∷◌, ◌++◌, length, map, take, get_or, Some, sym, ◌∙◌, ap, subst}
use Rattle.std.proofs.lemmas.Option.{get_or_from_slice_get, slice_get_within}
use Rattle.std.proofs.lemmas.List.Elements.{All-append, All-cons, All-contains, All-nil}
use Rattle.wc_import_paths.proofs.PickedLemmas.{taken_more}
use Rattle.wc_import_paths.proofs.ShownLemmas.{at_view}
use Rattle.wc_module_ways.specs.Adapters.{IsRead, adapter_view}
use Rattle.wc_module_ways.specs.declared.adapter.AdapterModule.{AdapterModule}
use Rattle.wc_module_ways.specs.Refusals.{HasNoCause}

-- what is known of each is known of the one at an index
pub read_at : (xs : List AdapterModule) → All IsRead (map adapter_view xs) → (k : ℕ) → k < length xs → (a : AdapterModule) → a ≡ get_or xs k a → IsRead (adapter_view a)
read_at xs h k lt a one =
    let at = at_view adapter_view xs k a lt ∙ ap (λ (z : AdapterModule). Some (adapter_view z)) (sym one) in
    let v = adapter_view a in
    All-contains IsRead (map adapter_view xs) v h (k, slice_get_within (map adapter_view xs) k v at, get_or_from_slice_get (map adapter_view xs) k v v at)

-- one adapter more that can be trimmed
pub checked_more : (xs : List AdapterModule) (k : ℕ) (a : AdapterModule) → k < length xs → a ≡ get_or xs k a → All HasNoCause (map adapter_view (take k xs))
    → HasNoCause (adapter_view a) → All HasNoCause (map adapter_view (take (k + 1) xs))
checked_more xs k a lt one h is =
    let before = map adapter_view (take k xs) in
    let more : map adapter_view (take (k + 1) xs) ≡ before ++ adapter_view a ∷ [] =
    taken_more adapter_view xs k a lt ∙ ap (λ (z : AdapterModule). before ++ adapter_view z ∷ []) (sym one) in
    subst (All HasNoCause) (sym more)
    (All-append HasNoCause before (adapter_view a ∷ []) h (All-cons HasNoCause (adapter_view a) [] is (All-nil HasNoCause)))
