-- The indices that the type at an index refers to, read off the list of types.
use Rattle.std.proofs.Common.{◌≡◌, ◌<◌, ℕ, List, [], map, length, get_or, Some, sym, ap, ◌∙◌}
use Rattle.std.specs.Prelude.{slice_get}
use Rattle.std.specs.Option.{option_map, option_map_or}
use Rattle.std.proofs.lemmas.List.{get_or_default}
use Rattle.std.proofs.lemmas.Option.{slice_get-map, slice_get-get_or}
use Rattle.wc_resolve.specs.declared.types.TypeDef.{TypeDef}
use Rattle.wc_resolve.specs.Views.{TypeView, kind_view, type_view}
use Rattle.wc_resolve.specs.Kinds.{children, kind_at, referenced_indices}

pub kind_found : (types : List TypeDef) (x : ℕ) (t : TypeDef) → x < length types → t ≡ get_or types x t → kind_at (map type_view types) x ≡ Some (kind_view t.kind)
kind_found types x t h read =
    let found : slice_get types x ≡ Some t = slice_get-get_or types x t h ∙ ap (λ z. Some z) (sym read) in
    let viewed : slice_get (map type_view types) x ≡ Some (type_view t) = slice_get-map type_view types x ∙ ap (λ o. option_map type_view o) found in
    ap (λ o. option_map (λ (v : TypeView). v.kind) o) viewed

pub children_found : (types : List TypeDef) (x : ℕ) (t : TypeDef) → x < length types → t ≡ get_or types x t → children (map type_view types) x ≡ referenced_indices (kind_view t.kind)
children_found types x t h read = ap (λ o. option_map_or referenced_indices o []) (kind_found types x t h read)

pub children_at : (types : List TypeDef) (x : ℕ) (d : TypeDef) → x < length types → children (map type_view types) x ≡ referenced_indices (kind_view (get_or types x d).kind)
children_at types x d h = children_found types x (get_or types x d) h (get_or_default types x d (get_or types x d) h)
