use Rattle.std.proofs.Common.{◌∙◌, ap, sym, ◌++◌, ◌∷◌, [], map, refl, append-nil}
use Rattle.std.specs.List.{cons_option}
use Rattle.std.specs.Option.{option_map}
use Rattle.std.proofs.lemmas.Option.{slice_get-map, slice_get_read}
use Rattle.wc_read.specs.Renumbering.{renumber_func_type}
use Rattle.wc_read.specs.Types.{func_type_value}
use Rattle.wc_gc.specs.NewIndices.{new_of}
use Rattle.wc_gc.proofs.ImageLemmas.{map_push}
use Rattle.wc_graph.proofs.ListLemmas.{no_item}
use Rattle.wc_gc.proofs.assemble.append_type_at.Goals as goal

pub returns-in_ok-push-in-Some : goal.returns-in_ok-push-in-Some
returns-in_ok-push-in-Some c =
    let at = slice_get_read _ _ _ _ refl c.in-Some.ensures.lookup.3.0 c.in-Some.ensures.lookup.1 in
    let seen = slice_get-map func_type_value c.args.types.now c.args.index ∙ ap (option_map func_type_value) at in
    let under = renumber_func_type (new_of c.args.new.now) in
    ap (map func_type_value) c.in_ok-push-in-Some.ensures.items
    ∙ (map_push func_type_value c.args.kept.now.items _
    ∙ (ap (λ z. map func_type_value c.args.kept.now.items ++ z ∷ []) c.in_ok-ty-in-Some.ensures
    ∙ ap (λ z. map func_type_value c.args.kept.now.items ++ map under (cons_option z [])) (sym seen)))

pub returns-in-None : goal.returns-in-None
returns-in-None c =
    let none = slice_get-map func_type_value c.args.types.now c.args.index ∙ ap (option_map func_type_value) (no_item _ _ c.in-None.ensures.lookup.0) in
    let under = renumber_func_type (new_of c.args.new.now) in
    sym (ap (λ z. map func_type_value c.args.kept.now.items ++ map under (cons_option z [])) none ∙ append-nil (map func_type_value c.args.kept.now.items))
