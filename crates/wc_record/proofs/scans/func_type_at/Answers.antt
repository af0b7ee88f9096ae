use Rattle.std.proofs.Common.{◌∙◌, ap, sym, refl}
use Rattle.std.specs.Option.{option_map}
use Rattle.std.proofs.lemmas.Bool.{ltb-false}
use Rattle.std.proofs.lemmas.Option.{slice_get-map, slice_get_past, slice_get_read}
use Rattle.wc_read.specs.Types.{func_type_value}
use Rattle.wc_record.specs.Scans.{of_func}
use Rattle.wc_record.proofs.scans.func_type_at.Goals as goal

pub returns-in-Some : goal.returns-in-Some
returns-in-Some c =
    let at = slice_get_read _ _ _ _ refl c.in-Some.ensures.lookup.3.0 c.in-Some.ensures.lookup.1 in
    sym (ap (option_map of_func) (slice_get-map func_type_value c.args.types.now c.args.index ∙ ap (option_map func_type_value) at))

pub returns-in-None : goal.returns-in-None
returns-in-None c =
    let past = slice_get_past _ _ (ltb-false _ _ (sym c.in-None.ensures.lookup.0)) in
    sym (ap (option_map of_func) (slice_get-map func_type_value c.args.types.now c.args.index ∙ ap (option_map func_type_value) past))
