use Rattle.std.proofs.Common.{◌≡◌, ◌<◌, length, map, Some, refl, ap, ◌∙◌, rules}
use Rattle.std.specs.List.{slice_get}
use Rattle.std.specs.Option.{option_map}
use Rattle.std.proofs.lemmas.Option.{slice_get-map, slice_get_read}
use Rattle.wc_read.specs.Types.{func_type_value}
use Rattle.wc_paths.proofs.EqualTypeLemmas.{firsts_more}
use Rattle.wc_paths.proofs.equal_types.first_equal.Goals as goal

pub loop-index-preserved : goal.loop-index-preserved
loop-index-preserved c =
    let ts = c.args.types.now in
    let types = map func_type_value ts in
    let index = c.loop-index.index in
    let t = c.index-types-index.result in
    let lt : index < length ts = search rules in
    let at : slice_get types index ≡ Some (func_type_value t) =
    slice_get-map func_type_value ts index ∙ ap (option_map func_type_value) (slice_get_read ts (length ts) index t refl lt c.index-types-index.is) in
    let noted = c.in_ok-first.ensures types at c.loop-index.invariant.0 in (
      noted.0,
      firsts_more types index (func_type_value t) c.loop-index.firsts.items c.push.new.self.items c.in_ok-first.first at c.loop-index.invariant.1 noted.1
          c.in_ok-push.ensures.items,
    )
