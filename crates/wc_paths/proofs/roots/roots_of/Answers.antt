use Rattle.std.proofs.Common.{◌++◌, ◌∙◌, ap, sym}
use Rattle.std.specs.Option.{option_map, option_to_list}
use Rattle.std.proofs.lemmas.Simd.{map-map}
use Rattle.wc_read.specs.Exports.{export_value}
use Rattle.wc_read.specs.declared.operators.Space.TheVariants.{Funcs}
use Rattle.wc_paths.specs.Roots.{export_item}
use Rattle.wc_paths.specs.declared.items.PathItem.TheVariants.{Item}
use Rattle.wc_paths.proofs.roots.roots_of.Goals as goal

pub returns : goal.returns
returns c =
    c.in_ok-put_start.ensures
    ∙ ap (λ z. z ++ option_to_list (option_map (λ n. Item Funcs n) c.args.start)) (c.in_ok-roots.ensures ∙ sym (map-map export_item export_value c.args.exports.now))
