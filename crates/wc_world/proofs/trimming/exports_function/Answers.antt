use Rattle.std.proofs.Common.{◌∙◌, ap, false}
use Rattle.std.specs.Option.{option_map, option_map_or}
use Rattle.wc_resolve.specs.Ranges.{IsItemIn}
use Rattle.wc_resolve.specs.Views.{ItemView, KeyView, item_view, world_entry}
use Rattle.wc_resolve.proofs.ViewedLemmas.{all_unviewed}
use Rattle.wc_names.proofs.KeyLemmas.{item_viewed}
use Rattle.wc_world.specs.Trimming.{has_function}
use Rattle.wc_world.proofs.FoundLemmas.{found_has}
use Rattle.wc_world.proofs.trimming.exports_function.Goals as goal

pub has_function-requires : goal.has_function-requires
has_function-requires c =
    found_has (λ i. IsItemIn c.args.resolve.now (item_view i)) _ c.in-Some.item.now c.args.exports.now.entries
    (all_unviewed world_entry (λ (x : KeyView × ItemView). IsItemIn c.args.resolve.now x.1) c.args.exports.now.entries c.requires) c.in-Some.ensures.value

pub returns-in-Some : goal.returns-in-Some
returns-in-Some c =
    c.has_function.ensures ∙ ap (λ o. option_map_or (has_function c.args.resolve.now) o false) (ap (option_map item_view) c.in-Some.ensures.value ∙ item_viewed c.args.key.now c.args.exports.now.entries)

pub returns-in-None : goal.returns-in-None
returns-in-None c = ap (λ o. option_map_or (has_function c.args.resolve.now) o false) (ap (option_map item_view) c.in-None.ensures.value ∙ item_viewed c.args.key.now c.args.exports.now.entries)
