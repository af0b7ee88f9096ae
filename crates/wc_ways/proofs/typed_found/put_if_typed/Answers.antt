use Rattle.std.proofs.Common.{◌∙◌, ◌++◌, ap, append-nil, map, option_map, sym}
use Rattle.std.proofs.lemmas.List.{map-append}
use Rattle.std.specs.Option.{option_to_list}
use Rattle.wc_import_paths.specs.MainModules.{main_view}
use Rattle.wc_world.specs.WorldViews.{world_view}
use Rattle.wc_ways.specs.Typed.{typed_of}
use Rattle.wc_ways.specs.Private.Modules.{codes_in}
use Rattle.wc_ways.specs.Private.Needs.{cite_view}
use Rattle.wc_ways.specs.Private.TypedFound.{end_view}
use Rattle.wc_ways.specs.Private.Wanted.{wanted_view}
use Rattle.wc_ways.proofs.ModuleLemmas.{all_placed}
use Rattle.wc_ways.proofs.TypedLemmas.{typed_put}
use Rattle.wc_ways.proofs.typed_found.put_if_typed.Goals as goal

pub target_of-target-requires : goal.target_of-target-requires
target_of-target-requires c = all_placed (world_view c.args.typing.world.now) c.args.typing.modules.now c.requires.modules

pub returns-in_default : goal.returns-in_default
returns-in_default c =
    let t = c.args.typing in
    let m = t.modules.now in
    let old = map wanted_view c.args.wanted.now.items in
    sym (append-nil old)
    ∙ ap (λ o. old ++ option_to_list (option_map (typed_of (world_view t.world.now) (main_view m.main) (codes_in m)) o))
    (sym (ap (option_map (λ x. (x.0.now, x.1.0))) c.in_default.is) ∙ c.typed_name.ensures)

pub returns : goal.returns
returns c =
    let t = c.args.typing in
    let m = t.modules.now in
    let old = c.args.wanted.now.items in
    typed_put (world_view t.world.now) (main_view m.main) (codes_in m) c.in-Some.interface.now c.in-Some.id.0 (cite_view c.cite_of-cite.result) c.cite_of-cite.ensures
    (end_view c.in_ok-end.end) c.in_ok-end.ensures c.target_of-target.result c.target_of-target.ensures _
    (sym (ap (option_map (λ x. (x.0.now, x.1.0))) c.in-Some.is) ∙ c.typed_name.ensures) (map wanted_view old) (map wanted_view c.push.new.self.items)
    (ap (map wanted_view) c.in_ok-push.ensures.items ∙ map-append wanted_view old _)
