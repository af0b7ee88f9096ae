use Rattle.std.proofs.Common.{◌≡◌, ◌<◌, ◌∙◌, Some, ap, arith, length, map, option_map, refl, rules, subst, sym}
use Rattle.std.proofs.lemmas.List.{length-map}
use Rattle.std.proofs.lemmas.Option.{slice_get-get_or, slice_get-map, slice_get_read}
use Rattle.std.specs.List.{slice_get}
use Rattle.wc_component_file.specs.Files.{core_module_view, file_view}
use Rattle.wc_component_file.specs.Told.{role_view}
use Rattle.wc_import_paths.specs.Joined.{AreJoined}
use Rattle.wcwhy.specs.Component.{ArePartsAt}
use Rattle.wcwhy.specs.Private.Component.{part_view}
use Rattle.wcwhy.proofs.ComponentLemmas.{part_more}
use Rattle.wcwhy.proofs.component.core_parts.Goals as goal

pub loop-index-preserved : goal.loop-index-preserved
loop-index-preserved c =
    let file = c.args.file.now in
    let items = file.modules.items in
    let roles = c.args.roles.now in
    let k = c.loop-index.index in
    let within : k < length roles = omega arith in
    let inside : k < length items = omega (arith, c.requires) in
    let there : slice_get items k ≡ Some c.index.result.now = slice_get_read items (length items) k c.index.result.now refl inside (search rules) in
    part_more (file_view file) (map role_view roles) k (core_module_view c.index.result.now) _ (map part_view c.loop-index.parts.items)
    (map part_view c.push_part.new.parts.items) c.loop-index.invariant c.in_ok-push_part.ensures
    (slice_get-map core_module_view items k ∙ ap (option_map core_module_view) there)
    (slice_get-map role_view roles k ∙ ap (option_map role_view) (slice_get-get_or roles k _ within))

pub returns : goal.returns
returns c =
    let roles = c.args.roles.now in
    let all : c.loop-index.index ≡ length roles = search rules in
    subst (λ n. AreJoined n (ArePartsAt (file_view c.args.file.now) (map role_view roles)) (map part_view c.loop-index.parts.items))
    (all ∙ sym (length-map roles role_view)) c.loop-index.invariant
