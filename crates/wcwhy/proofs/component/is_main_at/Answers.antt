use Rattle.std.proofs.Common.{◌≡◌, ◌∙◌, None, Some, ap, map, option_map, refl}
use Rattle.std.proofs.lemmas.Option.{slice_get-map}
use Rattle.std.specs.List.{slice_get}
use Rattle.wc_component_file.specs.Told.{role_view}
use Rattle.wcwhy.proofs.ComponentLemmas.{main_missing, main_tells}
use Rattle.wcwhy.proofs.GetLemmas.{none_at, some_at}
use Rattle.wcwhy.proofs.component.is_main_at.Goals as goal

pub returns-in-Some : goal.returns-in-Some
returns-in-Some c =
    let roles = c.args.roles.now in
    let there : slice_get roles c.args.index ≡ Some c.in-Some.role.now = some_at roles c.args.index c.get.result c.get.ensures.lookup.0 c.get.ensures.lookup.1 c.in-Some.role c.in-Some.is in
    main_tells (slice_get (map role_view roles) c.args.index) (role_view c.in-Some.role.now) c.is_main.result
    (slice_get-map role_view roles c.args.index ∙ ap (option_map role_view) there) c.is_main.ensures

pub returns-in-None : goal.returns-in-None
returns-in-None c =
    let roles = c.args.roles.now in
    let none : slice_get roles c.args.index ≡ None = none_at roles c.args.index c.get.result c.get.ensures.lookup.0 c.in-None.is in
    main_missing (slice_get (map role_view roles) c.args.index) _ (slice_get-map role_view roles c.args.index ∙ ap (option_map role_view) none) refl
