use Rattle.std.proofs.Common.{◌∙◌, Some, ap, option_map, sym}
use Rattle.wc_import_paths.specs.MainModules.{code_of, main_view}
use Rattle.wc_ways.specs.Found.{number_named}
use Rattle.wc_ways.specs.Typed.{type_target}
use Rattle.wc_ways.proofs.typed_found.main_target.Goals as goal

pub returns-in-Some : goal.returns-in-Some
returns-in-Some c =
    let i = c.args.import in
    let imports = (code_of (main_view c.args.modules.now.main)).imports in
    ap Some c.type_target.ensures
    ∙ ap (option_map (type_target 0)) (sym c.in-Some.is ∙ c.number_named.ensures imports c.requires.main
    ∙ ap (λ n. number_named n imports i.«module».now i.name.now) c.main_rows.ensures.counted)

pub returns-in-None : goal.returns-in-None
returns-in-None c =
    let i = c.args.import in
    let imports = (code_of (main_view c.args.modules.now.main)).imports in
    ap (option_map (type_target 0)) (sym c.in-None.is ∙ c.number_named.ensures imports c.requires.main
    ∙ ap (λ n. number_named n imports i.«module».now i.name.now) c.main_rows.ensures.counted)
