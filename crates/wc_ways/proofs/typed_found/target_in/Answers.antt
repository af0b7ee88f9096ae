use Rattle.std.proofs.Common.{◌∙◌, Some, ap, option_map, sym}
use Rattle.wc_read.specs.Modules.{module_value}
use Rattle.wc_ways.specs.Found.{number_named}
use Rattle.wc_ways.specs.Typed.{type_target}
use Rattle.wc_ways.proofs.typed_found.target_in.Goals as goal

pub returns-in-Some : goal.returns-in-Some
returns-in-Some c =
    let i = c.args.import in
    let imports = (module_value c.args.adapter.now.code).imports in
    ap Some c.type_target.ensures
    ∙ ap (option_map (type_target c.args.part)) (sym c.in-Some.is ∙ c.number_named.ensures imports c.requires.places
    ∙ ap (λ n. number_named n imports i.«module».now i.name.now) c.requires.rows.counted)

pub returns-in-None : goal.returns-in-None
returns-in-None c =
    let i = c.args.import in
    let imports = (module_value c.args.adapter.now.code).imports in
    ap (option_map (type_target c.args.part)) (sym c.in-None.is ∙ c.number_named.ensures imports c.requires.places
    ∙ ap (λ n. number_named n imports i.«module».now i.name.now) c.requires.rows.counted)
