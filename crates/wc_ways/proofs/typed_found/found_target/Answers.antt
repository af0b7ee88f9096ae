use Rattle.std.proofs.Common.{◌∙◌, ap, sym}
use Rattle.wc_import_paths.specs.MainModules.{main_view}
use Rattle.wc_ways.specs.Typed.{target_by}
use Rattle.wc_ways.specs.Private.Modules.{codes_in}
use Rattle.wc_ways.specs.Private.TypedFound.{end_view}
use Rattle.wc_ways.specs.declared.typed_found.FoundEnd.{FoundEnd}
use Rattle.wc_ways.proofs.typed_found.found_target.Goals as goal

pub returns-in-Main : goal.returns-in-Main
returns-in-Main c =
    let m = c.args.modules.now in
    c.main_target.ensures ∙ ap (λ (e : FoundEnd). target_by (main_view m.main) (codes_in m) (end_view e)) (sym c.in-Main.is)

pub returns-in-Adapter : goal.returns-in-Adapter
returns-in-Adapter c =
    let m = c.args.modules.now in
    c.adapter_target.ensures ∙ ap (λ (e : FoundEnd). target_by (main_view m.main) (codes_in m) (end_view e)) (sym c.in-Adapter.is)
