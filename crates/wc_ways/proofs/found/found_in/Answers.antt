use Rattle.std.proofs.Common.{◌≡◌, ◌∙◌, ◌++◌, map, subst, sym}
use Rattle.wc_import_paths.specs.MainModules.{code_of, main_view}
use Rattle.wc_world.specs.WorldViews.{world_view}
use Rattle.wc_ways.specs.Found.{adapters_found, main_found, records_found}
use Rattle.wc_ways.specs.Private.Modules.{AreAdapterModules, code_in}
use Rattle.wc_ways.specs.Private.Wanted.{wanted_view}
use Rattle.wc_ways.proofs.found.found_in.Goals as goal

pub returns : goal.returns
returns c key asked =
    let w = world_view c.args.world.now in
    let m = c.args.modules.now in
    let imports = (code_of (main_view m.main)).imports in
    let same = c.deref.ensures.value in
    let main : map wanted_view c.put_records.new.wanted.items ≡ main_found w key (main_view m.main) =
    c.in_ok-put_records.ensures w key asked imports c.requires.places
    ∙ (λ t. map wanted_view (c.new-wanted.ensures.items t) ++ records_found w key 0 (c.main_rows.ensures.counted t) imports w.info.imports) in
    c.in_ok-put_adapters.ensures w key asked (subst (AreAdapterModules w w.adapters) (sym same) c.requires.adapters)
    ∙ (λ t. main t ++ adapters_found w key (map code_in (same t)))
