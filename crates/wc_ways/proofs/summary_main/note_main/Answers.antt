use Rattle.std.proofs.Common.{List, [], ℕ, subst}
use Rattle.std.proofs.lemmas.Result.{on_ok_weaker}
use Rattle.wc_import_paths.specs.MainModules.{IsMain, main_view}
use Rattle.wc_ways.proofs.summary_main.note_main.Goals as goal

pub returns-in-Ok : goal.returns-in-Ok
returns-in-Ok c =
    let main = main_view c.in-Ok.main in
    on_ok_weaker c.note_module.result
    (λ notes. record {
      module_view = main;
      is_module = subst (λ (b : List ℕ). IsMain b [] main) c.module.ensures c.in-Ok.ensures.main.is_main;
      notes = notes;
    })
    c.note_module.ensures
