use Rattle.std.proofs.Common.{get_or, map}
use Rattle.wc_paths.specs.Counts.{counts_value}
use Rattle.wc_why.specs.Tree.{tree_caller_view}
use Rattle.wc_import_paths.specs.MainModules.{bytes_in, main_view, reached_in}
use Rattle.wc_import_paths.specs.Shown.{end_view}
use Rattle.wc_module_ways.specs.Adapters.{adapter_view}
use Rattle.wc_module_ways.specs.CoreModules.{core_view}
use Rattle.wc_module_ways.proofs.EndLemmas.{first_counted, first_fits, first_there}
use Rattle.wc_module_ways.proofs.TreeLemmas.{all_shown}
use Rattle.wc_module_ways.proofs.tree.shown_in.Goals as goal

pub bounds-parts-0 : goal.bounds-parts-0
bounds-parts-0 c =
    let m = c.args.modules.now in
    first_there (main_view m.main) (bytes_in m.main) (map adapter_view m.adapters.items) (map core_view m.core.items) c.args.parts.now c.requires

pub push_functions-requires : goal.push_functions-requires
push_functions-requires c =
    let m = c.args.modules.now in
    first_fits (main_view m.main) (bytes_in m.main) (map adapter_view m.adapters.items) (map core_view m.core.items) c.args.parts.now c.requires c.index-parts-0.result

pub returns : goal.returns
returns c w v =
    let m = c.args.modules.now in
    let counted = first_counted (main_view m.main) (bytes_in m.main) (map adapter_view m.adapters.items) (map core_view m.core.items) c.args.parts.now c.requires c.index-parts-0.result in
    all_shown m w v c.args.asked.now (counts_value (get_or c.args.parts.now 0 c.index-parts-0.result).counts) counted (reached_in m.main)
    (map tree_caller_view c.args.functions.now) c.shows_imports-has_imports.result
    (map end_view c.in_ok-shown.shown.items) (map end_view c.push_functions.new.shown.items) c.shows_imports-has_imports.ensures
    (c.in_ok-shown.ensures w v)
    (rw c.reached-reached.ensures at c.in_ok-push_functions.ensures)
