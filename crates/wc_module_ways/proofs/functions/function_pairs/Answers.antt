use Rattle.std.proofs.Common.{◌<◌, length, arith, map}
use Rattle.wc_read.specs.Imports.{ImportValue, import_value}
use Rattle.wc_module_ways.specs.Names.{NamePair, is_function, pair_view}
use Rattle.wc_import_paths.proofs.PickedLemmas.{first_more}
use Rattle.wc_module_ways.proofs.functions.function_pairs.Goals as goal

pub loop-import-preserved : goal.loop-import-preserved
loop-import-preserved c =
    let within : c.loop-import.import-index < length c.args.imports.now = omega arith in
    first_more {B = NamePair} (λ (i : ImportValue). is_function i.ty) (λ (i : ImportValue). (i.module_name, i.name)) import_value c.args.imports.now
    c.loop-import.import-index _ within (map pair_view c.loop-import.pairs.items) (map pair_view c.push_function.new.pairs.items) c.loop-import.invariant
    c.in_ok-push_function.ensures
