use Rattle.std.proofs.Common.{◌<◌, length, map, ap, ◌∙◌, arith}
use Rattle.std.proofs.lemmas.List.{map_push}
use Rattle.std.proofs.lemmas.Result.{err_from_is_err_and}
use Rattle.wc_component_file.specs.Files.{core_module_view}
use Rattle.wc_component_file.specs.Told.{IsTold, told_view}
use Rattle.wc_component_file.proofs.EachLemmas.{each_more}
use Rattle.wc_component_file.proofs.RoleLemmas.{untold_in}
use Rattle.wc_component_file.proofs.told.told_modules.Goals as goal

pub returns-in_err-one-clause-refused : goal.returns-in_err-one-clause-refused
returns-in_err-one-clause-refused c =
    let p = err_from_is_err_and c.from_residual.result c.from_residual.ensures.1 in
    let within : c.loop-position.position < length c.args.modules.now = omega arith in
    rw (p.1, p.2) (untold_in c.args.main c.args.modules.now c.loop-position.position _ _ within c.in_err-one.ensures.refused)

pub loop-position-preserved : goal.loop-position-preserved
loop-position-preserved c =
    let within : c.loop-position.position < length c.args.modules.now = omega arith in
    each_more (IsTold c.args.main) core_module_view c.args.modules.now c.loop-position.position _ (map told_view c.loop-position.told.items) _
    (told_view c.in_ok-one.one) within c.loop-position.invariant c.in_ok-one.ensures.told
    (ap (map told_view) c.in_ok-push.ensures.items ∙ map_push told_view c.loop-position.told.items c.in_ok-one.one)
