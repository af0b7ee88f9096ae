use Rattle.std.proofs.Common.{◌≤◌, arith, append-nil, length, map, subst, sym, ◌++◌}
use Rattle.std.proofs.lemmas.List.{take_all}
use Rattle.wc_module_ways.specs.AdapterNames.{HasNames}
use Rattle.wc_module_ways.specs.CoreModules.{core_given, names_given}
use Rattle.wc_module_ways.proofs.CoreModuleLemmas.{core_names_next}
use Rattle.wc_module_ways.proofs.core_modules.push_core_names.Goals as goal

pub loop-one-init : goal.loop-one-init
loop-one-init c given h = subst (λ z. HasNames z c.args.names.now.keys) (sym (append-nil given)) h

pub loop-one-preserved : goal.loop-one-preserved
loop-one-preserved c given h =
    core_names_next given c.args.core.now c.loop-one.one-index _ c.loop-one.names.keys c.push_core_name.new.names.keys c.loop-one-test.true
    c.in_ok-push_core_name.ensures (c.loop-one.invariant given h)

pub returns : goal.returns
returns c given h =
    let over : length c.args.core.now ≤ c.loop-one.one-index = omega arith in
    subst (λ z. HasNames (given ++ names_given (map core_given z)) c.loop-one.names.keys) (take_all c.loop-one.one-index c.args.core.now over)
    (c.loop-one.invariant given h)
