use Rattle.std.proofs.Common.{◌+◌, ◌<◌, length, map, ap, sym, ◌∙◌, refl, arith}
use Rattle.std.proofs.lemmas.List.{take_rest}
use Rattle.std.specs.List.{list_any}
use Rattle.wc_component_file.specs.Files.{core_module_view}
use Rattle.wc_component_file.specs.MainModules.{is_named_main}
use Rattle.wc_component_file.proofs.MainModuleLemmas.{only_named, two_named}
use Rattle.wc_component_file.proofs.main_module.named_main.Goals as goal

pub returns-then-has_main_name-clause-refused : goal.returns-then-has_main_name-clause-refused
returns-then-has_main_name-clause-refused c =
    let within : c.loop-position.position < length c.args.modules.now = omega arith in
    let rest = ap (λ l. list_any is_named_main (map core_module_view l)) (sym (take_rest c.args.modules.now (c.loop-position.position + 1))) in (
      refl,
      two_named c.args.modules.now c.loop-position.position _ within c.loop-position.invariant (sym c.is_main_name.ensures ∙ c.if-is_main_name.true)
          (rest ∙ (sym c.has_main_name.ensures ∙ c.if-has_main_name.true)),
    )

pub returns-then-is_main_name-clause-main : goal.returns-then-is_main_name-clause-main
returns-then-is_main_name-clause-main c =
    let within : c.loop-position.position < length c.args.modules.now = omega arith in
    let rest = ap (λ l. list_any is_named_main (map core_module_view l)) (sym (take_rest c.args.modules.now (c.loop-position.position + 1))) in
    only_named c.args.modules.now c.loop-position.position _ within c.loop-position.invariant (sym c.is_main_name.ensures ∙ c.if-is_main_name.true) _ refl refl
    (rest ∙ (sym c.has_main_name.ensures ∙ c.if-has_main_name.false))
