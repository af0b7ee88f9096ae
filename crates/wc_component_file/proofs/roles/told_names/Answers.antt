use Rattle.std.proofs.Common.{◌<◌, ◌++◌, length, map, ap, subst, ◌∙◌, arith, IfOk}
use Rattle.std.proofs.lemmas.List.{take_all}
use Rattle.std.specs.Option.{option_to_list}
use Rattle.wc_maps.specs.Texts.{HasTexts, text_of}
use Rattle.wc_component_file.specs.Roles.{told_name, told_names}
use Rattle.wc_component_file.specs.Told.{told_view}
use Rattle.wc_component_file.specs.declared.told.Told.{Told}
use Rattle.std.proofs.Common.{List}
use Rattle.wc_component_file.proofs.PickedLemmas.{found_more}
use Rattle.wc_component_file.proofs.roles.told_names.Goals as goal

pub loop-one-preserved : goal.loop-one-preserved
loop-one-preserved c =
    let within : c.loop-one.one-index < length c.args.told.now = omega arith in
    let put = rw c.told_name.ensures at c.in_ok-push_some.ensures in
    found_more told_view c.args.told.now c.loop-one.one-index c.one-item.result within told_name (map text_of c.loop-one.names.items)
    (map text_of c.push_some.new.names.items) c.loop-one.invariant
    (put ∙ ap (λ (t : Told). map text_of c.loop-one.names.items ++ option_to_list (told_name (told_view t))) c.one-item.is)

pub returns : goal.returns
returns c =
    let all = ap (λ (l : List Told). told_names (map told_view l)) (take_all c.loop-one.one-index c.args.told.now c.loop-one-test.false) in
    subst (λ l. IfOk c.text_set.result (λ s. HasTexts l (map text_of s.keys))) (ap (map text_of) c.deref.ensures.value ∙ (c.loop-one.invariant ∙ all))
    c.text_set.ensures
