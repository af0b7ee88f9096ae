use Rattle.std.proofs.Common.{◌∙◌, map, refl, sym}
use Rattle.wc_maps.proofs.FirstLemmas.{in_contains, out_lacks}
use Rattle.wc_selection.proofs.TestLemmas.{text_in}
use Rattle.wc_maps.specs.Texts.{text_of}
use Rattle.wcplan_inputs.specs.FileNames.{main_file}
use Rattle.wcplan_inputs.proofs.file_names.name_fault.Goals as goal

pub returns-then-has_text-clause-fault : goal.returns-then-has_text-clause-fault
returns-then-has_text-clause-fault c =
    let names = map text_of c.args.adapters.now in
    (c.in_default.ensures.none, in_contains names main_file (sym (text_in c.args.adapters.now main_file) ∙ sym c.has_text.ensures ∙ c.if-has_text.true), refl)

pub returns-else-has_text-clause-none : goal.returns-else-has_text-clause-none
returns-else-has_text-clause-none c =
    let names = map text_of c.args.adapters.now in
    (c.in_default.ensures.none, out_lacks names main_file (sym (text_in c.args.adapters.now main_file) ∙ sym c.has_text.ensures ∙ c.if-has_text.false))
