use Rattle.std.proofs.Common.{None, Some, ◌∙◌, sym}
use Rattle.wc_module_ways.proofs.CorePartLemmas.{linked_itself, linked_other}
use Rattle.wc_module_ways.proofs.core_parts.linked_name.Goals as goal

pub returns-then-is_in_set : goal.returns-then-is_in_set
returns-then-is_in_set c names has =
    let name = c.args.name.now in
    linked_itself names name (sym (has name) ∙ (sym c.is_in_set.ensures ∙ c.if-is_in_set.true))

pub returns-in-Some : goal.returns-in-Some
returns-in-Some c names has =
    let name = c.args.name.now in
    linked_other names name (Some c.in-Some.original.now) (sym (has name) ∙ (sym c.is_in_set.ensures ∙ c.if-is_in_set.false)) c.in-Some.ensures

pub returns-in-None : goal.returns-in-None
returns-in-None c names has =
    let name = c.args.name.now in
    linked_other names name None (sym (has name) ∙ (sym c.is_in_set.ensures ∙ c.if-is_in_set.false)) c.in-None.ensures
