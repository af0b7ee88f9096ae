use Rattle.std.proofs.Common.{◌∙◌, string_bytes}
use Rattle.wc_validate.proofs.ExportedFunctionLemmas.{names_end, names_next, names_start}
use Rattle.wc_validate.proofs.requirements.exported_functions.names_of_functions.Goals as goal

pub loop-name-init : goal.loop-name-init
loop-name-init c =
    names_start c.args.names.now.entries _ _ (c.into_iter-name-iterator.ensures.into_iter_gives ∙ c.iter-name-items.ensures.rest)
    c.with_hasher-functions.ensures.empty

pub loop-name-preserved : goal.loop-name-preserved
loop-name-preserved c =
    names_next c.args.names.now.entries c.loop-name._name-iterator c.next.new.self (c.in-Some._name.now, c.in-Some.export.now)
    c.loop-name.functions.keys c.add_name.new.functions.keys c.loop-name.invariant c.in-Some.ensures.steps
    (c.in_ok-add_name.ensures c.loop-name.invariant.passed (string_bytes c.in-Some._name.now) c.loop-name.invariant.names)

pub returns : goal.returns
returns c = names_end c.args.names.now.entries c.loop-name._name-iterator c.loop-name.functions.keys c.loop-name.invariant c.in-None.ensures.steps.0
