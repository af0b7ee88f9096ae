use Rattle.std.proofs.Common.{refl, sym}
use Rattle.std.proofs.lemmas.Option.{slice_get_read}
use Rattle.wc_graph.proofs.ListLemmas.{no_item}
use Rattle.wc_why_text.proofs.StepLemmas.{no_item_there, no_module_there, none_as}
use Rattle.wc_why_text.proofs.paths_json.put_steps_at.Goals as goal

pub returns-in-None-get : goal.returns-in-None-get
returns-in-None-get c =
    let there = slice_get_read _ _ _ _ refl c.in-Some.ensures.lookup.3.0 c.in-Some.ensures.lookup.1 in
    let past = rw c.deref.ensures.value at c.in-None-get.ensures.lookup.0 in
    none_as _ _ (no_item_there c.args.modules.now c.args.item c.in-Some.module.now (sym there) (sym (no_item _ _ past)))

pub returns-in-None : goal.returns-in-None
returns-in-None c = none_as _ _ (no_module_there c.args.modules.now c.args.item (sym (no_item _ _ c.in-None.ensures.lookup.0)))
