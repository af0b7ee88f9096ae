use Rattle.std.proofs.Common.{sym, ◌∙◌, refl}
use Rattle.std.proofs.lemmas.Option.{slice_get_read}
use Rattle.wc_gc.proofs.FoundLemmas.{test_global}
use Rattle.wc_graph.proofs.ListLemmas.{no_item}
use Rattle.wc_gc.proofs.found.is_mutable_i32.Goals as goal

pub returns-in-Some : goal.returns-in-Some
returns-in-Some c =
    let at = rw c.deref.ensures.value at (slice_get_read _ _ _ _ refl c.in-Some.ensures.lookup.3.0 c.in-Some.ensures.lookup.1) in
    c.is_mutable_i32_type.ensures ∙ sym (test_global c.args.adapter.now _ c.args.index _ at)

pub returns-in-None : goal.returns-in-None
returns-in-None c =
    let past = rw c.deref.ensures.value at c.in-None.ensures.lookup.0 in
    sym (test_global c.args.adapter.now _ c.args.index _ (no_item _ _ past))
