use Rattle.std.proofs.Common.{◌∙◌, ap, sym, ◌++◌, [], refl, append-nil}
use Rattle.std.specs.List.{cons_option}
use Rattle.std.proofs.lemmas.Option.{slice_get_read}
use Rattle.wc_graph.proofs.ListLemmas.{no_item}
use Rattle.wc_gc.proofs.assemble.append_item_at.Goals as goal

pub returns-in_ok-push-in-Some : goal.returns-in_ok-push-in-Some
returns-in_ok-push-in-Some g c =
    let at = slice_get_read _ _ _ _ refl c.in-Some.ensures.lookup.3.0 c.in-Some.ensures.lookup.1 in
    c.in_ok-push-in-Some.ensures.items ∙ ap (λ z. c.args.found.now.items ++ cons_option z []) (sym at)

pub returns-in-None : goal.returns-in-None
returns-in-None g c = sym (ap (λ z. c.args.found.now.items ++ cons_option z []) (no_item _ _ c.in-None.ensures.lookup.0) ∙ append-nil c.args.found.now.items)
