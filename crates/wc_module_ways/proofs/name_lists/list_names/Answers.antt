use Rattle.std.proofs.Common.{ℕ, List, [], rules}
use Rattle.std.specs.Borrow.{Bor}
use Rattle.wc_module_ways.proofs.NameListLemmas.{Text, lists_next}
use Rattle.wc_module_ways.proofs.name_lists.list_names.Goals as goal

pub loop-key-preserved : goal.loop-key-preserved
loop-key-preserved c =
    let e : Bor (List ℕ) = record { ref_ptr = (0, 0); now = [] } in
    let d : Text × Text = (e, e) in
    lists_next c.args.pairs.now c.loop-key.key-index d c.loop-key.lists.entries c.list_name.new.lists.entries (search rules) c.in_ok-list_name.ensures
    c.loop-key.invariant
