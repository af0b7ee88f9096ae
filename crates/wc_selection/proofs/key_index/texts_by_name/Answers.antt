use Rattle.std.proofs.Common.{ℕ, List, [], rules}
use Rattle.std.specs.Borrow.{Bor}
use Rattle.wc_selection.proofs.KeyIndexLemmas.{texts_next}
use Rattle.wc_selection.proofs.RequiredLemmas.{Pair}
use Rattle.wc_selection.proofs.key_index.texts_by_name.Goals as goal

pub loop-name-preserved : goal.loop-name-preserved
loop-name-preserved c =
    let e : Bor (List ℕ) = record { ref_ptr = (0, 0); now = [] } in
    let d : Pair = (e, e) in
    texts_next c.args.pairs.now c.loop-name.name-index d c.loop-name.texts.entries c.list_under.new.lists.entries
    (search rules) c.in_ok-list_under.ensures c.loop-name.invariant
