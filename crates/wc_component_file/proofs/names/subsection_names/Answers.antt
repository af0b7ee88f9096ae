use Rattle.std.proofs.Common.{arith}
use Rattle.std.proofs.lemmas.List.{map-append}
use Rattle.wc_component_file.proofs.NamesLemmas.{pairs_begin, pairs_more, pairs_none, pairs_missing, pairs_end}
use Rattle.wc_component_file.proofs.names.subsection_names.Goals as goal

pub returns-in_default : goal.returns-in_default
returns-in_default c = rw c.new-names.ensures.items (pairs_none _ (rw c.new-reader.ensures at c.in_default.ensures.0))

pub loop-init : goal.loop-init
loop-init c = rw c.new-names.ensures.items (pairs_begin _ _ _ (rw c.new-reader.ensures at c.in-Ok.ensures))

pub returns-in_default-next_name : goal.returns-in_default-next_name
returns-in_default-next_name c = pairs_missing _ _ _ _ _ c.loop.invariant c.loop-test.true (rw c.in_default-next_name.is at c.next_name.ensures)

pub loop-preserved : goal.loop-preserved
loop-preserved c = rw (c.in_ok-push.ensures.items, map-append) (pairs_more _ _ _ _ _ _ _ c.loop.invariant (rw c.in-Some.is at c.next_name.ensures))

pub returns : goal.returns
returns c = pairs_end _ _ _ _ _ _ c.loop.invariant (omega arith) c.is_empty-complete.ensures
