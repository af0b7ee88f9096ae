use Rattle.std.proofs.Common.{map, length, ap, refl, sym, ◌∙◌}
use Rattle.wc_read.specs.Reading.Names.{global_name_value}
use Rattle.wc_read.specs.Names.{global_names_of}
use Rattle.wc_read.proofs.NamesAtLemmas.{entries_start, entries_more, entries_other, entries_end}
use Rattle.wc_read.proofs.names.names_at.Goals as goal
use Rattle.wc_read.proofs.names.names_at.Goals.{then-has_index+in_ok-insert, else-has_index}

pub loop-named-init : goal.loop-named-init
loop-named-init c = entries_start _ _ _ (ap length c.new-names.ensures)

pub loop-named-preserved : goal.loop-named-preserved
loop-named-preserved c = elim c.if-has_index.branch [
  | then-has_index+in_ok-insert w ↦
      rw w.names-is (entries_more _ _ _ _ _ _ c.loop-named.invariant c.loop-named-test.true (sym c.has_index.ensures ∙ w.if-has_index.true) w.in_ok-insert.ensures.entries)
  | else-has_index w ↦ rw w.names-is (entries_other _ _ _ _ _ c.loop-named.invariant c.loop-named-test.true (sym c.has_index.ensures ∙ w.if-has_index.false))
]

pub returns-clause-found : goal.returns-clause-found
returns-clause-found c = (
  global_names_of (map global_name_value c.in_ok-pairs.pairs.items),
  (map global_name_value c.in_ok-pairs.pairs.items, c.in_ok-pairs.ensures.found, refl),
  rw c.deref-named-items.ensures.value at (entries_end _ _ _ _ c.loop-named.invariant c.loop-named-test.false),
)
