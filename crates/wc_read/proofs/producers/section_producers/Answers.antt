use Rattle.wc_read.specs.Sections.{section_value}
use Rattle.wc_read.proofs.ProducersReadLemmas.{not_named, not_fields}
use Rattle.wc_read.proofs.producers.section_producers.Goals as goal

pub returns-in_default-clause-found : goal.returns-in_default-clause-found
returns-in_default-clause-found c = not_named (section_value c.args.section.now) (rw c.in_default.is at c.in_ok-bytes.ensures.found)

pub returns-then-not-branch-clause-found : goal.returns-then-not-branch-clause-found
returns-then-not-branch-clause-found c =
    not_fields (section_value c.args.section.now) c.in-Some.bytes.now (rw c.in-Some.is at c.in_ok-bytes.ensures.found) (rw c.if-not-branch.true at c.in_ok-are_fields.ensures.found)
