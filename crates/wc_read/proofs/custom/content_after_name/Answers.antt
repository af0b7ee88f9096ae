use Rattle.std.proofs.Common.{sym}
use Rattle.std.proofs.lemmas.Bool.{not-true, not-false}
use Rattle.wc_read.specs.Sections.{section_value}
use Rattle.wc_read.proofs.CustomLemmas.{no_name, other_name, this_name}
use Rattle.wc_read.proofs.custom.content_after_name.Goals as goal

pub returns-in_default-clause-found : goal.returns-in_default-clause-found
returns-in_default-clause-found c = no_name _ _ (rw c.new-reader.ensures at (rw c.in_default.is at c.in_ok-found.ensures))

pub returns-then-ne-clause-found : goal.returns-then-ne-clause-found
returns-then-ne-clause-found c =
    other_name c.args.name.now c.in-Some.found.now c.find.new.self.rest.now (section_value c.args.section.now)
    (rw c.new-reader.ensures at (rw c.in-Some.is at c.in_ok-found.ensures)) (not-true _ (sym c.if-ne.ensures))

pub returns-clause-found : goal.returns-clause-found
returns-clause-found c =
    this_name c.args.name.now c.in-Some.found.now c.find.new.self.rest.now (section_value c.args.section.now) c.if-section-ne-CUSTOM_ID.false
    (rw c.new-reader.ensures at (rw c.in-Some.is at c.in_ok-found.ensures)) (not-false _ (sym c.if-ne.ensures))
