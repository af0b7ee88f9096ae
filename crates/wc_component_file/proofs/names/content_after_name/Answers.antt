use Rattle.std.proofs.Common.{sym}
use Rattle.std.proofs.lemmas.Bool.{not-true, not-false}
use Rattle.wc_read.specs.Sections.{section_value}
use Rattle.wc_read.proofs.CustomLemmas.{no_name, other_name, this_name}
use Rattle.wc_component_file.specs.Names.{component_name_text}
use Rattle.wc_component_file.proofs.names.content_after_name.Goals as goal

pub returns-in_default : goal.returns-in_default
returns-in_default c = no_name _ _ (rw c.new-reader.ensures at c.in_default.ensures.0)

pub returns-then-ne : goal.returns-then-ne
returns-then-ne c =
    other_name component_name_text c.in-Ok.found.now c.name.new.self.rest.now (section_value c.args.section.now) (rw c.new-reader.ensures at c.in-Ok.ensures) (not-true _ (sym c.if-ne.ensures))

pub returns : goal.returns
returns c =
    this_name component_name_text c.in-Ok.found.now c.name.new.self.rest.now (section_value c.args.section.now) c.if-section-ne-CUSTOM_ID.false (rw c.new-reader.ensures at c.in-Ok.ensures)
    (not-false _ (sym c.if-ne.ensures))
