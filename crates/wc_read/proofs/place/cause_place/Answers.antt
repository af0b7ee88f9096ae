use Rattle.std.proofs.Common.{◌∙◌, sym}
use Rattle.wc_read.specs.Causes.{is_cause}
use Rattle.wc_read.specs.Reading.Contents.{section_contents_value}
use Rattle.wc_read.specs.Reading.Framing.{section_at}
use Rattle.wc_read.specs.Sections.{SpellsSection, section_value}
use Rattle.wc_read.proofs.PlaceLemmas.{one_read, search_begins, search_ends, search_finds, search_goes_on, search_stops}
use Rattle.wc_read.proofs.SectionsLemmas.{section_meets, section_some}
use Rattle.wc_read.proofs.ToEndLemmas.{to_shorter}
use Rattle.wc_read.proofs.place.cause_place.Goals as goal

pub loop-reader-init : goal.loop-reader-init
loop-reader-init c = rw c.new-reader.ensures (search_begins _ _ _ c.requires)

pub returns-in_default-clause-first : goal.returns-in_default-clause-first
returns-in_default-clause-first c =
    search_stops c.args.bytes.now c.args.rest.now c.requires c.loop-reader.reader.rest.now (is_cause (section_contents_value c.args.contents.now) c.args.fault)
    c.loop-reader.invariant c.loop-reader-test.ensures c.in_default.ensures.0

pub inside-requires-clause-read : goal.inside-requires-clause-read
inside-requires-clause-read c = one_read _ _ _ _ c.loop-reader.invariant.read c.in-Ok.ensures

pub returns-then-branch-clause-first : goal.returns-then-branch-clause-first
returns-then-branch-clause-first c =
    search_finds c.args.bytes.now c.args.rest.now c.requires c.loop-reader.reader.rest.now (is_cause (section_contents_value c.args.contents.now) c.args.fault)
    (section_value c.in-Ok.section) c.section.new.self.rest.now c.inside.result c.loop-reader.invariant c.in-Ok.ensures
    (sym c.in_ok-is_cause.ensures ∙ c.if-branch.true) c.inside.ensures.exact c.inside.ensures.named

pub loop-reader-smaller : goal.loop-reader-smaller
loop-reader-smaller c = to_shorter SpellsSection section_at section_meets section_some _ _ _ c.in-Ok.ensures

pub loop-reader-preserved : goal.loop-reader-preserved
loop-reader-preserved c =
    search_goes_on c.args.bytes.now c.args.rest.now c.loop-reader.reader.rest.now (is_cause (section_contents_value c.args.contents.now) c.args.fault)
    (section_value c.in-Ok.section) c.section.new.self.rest.now c.loop-reader.invariant c.in-Ok.ensures (sym c.in_ok-is_cause.ensures ∙ c.if-branch.false)

pub returns-clause-first : goal.returns-clause-first
returns-clause-first c =
    search_ends c.args.bytes.now c.args.rest.now c.requires c.loop-reader.reader.rest.now (is_cause (section_contents_value c.args.contents.now) c.args.fault)
    c.loop-reader.invariant c.loop-reader-test.ensures
