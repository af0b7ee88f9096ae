use Rattle.std.proofs.Common.{map, sym, ◌∙◌, inl, inr}
use Rattle.std.proofs.lemmas.Bool.{false≢true}
use Rattle.wc_read.specs.Modules.{module_value}
use Rattle.wc_read.specs.Sections.{section_values}
use Rattle.wc_read.specs.declared.fault.ReadFault.TheVariants.{CountMismatch}
use Rattle.wc_segments.specs.Data.{data_value}
use Rattle.wc_segments.specs.Elements.{element_value}
use Rattle.wc_segments.specs.declared.segments.SegmentSection.TheVariants.{DataCount, Data}
use Rattle.wc_segments.proofs.SegmentsLemmas.{count_is, no_count, refused_in}
use Rattle.wc_segments.proofs.segments.segments_in.Goals as goal

pub returns-in-Err-data_count-clause-fault : goal.returns-in-Err-data_count-clause-fault
returns-in-Err-data_count-clause-fault c =
    let r = c.refused-in-Err-data_count in
    let sections = section_values c.args.sections.now in
    refused_in sections (module_value c.args.«module».now) c.in-Err-data_count.fault DataCount r.result.fault r.result.place r.ensures.fault r.ensures.place
    c.in-Err-data_count.ensures.2 (λ real. (map element_value c.in-Ok.elements.items, c.in-Ok.ensures, inl (no_count sections c.in-Err-data_count.ensures.0)))

pub returns-in-Err-data_segments-clause-fault : goal.returns-in-Err-data_segments-clause-fault
returns-in-Err-data_segments-clause-fault c =
    let r = c.refused-in-Err-data_segments in
    let sections = section_values c.args.sections.now in
    refused_in sections (module_value c.args.«module».now) c.in-Err-data_segments.fault Data r.result.fault r.result.place r.ensures.fault r.ensures.place
    c.in-Err-data_segments.ensures.1
    (λ real. (
      map element_value c.in-Ok.elements.items,
      c.in-Ok.ensures,
      c.in-Ok-data_count.count,
      count_is sections c.in-Ok-data_count.count c.in-Ok-data_count.ensures,
      c.in-Err-data_segments.ensures.0 real,
    ))

pub returns-then-not-is_count_of-clause-fault : goal.returns-then-not-is_count_of-clause-fault
returns-then-not-is_count_of-clause-fault c =
    let r = c.refused-then-not-is_count_of in
    let sections = section_values c.args.sections.now in
    let counted = rw c.deref.ensures.value at c.is_count_of.ensures in
    refused_in sections (module_value c.args.«module».now) CountMismatch DataCount r.result.fault r.result.place r.ensures.fault r.ensures.place (λ e. absurd cc)
    (λ real. (
      map element_value c.in-Ok.elements.items,
      c.in-Ok.ensures,
      inr (
        c.in-Ok-data_count.count,
        map data_value c.in-Ok-data_segments.«data».items,
        count_is sections c.in-Ok-data_count.count c.in-Ok-data_count.ensures,
        c.in-Ok-data_segments.ensures,
        λ h. false≢true (sym c.if-not-is_count_of.true ∙ counted.1 h),
      ),
    ))

pub returns-clause-found : goal.returns-clause-found
returns-clause-found c =
    let counted = rw c.deref.ensures.value at c.is_count_of.ensures in
    record {
      has_elements = c.in-Ok.ensures;
      count = c.in-Ok-data_count.count;
      has_count = count_is (section_values c.args.sections.now) c.in-Ok-data_count.count c.in-Ok-data_count.ensures;
      has_data = c.in-Ok-data_segments.ensures;
      counted = counted.0 c.if-not-is_count_of.false;
    }
