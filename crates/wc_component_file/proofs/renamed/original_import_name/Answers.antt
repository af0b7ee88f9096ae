use Rattle.std.proofs.Common.{ap, sym, ◌∙◌, arith}
use Rattle.std.proofs.lemmas.Str.{IsCharBoundary-before_ascii}
use Rattle.wc_component_file.specs.Renamed.{mark_start}
use Rattle.wc_component_file.proofs.RenamedLemmas.{mark_begins}
use Rattle.wc_component_file.proofs.renamed.original_import_name.Goals as goal

pub range-requires-clause-end_boundary : goal.range-requires-clause-end_boundary
range-requires-clause-end_boundary c =
    let begins = mark_begins c.args.name.now c.in-Some.start (ap mark_start (sym c.as_bytes.ensures.value) ∙ sym c.in-Some.ensures) in
    IsCharBoundary-before_ascii c.args.name.now c.in-Some.start begins.0 (omega (arith, begins.1))
