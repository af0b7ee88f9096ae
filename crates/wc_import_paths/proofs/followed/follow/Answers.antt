use Rattle.std.proofs.Common.{map, refl, subst, sym}
use Rattle.std.proofs.lemmas.Result.{err_from_is_err_and}
use Rattle.wc_read.specs.Exports.{export_value}
use Rattle.wc_read.specs.Modules.{module_value}
use Rattle.wc_segments.specs.Segments.{segments_value}
use Rattle.wc_paths.specs.Callers.{AreReached}
use Rattle.wc_paths.specs.Paths.{graph_in}
use Rattle.wc_paths.specs.Roots.{roots_of, second_roots}
use Rattle.wc_why.specs.Texts.{text_of}
use Rattle.wc_import_paths.proofs.FollowedLemmas.{of_export_step, of_paths_step, of_read_step, of_segments_step}
use Rattle.wc_import_paths.proofs.followed.follow.Goals as goal

pub asked_exports-requires : goal.asked_exports-requires
asked_exports-requires c = c.in_ok-code.ensures.found.has_sections.valid.distinct

pub returns-in_err-code-clause-refused : goal.returns-in_err-code-clause-refused
returns-in_err-code-clause-refused c =
    let p = err_from_is_err_and c.from_residual.result c.from_residual.ensures.1 in
    rw (p.1, p.2) (of_read_step c.args.bytes.now (map text_of c.args.export_names.now) c.in_err-code.field-0.0.fault c.in_err-code.field-0.0.place c.in_err-code.ensures.refused)

pub returns-in_err-segments-clause-refused : goal.returns-in_err-segments-clause-refused
returns-in_err-segments-clause-refused c =
    let p = err_from_is_err_and c.from_residual-in_err-segments.result c.from_residual-in_err-segments.ensures.1 in
    rw (p.1, p.2) (of_segments_step c.args.bytes.now (map text_of c.args.export_names.now) (module_value c.in_ok-code.code) c.in_ok-code.ensures.found
    c.in_err-segments.field-0.0.fault c.in_err-segments.field-0.0.place c.in_err-segments.ensures.refused)

pub returns-in_err-exports-clause-refused : goal.returns-in_err-exports-clause-refused
returns-in_err-exports-clause-refused c =
    let p = err_from_is_err_and c.from_residual-in_err-exports.result c.from_residual-in_err-exports.ensures.1 in
    rw (p.1, p.2) (of_export_step c.args.bytes.now (map text_of c.args.export_names.now) (module_value c.in_ok-code.code) (segments_value c.in_ok-segments.segments)
    (record { spelled = c.in_ok-code.ensures.found; segmented = c.in_ok-segments.ensures.found })
    c.in_err-exports.field-0.0.fault c.in_err-exports.field-0.0.place c.in_err-exports.ensures.refused)

pub reached_from-requires : goal.reached_from-requires
reached_from-requires c = c.in_ok-rows.ensures

pub returns-in_err-reached-clause-refused : goal.returns-in_err-reached-clause-refused
returns-in_err-reached-clause-refused c =
    let p = err_from_is_err_and c.from_residual-in_err-reached.result c.from_residual-in_err-reached.ensures.1 in
    let refused = rw c.deref.ensures.value at c.in_err-reached.ensures.refused in
    rw (p.1, p.2) (of_paths_step c.args.bytes.now (map text_of c.args.export_names.now) (module_value c.in_ok-code.code) (segments_value c.in_ok-segments.segments)
    (record { spelled = c.in_ok-code.ensures.found; segmented = c.in_ok-segments.ensures.found }) (c.in_ok-exports.ensures.there refl)
    (map export_value c.in_ok-exports.exports.items) c.in_ok-exports.ensures.found c.in_err-reached.field-0.0.fault c.in_err-reached.field-0.0.place refused)

pub returns-clause-source : goal.returns-clause-source
returns-clause-source c =
    let g = graph_in c.in_ok-code.code c.in_ok-segments.segments in
    let first = roots_of (map export_value c.in_ok-exports.exports.items) c.in_ok-code.code.start in
    let second = second_roots (segments_value c.in_ok-segments.segments) in
    let reached : AreReached g first second c.in_ok-reached.reached.items = rw c.deref.ensures.value at c.in_ok-reached.ensures.reached in
    record {
      followed = record {
        spells = record { spelled = c.in_ok-code.ensures.found; segmented = c.in_ok-segments.ensures.found };
        asked = c.in_ok-exports.ensures.found;
        exported = c.in_ok-exports.ensures.there refl;
        closed = rw c.deref.ensures.value at (c.in_ok-reached.ensures.closed refl);
      };
      spelled = refl;
      has_paths = record {
        rows = c.in_ok-rows.ensures;
        reached = reached;
        calling = c.in_ok-callers.ensures first second (subst (AreReached g first second) (sym c.deref-2.ensures.value) reached);
        items = rw c.deref-3.ensures.value at c.in_ok-items.ensures;
      };
    }
