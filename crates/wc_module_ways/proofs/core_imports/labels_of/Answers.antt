use Rattle.std.proofs.Common.{◌≢◌, ◌∙◌, ◌++◌, ap, map, length, string_bytes, subst, sym}
use Rattle.std.proofs.lemmas.List.{length-map}
use Rattle.std.specs.Prelude.{AllPairs}
use Rattle.wc_read.specs.Exports.{ExportValue, export_value}
use Rattle.wc_segments.specs.Segments.{segments_value}
use Rattle.wc_summary.specs.CoreModules.{label_value}
use Rattle.wc_summary.specs.declared.core_modules.LabelKind.TheVariants.{Wanted, Other}
use Rattle.wc_why.specs.Texts.{text_of}
use Rattle.wc_import_paths.specs.Roots.{exports_named}
use Rattle.wc_module_ways.specs.CoreImports.{export_label, filled_text, segment_label}
use Rattle.wc_module_ways.specs.CoreParts.{unlinked}
use Rattle.wc_module_ways.proofs.CoreImportLemmas.{four_put}
use Rattle.wc_module_ways.proofs.core_imports.labels_of.Goals as goal

pub exports_of_names-requires : goal.exports_of_names-requires
exports_of_names-requires c =
    subst (λ z. AllPairs (λ x y. x ≢ y) (map (λ (e : ExportValue). e.name) (map export_value z))) (sym c.deref.ensures.value) c.requires.distinct

pub push_filled_labels-requires : goal.push_filled_labels-requires
push_filled_labels-requires c =
    sym (length-map c.args.filled.1.now string_bytes)
    ∙ (ap length c.requires.texts ∙ length-map c.args.filled.0.now (filled_text (segments_value c.args.followed.now.segments)))

pub returns : goal.returns
returns c =
    let s = segments_value c.args.followed.now.segments in
    let wanted = ap (map export_value) c.deref-3.ensures.value
    ∙ (c.in_ok-wanted.ensures ∙ (λ t. exports_named (map export_value (c.deref.ensures.value t)) (map text_of (c.as_slice.ensures.keys t)))) in
    let others = ap (map export_value) c.deref-4.ensures.value ∙ (c.in_ok-others.ensures ∙ (λ t. unlinked (map text_of c.args.linked.now.keys) (map export_value (c.deref-2.ensures.value t)))) in
    four_put (map label_value c.new-labels.result.items) (map label_value c.push_export_labels.new.labels.items) (map label_value c.push_export_labels-2.new.labels.items)
    (map label_value c.push_start_label.new.labels.items) (map label_value c.push_filled_labels.new.labels.items) _ _ _ _
    (ap (map label_value) c.new-labels.ensures.items)
    (c.in_ok-push_export_labels.ensures ∙ (λ t. map label_value c.new-labels.result.items ++ map (export_label Wanted) (wanted t)))
    (c.in_ok-push_export_labels-2.ensures ∙ (λ t. map label_value c.push_export_labels.new.labels.items ++ map (export_label Other) (others t)))
    c.in_ok-push_start_label.ensures
    (c.in_ok-push_filled_labels.ensures s c.requires.texts
    ∙ ap (λ z. map label_value c.push_start_label.new.labels.items ++ map (segment_label s) z) c.requires.items)
