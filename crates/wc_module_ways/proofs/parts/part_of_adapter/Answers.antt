use Rattle.std.proofs.Common.{◌≡◌, ◌≢◌, ◌∙◌, ap, map, subst, sym}
use Rattle.std.specs.Prelude.{AllPairs}
use Rattle.std.proofs.lemmas.Result.{IfOk-weaker}
use Rattle.wc_read.specs.Exports.{ExportValue, export_value}
use Rattle.wc_read.specs.Modules.{module_value}
use Rattle.wc_why.specs.Part.{part_view}
use Rattle.wc_why.specs.Texts.{text_of}
use Rattle.wc_import_paths.specs.Parts.{IsAdapterPart}
use Rattle.wc_import_paths.specs.Roots.{exports_named}
use Rattle.wc_module_ways.specs.Adapters.{adapter_view}
use Rattle.wc_module_ways.specs.Parts.{always_exports}
use Rattle.wc_module_ways.proofs.parts.part_of_adapter.Goals as goal

pub exports_of_names-requires : goal.exports_of_names-requires
exports_of_names-requires c =
    subst (λ z. AllPairs (λ x y. x ≢ y) (map (λ (e : ExportValue). e.name) (map export_value z))) (sym c.deref-2.ensures.value)
    c.requires.has_sections.valid.distinct

pub returns : goal.returns
returns c =
    let a = c.args.adapter.now in
    let always : map export_value c.deref-3.result.now ≡ always_exports (adapter_view a) =
    ap (map export_value) c.deref-3.ensures.value
    ∙ (c.in_ok-always.ensures ∙ (λ t. exports_named (map export_value (c.deref-2.ensures.value t)) (map text_of (c.deref.ensures.value t)))) in
    IfOk-weaker c.adapter_part.result _ _
    (λ p is. subst (λ z. IsAdapterPart a.name.now (module_value a.code) a.bytes.now z (part_view p)) always is)
    (c.adapter_part.ensures (module_value a.code) a.has_rows)
