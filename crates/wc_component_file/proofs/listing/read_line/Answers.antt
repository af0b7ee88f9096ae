use Rattle.std.proofs.Common.{◌≡◌, map, ap, ◌∙◌, subst, string_bytes, IfOk}
use Rattle.wc_maps.specs.Texts.{text_of}
use Rattle.wc_read.specs.Exports.{export_value}
use Rattle.wc_read.specs.Imports.{import_value}
use Rattle.wc_component_file.specs.Listing.{export_names, import_modules, line_of, said_text}
use Rattle.wc_component_file.proofs.listing.read_line.Goals as goal

pub returns : goal.returns
returns c =
    let from = ap (map text_of) c.deref-3.ensures.value ∙ (c.in_ok-from.ensures ∙ ap (λ l. import_modules (map import_value l)) c.deref.ensures.value) in
    let exports = ap (map text_of) c.deref-4.ensures.value
    ∙ (c.in_ok-exports.ensures ∙ ap (λ l. export_names (map export_value l)) c.deref-2.ensures.value) in
    let said = c.deref-5.ensures ∙ (c.in_ok-said.ensures ∙ (λ t. said_text (from t) (exports t))) in
    subst (λ t. IfOk c.line_of.result (λ s. string_bytes s ≡ line_of c.args.position t)) said c.line_of.ensures
