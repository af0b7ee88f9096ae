use Rattle.std.proofs.Common.{◌∙◌, ◌∷◌, ◌++◌, [], ap, sym, map, take, string_bytes, rules}
use Rattle.std.proofs.lemmas.List.{take_more, map-append}
use Rattle.wc_texts.specs.Names.{first_occurrences}
use Rattle.wc_gc.proofs.NameSetLemmas.{set_more}
use Rattle.wctrim_command.proofs.execution.required_exports.Goals as goal

pub loop-export-preserved : goal.loop-export-preserved
loop-export-preserved c =
    let export = c.export-item.result in
    let names = map string_bytes (take c.loop-export.export-index c.args.exports.now) in
    let taken = take_more c.args.exports.now c.loop-export.export-index export (search rules) in
    let more = ap (map string_bytes) taken ∙ (map-append string_bytes (take c.loop-export.export-index c.args.exports.now) _ ∙ ap (λ e. names ++ string_bytes e ∷ []) (sym c.export-item.is)) in
    let put = set_more c.loop-export.names.keys names c.in_ok-clone.field-0 (string_bytes export) c.loop-export.invariant (search rules) in
    ap (map string_bytes) c.in_ok-insert.ensures.keys ∙ (put ∙ sym (ap first_occurrences more))
