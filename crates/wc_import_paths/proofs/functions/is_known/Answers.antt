use Rattle.std.proofs.Common.{◌∙◌, ap, false, sym}
use Rattle.std.specs.Option.{option_map_or}
use Rattle.wc_import_paths.specs.Private.Functions.{has_index}
use Rattle.wc_import_paths.proofs.FunctionLemmas.{known_name, known_number}
use Rattle.wc_import_paths.proofs.functions.is_known.Goals as goal

pub returns-then-is_number : goal.returns-then-is_number
returns-then-is_number c functions known =
    c.has_index.ensures ∙ (ap (λ i. option_map_or (has_index c.args.known.now.indices.keys) i false) c.index_of.ensures
    ∙ known_number c.args.text.now functions c.args.known.now known (sym c.is_number.ensures ∙ c.if-is_number.true))

pub returns-else-is_number : goal.returns-else-is_number
returns-else-is_number c functions known =
    c.contains.ensures ∙ known_name c.args.text.now functions c.args.known.now known (sym c.is_number.ensures ∙ c.if-is_number.false)
