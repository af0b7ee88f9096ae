use Rattle.std.proofs.Common.{◌∙◌, sym}
use Rattle.wc_import_paths.proofs.FunctionLemmas.{parsed}
use Rattle.wc_import_paths.proofs.functions.index_of.Goals as goal

pub returns-then-is_number : goal.returns-then-is_number
returns-then-is_number c =
    parsed c.args.text.now c.parse.result c.ok.result c.ok.ensures.value (sym c.is_number.ensures ∙ c.if-is_number.true) c.parse.ensures.value.0
