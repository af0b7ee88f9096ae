use Rattle.std.proofs.Common.{◌∙◌, refl, sym}
use Rattle.wc_import_paths.proofs.FunctionLemmas.{name_adds}
use Rattle.wc_import_paths.proofs.functions.note_wanted.Goals as goal

pub returns-in_ok-insert : goal.returns-in_ok-insert
returns-in_ok-insert c =
    name_adds c.args.wanted.now (record { indices = c.args.wanted.now.indices; names = c.insert.new.self }) c.args.text.now c.in_ok-from_str.field-0
    (sym c.is_number.ensures ∙ c.if-is_number.false) c.in_ok-from_str.ensures.ok refl c.in_ok-insert.ensures.keys
