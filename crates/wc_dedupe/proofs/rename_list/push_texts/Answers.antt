use Rattle.std.proofs.Common.{◌++◌, List, ℕ, length, string_bytes, ap, ◌∙◌}
use Rattle.wc_dedupe.proofs.RenameTextLemmas.{text_long, longer_same, longer_by, longer_then, placed_last}
use Rattle.wc_dedupe.proofs.rename_list.push_texts.Goals as goal

pub returns-in_err-push_str-clause-longer : goal.returns-in_err-push_str-clause-longer
returns-in_err-push_str-clause-longer c = longer_same _ _ c.in_err-push_str.ensures.bytes

pub returns-in_err-push_str-3-clause-longer : goal.returns-in_err-push_str-3-clause-longer
returns-in_err-push_str-3-clause-longer c =
    longer_then _ _ _ (longer_then _ _ _ (longer_by _ _ _ c.in_ok-push_str.ensures.bytes c.utf8.module) (longer_by _ _ _ c.in_ok-push_str-2.ensures.bytes c.utf8.original))
    (longer_same _ _ c.in_err-push_str-3.ensures.bytes)

pub returns-clause-longer : goal.returns-clause-longer
returns-clause-longer c =
    longer_then _ _ _ (longer_then _ _ _ (longer_by _ _ _ c.in_ok-push_str.ensures.bytes c.utf8.module) (longer_by _ _ _ c.in_ok-push_str-2.ensures.bytes c.utf8.original))
    (longer_by _ _ _ c.in_ok-push_str-3.ensures.bytes c.utf8.name)

pub returns-clause-placed : goal.returns-clause-placed
returns-clause-placed c =
    let one = c.in_ok-push_str.ensures.bytes in
    let two = c.in_ok-push_str-2.ensures.bytes ∙ ap (λ (ts : List ℕ). ts ++ c.args.original.now) one in
    let all = c.in_ok-push_str-3.ensures.bytes ∙ ap (λ (ts : List ℕ). ts ++ c.args.name.now) two in
    placed_last (string_bytes c.args.texts.now) _ c.args.module.now c.args.original.now c.args.name.now _ all c.utf8.module c.utf8.original c.utf8.name (c.len-start.ensures ∙ text_long c.args.texts.now)
    (c.len-of_original.ensures ∙ text_long c.push_str.new.self ∙ ap length one)
    (c.len-of_name.ensures ∙ text_long c.push_str-2.new.self ∙ ap length two)
    (c.len.ensures ∙ text_long c.push_str-3.new.self ∙ ap length all)
