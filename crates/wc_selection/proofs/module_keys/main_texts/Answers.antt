use Rattle.std.proofs.Common.{◌≡◌, ◌∙◌, IfOk, map, subst, sym}
use Rattle.wc_selection.proofs.RequiredLemmas.{copied, none_listed, some_listed}
use Rattle.wc_selection.proofs.module_keys.main_texts.Goals as goal
use Rattle.wc_selection.specs.Requests.{request_value}
use Rattle.wc_selection.specs.RequiredTexts.{texts_or_seconds}
use Rattle.wc_maps.specs.Texts.{text_of, text_pair}

pub returns-then-is_empty : goal.returns-then-is_empty
returns-then-is_empty c =
    subst (λ l. IfOk c.second_texts.result (λ v. map text_of v.items ≡ l))
    (sym (none_listed c.args.request.now.exports.now (map text_pair c.args.request.now.adapter_exports.now) (sym c.is_empty.ensures ∙ c.if-is_empty.true)))
    c.second_texts.ensures

pub returns-else-is_empty : goal.returns-else-is_empty
returns-else-is_empty c =
    let q = request_value c.args.request.now in
    let listed = some_listed c.args.request.now.exports.now q.adapter_exports (sym c.is_empty.ensures ∙ c.if-is_empty.false) in
    copied (λ v. v.items) c.from_slice.result c.args.request.now.exports.now (texts_or_seconds q.exports q.adapter_exports) (sym listed)
    c.from_slice.ensures.items
