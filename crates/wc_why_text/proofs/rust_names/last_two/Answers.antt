use Rattle.std.proofs.Common.{◌≡◌, ◌-◌, ◌∙◌, ap, drop, length, map, rules, sym}
use Rattle.std.proofs.lemmas.List.{drop-map, length-map, take_rest}
use Rattle.wc_why.specs.Texts.{text_of}
use Rattle.wc_why_text.proofs.rust_names.last_two.Goals as goal

pub returns : goal.returns
returns c =
    let parts = c.args.parts.now in
    let from = c.saturating_sub.result in
    let is : from ≡ length parts - 2 = search rules in
    ap (map text_of) (take_rest parts from) ∙ sym (drop-map text_of from parts)
    ∙ ap (λ n. drop n (map text_of parts)) (is ∙ ap (λ n. n - 2) (sym (length-map parts text_of)))
