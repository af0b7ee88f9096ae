use Rattle.std.proofs.Common.{◌≡◌, ◌∙◌, Option, Some, None, String, Global, ap, map, option_map, string_bytes}
use Rattle.std.proofs.lemmas.Result.{IfOk-weaker}
use Rattle.std.specs.Option.{option_and_then}
use Rattle.wc_selection.specs.Keys.{named_key, texts_of}
use Rattle.wc_why.specs.Keys.{package_text}
use Rattle.wcplan_inputs.specs.Asked.{nearest_package, package_alike}
use Rattle.wcplan_inputs.proofs.AskedLemmas.{found_text}
use Rattle.wcplan_inputs.proofs.asked.near_package.Goals as goal

pub returns-in-Some : goal.returns-in-Some
returns-in-Some c =
    let key = c.args.key.now in
    let is = found_text (package_alike key) c.args.keys.now c.alike_key.result (Some c.in-Some.one) c.in-Some.is c.alike_key.ensures in
    IfOk-weaker c.package_text.result (λ (r : Option (String Global)). option_map string_bytes r ≡ package_text c.deref.result.now)
    (λ (r : Option (String Global)). option_map string_bytes r ≡ nearest_package key (texts_of (map named_key c.args.keys.now)))
    (λ r made. made ∙ (ap package_text c.deref.ensures ∙ ap (option_and_then package_text) is)) c.package_text.ensures

pub returns-in-None : goal.returns-in-None
returns-in-None c =
    ap (option_and_then package_text)
    (found_text (package_alike c.args.key.now) c.args.keys.now c.alike_key.result None c.in-None.is c.alike_key.ensures)
