use Rattle.std.proofs.Common.{◌≡◌, ◌∙◌, List, ℕ, Option, Some, None, String, Global, ap, map, option_map, string_bytes}
use Rattle.std.proofs.lemmas.Result.{IfOk-weaker}
use Rattle.std.specs.Option.{option_or}
use Rattle.wc_selection.specs.Keys.{named_key, texts_of}
use Rattle.wcplan_inputs.specs.Asked.{nearest_import, nearest_package}
use Rattle.wcplan_inputs.specs.Nearest.{is_near}
use Rattle.wcplan_inputs.proofs.AskedLemmas.{found_text}
use Rattle.wcplan_inputs.proofs.asked.near_import.Goals as goal

pub returns-in_ok-clone-in-Some : goal.returns-in_ok-clone-in-Some
returns-in_ok-clone-in-Some c =
    let key = c.args.key.now in
    ap Some c.in_ok-clone-in-Some.ensures.cases
    ∙ ap (λ (near : Option (List ℕ)). option_or near (nearest_package key (texts_of (map named_key c.args.keys.now))))
    (found_text (is_near key) c.args.keys.now c.near_key.result (Some c.in-Some.one) c.in-Some.is c.near_key.ensures)

pub returns-in-None : goal.returns-in-None
returns-in-None c =
    let key = c.args.key.now in
    let texts = texts_of (map named_key c.args.keys.now) in
    let none = found_text (is_near key) c.args.keys.now c.near_key.result None c.in-None.is c.near_key.ensures in
    IfOk-weaker c.near_package.result (λ (r : Option (String Global)). option_map string_bytes r ≡ nearest_package key texts)
    (λ (r : Option (String Global)). option_map string_bytes r ≡ nearest_import key texts)
    (λ r is. is ∙ ap (λ (near : Option (List ℕ)). option_or near (nearest_package key texts)) none) c.near_package.ensures
