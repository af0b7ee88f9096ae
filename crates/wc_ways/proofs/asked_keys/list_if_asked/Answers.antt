use Rattle.std.proofs.Common.{◌≡◌, ◌∙◌, List, Some, ap, option_map, rules, string_bytes, sym, ℕ}
use Rattle.std.proofs.lemmas.Result.{on_ok_weaker}
use Rattle.wc_resolve.specs.Dependencies.{id_of_interface}
use Rattle.wc_ways.specs.Private.AskedKeys.{imported_shown}
use Rattle.wc_ways.proofs.AskedKeyLemmas.{lists_own, lists_shown, lists_unnamed}
use Rattle.wc_ways.proofs.asked_keys.list_if_asked.Goals as goal

pub returns-in-Some-interface : goal.returns-in-Some-interface
returns-in-Some-interface c =
    let text : c.deref.result.now ≡ string_bytes c.in-Some.name = search rules in
    on_ok_weaker c.list_text.result
    (lists_shown c.args.names.now.entries c.args.key.now (imported_shown c.args.import) c.deref.result.now c.in-Some-interface.id.0 c.list_text.new.names.entries
    (ap (option_map string_bytes) c.in-Some.is ∙ ap (λ (z : List ℕ). Some z) (sym text)) (ap (option_map id_of_interface) c.in-Some-interface.is))
    c.list_text.ensures

pub returns-in-None-interface : goal.returns-in-None-interface
returns-in-None-interface c =
    lists_own c.args.names.now.entries c.args.key.now (imported_shown c.args.import) (ap (option_map id_of_interface) c.in-None-interface.is)

pub returns-in-None : goal.returns-in-None
returns-in-None c =
    lists_unnamed c.args.names.now.entries c.args.key.now (imported_shown c.args.import) (ap (option_map string_bytes) c.in-None.is)
