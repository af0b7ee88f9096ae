use Rattle.std.proofs.Common.{◌≡◌, arith, codes, length, subst}
use Rattle.json.specs.Tree.{json_tokens}
use Rattle.wc_why_text.specs.Private.Tokens.{Puts}
use Rattle.wc_why_text.specs.TreeJson.{module_json}
use Rattle.wc_why.specs.Tree.{tree_module_view}
use Rattle.wc_why_text.proofs.TokenLemmas.{both, list_done, list_more, wrote, wrote_last}
use Rattle.wc_why_text.proofs.tree_json.put_modules.Goals as goal

pub loop-module-init : goal.loop-module-init
loop-module-init c = both (wrote c.in_ok-key.ensures) (wrote c.in_ok-begin_array.ensures)

pub loop-module-preserved : goal.loop-module-preserved
loop-module-preserved c =
    list_more (codes "modules") module_json tree_module_view c.args.modules.now c.loop-module.module-index c.module-item.result c.loop-module-test.true c.loop-module.invariant
    (subst (λ z. Puts c.loop-module.out c.put_module.new.out (json_tokens (module_json (tree_module_view z)))) c.module-item.is
    c.in_ok-put_module.ensures)

pub returns : goal.returns
returns c =
    let end : c.loop-module.module-index ≡ length c.args.modules.now = omega (arith, c.loop-module-test.false, c.loop-module.auto.module-index-end) in
    list_done (codes "modules") module_json tree_module_view c.args.modules.now _ c.loop-module.module-index c.end_array.result end c.loop-module.invariant (wrote_last _ _ _ _ c.end_array.ensures)
