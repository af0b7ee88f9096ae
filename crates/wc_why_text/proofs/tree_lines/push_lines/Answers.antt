use Rattle.std.proofs.Common.{◌≡◌, ◌+◌, ◌≤◌, ◌∙◌, ◌++◌, [], ap, append-nil, append_assoc, arith, length, map, string_bytes, subst, sym}
use Rattle.wc_why.specs.Tree.{tree_module_view}
use Rattle.wc_why_text.proofs.LinesLemmas.{ArePassed, passed_all, passed_more, passed_none}
use Rattle.wc_why_text.proofs.tree_lines.push_lines.Goals as goal

pub loop-way-init : goal.loop-way-init
loop-way-init c = ([], sym (append-nil (string_bytes c.args.text.now)), passed_none _ _ _ _ c.with_hasher-above.ensures.empty)

pub loop-way-preserved : goal.loop-way-preserved
loop-way-preserved c =
    let many = c.args.of_component in
    let before = c.loop-way.invariant in
    let i = c.loop-way.way-index in
    let above = c.loop-way.above.keys in
    let lines = string_bytes c.in_ok-lines.lines in
    let ways = c.deref-way-items.ensures.value in
    let modules : map tree_module_view c.deref.result.now ≡ map tree_module_view c.args.tree.now.modules.items = ap (map tree_module_view) c.deref.ensures.value in
    let passed =
    subst (λ m. ArePassed many m c.deref-way-items.result.now i above before.0) (sym modules)
    (subst (λ ws. ArePassed many (map tree_module_view c.args.tree.now.modules.items) ws i above before.0) (sym ways) before.2) in (
      before.0 ++ lines,
      c.in_ok-push_str.ensures.bytes ∙ ap (λ l. string_bytes c.loop-way.text ++ l) c.deref-in-loop-way.ensures ∙ ap (λ l. l ++ lines) before.1
          ∙ append_assoc (string_bytes c.args.text.now) before.0 lines,
      subst (λ ws. ArePassed many (map tree_module_view c.args.tree.now.modules.items) ws (i + 1) c.next_lines.new.above.keys (before.0 ++ lines)) ways
          (subst (λ m. ArePassed many m c.deref-way-items.result.now (i + 1) c.next_lines.new.above.keys (before.0 ++ lines)) modules
          (passed_more many (map tree_module_view c.deref.result.now) c.deref-way-items.result.now i _ above c.next_lines.new.above.keys before.0 lines
          c.loop-way-test.true passed c.in_ok-lines.ensures.lines c.in_ok-lines.ensures.above)),
    )

pub returns : goal.returns
returns c =
    let before = c.loop-way.invariant in
    let items = c.args.tree.now.ways.items in
    let end : length items ≤ c.loop-way.way-index = omega (arith, c.loop-way-test.false, ap length c.deref-way-items.ensures.value) in
    before.1 ∙ ap (λ l. string_bytes c.args.text.now ++ l)
    (passed_all c.args.of_component (map tree_module_view c.args.tree.now.modules.items) items c.loop-way.way-index c.loop-way.above.keys before.0 end before.2)
