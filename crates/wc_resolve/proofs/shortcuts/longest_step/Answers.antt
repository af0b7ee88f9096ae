use Rattle.std.proofs.Common.{◌≡◌, ◌<◌, ◌∷◌, ◌∙◌, ℕ, List, ap, arith, get_or, length, rules}
use Rattle.wc_resolve.specs.Futures.{entry_view}
use Rattle.wc_resolve.proofs.ShortcutLemmas.{step_right}
use Rattle.wc_resolve.proofs.shortcuts.longest_step.Goals as goal

pub returns-then-index-len : goal.returns-then-index-len
returns-then-index-len c = λ types x kept.
    let entry = c.args.entry.now in
    let i = c.longest_part-index.result in
    let len : c.len.result ≡ length entry.parts.items = search rules in
    let test = c.if-index-len.true in
    let small : i < length entry.parts.items = omega (arith, test, len) in
    step_right types x (entry_view entry) i _ kept small c.index.ensures (c.count_before.ensures ∙ ap (λ (z : List ℕ). get_or (0 ∷ z) i 0) c.deref-then-index-len.ensures.value)
