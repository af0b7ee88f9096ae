use Rattle.std.proofs.Common.{◌≡◌, ◌<◌, ◌≤◌, ◌-◌, ◌∷◌, ◌∙◌, ℕ, List, ap, arith, get_or, length, rules, subst}
use Rattle.wc_resolve.specs.Futures.{entry_view}
use Rattle.wc_resolve.proofs.FuturesAtLemmas.{ends_length, part_found, parts_passed}
use Rattle.wc_resolve.proofs.futures.part_with.Goals as goal

pub returns-then-index-len-clause-found : goal.returns-then-index-len-clause-found
returns-then-index-len-clause-found c =
    let entry = c.futures_entry-entry.result.now in
    let kept = c.futures_entry-entry.ensures in
    let i = c.ends_passed-index.result in
    let len : c.len.result ≡ length entry.parts.items = search rules in
    let test = c.if-index-len.true in
    let small : i < length entry.parts.items = omega (arith, test, len) in
    let low : get_or (0 ∷ entry.ends.items) i 0 ≤ c.args.n = subst (λ (z : List ℕ). get_or (0 ∷ z) i 0 ≤ c.args.n) c.deref.ensures.value c.ends_passed-index.ensures.passed in
    let ends : length entry.ends.items ≡ length entry.parts.items = ap (λ (z : List ℕ). length z) kept.ended ∙ ends_length c.args.resolve.now.types entry.parts.items 0 in
    let inside : i < length entry.ends.items = omega (arith, ends, small) in
    let next : c.args.n < get_or entry.ends.items i 0 =
    subst (λ (z : List ℕ). i < length z → c.args.n < get_or z i 0) c.deref.ensures.value c.ends_passed-index.ensures.next inside in
    let before : c.count_before.result ≡ get_or (0 ∷ entry.ends.items) i 0 = c.count_before.ensures ∙ ap (λ (z : List ℕ). get_or (0 ∷ z) i 0) c.deref-then-index-len.ensures.value in
    part_found c.args.resolve.now.types c.args.id.0 (entry_view entry) i c.args.n (c.args.n - c.count_before.result) c.index.result.now kept small c.index.ensures c.requires.small low next
    (ap (λ z. c.args.n - z) before)

pub returns-else-index-len-clause-itself : goal.returns-else-index-len-clause-itself
returns-else-index-len-clause-itself c =
    let entry = c.futures_entry-entry.result.now in
    let i = c.ends_passed-index.result in
    let len : c.len.result ≡ length entry.parts.items = search rules in
    let test = c.if-index-len.false in
    let past : length entry.parts.items ≤ i = omega (arith, test, len) in
    let low : get_or (0 ∷ entry.ends.items) i 0 ≤ c.args.n = subst (λ (z : List ℕ). get_or (0 ∷ z) i 0 ≤ c.args.n) c.deref.ensures.value c.ends_passed-index.ensures.passed in
    let within : i ≤ length entry.ends.items = subst (λ (z : List ℕ). i ≤ length z) c.deref.ensures.value c.ends_passed-index.ensures.within in
    λ small. parts_passed c.args.resolve.now.types c.args.id.0 (entry_view entry) i c.args.n c.futures_entry-entry.ensures within past c.requires.small low small
