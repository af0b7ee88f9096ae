use Rattle.std.proofs.Common.{◌≡◌, ◌<◌, ◌≤◌, ◌-◌, ◌∷◌, ◌∙◌, ℕ, List, ap, arith, get_or, length, rules, subst, sym}
use Rattle.wc_resolve.proofs.LongFunctionLemmas.{kept_part, kept_passed, kept_read}
use Rattle.wc_resolve.proofs.long_functions.nth_of_kept.Goals as goal

pub nth-requires-clause-there : goal.nth-requires-clause-there
nth-requires-clause-there c =
    let e = c.args.kept.now in
    let i = c.ends_passed-index.result in
    let len : c.len.result ≡ length e.parts.items = search rules in
    let test = c.if-index-len.true in
    let small : i < length e.parts.items = omega (arith, test, len) in
    let low : get_or (0 ∷ e.ends.items) i 0 ≤ c.args.n = subst (λ (z : List ℕ). get_or (0 ∷ z) i 0 ≤ c.args.n) c.deref.ensures.value c.ends_passed-index.ensures.passed in
    let next : i < length e.ends.items → c.args.n < get_or e.ends.items i 0 = subst (λ (z : List ℕ). i < length z → c.args.n < get_or z i 0) c.deref.ensures.value c.ends_passed-index.ensures.next in
    let before : c.count_before.result ≡ get_or (0 ∷ e.ends.items) i 0 = c.count_before.ensures ∙ ap (λ (z : List ℕ). get_or (0 ∷ z) i 0) c.deref-then-index-len.ensures.value in
    let at = kept_part c.args.resolve.now e i c.args.n (c.args.n - c.count_before.result) c.index.result.now c.requires.kept small c.index.ensures c.requires.small low next (ap (λ z. c.args.n - z) before) in
    c.requires.kept.2.within c.index.result.now.0 at.there

pub nth-requires-clause-more : goal.nth-requires-clause-more
nth-requires-clause-more c =
    let e = c.args.kept.now in
    let i = c.ends_passed-index.result in
    let len : c.len.result ≡ length e.parts.items = search rules in
    let test = c.if-index-len.true in
    let small : i < length e.parts.items = omega (arith, test, len) in
    let low : get_or (0 ∷ e.ends.items) i 0 ≤ c.args.n = subst (λ (z : List ℕ). get_or (0 ∷ z) i 0 ≤ c.args.n) c.deref.ensures.value c.ends_passed-index.ensures.passed in
    let next : i < length e.ends.items → c.args.n < get_or e.ends.items i 0 = subst (λ (z : List ℕ). i < length z → c.args.n < get_or z i 0) c.deref.ensures.value c.ends_passed-index.ensures.next in
    let before : c.count_before.result ≡ get_or (0 ∷ e.ends.items) i 0 = c.count_before.ensures ∙ ap (λ (z : List ℕ). get_or (0 ∷ z) i 0) c.deref-then-index-len.ensures.value in
    let at = kept_part c.args.resolve.now e i c.args.n (c.args.n - c.count_before.result) c.index.result.now c.requires.kept small c.index.ensures c.requires.small low next (ap (λ z. c.args.n - z) before) in
    at.more

pub returns-then-index-len : goal.returns-then-index-len
returns-then-index-len c =
    let e = c.args.kept.now in
    let i = c.ends_passed-index.result in
    let len : c.len.result ≡ length e.parts.items = search rules in
    let test = c.if-index-len.true in
    let small : i < length e.parts.items = omega (arith, test, len) in
    let low : get_or (0 ∷ e.ends.items) i 0 ≤ c.args.n = subst (λ (z : List ℕ). get_or (0 ∷ z) i 0 ≤ c.args.n) c.deref.ensures.value c.ends_passed-index.ensures.passed in
    let next : i < length e.ends.items → c.args.n < get_or e.ends.items i 0 = subst (λ (z : List ℕ). i < length z → c.args.n < get_or z i 0) c.deref.ensures.value c.ends_passed-index.ensures.next in
    let before : c.count_before.result ≡ get_or (0 ∷ e.ends.items) i 0 = c.count_before.ensures ∙ ap (λ (z : List ℕ). get_or (0 ∷ z) i 0) c.deref-then-index-len.ensures.value in
    let at = kept_part c.args.resolve.now e i c.args.n (c.args.n - c.count_before.result) c.index.result.now c.requires.kept small c.index.ensures c.requires.small low next (ap (λ z. c.args.n - z) before) in
    sym (at.same ∙ c.nth.ensures) ∙ kept_read c.args.resolve.now e c.args.n c.requires.kept

pub returns-else-index-len : goal.returns-else-index-len
returns-else-index-len c =
    let e = c.args.kept.now in
    let i = c.ends_passed-index.result in
    let len : c.len.result ≡ length e.parts.items = search rules in
    let test = c.if-index-len.false in
    let past : length e.parts.items ≤ i = omega (arith, test, len) in
    let low : get_or (0 ∷ e.ends.items) i 0 ≤ c.args.n = subst (λ (z : List ℕ). get_or (0 ∷ z) i 0 ≤ c.args.n) c.deref.ensures.value c.ends_passed-index.ensures.passed in
    let within : i ≤ length e.ends.items = subst (λ (z : List ℕ). i ≤ length z) c.deref.ensures.value c.ends_passed-index.ensures.within in
    kept_passed c.args.resolve.now e i c.args.n c.requires.kept within past c.requires.small low
