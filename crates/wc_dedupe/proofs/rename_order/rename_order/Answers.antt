use Rattle.std.proofs.Common.{rules}
use Rattle.std.specs.Ordering.{is_lt}
use Rattle.std.proofs.lemmas.Fn.{always_returns_same}
use Rattle.std.proofs.lemmas.List.Sorted.{ranks_by}
use Rattle.wc_dedupe.specs.Private.NameKeys.{NameKey}
use Rattle.wc_dedupe.specs.Private.RenameOrder.{name_at, key_cmp}
use Rattle.wc_dedupe.proofs.OrderLemmas.{numbered_total, name_order}
use Rattle.wc_dedupe.proofs.rename_order.rename_order.Goals as goal

pub returns : goal.returns
returns c =
    let renames = c.args.renames.now in
    let weak = ranks_by numbered_total (λ (e : NameKey). (e.0, name_at renames e.1)) in
    name_order c.args.renames.now _ _ c.in_ok-order.ensures c.in_ok-sort_by.ensures.permutation
    (c.in_ok-sort_by.ensures.sorted (λ e f. is_lt (key_cmp renames e f.0 (name_at renames f.1))) weak (always_returns_same _ _ _ (λ a r f' called. (search rules, search rules))))
