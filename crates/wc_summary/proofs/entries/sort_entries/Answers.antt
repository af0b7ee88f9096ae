use Rattle.std.proofs.Common.{rules}
use Rattle.std.proofs.lemmas.Fn.{always_returns_same}
use Rattle.std.proofs.lemmas.Result.{on_ok_weaker}
use Rattle.wc_summary.proofs.OrderLemmas.{listed_sorted, rank_at}
use Rattle.wc_summary.proofs.entries.sort_entries.Goals as goal

pub returns : goal.returns
returns c =
    on_ok_weaker c.sort_by_key.result
    (λ sorted. listed_sorted c.args.entries.now.entries c.sort_by_key.new.self.entries
    (sorted rank_at (always_returns_same _ _ _ (λ a r f' called. (search rules, search rules))))
    (c.sort_by_key.ensures.stable rank_at (always_returns_same _ _ _ (λ a r f' called. (search rules, search rules))))
    c.sort_by_key.ensures.reordered.0)
    c.sort_by_key.ensures.sorted
