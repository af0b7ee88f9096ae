use Rattle.std.proofs.Common.{rules}
use Rattle.wcwhy.proofs.tree.put_json.Goals as goal

pub returns-clause-done : goal.returns-clause-done
returns-clause-done g c = (
  c.in_ok-text.text.items,
  record { is = c.in_ok-text.ensures.text; back = c.in_ok-text.ensures.reads_back },
  search rules,
)
