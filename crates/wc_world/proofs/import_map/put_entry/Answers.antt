use Rattle.wc_world.proofs.KeyedLemmas.{entry_put}
use Rattle.wc_world.proofs.import_map.put_entry.Goals as goal

pub returns : goal.returns
returns c = λ distinct. entry_put c.args.entries.now.entries c.insert.new.self.entries (c.args.name, c.args.imported) c.in_ok-insert.ensures.entries distinct
