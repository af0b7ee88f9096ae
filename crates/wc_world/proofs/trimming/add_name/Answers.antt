use Rattle.wc_world.proofs.NameLemmas.{name_added}
use Rattle.wc_world.proofs.trimming.add_name.Goals as goal

pub returns : goal.returns
returns c = λ passed h. name_added c.args.names.now.keys c.insert_full.new.self.keys c.in_ok-from_str.field-0 c.args.name.now passed c.in_ok-from_str.ensures.ok c.in_ok-insert_full.ensures.keys c.in_ok-insert_full.ensures.updates.0 h
