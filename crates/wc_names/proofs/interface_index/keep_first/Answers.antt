use Rattle.indexmap.proofs.CallerLemmas.{insert_entry-new}
use Rattle.wc_names.proofs.InterfaceIndexLemmas.{put_first}
use Rattle.wc_names.proofs.interface_index.keep_first.Goals as goal

pub returns : goal.returns
returns g c =
    put_first g.K.PartialEq.eq c.args.kept.now.entries c.insert.new.self.entries c.args.key c.args.value c.contains_key.result c.in_ok-insert.ensures.entries
    (λ none. insert_entry-new g.K.PartialEq.eq c.args.kept.now c.args.key c.args.value none) c.contains_key.ensures c.if-contains_key.false
