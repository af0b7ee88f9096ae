use Rattle.std.proofs.Common.{◌<◌, length, rules}
use Rattle.std.proofs.lemmas.List.{get_or_read}
use Rattle.wc_graph.proofs.LabelLemmas.{come_already, come_more}
use Rattle.wc_graph.proofs.labels.Spreading.add.Goals as goal

pub returns-in_ok-push-in-Some-clause-come : goal.returns-in_ok-push-in-Some-clause-come
returns-in_ok-push-in-Some-clause-come c =
    let within : c.args.item < length c.args.self.now.words.items = search rules in
    come_more c.args.word c.args.item c.index.result.now c.in-Some.all c.args.self.now.words.items c.args.self.now.waiting.items c.push.new.self.items within
    (get_or_read c.args.self.now.words.items c.args.item c.index.result.now within c.index.ensures 0) c.in_ok-push-in-Some.ensures.items c.in-Some.ensures

pub returns-in-None-clause-come : goal.returns-in-None-clause-come
returns-in-None-clause-come c =
    let within : c.args.item < length c.args.self.now.words.items = search rules in
    come_already c.args.word c.args.item c.index.result.now c.args.self.now.words.items c.args.self.now.waiting.items
    (get_or_read c.args.self.now.words.items c.args.item c.index.result.now within c.index.ensures 0) c.in-None.ensures
