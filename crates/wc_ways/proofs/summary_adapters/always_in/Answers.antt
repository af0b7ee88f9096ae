use Rattle.std.proofs.Common.{refl, rules}
use Rattle.wc_names.specs.ExportViews.{export_view}
use Rattle.wc_validate.specs.Exports.Iter.{exports_left}
use Rattle.wc_ways.proofs.WantedLemmas.{names_all, names_next, names_none}
use Rattle.wc_ways.proofs.summary_adapters.always_in.Goals as goal

pub loop-name-init : goal.loop-name-init
loop-name-init c = names_none c.args.exports.now (exports_left c.into_iter-name-iterator.result) c.with_hasher-names.result.keys (search rules) (search rules)

pub loop-name-preserved : goal.loop-name-preserved
loop-name-preserved c =
    names_next c.args.exports.now (exports_left c.loop-name.name-iterator) (exports_left c.next.new.self) (c.in-Some.name.now, export_view c.in-Some._export.now)
    c.in-Some.name c.loop-name.names.keys c.insert.new.self.keys c.in-Some.ensures.steps refl c.in_ok-insert.ensures.keys c.loop-name.invariant

pub returns : goal.returns
returns c = names_all c.args.exports.now (exports_left c.loop-name.name-iterator) c.loop-name.names.keys c.in-None.ensures.steps.0 c.loop-name.invariant
