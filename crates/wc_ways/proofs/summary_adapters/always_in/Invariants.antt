use Rattle.wc_validate.specs.Exports.Iter.{exports_left}
use Rattle.wc_ways.proofs.WantedLemmas.{NamesLeft}
use Rattle.wc_ways.proofs.summary_adapters.always_in.Given as goal

abbrev pub invariant-loop-name : goal.invariant-loop-name
invariant-loop-name l = NamesLeft l.exports (exports_left l.name-iterator) l.names.keys
