use Rattle.wc_gc.proofs.BodyCutLemmas.{none_cut, none_within}
use Rattle.wc_gc.proofs.body_cuts.BodyCuts.new.Goals as goal

pub invariant_of-result : goal.invariant_of-result
invariant_of-result c = record { within = rw (c.in_ok-no_spans.ensures, c.new-2.ensures.items) (none_within c.args.places) }

pub returns : goal.returns
returns c = λ funcs. rw (c.in_ok-no_spans.ensures, c.new-2.ensures.items) (none_cut funcs c.args.places)
