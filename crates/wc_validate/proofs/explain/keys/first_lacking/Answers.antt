use Rattle.std.proofs.Common.{◌∙◌, ap, map}
use Rattle.wc_resolve.specs.Views.{key_view, world_entry}
use Rattle.wc_validate.proofs.MissingLemmas.{keys_end, keys_lack, keys_more, keys_start}
use Rattle.wc_validate.proofs.explain.keys.first_lacking.Goals as goal

pub loop-key-init : goal.loop-key-init
loop-key-init c = λ xs recorded same.
    keys_start c.args.resolve.now xs recorded (map world_entry c.args.exports.now.entries) (map key_view c.args.keys.now.keys) _
    (ap (map key_view) (c.into_iter-key-iterator.ensures.into_iter_gives ∙ c.iter-key-items.ensures.rest))

pub returns-in-Err-clause-lacking : goal.returns-in-Err-clause-lacking
returns-in-Err-clause-lacking c = λ xs recorded same.
    keys_lack c.args.resolve.now xs recorded (map world_entry c.args.exports.now.entries) (map key_view c.args.keys.now.keys) _
    (map key_view c.next.new.self) (key_view c.in-Some.key.now) c.in-Err.fault (c.loop-key.invariant xs recorded same)
    (ap (map key_view) c.in-Some.ensures.steps) (c.in-Err.ensures.fault xs recorded same)

pub loop-key-preserved : goal.loop-key-preserved
loop-key-preserved c = λ xs recorded same.
    keys_more c.args.resolve.now xs recorded (map world_entry c.args.exports.now.entries) (map key_view c.args.keys.now.keys) _
    (map key_view c.next.new.self) (key_view c.in-Some.key.now) (c.loop-key.invariant xs recorded same)
    (ap (map key_view) c.in-Some.ensures.steps) (c.in_default.ensures.met xs recorded same)

pub returns-clause-met : goal.returns-clause-met
returns-clause-met c = λ xs recorded same.
    keys_end c.args.resolve.now xs recorded (map world_entry c.args.exports.now.entries) (map key_view c.args.keys.now.keys) _
    (c.loop-key.invariant xs recorded same) (ap (map key_view) c.in-None.ensures.steps.0)
