use Rattle.std.proofs.Common.{map}
use Rattle.wc_resolve.specs.Views.{key_view, world_entry}
use Rattle.wc_validate.specs.Explain.{subject_view}
use Rattle.wc_validate.proofs.BuiltinLemmas.{not_so}
use Rattle.wc_validate.proofs.MissingLemmas.{key_lacks, key_placed}
use Rattle.wc_validate.proofs.explain.keys.key_place.Goals as goal

pub returns : goal.returns
returns c = λ xs recorded keys same lack.
    key_placed c.args.names.now.resolve.now xs recorded (map world_entry c.args.names.now.world.now.exports.entries) keys
    (key_view c.args.lacking.now.key.now) c.args.lacking.now.fault (subject_view c.in-Some.subject) lack
    (not_so _ _ c.is_memory.ensures c.if-is_memory.false)
    (λ need is. (rw c.in-Some.is at c.in_ok-subject.ensures) need is recorded same)

pub unreachable-requires : goal.unreachable-requires
unreachable-requires c =
    key_lacks c.args.names.now c.args.functions.now.keys c.args.lacking.now c.requires.stopped (not_so _ _ c.is_memory.ensures c.if-is_memory.false)
    (rw c.in-None.is at c.in_ok-subject.ensures)
