use Rattle.std.proofs.Common.{◌<◌, arith, length, map}
use Rattle.wc_why.specs.Texts.{text_of}
use Rattle.wc_module_ways.proofs.ImportLemmas.{outside_next}
use Rattle.wc_module_ways.proofs.imports.names_outside.Goals as goal

pub loop-name-preserved : goal.loop-name-preserved
loop-name-preserved c always same =
    let within : c.loop-name.name-index < length c.args.names.now = omega arith in
    outside_next (map text_of c.args.set.now.keys) always same c.args.names.now c.loop-name.name-index _ c.loop-name.wanted.entries
    c.note_outside.new.wanted.entries within c.in_ok-note_outside.ensures.in_set c.in_ok-note_outside.ensures.outside (c.loop-name.invariant always same)
