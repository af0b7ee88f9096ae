use Rattle.wc_why_text.proofs.RustNameLemmas.{pieces_more}
use Rattle.wc_why_text.proofs.name_parts.push_pieces.Goals as goal

pub loop-preserved : goal.loop-preserved
loop-preserved c =
    pieces_more c.args.text.now _ _ c.args.out.now.items c.loop.out.items c.push_piece.new.out.items c.loop.counter c.loop-test.true c.loop.invariant c.in_ok-rest.ensures
