use Rattle.wc_texts.proofs.PieceLemmas.{put_after}
use Rattle.wc_texts.proofs.fault_text.put_carried.Goals as goal

pub returns : goal.returns
returns g c =
    let puts = g.P.Pieces.puts in
    let fails = g.P.Pieces.fails in
    let joins = g.met.P.Pieces.joins in
    put_after puts fails joins _ c.put_piece.new.self c.put_pieces.new.out _ _ c.put_pieces.result c.in_ok-put_piece.ensures
    (put_after puts fails joins _ c.put_piece-2.new.self c.put_pieces.new.out _ _ c.put_pieces.result c.in_ok-put_piece-2.ensures c.put_pieces.ensures)
