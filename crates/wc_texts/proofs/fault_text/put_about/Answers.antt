use Rattle.wc_texts.proofs.PieceLemmas.{put_after}
use Rattle.wc_texts.proofs.fault_text.put_about.Goals as goal

pub returns : goal.returns
returns g c =
    let puts = g.P.Pieces.puts in
    let fails = g.P.Pieces.fails in
    let joins = g.met.P.Pieces.joins in
    let last = c.put_pieces.new.out in
    let result = c.put_pieces.result in
    put_after puts fails joins _ c.put_piece.new.self last _ _ result c.in_ok-put_piece.ensures
    (put_after puts fails joins _ c.put_piece-2.new.self last _ _ result c.in_ok-put_piece-2.ensures
    (put_after puts fails joins _ c.put_piece-3.new.self last _ _ result c.in_ok-put_piece-3.ensures
    (put_after puts fails joins _ c.put_piece-4.new.self last _ _ result c.in_ok-put_piece-4.ensures c.put_pieces.ensures)))
