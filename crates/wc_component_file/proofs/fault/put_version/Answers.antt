use Rattle.wc_component_file.proofs.FaultLemmas.{put_three}
use Rattle.wc_component_file.proofs.fault.put_version.Goals as goal

pub returns : goal.returns
returns g c =
    put_three g.P.Pieces.puts g.P.Pieces.fails g.met.P.Pieces.joins _ c.put_piece.new.self c.put_piece-2.new.self c.put_piece-3.new.self _ _ _ c.put_piece-3.result c.in_ok-put_piece.ensures
    (rw c.format.ensures.text at c.in_ok-put_piece-2.ensures) c.put_piece-3.ensures
