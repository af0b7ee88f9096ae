use Rattle.wc_selection.proofs.FaultLemmas.{put_twice}
use Rattle.wc_selection.proofs.fault.RequestFaultFaultText.put_pieces.Goals as goal

pub returns-in_ok-put_quoted-in-RepeatedKey : goal.returns-in_ok-put_quoted-in-RepeatedKey
returns-in_ok-put_quoted-in-RepeatedKey g c =
    rw c.in-RepeatedKey.is
    (put_twice g.P.Pieces.puts g.P.Pieces.fails g.met.P.Pieces.joins c.args.out.now c.put_quoted-in-RepeatedKey.new.out c.put_piece-in-RepeatedKey.new.self
    c.in-RepeatedKey.key.now c.put_piece-in-RepeatedKey.result c.in_ok-put_quoted-in-RepeatedKey.ensures c.put_piece-in-RepeatedKey.ensures)
