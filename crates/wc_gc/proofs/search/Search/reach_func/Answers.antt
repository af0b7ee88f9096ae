use Rattle.std.proofs.Common.{[], ◌∷◌}
use Rattle.wc_read.specs.declared.operators.Space.TheVariants.{Types}
use Rattle.wc_read.specs.BodyOperators.{body_in}
use Rattle.wc_read.specs.Decoded.{ItemIndex, decoded_module}
use Rattle.wc_read.specs.Entries.{body_refs}
use Rattle.wc_gc.proofs.BodyCutLemmas.{func_cut, not_local}
use Rattle.wc_gc.proofs.ReachLemmas.{finds_present_then}
use Rattle.wc_gc.proofs.search.Search.reach_func.Goals as goal

pub returns-in-Local-clause-found : goal.returns-in-Local-clause-found
returns-in-Local-clause-found g c =
    let type : ItemIndex = (Types, c.args.func.ty) in
    rw c.in-Local.is (finds_present_then g.L.LiveSet.has (decoded_module c.args.adapter.now) c.args.self.now c.reach_present.new.self c.reach_body.new.self (type ∷ []) (body_refs (body_in c.in-Local.bytes.now)) c.reach_body.result
    c.in_ok-reach_present.ensures.found c.reach_body.ensures.found)

pub returns-in-Local-clause-cut : goal.returns-in-Local-clause-cut
returns-in-Local-clause-cut g c = λ ok kept. func_cut c.args.func c.in-Local.bytes c.reach_body.new.cut.stretches.items c.in-Local.is (c.reach_body.ensures.cut ok kept)

pub returns-in-Import-clause-cut : goal.returns-in-Import-clause-cut
returns-in-Import-clause-cut g c = λ ok kept body is. absurd (not_local c.args.func _ _ body c.in-Import.is is)
