use Rattle.std.proofs.Common.{length}
use Rattle.wc_gc.specs.Private.Edit.{IsCodedAt}
use Rattle.wc_gc.proofs.NumbersBelowLemmas.{all_below}
use Rattle.wc_gc.proofs.assemble.append_funcs.Goals as goal

pub append_funcs_at-requires-clause-coded : goal.append_funcs_at-requires-clause-coded
append_funcs_at-requires-clause-coded g c =
    rw (c.deref.ensures.value, c.in_ok-indices.ensures) (all_below (IsCodedAt c.args.funcs.now) (g.L.LiveSet.has c.args.kept.now) (λ n h f at. c.requires.coded n f h at) (length c.args.funcs.now))

pub returns : goal.returns
returns g c = rw (c.deref.ensures.value, c.in_ok-indices.ensures, c.reserve_exact.ensures.items) at c.append_funcs_at.ensures
