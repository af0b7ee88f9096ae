use Rattle.std.proofs.Math.Path.{fun_ext}
use Rattle.wc_gc.proofs.new_indices.SpaceRanks.new.Goals as goal

pub returns : goal.returns
returns g c = record {
  types = fun_ext c.in_ok-ranks.ensures.same;
  imports = fun_ext c.in_ok-ranks-2.ensures.same;
  defined = fun_ext c.in_ok-ranks-3.ensures.same;
  tables = fun_ext c.in_ok-ranks-4.ensures.same;
  memories = fun_ext c.in_ok-ranks-5.ensures.same;
  globals = fun_ext c.in_ok-ranks-6.ensures.same;
}
