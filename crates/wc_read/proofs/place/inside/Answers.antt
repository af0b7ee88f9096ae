use Rattle.std.proofs.Common.{refl, arith}
use Rattle.wc_read.proofs.PlaceLemmas.{content_fits, in_last, read_lengths}
use Rattle.wc_read.proofs.place.inside.Goals as goal

pub returns-clause-place : goal.returns-clause-place
returns-clause-place c =
    let r = c.requires.read in
    record {
      within = omega (arith, c.passed.ensures.exact, read_lengths _ _ _ r, content_fits _ _ r.has_section, c.requires.bounded);
      in_section = in_last _ _ _ _ _ r (rw c.passed.ensures.exact refl) c.requires.bounded;
    }
