-- Globals of the small machine.
use Rattle.std.proofs.Common.{◌≢◌, ℕ, get_or, ◌∙◌, ap, arith}
use Rattle.std.specs.Prelude.{Some, slice_set}
use Rattle.std.proofs.Math.ListN.{length-set}
use Rattle.std.proofs.lemmas.List.{get_or-set_same, get_or-set_other}
use Rattle.std.proofs.lemmas.Option.{slice_get_within, slice_get-get_or, get_or_from_slice_get}
use Rattle.wc_gc.specs.Machine.{Store, with_global}
use Rattle.wc_gc.specs.MachineLaws.{IsGlobal, IsThere}

pub global_at : (s : Store) (n : ℕ) → IsThere s n → IsGlobal s n (get_or s.globals n 0)
global_at s n h = slice_get-get_or s.globals n 0 h

pub is_there : (s : Store) (n x : ℕ) → IsGlobal s n x → IsThere s n
is_there s n x h = slice_get_within s.globals n x h

module _ (s : Store) (n x : ℕ) where
  pub there_stays : (m : ℕ) → IsThere s m → IsThere (with_global s n x) m
  there_stays m h = omega (arith, length-set s.globals n x)

  pub global_set : IsThere s n → IsGlobal (with_global s n x) n x
  global_set h = slice_get-get_or (slice_set s.globals n x) n 0 (there_stays n h) ∙ ap Some (get_or-set_same s.globals n x 0 h)

  pub global_kept : (m v : ℕ) → m ≢ n → IsGlobal s m v → IsGlobal (with_global s n x) m v
  global_kept m v other h =
      slice_get-get_or (slice_set s.globals n x) m 0 (there_stays m (is_there s m v h))
      ∙ ap Some (get_or-set_other s.globals n m x 0 other ∙ get_or_from_slice_get s.globals m v 0 h)
