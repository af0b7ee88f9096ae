use Rattle.std.proofs.Common.{ℕ, ◌/◌, ◌%◌, get_or, sym, ◌∙◌, ap, subst, bit_or, bit_and, set}
use Rattle.std.specs.Prelude.{◌==◌}
use Rattle.wc_gc.specs.Bits.{bit_of}
use Rattle.wc_graph.specs.Growth.{Inserts}
use Rattle.wc_gc.proofs.BitLemmas.{new_bit, inserts_bit, mask_is}
use Rattle.wc_gc.proofs.live.set_bit.Goals as goal

pub returns-clause-new : goal.returns-clause-new
returns-clause-new c =
    ap (λ (z : ℕ). bit_and (get_or c.args.words.now (c.args.x / 64) 0) z == 0) (mask_is c.args.x) ∙ new_bit (get_or c.args.words.now (c.args.x / 64) 0) (c.args.x % 64)

pub returns-clause-inserts : goal.returns-clause-inserts
returns-clause-inserts c =
    subst (λ (z : ℕ). Inserts (bit_of c.args.words.now) (bit_of (set c.args.words.now (c.args.x / 64) (bit_or (get_or c.args.words.now (c.args.x / 64) 0) z))) c.args.x) (sym (mask_is c.args.x))
    (inserts_bit c.args.words.now c.args.x c.requires)
