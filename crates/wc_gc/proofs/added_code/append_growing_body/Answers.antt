use Rattle.std.proofs.Common.{◌≡◌, subst, List, ℕ}
use Rattle.std.specs.Prelude.{OnOk}
use Rattle.wc_gc.proofs.AddedCodeLemmas.{growing_written}
use Rattle.wc_gc.proofs.added_code.append_growing_body.Goals as goal

pub returns : goal.returns
returns c = subst (λ (z : List ℕ). OnOk c.append_code.result (c.append_code.new.out.items ≡ z)) (growing_written c.args.page_size_log2 _ _ _ _ _ _ _ c.in_ok-append_locals.ensures c.in_ok-append_trap_unless.ensures c.in_ok-append_trap_unless-2.ensures c.in_ok-append_trap_unless-3.ensures c.in_ok-append_growth.ensures c.in_ok-append_shift.ensures) c.append_code.ensures
