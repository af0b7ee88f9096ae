use Rattle.std.proofs.Common.{◌<◌, ◌∙◌, length, ap, refl, subst, sym}
use Rattle.std.specs.Prelude.{All}
use Rattle.wc_paths.specs.Counts.{counts_value}
use Rattle.wc_paths.specs.Items.{CountsValue}
use Rattle.wc_paths.proofs.PathLemmas.{numbers_below, numbers_parts}
use Rattle.wc_import_paths.proofs.ReachedLemmas.{closed_by, fault_is, found_by}
use Rattle.wc_import_paths.proofs.reached.found_from.Goals as goal

pub find_all-requires : goal.find_all-requires
find_all-requires c =
    let r = c.args.rows.now in
    subst (All (λ k. k < length r.rows.closed.items)) (sym (c.deref.ensures.value ∙ c.in_ok-numbers.ensures))
    (subst (λ n. All (λ k. k < n) (numbers_parts (counts_value r.counts) c.args.roots.now)) (sym r.sized) (numbers_below (counts_value r.counts) c.args.roots.now))

pub returns-in-Ok-clause-found : goal.returns-in-Ok-clause-found
returns-in-Ok-clause-found c g h =
    found_by g c.args.rows.now h c.args.roots.now c.deref.result.now
    (c.deref.ensures.value ∙ (c.in_ok-numbers.ensures ∙ ap (λ (z : CountsValue). numbers_parts z c.args.roots.now) h.counted)) c.in-Ok.tree c.in-Ok.ensures.tree

pub returns-in-Ok-clause-closed : goal.returns-in-Ok-clause-closed
returns-in-Ok-clause-closed c g h ok =
    closed_by g c.args.rows.now h c.args.roots.now c.deref.result.now
    (c.deref.ensures.value ∙ (c.in_ok-numbers.ensures ∙ ap (λ (z : CountsValue). numbers_parts z c.args.roots.now) h.counted)) (c.in-Ok.ensures.closed refl)

pub returns-clause-fault : goal.returns-clause-fault
returns-clause-fault c g h =
    let f = rw c.in-Err-NotClosed.field-0-is at c.in-Err-NotClosed.ensures.fault in
    fault_is g c.args.rows.now h c.args.roots.now c.deref.result.now
    (c.deref.ensures.value ∙ (c.in_ok-numbers.ensures ∙ ap (λ (z : CountsValue). numbers_parts z c.args.roots.now) h.counted)) c.in-Err-NotClosed.number
    c.item_at.result c.item_at.ensures c.live_body.result c.live_body.ensures f.0 f.1
