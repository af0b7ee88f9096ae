use Rattle.std.proofs.Common.{ℕ, List, [], map, get_or, refl, rules}
use Rattle.std.specs.Borrow.{Bor}
use Rattle.std.proofs.lemmas.Slice.Eq.{bytes_eq-Decides}
use Rattle.wc_maps.proofs.SeenLemmas.{seen_more}
use Rattle.wc_maps.proofs.FirstLemmas.{next_left, repeated_at}
use Rattle.wc_maps.proofs.texts.first_repeated.Goals as goal
use Rattle.wc_maps.specs.Texts.{text_of}

pub returns-then-not-branch-clause-repeated : goal.returns-then-not-branch-clause-repeated
returns-then-not-branch-clause-repeated c =
    let d : Bor (List ℕ) = record { ref_ptr = (0, 0); now = [] } in
    let text : Bor (List ℕ) = get_or c.args.texts.now c.loop-text.text-index d in
    repeated_at c.args.texts.now _ _ _ c.loop-text.seen.keys text.now c.in_ok-insert.field-0 (λ y. bytes_eq-Decides text.now y.now) c.loop-text.invariant
    (next_left c.args.texts.now c.loop-text.text-index d (search rules)) c.in_ok-insert.ensures.added c.if-not-branch.true

pub loop-text-preserved : goal.loop-text-preserved
loop-text-preserved c =
    let d : Bor (List ℕ) = record { ref_ptr = (0, 0); now = [] } in
    let text : Bor (List ℕ) = get_or c.args.texts.now c.loop-text.text-index d in
    seen_more text_of (map text_of c.args.texts.now) _ _ _ c.loop-text.seen.keys c.insert.new.self.keys text text.now c.in_ok-insert.field-0
    (λ y. bytes_eq-Decides text.now y.now) refl c.loop-text.invariant
    (next_left c.args.texts.now c.loop-text.text-index d (search rules)) c.in_ok-insert.ensures.added c.if-not-branch.false c.in_ok-insert.ensures.keys
