use Rattle.std.proofs.Common.{ℕ, ◌+◌, List, [], map, take, get_or, rules, subst}
use Rattle.std.specs.Borrow.{Bor}
use Rattle.std.proofs.lemmas.List.{take_all}
use Rattle.wc_maps.proofs.ListLemmas.{passed_more}
use Rattle.wc_maps.proofs.SetLemmas.{set_more}
use Rattle.wc_maps.proofs.texts.text_set.Goals as goal
use Rattle.wc_maps.specs.Texts.{HasTexts, text_of}

pub loop-text-preserved : goal.loop-text-preserved
loop-text-preserved c =
    let d : Bor (List ℕ) = record { ref_ptr = (0, 0); now = [] } in
    let text : Bor (List ℕ) = get_or c.args.texts.now c.loop-text.text-index d in
    set_more (map text_of (take c.loop-text.text-index c.args.texts.now)) (map text_of (take (c.loop-text.text-index + 1) c.args.texts.now))
    c.loop-text.set.keys c.insert.new.self.keys text (passed_more text_of c.args.texts.now c.loop-text.text-index d (search rules))
    c.in_ok-insert.ensures.keys c.loop-text.invariant

pub returns : goal.returns
returns c =
    subst (λ (l : List (Bor (List ℕ))). HasTexts (map text_of l) (map text_of c.loop-text.set.keys)) (take_all c.loop-text.text-index c.args.texts.now (search rules))
    c.loop-text.invariant
