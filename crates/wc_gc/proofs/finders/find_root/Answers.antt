use Rattle.std.proofs.Common.{◌≡◌, sym, ◌∙◌, subst, refl, [], ◌∷◌, true, false, inl, inr}
use Rattle.std.proofs.lemmas.Bool.{not-true, not-false}
use Rattle.wc_gc.specs.Bits.{bit_of}
use Rattle.wc_gc.specs.Live.{has_item}
use Rattle.wc_graph.specs.Growth.{HasGrown}
use Rattle.wc_graph.proofs.GrowthLemmas.{grown_old, grown_push}
use Rattle.wc_gc.proofs.SearchLemmas.{items_decided}
use Rattle.wc_gc.proofs.finders.find_root.Goals as goal

pub returns-in_ok-push-2 : goal.returns-in_ok-push-2
returns-in_ok-push-2 c =
    let old = has_item (λ b. bit_of b.words.items) c.args.roots.now.search.live in
    let new = has_item (λ b. bit_of b.words.items) c.insert.new.self in
    let none : old c.args.item ≡ false = not-true (old c.args.item) (sym c.in_ok-insert.ensures.new ∙ c.if-branch.true) in
    record {
      found = λ tied. subst (λ z. HasGrown c.args.roots.now.search.order.items new z (c.args.item ∷ [])) (sym c.in_ok-push.ensures.items)
          (grown_push items_decided old new c.args.roots.now.search.order.items c.args.item none c.in_ok-insert.ensures.inserts tied);
      added = inr (none, c.in_ok-push.ensures.items, c.in_ok-push-2.ensures.items);
    }

pub returns-else-branch : goal.returns-else-branch
returns-else-branch c =
    let old = has_item (λ b. bit_of b.words.items) c.args.roots.now.search.live in
    let new = has_item (λ b. bit_of b.words.items) c.insert.new.self in
    let there : old c.args.item ≡ true = not-false (old c.args.item) (sym c.in_ok-insert.ensures.new ∙ c.if-branch.false) in
    record {
      found = λ tied. grown_old items_decided old new c.args.roots.now.search.order.items c.args.item there c.in_ok-insert.ensures.inserts tied;
      added = inl (there, refl, refl);
    }
