use Rattle.std.proofs.Common.{◌≡◌, ◌+◌, ◌∷◌, ◌++◌, Some, drop, sym, ap, ◌∙◌, arith, string_bytes}
use Rattle.std.specs.Option.{option_map}
use Rattle.wc_json.specs.Paths.{index_step}
use Rattle.wc_json.specs.RepeatedMembers.{name_step}
use Rattle.std.proofs.lemmas.List.{drop_more}
use Rattle.wc_json.proofs.RepeatedMemberLemmas.{item_none, item_some, member_again, member_none, member_some, was_new, was_there}
use Rattle.wc_json.proofs.repeated_members.+path.Goals as goal

pub path_in_items-returns-in-Some : goal.path_in_items-returns-in-Some
path_in_items-returns-in-Some t c =
    let l = c.loop-index in
    let xs = c.deref-item-items.result.now in
    let x = c.item-item.result in
    let here : drop l.index xs ≡ x ∷ drop (l.index + 1) xs = drop_more xs l.index x (omega arith) ∙ ap (λ y. y ∷ drop (l.index + 1) xs) (sym c.item-item.is) in
    ap Some (c.in_ok-path_at.ensures ∙ ap (λ p. index_step l.index ++ p) c.deref.ensures) ∙ sym (item_some xs l.index x here _ (sym (ap (option_map string_bytes) c.in-Some.is) ∙ c.in_ok-path.ensures)) ∙ l.invariant

pub path_in_items-loop-index-preserved : goal.path_in_items-loop-index-preserved
path_in_items-loop-index-preserved t c =
    let l = c.loop-index in
    let xs = c.deref-item-items.result.now in
    let x = c.item-item.result in
    let here : drop l.index xs ≡ x ∷ drop (l.index + 1) xs = drop_more xs l.index x (omega arith) ∙ ap (λ y. y ∷ drop (l.index + 1) xs) (sym c.item-item.is) in
    sym (item_none xs l.index x here (sym (ap (option_map string_bytes) c.in_default.is) ∙ c.in_ok-path.ensures)) ∙ l.invariant

pub path_in_members-returns-then-not-branch : goal.path_in_members-returns-then-not-branch
path_in_members-returns-then-not-branch t c =
    let l = c.loop-member in
    let ms = c.deref-member-items.result.now in
    let m = c.member-item.result in
    let here : drop l.member-index ms ≡ m ∷ drop (l.member-index + 1) ms = drop_more ms l.member-index m (omega arith) ∙ ap (λ y. y ∷ drop (l.member-index + 1) ms) (sym c.member-item.is) in
    ap Some c.in_ok-name_step.ensures ∙ sym (member_again ms l.member-index m l.seen.keys here (was_there _ l.seen.keys m.0.now c.in_ok-insert.ensures.added c.if-not-branch.true)) ∙ l.invariant

pub path_in_members-returns-in-Some : goal.path_in_members-returns-in-Some
path_in_members-returns-in-Some t c =
    let l = c.loop-member in
    let ms = c.deref-member-items.result.now in
    let m = c.member-item.result in
    let here : drop l.member-index ms ≡ m ∷ drop (l.member-index + 1) ms = drop_more ms l.member-index m (omega arith) ∙ ap (λ y. y ∷ drop (l.member-index + 1) ms) (sym c.member-item.is) in
    ap Some (c.in_ok-path_under.ensures ∙ ap (λ p. name_step m.0.now ++ p) c.deref.ensures)
    ∙ sym (member_some ms l.member-index m l.seen.keys here _ (was_new _ l.seen.keys m.0.now c.in_ok-insert.ensures.added c.if-not-branch.false) (sym (ap (option_map string_bytes) c.in-Some.is) ∙ c.in_ok-path.ensures))
    ∙ l.invariant

pub path_in_members-loop-member-preserved : goal.path_in_members-loop-member-preserved
path_in_members-loop-member-preserved t c =
    let l = c.loop-member in
    let ms = c.deref-member-items.result.now in
    let m = c.member-item.result in
    let here : drop l.member-index ms ≡ m ∷ drop (l.member-index + 1) ms = drop_more ms l.member-index m (omega arith) ∙ ap (λ y. y ∷ drop (l.member-index + 1) ms) (sym c.member-item.is) in
    sym (member_none ms l.member-index m l.seen.keys here c.insert.new.self.keys (was_new _ l.seen.keys m.0.now c.in_ok-insert.ensures.added c.if-not-branch.false)
    (sym (ap (option_map string_bytes) c.in_default.is) ∙ c.in_ok-path.ensures) c.in_ok-insert.ensures.keys) ∙ l.invariant
