use Rattle.std.proofs.Common.{◌∙◌, List, ℕ, Option, ap, option_map, subst, sym}
use Rattle.std.specs.Borrow.{Bor}
use Rattle.std.specs.Option.{option_to_list}
use Rattle.wc_resolve.specs.declared.ids.InterfaceId.{InterfaceId}
use Rattle.wc_world.specs.WorldViews.{world_view}
use Rattle.wc_summary.specs.Entries.{entries_view}
use Rattle.wc_ways.specs.Private.Notes.{NotesTyped}
use Rattle.wc_summary.specs.Summary.{user_view}
use Rattle.wc_ways.specs.Types.{user_in}
use Rattle.wc_ways.proofs.NoteLemmas.{typed_none, typed_one}
use Rattle.wc_ways.proofs.types.note_if_typed.Goals as goal

abbrev shown : Bor (List ℕ) × InterfaceId → List ℕ × ℕ
shown t = (t.0.now, t.1.0)

pub returns-in_ok-user-in-Some : goal.returns-in_ok-user-in-Some
returns-in_ok-user-in-Some c =
    let w = world_view c.args.world.now in
    let old = entries_view c.args.entries.now.entries in
    let new = entries_view c.set_types.new.entries.entries in
    subst (λ (t : Option (List ℕ × ℕ)). NotesTyped (user_in w) (option_to_list t) old new) (sym (ap (option_map shown) c.in-Some.is) ∙ c.typed_name.ensures)
    (typed_one (user_in w) c.in-Some.name.now c.in-Some.id.0 (user_view c.in_ok-user-in-Some.user) c.in_ok-place-in-Some.place old
    (entries_view c.place_of.new.entries.entries) new c.in_ok-place-in-Some.ensures c.set_types.ensures c.in_ok-user-in-Some.ensures)

pub returns-in-None : goal.returns-in-None
returns-in-None c =
    let w = world_view c.args.world.now in
    let old = entries_view c.args.entries.now.entries in
    subst (λ (t : Option (List ℕ × ℕ)). NotesTyped (user_in w) (option_to_list t) old old) (sym (ap (option_map shown) c.in-None.is) ∙ c.typed_name.ensures)
    (typed_none (user_in w) old)
