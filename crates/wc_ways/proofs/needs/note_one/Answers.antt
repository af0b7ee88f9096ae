use Rattle.std.proofs.Common.{◌∙◌, refl, sym}
use Rattle.indexmap.proofs.CallerLemmas.{insert_entry-new}
use Rattle.wc_maps.proofs.OptionLemmas.{none_of_false}
use Rattle.wc_resolve.specs.contracts.ids.TypeIdPartialEq.TheImpl.{eq-value as type_eq}
use Rattle.wc_resolve.specs.declared.ids.TypeId.{TypeId}
use Rattle.wc_ways.specs.Private.Needs.{root_view}
use Rattle.wc_ways.proofs.NeedLemmas.{first_known, first_new}
use Rattle.wc_ways.proofs.TypesLemmas.{is_found}
use Rattle.wc_ways.proofs.needs.note_one.Goals as goal

pub returns-then-contains_key : goal.returns-then-contains_key
returns-then-contains_key c =
    first_known c.args.needed.now.roots.entries (root_view c.args.root) c.args.id.0
    (sym (is_found (type_eq.it c.args.id) (λ (k : TypeId). k.0) root_view c.args.id.0 (λ k. refl) c.args.needed.now.roots.entries)
    ∙ (sym c.contains_key.ensures ∙ c.if-contains_key.true))

pub returns : goal.returns
returns c =
    first_new c.args.needed.now.roots.entries c.insert.new.self.entries c.args.id c.args.root
    (c.in_ok-insert.ensures.entries
    ∙ insert_entry-new type_eq.it c.args.needed.now.roots c.args.id c.args.root (none_of_false _ (sym c.contains_key.ensures ∙ c.if-contains_key.false)))
