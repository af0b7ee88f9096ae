use Rattle.std.proofs.Common.{◌≡◌, ◌∙◌, List, ap, rules, string_bytes, ℕ}
use Rattle.std.specs.Option.{option_and_then}
use Rattle.wc_world.specs.WorldViews.{world_view}
use Rattle.wc_ways.specs.Parts.{linked_at, position_of}
use Rattle.wc_ways.specs.Private.Modules.{codes_in}
use Rattle.wc_ways.proofs.ModuleLemmas.{all_read}
use Rattle.wc_ways.proofs.TypedLemmas.{position_viewed}
use Rattle.wc_ways.proofs.parts.linked_by.Goals as goal

pub linked_at-requires : goal.linked_at-requires
linked_at-requires c =
    let l = c.args.linking.now in
    all_read (world_view l.world.now) l.modules.now.adapters.items c.requires.modules.adapters

pub returns-in-Some : goal.returns-in-Some
returns-in-Some c =
    let l = c.args.linking.now in
    let codes = codes_in l.modules.now in
    let name : c.as_str.result.now ≡ string_bytes c.in-AdapterExport.adapter = search rules in
    let func : c.deref.result.now ≡ string_bytes c.in-AdapterExport.func = search rules in
    rw c.in-AdapterExport.is (c.linked_at.ensures
    ∙ ap (λ (z : List ℕ). linked_at codes z c.in-Some.index) func
    ∙ ap (option_and_then (linked_at codes (string_bytes c.in-AdapterExport.func)))
    (c.in-Some.ensures.index ∙ position_viewed c.as_str.result.now l.world.now.adapters.entries ∙ ap (position_of (world_view l.world.now)) name))

pub returns-in-None : goal.returns-in-None
returns-in-None c =
    let l = c.args.linking.now in
    let name : c.as_str.result.now ≡ string_bytes c.in-AdapterExport.adapter = search rules in
    rw c.in-AdapterExport.is (ap (option_and_then (linked_at (codes_in l.modules.now) (string_bytes c.in-AdapterExport.func)))
    (c.in-None.ensures.index ∙ position_viewed c.as_str.result.now l.world.now.adapters.entries ∙ ap (position_of (world_view l.world.now)) name))
