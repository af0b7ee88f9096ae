use Rattle.std.proofs.Common.{◌≡◌, ◌∙◌, ◌-◌, ◌<◌, Some, ap, arith, option_map, refl, sym}
use Rattle.std.proofs.lemmas.Bool.{ltb-false}
use Rattle.std.proofs.lemmas.Option.{slice_get-map, slice_get_past, slice_get_read}
use Rattle.std.specs.List.{slice_get}
use Rattle.std.specs.Option.{option_and_then}
use Rattle.wc_why.specs.Tree.{tree_import_view}
use Rattle.wc_read.specs.Modules.{ModuleValue}
use Rattle.wc_ways.specs.Typed.{target_in}
use Rattle.wc_ways.specs.Private.Modules.{code_in, codes_in}
use Rattle.wc_ways.proofs.TypedLemmas.{target_later}
use Rattle.wc_ways.proofs.typed_found.adapter_target.Goals as goal

pub target_in-requires : goal.target_in-requires
target_in-requires c =
    let at = rw c.deref.ensures.value at (slice_get_read _ _ _ _ refl c.in-Some.ensures.lookup.3.0 c.in-Some.ensures.lookup.1) in
    c.requires.others (c.args.part - 1) c.in-Some.adapter.now at

pub returns-in-Some : goal.returns-in-Some
returns-in-Some c =
    let m = c.args.modules.now in
    let part = c.args.part in
    let i = tree_import_view c.args.import in
    let at = rw c.deref.ensures.value at (slice_get_read _ _ _ _ refl c.in-Some.ensures.lookup.3.0 c.in-Some.ensures.lookup.1) in
    let code : Some (code_in c.in-Some.adapter.now) ≡ slice_get (codes_in m) (part - 1) =
    sym (slice_get-map code_in m.adapters.items (part - 1) ∙ ap (option_map code_in) at) in
    let later : 0 < part = omega arith in
    c.target_in.ensures ∙ ap (option_and_then (λ (v : ModuleValue). target_in part v i)) code ∙ target_later (codes_in m) i part later

pub returns-in-None : goal.returns-in-None
returns-in-None c =
    let m = c.args.modules.now in
    let part = c.args.part in
    let i = tree_import_view c.args.import in
    let past = rw c.deref.ensures.value at (slice_get_past _ _ (ltb-false _ _ (sym c.in-None.ensures.lookup.0))) in
    let later : 0 < part = omega arith in
    ap (option_and_then (λ (v : ModuleValue). target_in part v i)) (sym (slice_get-map code_in m.adapters.items (part - 1) ∙ ap (option_map code_in) past))
    ∙ target_later (codes_in m) i part later
