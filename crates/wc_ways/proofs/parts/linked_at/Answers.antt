use Rattle.std.proofs.Common.{◌≡◌, ◌∙◌, Some, None, ap, option_map, refl, sym}
use Rattle.std.proofs.lemmas.Bool.{ltb-false}
use Rattle.std.proofs.lemmas.Option.{slice_get-map, slice_get_past, slice_get_read}
use Rattle.std.specs.List.{slice_get}
use Rattle.std.specs.Option.{option_and_then}
use Rattle.wc_read.specs.Modules.{ModuleValue}
use Rattle.wc_ways.specs.Parts.{linked_in}
use Rattle.wc_ways.specs.Private.Modules.{code_in, codes_in}
use Rattle.wc_ways.proofs.PartLemmas.{linked_one}
use Rattle.wc_ways.proofs.parts.linked_at.Goals as goal

pub returns-in-Some-exported_number : goal.returns-in-Some-exported_number
returns-in-Some-exported_number c =
    let m = c.args.modules.now in
    let k = c.args.index in
    let at = rw c.deref.ensures.value at (slice_get_read _ _ _ _ refl c.in-Some.ensures.lookup.3.0 c.in-Some.ensures.lookup.1) in
    let code : Some (code_in c.in-Some.«module».now) ≡ slice_get (codes_in m) k = sym (slice_get-map code_in m.adapters.items k ∙ ap (option_map code_in) at) in
    linked_one (codes_in m) c.args.func.now k (code_in c.in-Some.«module».now) (Some c.in-Some-exported_number.item) code
    (sym c.in-Some-exported_number.is ∙ c.exported_number.ensures)

pub returns-in-None-exported_number : goal.returns-in-None-exported_number
returns-in-None-exported_number c =
    let m = c.args.modules.now in
    let k = c.args.index in
    let at = rw c.deref.ensures.value at (slice_get_read _ _ _ _ refl c.in-Some.ensures.lookup.3.0 c.in-Some.ensures.lookup.1) in
    let code : Some (code_in c.in-Some.«module».now) ≡ slice_get (codes_in m) k = sym (slice_get-map code_in m.adapters.items k ∙ ap (option_map code_in) at) in
    linked_one (codes_in m) c.args.func.now k (code_in c.in-Some.«module».now) None code (sym c.in-None-exported_number.is ∙ c.exported_number.ensures)

pub returns-in-None : goal.returns-in-None
returns-in-None c =
    let m = c.args.modules.now in
    let k = c.args.index in
    let past = rw c.deref.ensures.value at (slice_get_past _ _ (ltb-false _ _ (sym c.in-None.ensures.lookup.0))) in
    ap (option_and_then (λ (v : ModuleValue). linked_in v k c.args.func.now)) (sym (slice_get-map code_in m.adapters.items k ∙ ap (option_map code_in) past))
