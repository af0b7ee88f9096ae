use Rattle.std.proofs.Common.{◌≡◌, ℕ, ◌∙◌, ap, sym, Bool, length, map, nat_lt, rules, vec_len}
use Rattle.std.specs.Prelude.{◌==◌}
use Rattle.std.specs.List.{list_any}
use Rattle.std.proofs.lemmas.List.{length-map}
use Rattle.wc_summary.specs.Summary.{kind_by, part_view, stays_in}
use Rattle.wc_summary.specs.declared.summary.AdapterPart.{AdapterPart}
use Rattle.wc_maps.proofs.ListLemmas.{any_viewed}
use Rattle.wc_summary.proofs.summary.Entry.kind.Goals as goal

pub returns : goal.returns
returns c =
    let parts = c.args.self.now.adapters.items in
    let has_main = nat_lt 0 c.args.self.now.main.imports in
    let n : vec_len c.args.self.now.adapters ≡ length parts = search rules in
    let none : c.is_empty.result ≡ (length (map part_view parts) == 0) = c.is_empty.ensures ∙ ap (λ (k : ℕ). k == 0) (n ∙ sym (length-map parts part_view)) in
    let staying : c.any_stays.result ≡ list_any stays_in (map part_view parts) =
    c.any_stays.ensures ∙ (ap (list_any (λ (p : AdapterPart). stays_in (part_view p))) c.deref.ensures.value ∙ sym (any_viewed part_view stays_in parts)) in
    c.kind_by.ensures ∙ (ap (λ (b : Bool). kind_by has_main b c.any_stays.result) none
    ∙ ap (λ (b : Bool). kind_by has_main (length (map part_view parts) == 0) b) staying)
