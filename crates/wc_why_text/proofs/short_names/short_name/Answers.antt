use Rattle.std.proofs.Common.{◌≡◌, ℕ, IfOk, List, ◌∙◌, ap, string_bytes, subst, true}
use Rattle.wc_why_text.specs.RustNames.{plain}
use Rattle.wc_why_text.specs.ShortNames.{cut}
use Rattle.wc_why_text.proofs.short_names.short_name.Goals as goal

pub returns : goal.returns
returns c =
    subst (λ (cs : List ℕ). IfOk c.cut.result (λ s. string_bytes s ≡ cut cs))
    (c.deref-2.ensures.value ∙ (c.in_ok-plain.ensures ∙ ap (plain true) (c.deref.ensures.value ∙ c.in_ok-characters.ensures))) c.cut.ensures
