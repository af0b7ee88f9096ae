use Rattle.std.proofs.Common.{◌≡◌, ℕ, IfOk, List, ◌∙◌, ap, false, string_bytes, subst}
use Rattle.std.specs.Char.{encode_utf8}
use Rattle.std.specs.List.{flat_map}
use Rattle.wc_why_text.specs.RustNames.{plain}
use Rattle.wc_why_text.proofs.rust_names.rust_name.Goals as goal

pub returns : goal.returns
returns c =
    subst (λ (cs : List ℕ). IfOk c.characters_text.result (λ s. string_bytes s ≡ flat_map encode_utf8 cs))
    (c.deref-2.ensures.value ∙ (c.in_ok-plain.ensures ∙ ap (plain false) (c.deref.ensures.value ∙ c.in_ok-characters.ensures))) c.characters_text.ensures
