use Rattle.std.proofs.Common.{◌∙◌, Bool, List, false, ap, subst}
use Rattle.wc_resolve.specs.Contents.{AreTextFlags, has_text, text_flag}
use Rattle.wc_resolve.specs.Views.{TypeView}
use Rattle.wc_resolve.specs.Kinds.{ResolveView}
use Rattle.wc_resolve.proofs.ContentLemmas.{type_settled}
use Rattle.wc_resolve.proofs.resolve.Resolve.holds_string.Goals as goal

pub returns : goal.returns
returns c =
    let made : AreTextFlags false c.args.self.now.types c.self.inside.kept.strings.items =
    subst (λ (z : List TypeView). AreTextFlags false z c.self.inside.kept.strings.items) (ap (λ (v : ResolveView). v.types) c.self.view_is) c.self.invariant.has_strings in
    c.type_has_text.ensures ∙ (ap (λ (z : List Bool). has_text (text_flag z) c.args.ty) c.deref.ensures.value
    ∙ type_settled false c.args.self.now.types c.self.inside.kept.strings.items c.args.ty made)
