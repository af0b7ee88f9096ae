use Rattle.std.proofs.Common.{◌≡◌, ◌+◌, ◌∙◌, ap, arith}
use Rattle.wc_read.specs.Items.{imported}
use Rattle.wc_read.specs.declared.operators.Space.TheVariants.{Types}
use Rattle.wc_gc.specs.Found.{main_module}
use Rattle.wc_gc.specs.Private.Edit.{new_indices, types_of}
use Rattle.wc_gc.proofs.EditLemmas.{import_appended, text_or}
use Rattle.wc_gc.proofs.edit.Edit.append_import.Goals as goal

pub returns : goal.returns
returns c =
    let none_more : types_of c.args.self + 0 ≡ types_of c.args.self = omega arith in
    import_appended c.args.self c.args.funcs.now.items c.push.new.self.items _ c.if-not-self.false c.in_ok-push.ensures.items
    (c.added_type.ensures.index ∙ ap (λ n. new_indices c.args.self Types n) none_more)
    (ap (λ n. imported main_module n) (ap (λ b. b.now) c.unwrap_or-name.ensures ∙ text_or c.args.self.settings.realloc _))
