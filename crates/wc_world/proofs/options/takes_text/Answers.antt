use Rattle.std.proofs.Common.{◌∙◌, ap, sym, List, ℕ}
use Rattle.std.specs.List.{list_any}
use Rattle.std.specs.Rc.{rc_slice_items}
use Rattle.wc_resolve.specs.declared.types.WitType.{WitType}
use Rattle.wc_texts.specs.Names.{named_view}
use Rattle.wc_maps.proofs.ListLemmas.{any_viewed}
use Rattle.wc_world.specs.Options.{holds_text}
use Rattle.wc_world.proofs.options.takes_text.Goals as goal

pub returns : goal.returns
returns c =
    c.params_hold_text.ensures ∙ (ap (list_any (λ f. holds_text c.args.lists c.args.resolve.now f.1)) c.deref.ensures.value
    ∙ sym (any_viewed named_view (λ (p : List ℕ × WitType). holds_text c.args.lists c.args.resolve.now p.1) (rc_slice_items c.args.function.now.params)))
