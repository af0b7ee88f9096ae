use Rattle.std.proofs.Common.{◌∙◌, map, sym, ap, rules}
use Rattle.wc_resolve.specs.Views.{key_view}
use Rattle.wc_selection.proofs.KeyListLemmas.{pick_no, pick_yes}
use Rattle.wc_selection.proofs.module_keys.required_in.Goals as goal
use Rattle.wc_selection.proofs.module_keys.required_in.Goals.{then-is_required+in_ok-clone+in_ok-insert, else-is_required}
use Rattle.wc_selection.specs.Keys.{NamedKey}
use Rattle.wc_selection.specs.RequiredTexts.{is_required_in}
use Rattle.wc_maps.specs.Texts.{text_of}

pub loop-key-preserved : goal.loop-key-preserved
loop-key-preserved c =
    let texts = map text_of c.args.texts.now.keys in
    let is_chosen = (λ (k : NamedKey). is_required_in texts c.args.gives k.1) in
    let test = sym (c.is_required.ensures ∙ ap (is_required_in texts c.args.gives) c.deref.ensures) in
    elim c.if-is_required.branch [
      | then-is_required+in_ok-clone+in_ok-insert w ↦
          ap (λ s. map key_view s.keys) w.required-is
          ∙ pick_yes is_chosen c.args.keys.now c.loop-key.key-index c.loop-key-item.result w.in_ok-clone.field-0 c.loop-key.required.keys w.insert.new.self.keys
          (search rules) c.loop-key-item.is c.requires (test ∙ w.if-is_required.true) w.in_ok-clone.ensures w.in_ok-insert.ensures.keys c.loop-key.invariant
      | else-is_required w ↦
          ap (λ s. map key_view s.keys) w.required-is
          ∙ pick_no is_chosen c.args.keys.now c.loop-key.key-index c.loop-key-item.result c.loop-key.required.keys (search rules) c.loop-key-item.is
          (test ∙ w.if-is_required.false) c.loop-key.invariant
    ]
