use Rattle.std.proofs.Common.{◌∙◌, ap, sym, ◌++◌, ◌∷◌, [], refl, append-nil}
use Rattle.std.specs.List.{cons_option}
use Rattle.std.proofs.lemmas.Option.{slice_get_read}
use Rattle.wc_read.specs.Items.{item_value}
use Rattle.wc_gc.specs.Bits.{bit_of}
use Rattle.wc_read.specs.Decoded.{func_code}
use Rattle.wc_gc.specs.NewBodies.{body_written}
use Rattle.wc_gc.specs.Private.Edit.{edited_at, new_edited, written_funcs}
use Rattle.wc_gc.proofs.BodyCutLemmas.{cut_at}
use Rattle.wc_gc.proofs.ImageLemmas.{enumerated_none, enumerated_read, map_push}
use Rattle.wc_graph.proofs.ListLemmas.{no_item}
use Rattle.wc_gc.proofs.assemble.append_func_at.Goals as goal

pub edited_func-requires-clause-code : goal.edited_func-requires-clause-code
edited_func-requires-clause-code c = c.requires.coded _ (slice_get_read _ _ _ _ refl c.in-Some.ensures.lookup.3.0 c.in-Some.ensures.lookup.1)

pub edited_func-requires-clause-cut : goal.edited_func-requires-clause-cut
edited_func-requires-clause-cut c =
    cut_at c.args.funcs.now c.args.edit.bodies.now.cuts.now c.args.index c.in-Some.func.now c.requires.cut (slice_get_read _ _ _ _ refl c.in-Some.ensures.lookup.3.0 c.in-Some.ensures.lookup.1)

pub returns-in_ok-push-in-Some : goal.returns-in_ok-push-in-Some
returns-in_ok-push-in-Some c =
    let at = slice_get_read _ _ _ _ refl c.in-Some.ensures.lookup.3.0 c.in-Some.ensures.lookup.1 in
    let read = enumerated_read (edited_at c.args.edit (bit_of c.args.exported.now.words.items)) c.args.funcs.now c.args.index _ at in
    ap written_funcs c.in_ok-push-in-Some.ensures.items
    ∙ (map_push (item_value body_written) c.args.items.now.items _
    ∙ (ap (λ z. written_funcs c.args.items.now.items ++ z ∷ []) (c.edited_func.ensures ∙ ap (λ b. new_edited c.args.edit b (func_code c.in-Some.func.now)) c.contains-is_exported.ensures)
    ∙ ap (λ z. written_funcs c.args.items.now.items ++ cons_option z []) (sym read)))

pub returns-in-None : goal.returns-in-None
returns-in-None c =
    let none = enumerated_none (edited_at c.args.edit (bit_of c.args.exported.now.words.items)) c.args.funcs.now c.args.index (no_item _ _ c.in-None.ensures.lookup.0) in
    sym (ap (λ z. written_funcs c.args.items.now.items ++ cons_option z []) none ∙ append-nil (written_funcs c.args.items.now.items))
