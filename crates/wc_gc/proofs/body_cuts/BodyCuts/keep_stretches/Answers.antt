use Rattle.std.proofs.Common.{◌≡◌, ◌∙◌, length, vec_len, sym, ap, rules}
use Rattle.wc_gc.proofs.BodyCutLemmas.{cut_kept}
use Rattle.wc_gc.proofs.body_cuts.BodyCuts.keep_stretches.Goals as goal

pub returns : goal.returns
returns c =
    let before : vec_len c.args.self.now.stretches ≡ length c.args.self.now.stretches.items = search rules in
    let more : vec_len c.args.self.now.current.stretches ≡ length c.args.self.now.current.stretches.items = search rules in
    λ funcs last cut. rw c.in_ok-extend_from_slice.ensures.items (cut_kept funcs c.args.self.now.stretches.items c.deref.result.now c.args.self.now.spans.items c.args.index c.len-from.result c.len-count.result c.args.self.now.current c.args.self.now.within cut last c.requires
    c.deref.ensures.value (c.len-from.ensures ∙ before) (c.len-count.ensures ∙ (more ∙ ap length (sym c.deref.ensures.value))))
