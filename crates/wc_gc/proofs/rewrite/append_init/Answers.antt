use Rattle.wc_gc.specs.NewIndices.{new_of}
use Rattle.wc_gc.proofs.RewriteLemmas.{init_index_text}
use Rattle.wc_gc.proofs.rewrite.append_init.Goals as goal

pub returns-in_ok-push-in-Some : goal.returns-in_ok-push-in-Some
returns-in_ok-push-in-Some c =
    init_index_text (new_of c.args.new.now) _ c.in-Some.named c.in-Some.ensures c.args.out.now.items c.append_index.new.out.items c.push.new.self.items
    (rw c.index.ensures at c.in_ok-append_index-in-Some.ensures) c.in_ok-push-in-Some.ensures.items
