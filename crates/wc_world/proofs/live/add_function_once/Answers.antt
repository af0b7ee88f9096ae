use Rattle.std.proofs.Common.{◌∙◌, Some, ap, sym, subst}
use Rattle.std.specs.List.{Contains}
use Rattle.std.proofs.lemmas.Bool.{not-false}
use Rattle.wc_resolve.specs.Live.{listing_from}
use Rattle.wc_world.specs.Live.{named_function_roots}
use Rattle.wc_world.proofs.AddedFunctionLemmas.{adds_again_none, have_again, have_new}
use Rattle.wc_world.proofs.UsedLemmas.{on_ok}
use Rattle.wc_world.proofs.live.add_function_once.Goals as goal

pub returns-then-is_new-clause-have : goal.returns-then-is_new-clause-have
returns-then-is_new-clause-have c =
    let r = c.args.resolve.now in
    on_ok c.add_function.result c.add_function.ensures
    (λ adds. have_new r c.args.live.now c.add_function.new.live (named_function_roots r c.args.id.0 c.args.name.now) c.requires.complete adds (Some c.args.id, c.in_ok-from_str.field-0) c.args.added.now.keys c.insert_full.new.self.keys
    (ap (named_function_roots r c.args.id.0) c.in_ok-from_str.ensures.ok) (λ f. c.in_ok-_place.ensures.updates.0 f) c.requires.have)

pub returns-clause-adds : goal.returns-clause-adds
returns-clause-adds c =
    let r = c.args.resolve.now in
    adds_again_none r c.args.live.now (named_function_roots r c.args.id.0 c.args.name.now)
    (λ t h. c.requires.have (Some c.args.id, c.in_ok-from_str.field-0) (not-false _ (sym c.in_ok-_place.ensures.added ∙ c.if-is_new.false)) t
    (subst (λ z. Contains (listing_from r.types z) t) (sym (ap (named_function_roots r c.args.id.0) c.in_ok-from_str.ensures.ok)) h))

pub returns-clause-have : goal.returns-clause-have
returns-clause-have c =
    have_again c.args.resolve.now c.args.live.now (Some c.args.id, c.in_ok-from_str.field-0) c.args.added.now.keys c.insert_full.new.self.keys
    (not-false _ (sym c.in_ok-_place.ensures.added ∙ c.if-is_new.false)) (λ f. c.in_ok-_place.ensures.updates.0 f) c.requires.have
