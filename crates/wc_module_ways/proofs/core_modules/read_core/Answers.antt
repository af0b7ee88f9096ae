use Rattle.std.proofs.Common.{◌≡◌, ◌<◌, ◌≤◌, ◌∙◌, All, [], ◌∷◌, ap, length, arith, map, option_map, rules, subst, sym}
use Rattle.std.proofs.lemmas.List.Elements.{All-append, All-cons, All-nil}
use Rattle.std.proofs.lemmas.Option.{slice_get-get_or, slice_get-map}
use Rattle.std.proofs.lemmas.Result.{err_from_is_err_and}
use Rattle.wc_module_ways.specs.CoreModules.{HasCore, IsCore, core_given, core_view}
use Rattle.wc_module_ways.proofs.CoreModuleLemmas.{one_core_refused}
use Rattle.wc_module_ways.proofs.MatchedLemmas.{all_matched, matched_more, none_matched}
use Rattle.wc_module_ways.proofs.core_modules.read_core.Goals as goal

pub loop-index-init : goal.loop-index-init
loop-index-init c =
    record { matched = none_matched IsCore _ (search rules); has = rw c.new-modules.ensures.items (All-nil HasCore) }

pub loop-index-preserved : goal.loop-index-preserved
loop-index-preserved c =
    let within : c.loop-index.index < length c.args.given.now = omega arith in
    record {
      matched = matched_more IsCore core_given core_view c.args.given.now c.loop-index.index _ within c.loop-index.modules.items c.push.new.self.items _
          c.in_ok-push.ensures.items c.loop-index.invariant.matched c.in_ok-read_one.ensures.core;
      has = subst (All HasCore) (sym c.in_ok-push.ensures.items)
          (All-append HasCore c.loop-index.modules.items (_ ∷ []) c.loop-index.invariant.has
          (All-cons HasCore _ [] c.in_ok-read_one.ensures.has (All-nil HasCore)));
    }

pub returns-clause-core : goal.returns-clause-core
returns-clause-core c =
    let over : length c.args.given.now ≤ c.loop-index.index = omega arith in
    all_matched IsCore core_given core_view c.args.given.now c.loop-index.index (map core_view c.loop-index.modules.items) over c.loop-index.invariant.matched

pub returns-in_err-read_one-clause-refused : goal.returns-in_err-read_one-clause-refused
returns-in_err-read_one-clause-refused c =
    let p = err_from_is_err_and c.from_residual.result c.from_residual.ensures.1 in
    let within : c.loop-index.index < length c.args.given.now = omega arith in
    rw (p.1, p.2) (one_core_refused (map core_given c.args.given.now) _ c.loop-index.index _
    (slice_get-map core_given c.args.given.now c.loop-index.index ∙ ap (option_map core_given) (slice_get-get_or c.args.given.now c.loop-index.index _ within))
    c.in_err-read_one.ensures.refused)
