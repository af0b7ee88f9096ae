use Rattle.std.proofs.Common.{◌≡◌, ◌∙◌, inr, refl, List, ap, sym, take, subst}
use Rattle.std.proofs.lemmas.List.{take_all}
use Rattle.wc_resolve.specs.declared.packages.Package.{Package}
use Rattle.wc_resolve.specs.Views.{package_name_view}
use Rattle.wc_resolve.proofs.DistinctLemmas.{AreDistinct, copies_law, names_more, names_of, repeat_found, seen_more}
use Rattle.wc_resolve.proofs.validate.package_names.distinct_names.Goals as goal

pub returns-then-not-is_new-clause-refusal : goal.returns-then-not-is_new-clause-refusal
returns-then-not-is_new-clause-refusal c =
    inr (
      refl,
      c.loop-index.index,
      refl,
      repeat_found c.args.packages.now c.loop-index.index c.loop-index.names.keys c.in_ok-name.name c.index-packages-index.result c.in_ok-_index.is_new
          c.loop-index-test.true c.index-packages-index.is (c.in_ok-name.ensures ∙ ap (λ p. package_name_view p.name) (sym c.index-packages-index.is)) c.loop-index.invariant c.in_ok-_index.ensures.added c.if-not-is_new.true,
    )

pub loop-index-preserved : goal.loop-index-preserved
loop-index-preserved c =
    let copied : package_name_view c.in_ok-name.name ≡ package_name_view c.index-packages-index.result.name =
    c.in_ok-name.ensures ∙ ap (λ p. package_name_view p.name) (sym c.index-packages-index.is) in
    rw (names_more c.args.packages.now c.loop-index.index c.index-packages-index.result c.loop-index-test.true c.index-packages-index.is)
    (seen_more package_name_view _ c.loop-index.names.keys c.insert_full.new.self.keys c.in_ok-name.name (package_name_view c.index-packages-index.result.name)
    (names_of (take c.loop-index.index c.args.packages.now)) c.in_ok-_index.is_new (copies_law c.in_ok-name.name c.index-packages-index.result.name copied) copied
    c.loop-index.invariant c.in_ok-_index.ensures.added c.if-not-is_new.false c.in_ok-_index.ensures.keys)

pub returns-clause-names : goal.returns-clause-names
returns-clause-names c =
    let all : take c.loop-index.index c.args.packages.now ≡ c.args.packages.now = take_all _ _ c.loop-index-test.false in
    (subst (λ (z : List Package). AreDistinct (names_of z)) all c.loop-index.invariant.distinct, c.loop-index.invariant.same ∙ ap names_of all)
