use Rattle.std.proofs.Common.{List, ℕ, [], ◌∷◌, length, subst}
use Rattle.std.specs.List.{Contains}
use Rattle.std.specs.Result.{OnErr, OnOk}
use Rattle.wc_resolve.specs.Live.{AddsAll, AddsSome, listing_from}
use Rattle.wc_resolve.proofs.RootsInLemmas.{below_one}
use Rattle.wc_resolve.proofs.WalkLemmas.{stopped, stopped_first}
use Rattle.wc_resolve.proofs.live.LiveTypes.add_type_id.Goals as goal

pub returns-in_err-roots-clause-begun : goal.returns-in_err-roots-clause-begun
returns-in_err-roots-clause-begun c = stopped _ _ (stopped_first c.args.resolve.now.types c.args.self.now (listing_from c.args.resolve.now.types (c.args.id.0 ∷ [])))

pub add-requires : goal.add-requires
add-requires c = λ x h. below_one (length c.args.resolve.now.types) c.args.id.0 c.requires x (subst (λ (z : List ℕ). Contains z x) c.in_ok-roots.ensures h)

pub returns-clause-added : goal.returns-clause-added
returns-clause-added c =
    subst (λ (z : List ℕ). OnOk c.add.result (AddsAll c.args.resolve.now.types c.args.self.now c.add.new.live (listing_from c.args.resolve.now.types z))) c.in_ok-roots.ensures
    c.add.ensures.added

pub returns-clause-begun : goal.returns-clause-begun
returns-clause-begun c =
    subst (λ (z : List ℕ). OnErr c.add.result (AddsSome c.args.resolve.now.types c.args.self.now c.add.new.live (listing_from c.args.resolve.now.types z))) c.in_ok-roots.ensures
    c.add.ensures.begun
