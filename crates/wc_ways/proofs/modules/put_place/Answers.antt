use Rattle.std.proofs.Common.{◌∙◌, ap, refl, sym, Some}
use Rattle.std.specs.Option.{option_map}
use Rattle.wc_paths.specs.Roots.{import_item}
use Rattle.wc_read.specs.Imports.{import_value}
use Rattle.wc_ways.proofs.FirstLemmas.{place_kept, place_put}
use Rattle.wc_ways.proofs.modules.put_place.Goals as goal

pub returns-then-contains_key : goal.returns-then-contains_key
returns-then-contains_key c imports n (at, is) h =
    let i = import_value c.args.import.now in
    place_kept imports n i at (c.args.import.now.«module», c.args.import.now.name) refl refl c.args.places.now.entries h
    (sym c.contains_key.ensures ∙ c.if-contains_key.true)

pub returns : goal.returns
returns c imports n (at, is) h =
    let i = import_value c.args.import.now in
    place_put imports n i at (c.args.import.now.«module», c.args.import.now.name) refl refl c.args.places.now.entries c.insert.new.self.entries c.args.item h
    (sym c.contains_key.ensures ∙ c.if-contains_key.false) (ap (option_map (import_item imports n)) at ∙ ap Some (sym is)) c.in_ok-insert.ensures.updates.0
