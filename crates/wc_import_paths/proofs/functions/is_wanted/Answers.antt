use Rattle.std.proofs.Common.{◌∙◌, ◌≡◌, ◌||◌, Bool, IfOk, ap, false, option_map, subst, sym, true}
use Rattle.std.specs.Option.{option_map_or}
use Rattle.wc_why.specs.Texts.{text_of}
use Rattle.wc_import_paths.specs.Private.Functions.{has_either, has_index}
use Rattle.wc_import_paths.proofs.FunctionLemmas.{wanted_by}
use Rattle.wc_import_paths.proofs.functions.is_wanted.Goals as goal

pub returns-then-contains : goal.returns-then-contains
returns-then-contains c texts wanted =
    let keys = c.args.wanted.now in
    let f = c.args.function.now in
    let held : has_index keys.indices.keys f.index ≡ true = sym c.contains.ensures ∙ c.if-contains.true in
    sym (wanted_by texts keys wanted f.index (option_map text_of f.name)
    ∙ ap (λ b. b || option_map_or (has_either keys.names.keys) (option_map text_of f.name) false) held)

pub returns-in-Some : goal.returns-in-Some
returns-in-Some c texts wanted =
    let keys = c.args.wanted.now in
    let f = c.args.function.now in
    let lacks : has_index keys.indices.keys f.index ≡ false = sym c.contains.ensures ∙ c.if-contains.false in
    subst (λ (z : Bool). IfOk c.has_either.result (λ b. b ≡ z))
    (sym (wanted_by texts keys wanted f.index (option_map text_of f.name)
    ∙ (ap (λ b. b || option_map_or (has_either keys.names.keys) (option_map text_of f.name) false) lacks
    ∙ ap (λ z. option_map_or (has_either keys.names.keys) (option_map text_of z) false) c.in-Some.is)))
    c.has_either.ensures
