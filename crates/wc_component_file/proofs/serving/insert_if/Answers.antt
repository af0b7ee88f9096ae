use Rattle.std.proofs.Common.{◌||◌, map, ap, ◌∙◌}
use Rattle.std.specs.Str.{bytes_eq}
use Rattle.wc_maps.specs.Texts.{is_in, text_of}
use Rattle.wc_component_file.proofs.ServingLemmas.{and_one, name_put}
use Rattle.wc_component_file.proofs.serving.insert_if.Goals as goal

pub returns-in_ok-insert : goal.returns-in_ok-insert
returns-in_ok-insert c = λ t.
    name_put c.args.names.now.keys c.insert.new.self.keys c.args.name c.in_ok-insert.ensures.keys t
    ∙ ap (λ b. is_in (map text_of c.args.names.now.keys) t || b) (and_one (bytes_eq c.args.name.now t) c.args.is_one c.if-is_one.true)
