use Rattle.std.proofs.Common.{◌∙◌, ap, sym}
use Rattle.std.specs.Option.{option_map}
use Rattle.wc_options.specs.Reading.{plain_texts, said_by, texts_in}
use Rattle.wc_options.specs.Wrong.{wrong_view}
use Rattle.wcwhy.specs.Reading.{and_apart, option_table}
use Rattle.wcwhy.proofs.ArgumentLemmas.{finish_is, misfit_is}
use Rattle.wcwhy.proofs.arguments.finish.Goals as goal

pub returns-in-Some : goal.returns-in-Some
returns-in-Some c =
    let tokens = said_by option_table (texts_in c.args.arguments.now) in
    ap and_apart (misfit_is tokens (plain_texts tokens) (wrong_view c.in-Some.wrong) c.requires
    (sym c.misfit.ensures ∙ ap (option_map wrong_view) c.in-Some.is))

pub returns-in-None : goal.returns-in-None
returns-in-None c =
    let tokens = said_by option_table (texts_in c.args.arguments.now) in
    finish_is tokens (plain_texts tokens) c.finish_apart.result c.requires (sym c.misfit.ensures ∙ ap (option_map wrong_view) c.in-None.is)
    c.finish_apart.ensures
