use Rattle.std.proofs.Common.{sym, arith}
use Rattle.std.proofs.lemmas.List.{length-take-le}
use Rattle.wc_why_text.proofs.short_names.cut.Goals as goal

pub slice_bounds-characters_text-end : goal.slice_bounds-characters_text-end
slice_bounds-characters_text-end c = sym (length-take-le 40 c.args.characters.now (omega (arith, c.if-characters-le-SHOWN.false)))
