use Rattle.std.proofs.Common.{◌≡◌, ◌≤◌, ◌+◌, drop, length}
use Rattle.wc_options.specs.Reading.{lines_of, mode_view, plain_texts, said_by, said_from, texts_in}
use Rattle.wc_options.proofs.given.text_count.Given as goal

abbrev pub invariant-loop-argument : goal.invariant-loop-argument
invariant-loop-argument l = record {
  counted : l.count + length (plain_texts (said_from (lines_of l.table) (texts_in (drop l.argument-index l.arguments)) (mode_view l.mode)))
      ≡ length (plain_texts (said_by (lines_of l.table) (texts_in l.arguments)));
  bounded : l.count ≤ l.argument-index;
}
