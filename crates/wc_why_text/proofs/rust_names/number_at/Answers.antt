use Rattle.std.proofs.Common.{◌≡◌, ◌+◌, ◌-◌, ◌*◌, ◌≤◌, length, rules, true, arith}
use Rattle.std.specs.Char.{is_ascii_digit}
use Rattle.wc_why_text.proofs.RustNameLemmas.{too_large}
use Rattle.wc_why_text.specs.RustNames.{number_at}
use Rattle.wc_why_text.proofs.rust_names.number_at.Goals as goal

pub returns-in-None-clause-large : goal.returns-in-None-clause-large
returns-in-None-clause-large c =
    let text = c.args.text.now in
    let n = c.loop-position.number in
    let at = c.index-text-position in
    let digit : is_ascii_digit at.result ≡ true = search rules in
    let large : length text + 1 ≤ n * 10 + (at.result - 48) = omega (arith, c.in-None.ensures) in
    let grown = too_large text c.loop-position.position n at.result (number_at 0 text) (search rules) at.is c.loop-position.invariant (length text + 1) digit large in
    omega (arith, grown)
