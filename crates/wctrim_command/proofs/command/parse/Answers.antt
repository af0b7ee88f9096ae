use Rattle.std.proofs.Common.{◌≡◌, codes, sym, ap, ◌∙◌, rules, map, string_bytes, take, drop, length, ◌-◌}
use Rattle.std.proofs.lemmas.Slice.Eq.{bytes_eq-Decides}
use Rattle.wctrim_command.proofs.CommandLemmas.{two_items, three_items, more_items, trim_line, trim_unique, trim_executable, trim_usage}
use Rattle.wctrim_command.proofs.command.parse.Goals as goal

pub returns-in-len3-clause-command : goal.returns-in-len3-clause-command
returns-in-len3-clause-command c =
    let items = three_items c.args.arguments.now c.name-item-then-arguments-lt4.result c.source-item.result c.target-item.result c.in-len3.len_at_least c.in-len3.len_below c.name-item-then-arguments-lt4.is c.source-item.is c.target-item.is in
    let named : c.as_str-then-arguments-lt4.result.now ≡ codes "dedupe" = (bytes_eq-Decides c.as_str-then-arguments-lt4.result.now (codes "dedupe")).0 (sym c.if-eq-2.ensures) in
    rw items (cc (named, c.as_str-then-arguments-lt4.ensures.value, c.as_str-in-len3.ensures.value, c.as_str-in-len3-2.ensures.value))

pub returns-in-len2-clause-command : goal.returns-in-len2-clause-command
returns-in-len2-clause-command c =
    let items = two_items c.args.arguments.now c.name-item.result c.file-item.result c.in-len2.len_at_least c.in-len2.len_below c.name-item.is c.file-item.is in
    let named : c.as_str.result.now ≡ codes "scan" = (bytes_eq-Decides c.as_str.result.now (codes "scan")).0 (sym c.if-eq.ensures) in
    rw items (cc (named, c.as_str.ensures.value, c.as_str-in-len2.ensures.value))

pub returns-in-len3-up-clause-command : goal.returns-in-len3-up-clause-command
returns-in-len3-up-clause-command c =
    let items = more_items c.args.arguments.now c.name-item-2.result c.source-item-2.result c.target-item-2.result (search rules) c.name-item-2.is c.source-item-2.is c.target-item-2.is in
    let named : c.as_str-2.result.now ≡ codes "trim" = (bytes_eq-Decides c.as_str-2.result.now (codes "trim")).0 (sym c.if-eq-3.ensures) in
    let line = ap (map string_bytes) items ∙ cc (named, c.as_str-2.ensures.value, c.as_str-in-len3-up.ensures.value, c.as_str-in-len3-up-2.ensures.value) in
    trim_line c.as_str-in-len3-up.result.now c.as_str-in-len3-up-2.result.now (map string_bytes (take (length c.args.arguments.now - 3) (drop 3 c.args.arguments.now))) (map string_bytes c.args.arguments.now) c.parse_trim.result line c.parse_trim.ensures.parts

pub returns-in-len3-up-clause-unique : goal.returns-in-len3-up-clause-unique
returns-in-len3-up-clause-unique c =
    let items = more_items c.args.arguments.now c.name-item-2.result c.source-item-2.result c.target-item-2.result (search rules) c.name-item-2.is c.source-item-2.is c.target-item-2.is in
    let named : c.as_str-2.result.now ≡ codes "trim" = (bytes_eq-Decides c.as_str-2.result.now (codes "trim")).0 (sym c.if-eq-3.ensures) in
    let line = ap (map string_bytes) items ∙ cc (named, c.as_str-2.ensures.value, c.as_str-in-len3-up.ensures.value, c.as_str-in-len3-up-2.ensures.value) in
    trim_unique c.as_str-in-len3-up.result.now c.as_str-in-len3-up-2.result.now (map string_bytes (take (length c.args.arguments.now - 3) (drop 3 c.args.arguments.now))) (map string_bytes c.args.arguments.now) c.parse_trim.result line c.parse_trim.ensures.parts

pub returns-in-len3-up-clause-executable : goal.returns-in-len3-up-clause-executable
returns-in-len3-up-clause-executable c =
    trim_executable c.as_str-in-len3-up.result.now c.as_str-in-len3-up-2.result.now (map string_bytes (take (length c.args.arguments.now - 3) (drop 3 c.args.arguments.now))) c.parse_trim.result c.parse_trim.ensures.parts

pub returns-in-len3-up-clause-usage : goal.returns-in-len3-up-clause-usage
returns-in-len3-up-clause-usage c =
    let items = more_items c.args.arguments.now c.name-item-2.result c.source-item-2.result c.target-item-2.result (search rules) c.name-item-2.is c.source-item-2.is c.target-item-2.is in
    let named : c.as_str-2.result.now ≡ codes "trim" = (bytes_eq-Decides c.as_str-2.result.now (codes "trim")).0 (sym c.if-eq-3.ensures) in
    let line = ap (map string_bytes) items ∙ cc (named, c.as_str-2.ensures.value, c.as_str-in-len3-up.ensures.value, c.as_str-in-len3-up-2.ensures.value) in
    trim_usage c.as_str-in-len3-up.result.now c.as_str-in-len3-up-2.result.now (map string_bytes (take (length c.args.arguments.now - 3) (drop 3 c.args.arguments.now))) (map string_bytes c.args.arguments.now) c.parse_trim.result line c.parse_trim.ensures.none
