use Rattle.std.proofs.Common.{ℕ, refl, string_bytes, string_eq}
use Rattle.std.specs.Str.{bytes_eq}
use Rattle.wc_validate.proofs.FirstByKeyLemmas.{position_added, position_stays, texts_law}
use Rattle.wc_validate.proofs.AdapterFunctionLemmas.{name_added, name_kept}
use Rattle.wc_validate.proofs.first_by_key.keep_name.Goals as goal

pub returns-then-contains_key-clause-kept : goal.returns-then-contains_key-clause-kept
returns-then-contains_key-clause-kept c = λ called.
    position_stays bytes_eq texts_law string_bytes c.args.names.now.entries c.args.position c.args.name.now called c.contains_key.result c.contains_key.ensures
    c.if-contains_key.true

pub returns-clause-kept : goal.returns-clause-kept
returns-clause-kept c = λ called.
    position_added bytes_eq texts_law string_bytes string_eq (λ a b. refl)
    c.args.names.now.entries c.insert.new.self.entries c.in_ok-from_str.field-0 c.args.position c.args.name.now called c.contains_key.result
    c.in_ok-insert.ensures.entries c.in_ok-from_str.ensures.ok c.contains_key.ensures c.if-contains_key.false

pub returns-then-contains_key-clause-firsts : goal.returns-then-contains_key-clause-firsts
returns-then-contains_key-clause-firsts c = λ passed h.
    name_kept (λ (n : ℕ). n) c.args.names.now.entries c.args.name.now c.args.position c.contains_key.result passed c.contains_key.ensures
    c.if-contains_key.true h

pub returns-clause-firsts : goal.returns-clause-firsts
returns-clause-firsts c = λ passed h.
    name_added (λ (n : ℕ). n) c.args.names.now.entries c.insert.new.self.entries c.in_ok-from_str.field-0 c.args.position c.args.name.now c.args.position
    c.contains_key.result passed
    c.in_ok-insert.ensures.entries c.in_ok-from_str.ensures.ok refl c.contains_key.ensures c.if-contains_key.false h
