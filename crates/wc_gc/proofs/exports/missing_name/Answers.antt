use Rattle.std.proofs.Common.{◌≡◌, List, ℕ, subst, sym, ◌∙◌, refl, false, true}
use Rattle.std.specs.Prelude.{string_bytes}
use Rattle.wc_gc.specs.Exports.{export_entries, is_exported}
use Rattle.wc_gc.proofs.ExportLemmas.{found_is, next_missing, next_present}
use Rattle.wc_gc.proofs.exports.missing_name.Goals as goal

pub returns-then-not-contains_key : goal.returns-then-not-contains_key
returns-then-not-contains_key c =
    let there : is_exported (export_entries c.args.exports.now.entries) (string_bytes c.in-Some.name.now) ≡ false =
    subst (λ (z : List ℕ). is_exported (export_entries c.args.exports.now.entries) z ≡ false) c.as_str.ensures.value
    (found_is _ c.as_str.result.now c.args.exports.now.entries (λ k. refl) c.requires c.contains_key.result c.contains_key.ensures ∙ c.if-not-contains_key.true) in
    rw c.as_str-then-not-contains_key.ensures.value (sym (c.loop-name.invariant ∙ next_missing (export_entries c.args.exports.now.entries) c.loop-name.name-iterator c.next.new.self c.in-Some.name.now c.in-Some.ensures.steps there))

pub loop-name-preserved : goal.loop-name-preserved
loop-name-preserved c =
    let there : is_exported (export_entries c.args.exports.now.entries) (string_bytes c.in-Some.name.now) ≡ true =
    subst (λ (z : List ℕ). is_exported (export_entries c.args.exports.now.entries) z ≡ true) c.as_str.ensures.value
    (found_is _ c.as_str.result.now c.args.exports.now.entries (λ k. refl) c.requires c.contains_key.result c.contains_key.ensures ∙ c.if-not-contains_key.false) in
    c.loop-name.invariant ∙ next_present (export_entries c.args.exports.now.entries) c.loop-name.name-iterator c.next.new.self c.in-Some.name.now c.in-Some.ensures.steps there
