use Rattle.std.proofs.Common.{◌≡◌, List, length, map, sym, ◌∙◌, ap, subst, None, arith}
use Rattle.std.specs.Prelude.{IfErr, string_bytes}
use Rattle.std.proofs.lemmas.List.{length-map}
use Rattle.wc_read.specs.Exports.{ExportValue, export_value}
use Rattle.wc_gc.specs.Exports.{AreNamed, IsMissingFault, export_entries, missing_name}
use Rattle.wc_gc.proofs.AllMetLemmas.{none_missing}
use Rattle.wc_gc.proofs.ExportLemmas.{named_by_name, entries_by_name}
use Rattle.wc_gc.proofs.exports.check_required.Goals as goal

pub returns-then-kept-len-clause-none : goal.returns-then-kept-len-clause-none
returns-then-kept-len-clause-none c =
    let kept = ap length c.requires.kept in
    let seen = length-map c.args.kept.now export_value in
    let names = length-map c.args.required.now.keys string_bytes in
    let test = c.if-kept-len.true in
    let len = c.len.ensures.len in
    λ _. none_missing (map string_bytes c.args.required.now.keys) (map export_value c.args.exports.now) c.requires.distinct (omega (arith, kept, seen, names, test, len))

pub check_named-requires : goal.check_named-requires
check_named-requires c = subst AreNamed (sym c.in_ok-named.ensures) (named_by_name c.args.exports.now)

pub returns-clause-none : goal.returns-clause-none
returns-clause-none c =
    let same = ap export_entries c.in_ok-named.ensures ∙ entries_by_name c.args.exports.now in
    λ ok. subst (λ (z : List ExportValue). missing_name z (map string_bytes c.args.required.now.keys) ≡ None) same (c.check_named.ensures.none ok)

pub returns-clause-fault : goal.returns-clause-fault
returns-clause-fault c =
    let same = ap export_entries c.in_ok-named.ensures ∙ entries_by_name c.args.exports.now in
    subst (λ (z : List ExportValue). IfErr c.check_named.result (IsMissingFault z (map string_bytes c.args.required.now.keys))) same c.check_named.ensures.fault
