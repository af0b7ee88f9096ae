use Rattle.std.proofs.Common.{refl, sym, ◌∙◌}
use Rattle.std.proofs.lemmas.Option.{slice_get_read}
use Rattle.wc_read.specs.Types.{func_type_value}
use Rattle.wc_read.proofs.ModulesLemmas.{start_is, has_type, no_values, not_nullary}
use Rattle.wc_read.proofs.validity.check_start.Goals as goal

pub type_of-ty-requires : goal.type_of-ty-requires
type_of-ty-requires c =
    let f = slice_get_read _ _ _ _ refl c.in-Some.ensures.lookup.3.0 c.in-Some.ensures.lookup.1 in
    rw c.deref-2.ensures.value (has_type c.args.module.now c.args.index c.in-Some.func.now c.requires.typed (rw c.deref.ensures.value at f))

pub returns-then-not-is_nullary-clause-refused : goal.returns-then-not-is_nullary-clause-refused
returns-then-not-is_nullary-clause-refused c =
    let f = slice_get_read _ _ _ _ refl c.in-Some.ensures.lookup.3.0 c.in-Some.ensures.lookup.1 in
    let not = sym c.is_nullary.ensures ∙ c.if-not-is_nullary.true in
    not_nullary c.args.module.now c.args.index c.in-Some.func.now c.type_of-ty.result.now (rw c.deref.ensures.value at f) (rw c.deref-2.ensures.value at c.type_of-ty.ensures) not

pub returns-clause-found : goal.returns-clause-found
returns-clause-found c =
    let f = slice_get_read _ _ _ _ refl c.in-Some.ensures.lookup.3.0 c.in-Some.ensures.lookup.1 in
    let none = no_values (func_type_value c.type_of-ty.result.now) (sym c.is_nullary.ensures ∙ c.if-not-is_nullary.false) in
    start_is c.args.module.now c.args.index c.in-Some.func.now c.type_of-ty.result.now (rw c.deref.ensures.value at f) (rw c.deref-2.ensures.value at c.type_of-ty.ensures) none.0 none.1
