use Rattle.std.proofs.Common.{◌≡◌, ◌∙◌, Bool, true, false, Err, Ok, Result, sym, ℕ, refl, ap, inl, inr, List}
use Rattle.semver.specs.declared.error.Error.{Error}
use Rattle.semver.specs.Identifiers.{parts_of}
use Rattle.semver.specs.Parse.{version_parts, memory_error}
use Rattle.semver.proofs.Grammar.{version_parts-sound, version_parts-complete}
use Rattle.semver.specs.contracts.error.ErrorPartialEq.TheImpl.{eq-value}
use Rattle.wc_resolve.specs.Resolve.{VersionView}
use Rattle.wc_names.specs.Interfaces.{IsVersionText}
use Rattle.wc_names.proofs.interfaces.version_of.Goals as goal

pub returns-in-Ok : goal.returns-in-Ok
returns-in-Ok c = let s = version_parts-sound c.args.text.now (parts_of c.in-Ok.version) c.in-Ok.ensures.ok in (sym s.0, s.1)

same_memory : eq-value.it memory_error memory_error ≡ true
same_memory = refl

no_memory : (b : Bool) (e m : Error) → b ≡ eq-value.it e m → b ≡ false → m ≡ memory_error → e ≡ memory_error → ⊥
no_memory b e m is no_one mine same =
    let t : true ≡ false = sym same_memory ∙ (ap (λ z. eq-value.it memory_error z) (sym mine) ∙ (ap (λ z. eq-value.it z m) (sym same) ∙ (sym is ∙ no_one))) in
    let bad : ⊥ = cc t in bad

same_result : Result VersionView Error → Result VersionView Error → Type 0
same_result a b = a ≡ b

no_text : (text : List ℕ) (e : Error) (v : VersionView) → version_parts text ≡ Err e → IsVersionText text v → ⊥
unfolding same_result
no_text text e v bad is =
    let t : same_result (Ok v) (Err e) = sym (version_parts-complete v is.1) ∙ (ap version_parts (sym is.0) ∙ bad) in
    let f : ⊥ = cc t in f

pub returns-else-eq : goal.returns-else-eq
returns-else-eq c = λ v is. elim (c.in-Err.ensures.err) [
  | inl same ↦ no_memory c.eq.result c.in-Err.error c.from.result c.eq.ensures c.if-eq.false c.from.ensures same
  | inr bad ↦ no_text c.args.text.now c.in-Err.error v bad is
]
