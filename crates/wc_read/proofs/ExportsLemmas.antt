-- Exports are read as they are spelled.
use Rattle.std.proofs.Common.{◌≡◌, ℕ, List, [], ◌∷◌, ◌++◌, Some, None, refl, sym, ◌∙◌, ap}
use Rattle.wc_read.specs.Formats.{Format, SpellsNumber, SpellsName, Joined}
use Rattle.wc_read.specs.Exports.{ExportValue, export_kind_code, SpellsExport}
use Rattle.wc_read.specs.Reading.Reader.{number_at, name_at}
use Rattle.wc_read.specs.Options.{◌>>=◌}
use Rattle.wc_read.specs.Reading.Exports.{export_kind_of, export_kind_at, export_at}
use Rattle.wc_read.specs.declared.exports.ExportKind.{ExportKind}
use Rattle.wc_read.specs.declared.exports.ExportKind.TheVariants.{Func, Table, Memory, Global}
use Rattle.wc_read.proofs.OptionsLemmas.{some_none}
use Rattle.wc_read.proofs.MeetsLemmas.{Meets, same_meets, bind_meets, made_meets, made_at, number_meets, coded_meets, Coded, Made}
use Rattle.wc_read.proofs.TypesLemmas.{name_meets, code_step}

kind_there : (k : ExportKind) → export_kind_of (export_kind_code k) ≡ Some k
kind_there Func = refl
kind_there Table = refl
kind_there Memory = refl
kind_there Global = refl

kind_back : (b : ℕ) (k : ExportKind) → export_kind_of b ≡ Some k → b ≡ export_kind_code k
kind_back b k e =
    let step = code_step export_kind_code b in
    step 0 Func _ k refl (step 1 Table _ k refl (step 2 Memory _ k refl (step 3 Global None k refl (λ none. some_none k (sym none))))) e

pub export_kind_meets : Meets (Coded export_kind_code) export_kind_at
unfolding export_kind_at
export_kind_meets = coded_meets export_kind_code export_kind_of kind_there kind_back

made_export : List ℕ → ExportKind → ℕ → ExportValue
made_export n k i = record { name = n; kind = k; index = i }

abbrev SpellsEnd : List ℕ → ExportKind → Format ExportValue
SpellsEnd n k = Made (SpellsNumber 32) (made_export n k)

abbrev SpellsParts : Format ExportValue
SpellsParts = Joined SpellsName (λ n. Joined (Coded export_kind_code) (SpellsEnd n))

export_to : (bytes : List ℕ) (e : ExportValue) → SpellsParts bytes e → SpellsExport bytes e
unfolding made_export
export_to bytes e j =
    rw j.5.5.2 (record { name_bytes = j.1; index_bytes = j.5.2; cut = j.3 ∙ ap (λ (r : List ℕ). j.1 ++ r) (j.5.3 ∙ ap (λ (r : List ℕ). r ++ j.5.2) j.5.4); has_name = j.4; has_index = j.5.5.1 })

export_from : (bytes : List ℕ) (e : ExportValue) → SpellsExport bytes e → SpellsParts bytes e
unfolding made_export
export_from bytes e s = (e.name, s.name_bytes, export_kind_code e.kind ∷ s.index_bytes, s.cut, s.has_name, (e.kind, export_kind_code e.kind ∷ [], s.index_bytes, refl, refl, (e.index, s.has_index, refl)))

pub export_meets : Meets SpellsExport export_at
unfolding export_at made_export
export_meets =
    same_meets SpellsParts SpellsExport export_at
    (bind_meets SpellsName name_at (λ n. Joined (Coded export_kind_code) (SpellsEnd n)) (λ n bytes. export_kind_at bytes >>= λ k. number_at 32 k.1 >>= made_at (made_export n k.0)) name_meets
    (λ n. bind_meets (Coded export_kind_code) export_kind_at (SpellsEnd n) (λ k bytes. number_at 32 bytes >>= made_at (made_export n k)) export_kind_meets
    (λ k. made_meets (SpellsNumber 32) (number_at 32) (made_export n k) (number_meets 32))))
    export_to export_from
