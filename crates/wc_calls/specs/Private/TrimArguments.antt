-- Words of contracts of private functions. No contract of a public function cites these, directly or through others.
-- What is passed to the call that trims an adapter, and what is answered of a refused one.
use Rattle.std.specs.Prelude.{ℕ, List, None}
use Rattle.wc_gc.specs.LiveItems.{TrimInput, trim_input_for_names}
use Rattle.wc_gc.specs.declared.fault.GcFault.{GcFault}
use Rattle.wc_gc.specs.declared.trim_place.TrimPlace.{TrimPlace}
use Rattle.wc_record.specs.Places.{trim_place_json}
use Rattle.wc_texts.specs.declared.refused.Refused.{Refused}
use Rattle.wc_calls.specs.ExportNames.{texts}
use Rattle.wc_calls.specs.Places.{place_text}
use Rattle.wc_calls.specs.Trimming.{IsTrimFaultAnswer}
use Rattle.wc_calls.specs.declared.answers.Answer.{Answer}
use Rattle.wc_calls.specs.declared.trimming.Arguments.{Arguments}

-- the adapter, and the names of the exports
abbrev pub passed_input : Arguments → TrimInput
passed_input a = trim_input_for_names a.wasm.now (texts a.required.now)

-- a fault of trimming, and its place
abbrev pub RefusedTrim : Type 0
RefusedTrim = Refused GcFault TrimPlace

-- the answer is this refusal, where exports of these names are required
abbrev pub IsTrimAnswered : List (List ℕ) → RefusedTrim → Answer → List ℕ → List ℕ → Type 0
IsTrimAnswered names x = IsTrimFaultAnswer names x.fault (place_text (trim_place_json None) x.place)
