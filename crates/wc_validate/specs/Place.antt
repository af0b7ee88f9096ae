-- What a fault is about, and the types that it compares.
use Rattle.std.specs.Prelude.{ℕ, List, Option, string_bytes}
use Rattle.std.specs.Option.{option_map}
use Rattle.wc_read.specs.declared.place.ReadPlace.{ReadPlace}
use Rattle.wc_read.specs.Types.{FuncTypeValue, func_type_value}
use Rattle.wc_validate.specs.declared.place.Place.{Place}
use Rattle.wc_validate.specs.declared.place.Subject.{Subject}
use Rattle.wc_validate.specs.declared.place.Subject.TheVariants as place
use Rattle.wc_validate.specs.declared.place.TypeDifference.{TypeDifference}

-- what a fault is about: an import, by its module, its name and its index among the imports; an export, by its name; or
-- what is missing: a function of an interface, by the text of the interface's key and its own name; or an export, by its name;
-- or where the bytes of the module stop to be right
pub data SubjectView : Type 0 where
  an_import : List ℕ → List ℕ → ℕ → SubjectView
  an_export : List ℕ → SubjectView
  missing_function : List ℕ → List ℕ → SubjectView
  missing_export : List ℕ → SubjectView
  some_bytes : ReadPlace → SubjectView

abbrev pub subject_view : Subject → SubjectView
subject_view (place.Import module_name name index) = an_import (string_bytes module_name) (string_bytes name) index
subject_view (place.Export name) = an_export (string_bytes name)
subject_view (place.MissingFunction module_name name) = missing_function (string_bytes module_name) (string_bytes name)
subject_view (place.MissingExport name) = missing_export (string_bytes name)
subject_view (place.Bytes p) = some_bytes p

-- the core types that differ: the one that is wanted, and the one that is found
pub record DifferenceView : Type 0 where
  pub wanted : FuncTypeValue
  pub found : FuncTypeValue

abbrev pub difference_of : FuncTypeValue → FuncTypeValue → DifferenceView
difference_of wanted found = record { wanted = wanted; found = found }

abbrev pub difference_view : TypeDifference → DifferenceView
difference_view d = difference_of (func_type_value d.wanted) (func_type_value d.found)

-- what a fault is about, and the types that differ, where it compares types
pub record PlaceView : Type 0 where
  pub subject : SubjectView
  pub types : Option DifferenceView

abbrev pub place_view : Place → PlaceView
place_view p = record { subject = subject_view p.subject; types = option_map difference_view p.types }
