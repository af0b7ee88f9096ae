-- Names without their versions.
use Rattle.std.specs.Prelude.{Bool, List, ℕ}
use Rattle.std.specs.Str.{str_eq_ignore_ascii_case}
use Rattle.wc_why.specs.Keys.{unversioned_text}

-- names that are the same but for their versions and for the case of ASCII letters
abbrev pub is_alike : List ℕ → List ℕ → Bool
is_alike name other = str_eq_ignore_ascii_case (unversioned_text name) (unversioned_text other)
