-- The texts of faults.
use Rattle.std.specs.Prelude.{ℕ, List, ◌++◌, codes}
use Rattle.wc_selection.specs.declared.fault.RequestFault.{RequestFault}
use Rattle.wc_selection.specs.declared.fault.RequestFault.TheVariants.{Memory, PackageRange, UnknownWorld, SeveralWorlds, UnknownKey, SeveralKeys, RepeatedKey}

-- a name in quotes, between two texts
abbrev pub quoted : List ℕ → List ℕ → List ℕ → List ℕ
quoted before name after = before ++ (name ++ after)

abbrev pub request_fault_text : RequestFault → List ℕ
request_fault_text Memory = codes "out of memory"
request_fault_text PackageRange = codes "package of a world out of range"
request_fault_text (UnknownWorld name) = quoted (codes "no world `") name.now (codes "`")
request_fault_text (SeveralWorlds name) = quoted (codes "several worlds `") name.now (codes "`")
request_fault_text (UnknownKey key) = quoted (codes "no export `") key.now (codes "`")
request_fault_text (SeveralKeys key) = quoted (codes "several exports `") key.now (codes "`")
request_fault_text (RepeatedKey key) = quoted (codes "export `") key.now (codes "` twice")
