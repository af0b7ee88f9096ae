use Rattle.std.proofs.Common.{◌≡◌, true, take}
use Rattle.wc_why_text.specs.RustNames.{is_llvm_digit}
use Rattle.std.specs.List.{list_all}
use Rattle.wc_why_text.proofs.rust_names.are_llvm_digits.Given as goal

abbrev pub invariant-loop-c : goal.invariant-loop-c
invariant-loop-c l = list_all is_llvm_digit (take l.c-index l.digits) ≡ true
