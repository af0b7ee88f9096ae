use Rattle.std.proofs.Common.{◌∷◌, get_or, take}
use Rattle.std.specs.Fmt.{HasWritten, IsPlainFormatter}
use Rattle.wc_read.specs.declared.types.ValType.TheVariants.{I32}
use Rattle.wc_validate.specs.Texts.{type_list_text}
use Rattle.wc_validate.proofs.place.TypeListDisplay.fmt.Given as goal

abbrev pub invariant-loop-ty : goal.invariant-loop-ty
invariant-loop-ty g l =
    IsPlainFormatter l.fn.f
    → HasWritten g.W.Write.write_str_gives l.fn.f (type_list_text (get_or l.self.0.now 0 I32 ∷ take l.ty-index l.rest)) l.f
