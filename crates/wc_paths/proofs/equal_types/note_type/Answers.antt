use Rattle.std.proofs.Common.{Some, None, sym}
use Rattle.wc_read.specs.Types.{func_type_value}
use Rattle.wc_paths.proofs.EqualTypeLemmas.{looked, new_noted, noted}
use Rattle.wc_paths.proofs.equal_types.note_type.Goals as goal

pub returns-in-Some : goal.returns-in-Some
returns-in-Some c = λ types is before.
    let t = func_type_value c.args.ty.now in
    let old = c.args.places.now.entries in
    noted types c.args.index t is old before c.in-Some.first.now
    (looked t c.in_ok-key.key c.in_ok-key.ensures old (Some c.in-Some.first.now) c.in-Some.ensures.value)

pub returns : goal.returns
returns c = λ types is before.
    let t = func_type_value c.args.ty.now in
    let old = c.args.places.now.entries in
    new_noted types c.args.index t is old before _ c.in_ok-key.key c.insert.new.self.entries c.in_ok-key.ensures
    (looked t c.in_ok-key.key c.in_ok-key.ensures old None c.in_default.ensures.value) (sym c.in_default.ensures.value) c.in_ok-insert.ensures.entries
