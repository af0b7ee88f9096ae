use Rattle.std.proofs.Common.{◌<◌, length, arith, sym, append-nil, refl}
use Rattle.wc_paths.specs.Counts.{counts_value}
use Rattle.wc_paths.proofs.PathLemmas.{numbers_more}
use Rattle.wc_paths.proofs.counts.put_numbers.Goals as goal

pub loop-item-init : goal.loop-item-init
loop-item-init c = record { numbers = sym (append-nil c.args.out.now.items); all = refl }

pub loop-item-preserved : goal.loop-item-preserved
loop-item-preserved c =
    let within : c.loop-item.item-index < length c.args.items.now = omega arith in
    numbers_more (counts_value c.args.counts.now) c.args.items.now c.loop-item.item-index _ c.args.out.now.items c.loop-item.out.items c.put_number.new.out.items
    c.loop-item.there c.in_ok-there.field-0 within c.loop-item.invariant c.in_ok-there.ensures.numbers c.in_ok-there.ensures.there
