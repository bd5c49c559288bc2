use Rattle.std.proofs.Common.{◌≡◌, length, rules}
use Rattle.alta_disk.proofs.FillLaws.{filled_more, wrote_filled, tore_filled}
use Rattle.alta_disk.proofs.rebuilt.fill_event.Goals as goal

pub returns-in-Wrote : goal.returns-in-Wrote
returns-in-Wrote c = λ ranges content so_far.
    let size : c.len.result ≡ length c.in-Wrote.bytes.items = search rules in
    wrote_filled c.args.byte ranges content _ c.args.event.now c.in-Wrote.at c.len.result c.in-Wrote.bytes c.in-Wrote.is size (filled_more c.args.byte c.in-Wrote.at c.len.result ranges content _ _ so_far c.fill.ensures)

pub returns-in-Tore : goal.returns-in-Tore
returns-in-Tore c = λ ranges content so_far.
    tore_filled c.args.byte ranges content _ c.args.event.now c.in-Tore.at c.in-Tore.n c.in-Tore.is (filled_more c.args.byte c.in-Tore.at c.in-Tore.n ranges content _ _ so_far c.fill-in-Tore.ensures)
