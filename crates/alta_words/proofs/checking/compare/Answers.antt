use Rattle.alta_words.proofs.checking.compare.Goals as goal

pub whole-init : goal.whole-init
whole-init c = c.none-read.ensures.read c.args.stream.now c.args.table.now.bytes c.args.table.now.count
