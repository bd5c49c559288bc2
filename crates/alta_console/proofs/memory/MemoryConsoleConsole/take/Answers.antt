use Rattle.std.proofs.Common.{◌≡◌, length, take, drop, rules, arith}
use Rattle.std.proofs.lemmas.Grind.{common_steps}
use Rattle.alta_console.proofs.MemoryLaws.{copied_first, next_sizes}
use Rattle.alta_console.proofs.memory.MemoryConsoleConsole.take.Goals as goal

pub returns-clause-input : goal.returns-clause-input
returns-clause-input c =
    let first : c.copy_from_slice.new.self ≡ take c.next_size-n.result (drop c.args.self.now.at c.args.self.now.input.items) = grind (arith, common_steps) in
    let long : length c.copy_from_slice.new.self ≡ c.next_size-n.result = grind (arith, common_steps) in
    copied_first c.args.self.now.input.items c.args.buf.now c.copy_from_slice.new.self c.args.self.now.at c.next_size-n.result first long

pub returns-clause-sizes : goal.returns-clause-sizes
returns-clause-sizes c = next_sizes c.args.self.now.pieces.items c.args.self.now.turn c.min-self.result (search rules) (λ l. search rules) (search rules)
