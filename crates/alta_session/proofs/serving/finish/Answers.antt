use Rattle.std.proofs.Common.{◌≡◌, List, ℕ, [], ◌∷◌, length, refl, sym, subst, rules, arith}
use Rattle.alta_console.specs.Lines.{last_piece}
use Rattle.alta_session.specs.Fed.{Fed}
use Rattle.alta_session.proofs.EndingLaws.{counts_none}
use Rattle.alta_session.proofs.FedLaws.{fed_none}
use Rattle.alta_session.proofs.serving.finish.Goals as goal

no_bytes : (bytes : List ℕ) → length bytes ≡ 0 → bytes ≡ []
no_bytes [] is = refl
no_bytes (x ∷ xs) is = absurd (omega arith)

pub returns-then-is_empty : goal.returns-then-is_empty
returns-then-is_empty g c = record {
  feeds = record {
    ok = let none : c.args.begun.now ≡ [] = no_bytes c.args.begun.now (search rules) in
        let P : List ℕ → Type 0 = λ l. Fed g.D.Disk.tells (g.C.Console.told c.args.console.now) (g.C.Console.told c.args.console.now) (g.D.Disk.state c.args.disk.now) (g.D.Disk.state c.args.disk.now) c.args.session.now c.args.session.now (last_piece l) in
        subst P (sym none) (fed_none g.D.Disk.tells (g.C.Console.told c.args.console.now) (g.D.Disk.state c.args.disk.now) c.args.session.now (g.met.D.Disk.lawful c.args.disk.now));
    err = tt;
  };
  can = c.requires.can;
  accounts = record { ends = tt; caused = tt; input_kept = refl; counts = counts_none g.C.Console.take_faults g.C.Console.give_faults c.args.console.now (g.D.Disk.state c.args.disk.now) };
}
