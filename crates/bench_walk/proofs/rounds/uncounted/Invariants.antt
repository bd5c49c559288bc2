use Rattle.bench_walk.proofs.rounds.uncounted.Given as goal

abbrev pub ghosts-rounds : goal.ghosts-rounds
ghosts-rounds a = record { name = a.blank.name; parts = a.blank.parts }
