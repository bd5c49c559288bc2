use Rattle.alta_replies.proofs.searching.answered.Given as goal

abbrev pub ghosts-counted : goal.ghosts-counted
ghosts-counted a = λ c. record { name = c.blank.name; parts = c.blank.parts }
