use Rattle.alta_replies.proofs.dumping.dumped.Given as goal

abbrev pub ghosts-all_dumped : goal.ghosts-all_dumped
ghosts-all_dumped a = record { name = a.blank.name; parts = a.blank.parts }
