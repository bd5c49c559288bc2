use Rattle.alta_replies.proofs.paging.next_page.Given as goal

abbrev pub ghosts-take_page : goal.ghosts-take_page
ghosts-take_page a = record { name = a.blank.name; parts = a.blank.parts }
