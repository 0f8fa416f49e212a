use Rattle.map_rows.proofs.messages.two_tries.Given as goal

abbrev pub ghosts-tried : goal.ghosts-tried
ghosts-tried g a = record { name = a.blank.name; parts = a.blank.parts }
