use Rattle.area_book.proofs.bounds.joined.Goals as goal

pub returns-in-Some : goal.returns-in-Some
returns-in-Some c = λ corners others b o. c.join.ensures corners others (rw c.in-Some.is at b) o
