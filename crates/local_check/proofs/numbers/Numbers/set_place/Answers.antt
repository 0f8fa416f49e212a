use Rattle.std.proofs.Common.{◌≡◌, refl, sym}
use Rattle.std.specs.Prelude.{Some}
use Rattle.local_check.specs.declared.numbers.Known.{Known}
use Rattle.local_check.specs.Numbered.{known_at}
use Rattle.local_check.proofs.Numbering.{moved_elsewhere, moved_same}
use Rattle.local_check.proofs.numbers.Numbers.set_place.Goals as goal

pub returns-in-Some-clause-same : goal.returns-in-Some-clause-same
returns-in-Some-clause-same c =
    let old = c.args.self.now in
    let moved : Known = record { number = c.in-Some.known.now.number; place = c.args.place } in
    let found : Some c.in-Some.known.now ≡ known_at old c.args.ident = rw (c.of.ensures, c.in-Some.is) at c.get_mut.ensures.value in
    moved_same old (record { by_ident = c.get_mut.follows.lender moved; next = old.next }) c.args.ident c.in-Some.known.now c.args.place
    found
    (rw c.of.ensures at ((c.get_mut.follows.holds moved).3 (rw (c.of.ensures, sym found) refl)).0)

pub returns-in-Some-clause-elsewhere : goal.returns-in-Some-clause-elsewhere
returns-in-Some-clause-elsewhere c =
    let old = c.args.self.now in
    let moved : Known = record { number = c.in-Some.known.now.number; place = c.args.place } in
    let found : Some c.in-Some.known.now ≡ known_at old c.args.ident = rw (c.of.ensures, c.in-Some.is) at c.get_mut.ensures.value in
    moved_elsewhere old (record { by_ident = c.get_mut.follows.lender moved; next = old.next }) c.args.ident c.in-Some.known.now
    c.args.place found
    (rw c.of.ensures at ((c.get_mut.follows.holds moved).3 (rw (c.of.ensures, sym found) refl)).0)
