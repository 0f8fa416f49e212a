use Rattle.rd_plane.specs.Plane.{point_of}
use Rattle.moment_query.specs.Points.{is_border}
use Rattle.moment_query.proofs.OnePart.{free, only_word, part_is, right_word}
use Rattle.moment_query.proofs.laws.one_word.Goals as goal

pub returns-clause-is : goal.returns-clause-is
returns-clause-is c = λ s moment p good. right_word s moment p (is_border s moment (point_of p)) (λ off_border.
    let known = c.one_area_and_one_part.ensures in
    let off_maps = free s moment (point_of p) off_border in
    part_is s moment (point_of p) (known.area s moment (point_of p) good off_maps) (known.part s moment (point_of p) good off_maps)
    (known.outside s moment (point_of p) good off_maps))

pub returns-clause-only : goal.returns-clause-only
returns-clause-only c = λ s moment p word is. only_word s moment p (is_border s moment (point_of p)) word is
