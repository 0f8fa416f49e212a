-- The definitions at worked values.
use Rattle.std.proofs.Common.{◌≡◌, refl, codes, rules, length, filter}
use Rattle.imgeo_types.specs.Fields.{IsHolder, IsIdent, IsCode, holder_of}
use Rattle.imgeo_types.specs.Kinds.{is_dividing, is_plane}
use Rattle.imgeo_types.proofs.Words.{kinds}

holder : IsHolder (codes "G0001")
holder = search rules

small_letter : ¬ IsHolder (codes "g0001")
small_letter = search rules

short_ident : ¬ IsIdent (codes "G0001.0123456789abcdefABCDEF012345678")
short_ident = search rules

no_stop : ¬ IsIdent (codes "G0001-0123456789abcdefABCDEF0123456789")
no_stop = search rules

its_holder : holder_of (codes "G0001.0123456789abcdefABCDEF0123456789") ≡ codes "G0001"
its_holder = refl

code : IsCode (codes "niet-bgt_2")
code = search rules

space_in_code : ¬ IsCode (codes "niet bgt")
space_in_code = search rules

eleven_dividing : length (filter is_dividing kinds) ≡ 11
eleven_dividing = refl

six_plane : length (filter is_plane kinds) ≡ 6
six_plane = refl
