-- A reply line has one line feed, its last byte.
use Rattle.std.proofs.Common.{◌≡◌, ◌<◌, ◌+◌, ◌/◌, ◌%◌, ◌++◌, ◌==◌, ℕ, ℤ, zero, suc, Bool, true, false, List, [], ◌∷◌, refl, sym, subst, arith, nat_lt, append_assoc, take, drop, get_or, ap, ◌∙◌}
use Rattle.std.specs.Prelude.{Some, None, codes, unsigned_abs}
use Rattle.std.specs.Bool.{if◌then◌else◌}
use Rattle.std.specs.List.{All, list_all}
use Rattle.std.specs.Char.{IsAsciiAlphanumeric}
use Rattle.std.specs.Fmt.{decimal, digits, digits_onto, digit_glyph}
use Rattle.std.proofs.lemmas.Grind.{common_steps}
use Rattle.std.proofs.lemmas.List.{take-append-drop, drop_more}
use Rattle.std.proofs.lemmas.Bool.{ltb-true}
use Rattle.std.proofs.lemmas.List.Elements.{All-append}
use Rattle.std.proofs.lemmas.List.Sums.{AllPass-from_list_all}
use Rattle.rd_plane.specs.Plane.{Vertex, Segment}
use Rattle.field_text.specs.Forms.{IsFieldByte, padded}
use Rattle.field_text.specs.Coordinates.{IsPrintedMm, sign}
use Rattle.field_text.proofs.Solid.{solid_moment}
use Rattle.imgeo_types.specs.Fields.{IsHolder, IsIdent}
use Rattle.imgeo_types.specs.declared.fault.ItemFault.{ItemFault}
use Rattle.imgeo_types.specs.declared.fault.ItemFault.TheVariants.{Level, Code, Missing, PandNumber}
use Rattle.imgeo_types.specs.declared.kind.Attr.{Attr}
use Rattle.imgeo_types.specs.declared.kind.Attr.TheVariants.{Functie, Voorkomen, Soort}
use Rattle.imgeo_types.specs.Kinds.{attr_word}
use Rattle.imgeo_types.proofs.Words.{solid_word}
use Rattle.ring_simple.specs.declared.fault.RingFault.{RingFault}
use Rattle.ring_simple.specs.declared.fault.RingFault.TheVariants.{Few, Repeat, Meets}
use Rattle.part_shape.specs.declared.fault.ShapeNote.{ShapeNote}
use Rattle.part_shape.specs.declared.fault.ShapeNote.TheVariants as shape_note
use Rattle.message_text.specs.declared.fault.LimitName.{LimitName}
use Rattle.message_text.specs.declared.fault.LimitName.TheVariants as limit
use Rattle.map_rules.specs.declared.refusal.Refusal.{Refusal}
use Rattle.map_rules.specs.declared.refusal.Refusal.TheVariants as refusal
use Rattle.map_rules.specs.declared.refusal.AreaNote.{AreaNote}
use Rattle.map_rules.specs.declared.refusal.AreaNote.TheVariants as area_note
use Rattle.map_rules.specs.declared.refusal.FullName.{FullName}
use Rattle.map_rules.specs.declared.refusal.FullName.TheVariants.{Holders, Objects}
use Rattle.map_rules.specs.declared.refusal.Answer.{Answer}
use Rattle.map_rules.specs.declared.refusal.Answer.TheVariants.{Taken, Refused}
use Rattle.map_core.specs.Replies.{IsInLine, HasOneEnd, IsOwned, IsOwnedAnswer, numbered, numbered_pair, limit_word, full_word, item_word, ring_words, shape_words, area_words, WithMoment, IsPointText, IsEdgeText, IsRefusalText, IsAnswerText}

Line : List ℕ → Type 0
Line text = All IsInLine text

literal : (w : List ℕ) → list_all (λ b. nat_lt 31 b) w ≡ true → All IsInLine w
literal w h i d inside = ltb-true 31 _ (AllPass-from_list_all (λ b. nat_lt 31 b) w h i d inside)

nothing : All IsInLine []
nothing k d lt = absurd (omega (arith, lt))

behind : (a b : List ℕ) → All IsInLine a → All IsInLine b → All IsInLine (a ++ b)
behind a b h k = All-append IsInLine a b h k

mark : (b : ℕ) (f : List ℕ) → 31 < b → All IsInLine f → All IsInLine (b ∷ f)
mark b f h k zero d lt = h
mark b f h k (suc i) d lt = k i d (omega (arith, lt))

field : (f : List ℕ) → All IsFieldByte f → All IsInLine f
field f h = λ k d lt. let solid = h k d lt in omega (arith, solid)

glyph : (d : ℕ) → 31 < digit_glyph false d
glyph d = by_case (nat_lt d 10)
  where
    by_case : (b : Bool) → 31 < (if b then 48 + d else 87 + d)
    by_case true = omega arith
    by_case false = omega arith

choose : (b : Bool) (x y : List ℕ) → All IsInLine x → All IsInLine y → All IsInLine (if b then x else y)
choose true x y h k = h
choose false x y h k = k

-- digits stand before what is in a line
onto : (k n : ℕ) (acc : List ℕ) → All IsInLine acc → All IsInLine (digits_onto k 10 false n acc)
onto zero n acc h = h
onto (suc k) n acc h = choose (n / 10 == 0) (digit_glyph false (n % 10) ∷ acc)
    (digits_onto k 10 false (n / 10) (digit_glyph false (n % 10) ∷ acc)) (mark (digit_glyph false (n % 10)) acc (glyph (n % 10)) h)
    (onto k (n / 10) (digit_glyph false (n % 10) ∷ acc) (mark (digit_glyph false (n % 10)) acc (glyph (n % 10)) h))

number : (n : ℕ) → All IsInLine (decimal n)
unfolding digits
number n = onto 64 n [] nothing

pads : (width n : ℕ) → All IsInLine (padded width n)
pads zero n = nothing
pads (suc width) n = behind (padded width (n / 10)) ((48 + n % 10) ∷ []) (pads width (n / 10)) (mark (48 + n % 10) [] (omega arith) nothing)

minus : (b : Bool) → All IsInLine (sign b)
minus true = mark 45 [] (omega arith) nothing
minus false = nothing

mm : (text : List ℕ) (x : ℤ) → IsPrintedMm text x → All IsInLine text
mm text x h =
    subst (λ (t : List ℕ). All IsInLine t) (sym h.text) (behind (sign _) _ (minus _) (behind (padded h.width _) _ (pads h.width _)
    (mark 46 (padded 3 (unsigned_abs x % 1000)) (omega arith) (pads 3 (unsigned_abs x % 1000)))))

with_moment : (words text : List ℕ) (moment : ℤ) → All IsInLine words → WithMoment words text moment → All IsInLine text
with_moment words text moment w (f, is, e)
    = subst (λ (t : List ℕ). All IsInLine t) (sym e) (behind words f w (field f (solid_moment f moment is.is)))

point : (text : List ℕ) (p : Vertex) → IsPointText text p → All IsInLine text
point text p (x, y, is_x, is_y, e)
    = subst (λ (t : List ℕ). All IsInLine t) (sym e) (behind x _ (mm x p.x is_x) (mark 32 y (omega arith) (mm y p.y is_y)))

edge : (text : List ℕ) (e : Segment) → IsEdgeText text e → All IsInLine text
edge text e (a, b, is_a, is_b, is)
    = subst (λ (t : List ℕ). All IsInLine t) (sym is) (behind a _ (point a e.a is_a) (mark 32 b (omega arith) (point b e.b is_b)))

words_number : (words : List ℕ) (n : ℕ) → All IsInLine words → All IsInLine (numbered words n)
words_number words n w = behind words (decimal n) w (number n)

words_pair : (words : List ℕ) (m n : ℕ) → All IsInLine words → All IsInLine (numbered_pair words m n)
words_pair words m n w = behind (numbered words m) (32 ∷ decimal n) (words_number words m w) (mark 32 (decimal n) (omega arith) (number n))

and_word : (words word : List ℕ) → All IsInLine words → All IsInLine word → All IsInLine (words ++ 32 ∷ word)
and_word words word w h = behind words (32 ∷ word) w (mark 32 word (omega arith) h)

limits : (which : LimitName) → All IsInLine (limit_word which)
limits limit.Mutations = literal (codes "mutations") refl
limits limit.Rings = literal (codes "rings") refl
limits limit.Points = literal (codes "points") refl
limits limit.Area = literal (codes "area") refl

fulls : (which : FullName) → All IsInLine (full_word which)
fulls Holders = literal (codes "holders") refl
fulls Objects = literal (codes "objects") refl

attr : (a : Attr) → All IsInLine (attr_word a)
attr Functie = literal (codes "functie") refl
attr Voorkomen = literal (codes "fysiekVoorkomen") refl
attr Soort = literal (codes "type") refl

item : (f : ItemFault) → All IsInLine (item_word f)
item Level = literal (codes "level") refl
item (Code a) = behind (codes "code ") (attr_word a) (literal (codes "code ") refl) (attr a)
item (Missing a) = behind (codes "missing ") (attr_word a) (literal (codes "missing ") refl) (attr a)
item PandNumber = literal (codes "bagpnd") refl

ring : (at : ℕ) (f : RingFault) → All IsInLine (ring_words at f)
ring at Few = words_number (codes "few ") at (literal (codes "few ") refl)
ring at (Repeat p) = words_pair (codes "repeat ") at p (literal (codes "repeat ") refl)
ring at (Meets a b) = and_word (numbered_pair (codes "meets ") at a) (decimal b) (words_pair (codes "meets ") at a (literal (codes "meets ") refl)) (number b)

shape : (n : ShapeNote) → All IsInLine (shape_words n)
shape (shape_note.Ring at f) = ring at f
shape (shape_note.RingsMeet a b) = words_pair (codes "rings ") a b (literal (codes "rings ") refl)
shape shape_note.Wound = literal (codes "wound") refl
shape (shape_note.Turned at) = words_number (codes "turned ") at (literal (codes "turned ") refl)

-- capital letters and digits
holder : (h : List ℕ) → IsHolder h → All IsInLine h
holder [] h = nothing
holder (b ∷ bs) h = mark b bs (omega (arith, h.letter)) (λ k d lt. let digit = h.digits k d lt in omega (arith, digit))

-- a holder, a full stop, letters and digits
letters : (f : List ℕ) → All IsAsciiAlphanumeric f → All IsInLine f
letters f h = λ k d lt. grind (arith, common_steps, h k d lt)

ident : (f : List ℕ) → IsIdent f → All IsInLine f
ident f h =
    let long = h.len in
    let spelled : f ≡ take 5 f ++ (get_or f 5 0 ∷ drop 6 f)
    = sym (take-append-drop 5 f) ∙ ap (λ (x : List ℕ). take 5 f ++ x) (drop_more f 5 0 (omega arith)) in
    let stop = h.stop in
    subst (λ (x : List ℕ). All IsInLine x) (sym spelled)
    (behind (take 5 f) (get_or f 5 0 ∷ drop 6 f) (holder _ h.holder) (mark _ _ (omega (arith, stop)) (letters _ h.behind)))

area : (n : AreaNote) → IsOwned (refusal.Area n) → All IsInLine (area_words n)
area (area_note.Shape at n) o = and_word (numbered (codes "shape ") at) (shape_words n)
    (words_number (codes "shape ") at (literal (codes "shape ") refl)) (shape n)
area (area_note.Own a b) o = words_pair (codes "own ") a b (literal (codes "own ") refl)
area (area_note.Meets h) o = behind (codes "meets ") h (literal (codes "meets ") refl) (holder h o)

is_text : (text words : List ℕ) → text ≡ words → All IsInLine words → All IsInLine text
is_text text words e w = subst (λ (t : List ℕ). All IsInLine t) (sym e) w

refused : (r : Refusal) (text : List ℕ) → IsOwned r → IsRefusalText text r → All IsInLine text
refused refusal.TooLong text o h = is_text text _ h (literal (codes "E1 TOOLONG") refl)
refused (refusal.Syntax line) text o h = is_text text _ h (words_number (codes "E2 SYNTAX ") line (literal (codes "E2 SYNTAX ") refl))
refused (refusal.Arc line) text o h = is_text text _ h (words_number (codes "E3 ARC ") line (literal (codes "E3 ARC ") refl))
refused (refusal.Limit which) text o h = is_text text _ h (behind (codes "E4 LIMIT ") (limit_word which) (literal (codes "E4 LIMIT ") refl) (limits which))
refused (refusal.Stale kept) text o h = with_moment (codes "E5 STALE ") text kept (literal (codes "E5 STALE ") refl) h
refused (refusal.Twice at) text o h = is_text text _ h (words_number (codes "E6 TWICE ") at (literal (codes "E6 TWICE ") refl))
refused (refusal.Prefix at) text o h = is_text text _ h (words_number (codes "E7 PREFIX ") at (literal (codes "E7 PREFIX ") refl))
refused (refusal.Known at) text o h = is_text text _ h (words_number (codes "E8 KNOWN ") at (literal (codes "E8 KNOWN ") refl))
refused (refusal.Unknown at None) text o h = is_text text _ h
    (behind (numbered (codes "E9 UNKNOWN ") at) (codes " -")
    (words_number (codes "E9 UNKNOWN ") at (literal (codes "E9 UNKNOWN ") refl)) (literal (codes " -") refl))
refused (refusal.Unknown at (Some ended)) text o h =
    with_moment (numbered (codes "E9 UNKNOWN ") at ++ 32 ∷ []) text ended
    (and_word (numbered (codes "E9 UNKNOWN ") at) [] (words_number (codes "E9 UNKNOWN ") at (literal (codes "E9 UNKNOWN ") refl))
    nothing) h
refused (refusal.Owner at h) text o e = is_text text _ e
    (and_word (numbered (codes "E10 OWNER ") at) h (words_number (codes "E10 OWNER ") at (literal (codes "E10 OWNER ") refl)) (holder h o))
refused (refusal.Was at kept) text o h = with_moment (numbered (codes "E11 WAS ") at ++ 32 ∷ []) text kept
    (and_word (numbered (codes "E11 WAS ") at) [] (words_number (codes "E11 WAS ") at (literal (codes "E11 WAS ") refl)) nothing) h
refused (refusal.Kind at kind) text o h = is_text text _ h
    (and_word (numbered (codes "E12 KIND ") at) _ (words_number (codes "E12 KIND ") at (literal (codes "E12 KIND ") refl))
    (field _ (solid_word kind)))
refused (refusal.Item at f) text o h = is_text text _ h
    (and_word (numbered (codes "E13 ITEM ") at) (item_word f) (words_number (codes "E13 ITEM ") at (literal (codes "E13 ITEM ") refl))
    (item f))
refused (refusal.Days at) text o h = is_text text _ h (words_number (codes "E14 DAYS ") at (literal (codes "E14 DAYS ") refl))
refused (refusal.Shape at what) text o h = is_text text _ h
    (and_word (numbered (codes "E15 SHAPE ") at) (shape_words what)
    (words_number (codes "E15 SHAPE ") at (literal (codes "E15 SHAPE ") refl)) (shape what))
refused (refusal.Full which) text o h = is_text text _ h (behind (codes "E16 FULL ") (full_word which) (literal (codes "E16 FULL ") refl) (fulls which))
refused (refusal.Area what) text o h = is_text text _ h (behind (codes "E17 AREA ") (area_words what) (literal (codes "E17 AREA ") refl) (area what o))
refused (refusal.Levels a b) text o h = is_text text _ h (behind (codes "E18 LEVELS ") (a ++ 32 ∷ b) (literal (codes "E18 LEVELS ") refl)
    (and_word a b (ident a o.0) (ident b o.1)))
refused (refusal.Node v e) text o (at, ends, is_at, is, t) = is_text text _ t (behind (codes "E19 NODE ") (at ++ 32 ∷ ends) (literal (codes "E19 NODE ") refl)
    (and_word at ends (point at v is_at) (edge ends e is)))
refused (refusal.Tiled e) text o (ends, is, t) = is_text text _ t (behind (codes "E20 TILED ") ends (literal (codes "E20 TILED ") refl) (edge ends e is))

answered : (answer : Answer) (text : List ℕ) → IsOwnedAnswer answer → IsAnswerText text answer → All IsInLine text
answered Taken text o h = is_text text _ h (literal (codes "OK") refl)
answered (Refused r) text o h = refused r text o h

-- the line that is made of these has one end
pub one_end : (n : ℕ) (answer : Answer) (text start first spaced said new : List ℕ) → IsOwnedAnswer answer → IsAnswerText text answer
    → start ≡ [] → first ≡ start ++ decimal n → spaced ≡ first ++ 32 ∷ [] → said ≡ spaced ++ text → new ≡ said ++ 10 ∷ [] → HasOneEnd new
one_end n answer text start first spaced said new o is e_start e_first e_spaced e_said e_new = (
  decimal n ++ 32 ∷ text,
  and_word (decimal n) text (number n) (answered answer text o is),
  rw (e_new, e_said, e_spaced, e_first, e_start) (simp append_assoc),
)
