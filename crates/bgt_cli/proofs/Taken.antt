-- An input that is taken piece by piece, before anything is told.
use Rattle.std.proofs.Common.{◌≡◌, ◌≤◌, ◌<◌, ◌+◌, ◌++◌, ◌∙◌, ℕ, List, [], length, drop, refl, sym, ap, subst, arith, append-nil}
use Rattle.std.specs.Prelude.{Some, option_map}
use Rattle.std.specs.Option.{ForSome}
use Rattle.std.proofs.lemmas.List.{length-append, length-drop, nil_from_length, take_all}
use Rattle.outside.specs.Outside.{Shown}
use Rattle.message_text.specs.declared.limits.Limits.{Limits}
use Rattle.bgt_cli.specs.declared.status.Status.{Status}
use Rattle.bgt_cli.specs.declared.status.Status.TheVariants.{Good, Refused, Usage, ReadFault, WriteFault, DiskFault, BadJournal, NoMemory, InputLong, JournalFull}
use Rattle.bgt_cli.specs.Stops.{FailsToFeed, TakesPiece}
use Rattle.bgt_cli.specs.Stream.{Goes}
use Rattle.bgt_cli.specs.Taking.{StopsTaking, TakesMore, TakesWhole}
use Rattle.bgt_cli.proofs.Going.{first_on, goes_on, stays}

-- no piece yet
pub none_taken : (s : Shown) → TakesPiece [] s s
none_taken s = record {
  goes = stays s;
  first = λ input e. (omega arith, refl);
}

-- one piece behind another
pub piece_on : (first then : List ℕ) (a b c : Shown) → TakesPiece first a b → TakesPiece then b c → TakesPiece (first ++ then) a c
piece_on first then a b c h k = record {
  goes = subst (λ (n : ℕ). Goes n [] a c) (sym (length-append first then)) (goes_on (length first) (length then) [] [] a b c h.goes k.goes);
  first = first_on first then [] a b h.goes h.first k.first;
}

-- what was taken, once more was
pub more_taken : (before now : List ℕ) (a b c : Shown) (n : ℕ) → TakesPiece before a b → TakesMore before now b c n → TakesPiece now a c
more_taken before now a b c n h more = subst (λ (l : List ℕ). TakesPiece l a c) (sym more.3) (piece_on before more.0 a b c h more.2)

pub more_length : (before now : List ℕ) (b c : Shown) (n : ℕ) → TakesMore before now b c n → length now ≡ length before + n
more_length before now b c n more = omega (arith, ap length more.3, length-append before more.0, more.1)

-- where nothing is left, the whole input was taken
whole_taken : (bytes input : List ℕ) (a b : Shown) → TakesPiece bytes a b → ForSome b.input (λ rest. rest ≡ []) → a.input ≡ Some input
    → bytes ≡ input
whole_taken bytes input a b h none e =
    let rest : b.input ≡ Some (drop (length bytes) input) = ap (λ (s : Shown). s.input) h.goes ∙ ap (option_map (drop (length bytes))) e in
    let empty = none (drop (length bytes) input) rest in
    let first = h.first input e in
    first.1 ∙ take_all (length bytes) input (omega (arith, ap length empty, length-drop (length bytes) input))

-- none came
same_bytes : (before now : List ℕ) (b c : Shown) → TakesMore before now b c 0 → now ≡ before
same_bytes before now b c more = more.3 ∙ (ap (λ (l : List ℕ). before ++ l) (nil_from_length more.0 more.1) ∙ append-nil before)

-- the end of the input was met
pub all_taken : (limits : Limits) (bytes : List ℕ) (may : ℕ) (a b c : Shown) (now : List ℕ) → TakesPiece bytes a b
    → length bytes + may ≡ limits.input_bytes → 0 < may
    → TakesMore bytes now b c 0 → ForSome b.input (λ input. input ≡ []) → TakesWhole limits now a c
all_taken limits bytes may a b c now h size some more none = record {
  taken = more_taken bytes now a b c 0 h more;
  short = omega (arith, more_length bytes now b c 0 more, size, some);
  whole = λ input e. same_bytes bytes now b c more ∙ whole_taken bytes input a b h none e;
}

-- or not
pub fails : (limits : Limits) (most : ℕ) (bytes : List ℕ) (may : ℕ) (a b c : Shown) (status : Status) → TakesPiece bytes a b
    → length bytes + may ≡ limits.input_bytes
    → FailsToFeed most b c status → most ≤ may → StopsTaking limits a c status
fails limits most bytes may a b c ReadFault h size failed room = record {
  bytes = bytes ++ [];
  taken = piece_on bytes [] a b c h failed;
  few = omega (arith, length-append {A = ℕ} bytes [], size);
  stop = tt;
}
fails limits most bytes may a b c NoMemory h size failed room = record {
  bytes = bytes ++ failed.0;
  taken = piece_on bytes failed.0 a b c h failed.2;
  few = omega (arith, length-append bytes failed.0, size, failed.1, room);
  stop = tt;
}
fails limits most bytes may a b c Good h size failed room = absurd failed
fails limits most bytes may a b c Refused h size failed room = absurd failed
fails limits most bytes may a b c Usage h size failed room = absurd failed
fails limits most bytes may a b c WriteFault h size failed room = absurd failed
fails limits most bytes may a b c DiskFault h size failed room = absurd failed
fails limits most bytes may a b c BadJournal h size failed room = absurd failed
fails limits most bytes may a b c InputLong h size failed room = absurd failed
fails limits most bytes may a b c JournalFull h size failed room = absurd failed

-- as many bytes were taken as the limit allows
pub long_taken : (limits : Limits) (bytes : List ℕ) (a b : Shown) → TakesPiece bytes a b → length bytes + 0 ≡ limits.input_bytes
    → StopsTaking limits a b InputLong
long_taken limits bytes a b h size = record {
  bytes = bytes;
  taken = h;
  few = omega (arith, size);
  stop = omega (arith, size);
}
