-- How `rings` ends.
use Rattle.std.proofs.Common.{◌≡◌, ◌≢◌, ◌≤◌, ◌<◌, ◌+◌, ◌∙◌, ◌==◌, ◌&&◌, ℕ, Bool, true, false, List, [], length, take, refl, sym, ap, subst, arith}
use Rattle.std.specs.Prelude.{Some}
use Rattle.std.specs.Bool.{if◌then◌else◌}
use Rattle.std.specs.List.{list_all}
use Rattle.std.proofs.lemmas.Bool.{eqb-true}
use Rattle.std.proofs.lemmas.List.{nil_from_length}
use Rattle.outside.specs.Outside.{Faults, Rose, Shown}
use Rattle.message_text.specs.declared.limits.Limits.{Limits}
use Rattle.ring_judge.specs.declared.verdict.Verdict.{Verdict}
use Rattle.ring_judge.specs.Judging.{AreJudged}
use Rattle.ring_judge.specs.Verdicts.{is_fine}
use Rattle.bgt_cli.specs.declared.status.Status.{Status}
use Rattle.bgt_cli.specs.declared.status.Status.TheVariants.{Good, Refused, Usage, ReadFault, WriteFault, DiskFault, BadJournal, NoMemory, InputLong, JournalFull}
use Rattle.bgt_cli.specs.Clause.{TakesAtMost}
use Rattle.bgt_cli.specs.Complete.{IsWholeOrWant, NoneRose}
use Rattle.bgt_cli.specs.Rings.{EndsRings, IsRingsText, JudgedAll, JudgesRings}
use Rattle.bgt_cli.specs.Status.{IsWithoutFile, status_at_end}
use Rattle.bgt_cli.specs.Stream.{Goes, TellsFront}
use Rattle.bgt_cli.specs.Taking.{IsStop, StopsTaking, TakesWhole}
use Rattle.bgt_cli.proofs.Complete.{no_long}
use Rattle.bgt_cli.proofs.Going.{goes_on, stays}

-- ---- no call was made
pub not_begun : (limits : Limits) (input : List ℕ) (s : Shown) → JudgesRings limits input NoMemory s s
not_begun limits input s = record { n = 0; told = []; within = omega arith; goes = stays s; ends = refl }

pub not_begun_taken : (limit : ℕ) (s : Shown) → TakesAtMost limit s s
not_begun_taken limit s = (0, [], omega arith, stays s)

-- ---- the end of the input was not met
stop_ends : (limits : Limits) (input bytes taken : List ℕ) (status : Status) → bytes ≡ taken → IsStop limits bytes status
    → EndsRings limits input taken [] status
stop_ends limits input bytes taken ReadFault e stop = refl
stop_ends limits input bytes taken NoMemory e stop = refl
stop_ends limits input bytes taken InputLong e stop = (refl, sym (ap length e) ∙ stop)
stop_ends limits input bytes taken Good e stop = absurd stop
stop_ends limits input bytes taken Refused e stop = absurd stop
stop_ends limits input bytes taken Usage e stop = absurd stop
stop_ends limits input bytes taken WriteFault e stop = absurd stop
stop_ends limits input bytes taken DiskFault e stop = absurd stop
stop_ends limits input bytes taken BadJournal e stop = absurd stop
stop_ends limits input bytes taken JournalFull e stop = absurd stop

stop_without_file : (limits : Limits) (bytes : List ℕ) (status : Status) → IsStop limits bytes status
    → IsWithoutFile status × (status ≢ Usage)
stop_without_file limits bytes ReadFault stop = (tt, λ e. cc)
stop_without_file limits bytes NoMemory stop = (tt, λ e. cc)
stop_without_file limits bytes InputLong stop = (tt, λ e. cc)
stop_without_file limits bytes Good stop = absurd stop
stop_without_file limits bytes Refused stop = absurd stop
stop_without_file limits bytes Usage stop = absurd stop
stop_without_file limits bytes WriteFault stop = absurd stop
stop_without_file limits bytes DiskFault stop = absurd stop
stop_without_file limits bytes BadJournal stop = absurd stop
stop_without_file limits bytes JournalFull stop = absurd stop

module _ (limits : Limits) (status : Status) (old new : Shown) (h : StopsTaking limits old new status) where
  pub stopped : (input : List ℕ) → old.input ≡ Some input → JudgesRings limits input status old new
  stopped input e = record {
    n = length h.bytes;
    told = [];
    within = (h.taken.first input e).0;
    goes = h.taken.goes;
    ends = stop_ends limits input h.bytes (take (length h.bytes) input) status (h.taken.first input e).1 h.stop;
  }

  pub stopped_taken : TakesAtMost limits.input_bytes old new
  stopped_taken = (length h.bytes, [], h.few, h.taken.goes)

  pub stopped_without_file : IsWithoutFile status
  stopped_without_file = (stop_without_file limits h.bytes status h.stop).0

  pub stopped_listed : status ≢ Usage
  stopped_listed = (stop_without_file limits h.bytes status h.stop).1

-- ---- the input was taken to its end
module _ (limits : Limits) (bytes : List ℕ) (old mid : Shown) (h : TakesWhole limits bytes old mid) where
  -- and then there was no memory
  pub unanswered : (input : List ℕ) → old.input ≡ Some input → JudgesRings limits input NoMemory old mid
  unanswered input e = record {
    n = length bytes;
    told = [];
    within = (h.taken.first input e).0;
    goes = h.taken.goes;
    ends = refl;
  }

  pub unanswered_taken : TakesAtMost limits.input_bytes old mid
  unanswered_taken = (length bytes, [], omega (arith, h.short), h.taken.goes)

  -- or bytes were told
  told_goes : (new : Shown) (told : List ℕ) → Goes 0 told mid new → Goes (length bytes) told old new
  told_goes new told goes =
      let size : length bytes + 0 ≡ length bytes = omega arith in
      subst (λ (n : ℕ). Goes n told old new) size (goes_on (length bytes) 0 [] told old mid new h.taken.goes goes)

  pub answered_taken : (new : Shown) (told : List ℕ) → Goes 0 told mid new → TakesAtMost limits.input_bytes old new
  answered_taken new told goes = (length bytes, told, omega (arith, h.short), told_goes new told goes)

  judged_all : (input : List ℕ) (verdicts : List Verdict) (tail : List ℕ) → old.input ≡ Some input → AreJudged limits bytes verdicts tail
      → JudgedAll limits input (take (length bytes) input) verdicts tail
  judged_all input verdicts tail e judged =
      let same = h.whole input e in
      record {
        judged = subst (λ (l : List ℕ). AreJudged limits l verdicts tail) same judged;
        whole = sym (h.taken.first input e).1 ∙ same;
        short = omega (arith, h.short, ap length same);
      }

  -- all of it
  pub answered : (input text : List ℕ) (status : Status) (new : Shown) → old.input ≡ Some input → IsRingsText limits bytes text status
      → Goes 0 text mid new
      → JudgesRings limits input status old new
  answered input text status new e is goes = record {
    n = length bytes;
    told = text;
    within = (h.taken.first input e).0;
    goes = told_goes new text goes;
    ends = subst (λ (s : Status). EndsRings limits input (take (length bytes) input) text s) (sym is.ends)
        (at_end (list_all is_fine is.verdicts) (length is.tail == 0) refl refl);
  }
    where
      all : JudgedAll limits input (take (length bytes) input) is.verdicts is.tail
      all = judged_all input is.verdicts is.tail e is.judged

      at_end : (fine empty : Bool) → fine ≡ list_all is_fine is.verdicts → empty ≡ (length is.tail == 0)
          → EndsRings limits input (take (length bytes) input) text (if fine && empty then Good else Refused)
      at_end true true f r = (is.verdicts, is.tail, all, is.told, (sym f, nil_from_length is.tail (eqb-true (length is.tail) 0 (sym r))))
      at_end true false f r = (is.verdicts, is.tail, all, is.told, λ so. let not = r ∙ ap (λ (l : List ℕ). length l == 0) so.1 in cc)
      at_end false empty f r = (is.verdicts, is.tail, all, is.told, λ so. let not = f ∙ so.0 in cc)

  -- or a front of it
  pub cut_short : (input text : List ℕ) (status : Status) (new : Shown) → old.input ≡ Some input → IsRingsText limits bytes text status
      → TellsFront text mid new
      → JudgesRings limits input WriteFault old new
  cut_short input text status new e is front = record {
    n = length bytes;
    told = front.0;
    within = (h.taken.first input e).0;
    goes = told_goes new front.0 front.3;
    ends = (is.verdicts, is.tail, judged_all input is.verdicts is.tail e is.judged, (front.1, sym is.told ∙ front.2));
  }

-- a run that tells all ends with 0 or 1
pub at_end_listed : (fine : Bool) (rest : ℕ) (status : Status) → status ≡ status_at_end fine rest → IsWithoutFile status × (status ≢ Usage)
at_end_listed fine rest status e = subst (λ (s : Status). IsWithoutFile s × (s ≢ Usage)) (sym e) (by fine (rest == 0))
  where
    by : (fine empty : Bool) → IsWithoutFile (if fine && empty then Good else Refused) × ((if fine && empty then Good else Refused) ≢ Usage)
    by true true = (tt, λ e. cc)
    by true false = (tt, λ e. cc)
    by false empty = (tt, λ e. cc)

-- ---- where no call failed, a short input is answered to its end
module _ (limits : Limits) (n : ℕ) (input told : List ℕ) (within : n ≤ length input) (short : length input < limits.input_bytes)
    (before now : Faults) (none : NoneRose before now) where
  whole_ends : (status : Status) → EndsRings limits input (take n input) told status → (status ≡ ReadFault → Rose before.reads now.reads)
      → (status ≡ WriteFault → Rose before.writes now.writes) → IsWholeOrWant status
  whole_ends Good h read write = tt
  whole_ends Refused h read write = tt
  whole_ends NoMemory h read write = tt
  whole_ends Usage h read write = h
  whole_ends ReadFault h read write = none.reads (read refl)
  whole_ends WriteFault h read write = none.writes (write refl)
  whole_ends DiskFault h read write = h
  whole_ends BadJournal h read write = h
  whole_ends InputLong h read write = no_long n limits.input_bytes input within short h.1
  whole_ends JournalFull h read write = h

pub whole_rings : (limits : Limits) (input : List ℕ) (status : Status) (old new : Shown) (before now : Faults)
    → length input < limits.input_bytes → NoneRose before now
    → JudgesRings limits input status old new → (status ≡ ReadFault → Rose before.reads now.reads)
    → (status ≡ WriteFault → Rose before.writes now.writes) → IsWholeOrWant status
whole_rings limits input status old new before now short none j read write
    = whole_ends limits j.n input j.told j.within short before now none status j.ends read write
