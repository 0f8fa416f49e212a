-- Runs of calls through which a crash leaves nothing new.
use Rattle.std.proofs.Common.{ℕ, List, Option}
use Rattle.outside.specs.Crash.{At, LeavesOnly, NoneNew, Telling}
use Rattle.outside.proofs.Moments.{run_on, started, weaker}
use Rattle.bgt_cli.specs.Query.{LeavesNothingNew}

module _ {O : Type 0} (leaves : O → List ℕ → Type 0) (clock : O → ℕ) (left : O → ℕ → List ℕ → List ℕ → Type 0) where
  -- no call yet
  pub none_yet : (told_now : Option (List ℕ)) (old : O)
      → ((told image : List ℕ) → left old (clock old) told image → At told_now (leaves old) told image)
      → LeavesNothingNew leaves clock left old old
  none_yet told_now old only = record {
    throughout = started clock left old (λ told image. leaves old image) (λ told image was. (only told image was).1);
    at_end = λ image now. now;
  }

  -- bytes were told
  pub while_telling : (told_then : Option (List ℕ)) (text : List ℕ) (n : ℕ) (old new : O) → NoneNew (leaves old) (leaves new)
      → LeavesOnly clock left old new (Telling told_then text n (leaves old)) → LeavesNothingNew leaves clock left old new
  while_telling told_then text n old new none moments = record {
    throughout = weaker clock left old new (Telling told_then text n (leaves old)) (λ told image. leaves old image) moments
        (λ told image h. h.2.1);
    at_end = none;
  }

  -- the file was read
  pub while_reading : (told_then : Option (List ℕ)) (old new : O) → NoneNew (leaves old) (leaves new)
      → LeavesOnly clock left old new (At told_then (leaves old)) → LeavesNothingNew leaves clock left old new
  while_reading told_then old new none moments = record {
    throughout = weaker clock left old new (At told_then (leaves old)) (λ told image. leaves old image) moments (λ told image h. h.1);
    at_end = none;
  }

  -- one after the other
  pub quiet_on : (old mid new : O) → LeavesNothingNew leaves clock left old mid → LeavesNothingNew leaves clock left mid new
      → LeavesNothingNew leaves clock left old new
  quiet_on old mid new first then = record {
    throughout
        = run_on clock left old mid new (λ told image. leaves old image) (λ told image. leaves mid image) (λ told image. leaves old image)
        first.throughout then.throughout
        (λ told image h. h) (λ told image h. first.at_end image h);
    at_end = λ image now. first.at_end image (then.at_end image now);
  }
