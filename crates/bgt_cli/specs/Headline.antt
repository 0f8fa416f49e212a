-- The promise of the program in one place: what is told of the texts of an input, and what the map is after each of them.
use Rattle.std.specs.Prelude.{◌≤◌, ◌++◌, ℕ, List, length, take}
use Rattle.line_feed.specs.Texts.{AreTexts}
use Rattle.message_text.specs.declared.limits.Limits.{Limits}
use Rattle.map_rules.specs.declared.refusal.Answer.{Answer}
use Rattle.map_rules.specs.State.{State}
use Rattle.map_rules.specs.Tiled.{StaysTiled}
use Rattle.map_core.specs.Replies.{AreReplies}

-- The bytes that were taken of the input are cut into texts. What was told, from the state s on, is the reply lines of the first of
-- them and at most a front of what comes next. Each of these texts was answered exactly, and the register stays tiled through them.
pub record KeepsTiled (limits : Limits) (s : State) (input : List ℕ) (goes : ℕ → List ℕ → Type 0) : Type 0 where
  pub n : ℕ
  pub texts : List (List ℕ)
  pub more : List (List ℕ)
  pub tail : List ℕ
  pub answers : List Answer
  pub lines : List ℕ
  pub front : List ℕ
  pub within : n ≤ length input
  pub cut : AreTexts (take n input) (texts ++ more) tail
  pub replies : AreReplies 1 answers lines
  pub told : goes n (lines ++ front)
  pub tiled : StaysTiled limits s texts answers
