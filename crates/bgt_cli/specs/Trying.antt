-- A run of `explain` under way.
use Rattle.std.specs.Prelude.{◌≡◌, ◌≤◌, ◌<◌, ◌+◌, ◌^◌, ℕ, List, ◌++◌, length, None}
use Rattle.std.specs.List.{list_all}
use Rattle.std.specs.Option.{ForSome}
use Rattle.outside.specs.Outside.{Shown}
use Rattle.line_feed.specs.Texts.{AreTexts, HasNoText}
use Rattle.message_text.specs.declared.limits.Limits.{Limits}
use Rattle.map_rules.specs.declared.refusal.Answer.{Answer}
use Rattle.map_rules.specs.Runs.{AnswersText}
use Rattle.map_rules.specs.State.{State}
use Rattle.map_core.specs.Tried.{CoreView}
use Rattle.bgt_cli.specs.declared.session.Session.{Session}
use Rattle.bgt_cli.specs.declared.status.Status.{Status}
use Rattle.bgt_cli.specs.Explain.{EndsExplain, IsExplainedReply, Tells}
use Rattle.bgt_cli.specs.Session.{is_taken}
use Rattle.bgt_cli.specs.Stream.{Goes, AreFirst}

-- from old, the register answers the text so and goes on to new, and this is told of it
pub record IsReply (limits : Limits) (old : State) (number : ℕ) (text : List ℕ) (answer : Answer) (told : List ℕ) (new : State) : Type 0
  where
    pub answers : AnswersText limits old text answer new
    pub reply : IsExplainedReply limits old number text answer told

-- Between two texts: nothing is tried, the limits are those of the run, and no more texts were answered than an input can have,
-- those that are left among them. The register had few messages at the beginning, and has at most one more for each text.
pub record IsReady (limits : Limits) (s : Session) (c : CoreView) : Type 0 where
  pub untried : c.tried ≡ None
  pub core_limits : c.limits ≡ limits
  pub feed_limit : s.feed.limit ≡ limits.message_bytes
  pub accepted : c.state.accepted < 2 ^ 62 + s.answered
  pub few : s.answered + length s.feed.left ≤ limits.input_bytes

-- Since the beginning these bytes of the input were taken, and so many more may be. Their first texts were answered so, from the state
-- at the beginning to this one, and this was told of them. What else is cut off the bytes that were taken is what is cut off those
-- that are left.
pub record UnderWay (limits : Limits) (start : State) (first : Shown) (may : ℕ) (s : Session) (state : State) (now : Shown) : Type 0 where
  pub taken : List ℕ
  pub told : List ℕ
  pub texts : List (List ℕ)
  pub answers : List Answer
  pub size : length taken + may ≡ limits.input_bytes
  pub goes : Goes (length taken) told first now
  pub first_taken : AreFirst taken first
  pub tells : Tells limits start 1 texts answers told state
  pub cut : (us : List (List ℕ)) (u : List ℕ) → AreTexts s.feed.left us u → AreTexts taken (texts ++ us) u
  pub count : s.answered ≡ length answers
  pub all : s.all_taken ≡ list_all is_taken answers

-- the run took some bytes and told some, and ends as the status says
pub record HasEnded (limits : Limits) (start : State) (first now : Shown) (status : Status) : Type 0 where
  pub taken : List ℕ
  pub told : List ℕ
  pub few : length taken ≤ limits.input_bytes
  pub goes : Goes (length taken) told first now
  pub first_taken : AreFirst taken first
  pub ends : (input : List ℕ) → EndsExplain limits start input taken told status

-- the input was taken to its end, and all its texts were answered
pub record IsAllRead (limits : Limits) (start : State) (first : Shown) (s : Session) (state : State) (now : Shown) : Type 0 where
  pub may : ℕ
  pub some : 0 < may
  pub under_way : UnderWay limits start first may s state now
  pub none : HasNoText s.feed.left (length s.feed.left)
  pub whole : ForSome first.input (λ input. under_way.taken ≡ input)
