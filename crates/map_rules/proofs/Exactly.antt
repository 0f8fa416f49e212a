-- A message that breaks no other rule is accepted exactly where its holder's new map is tiled, and so it is through a row of texts.
use Rattle.std.proofs.Common.{◌≡◌, ℕ, List, [], ◌∷◌, Option, Some, None, refl, inl, inr}
use Rattle.message_text.specs.declared.limits.Limits.{Limits}
use Rattle.message_text.specs.declared.message.Message.{Message}
use Rattle.map_rules.specs.declared.refusal.Answer.{Answer}
use Rattle.map_rules.specs.declared.refusal.Answer.TheVariants.{Taken, Refused}
use Rattle.map_rules.specs.declared.refusal.Refusal.{Refusal}
use Rattle.map_rules.specs.Good.{Good}
use Rattle.map_rules.specs.Runs.{AnswersText, Run}
use Rattle.map_rules.specs.State.{State}
use Rattle.map_rules.specs.Steps.{Decision, Step}
use Rattle.map_rules.specs.Tiled.{AnswersExactly, IsExact, LeavesTiled, PassesOthers, StaysTiled, TiledThroughout}
use Rattle.map_rules.proofs.Stepping.{text_good}

module _ (limits : Limits) (s : State) (m : Message) where
  -- what is accepted leaves a map that is tiled
  taken_tiled : Decision limits s m None → LeavesTiled s m
  unfolding Decision
  taken_tiled d = d.1.1.1.1.1.1.1.1

  -- where no other rule refuses the message and its new map is tiled, it is accepted
  passes_all : PassesOthers limits s m → LeavesTiled s m → Decision limits s m None
  unfolding Decision
  passes_all p t = (p.0, (p.1.0, (p.1.1.0, (p.1.1.1.0, (p.1.1.1.1.0, (p.1.1.1.1.1.0, (p.1.1.1.1.1.1.0, (p.1.1.1.1.1.1.1.0, t))))))))

  pub exact : ((a b : Option Refusal) → Decision limits s m a → Decision limits s m b → a ≡ b) → (answer : Answer) (t : State)
      → Step limits s m answer t → IsExact limits s m answer
  exact one Taken t h p = ((λ e. taken_tiled h.0), (λ tiled. refl))
  exact one (Refused r) t h p = ((λ e. cc), (λ tiled. let e = one None (Some r) (passes_all p tiled) h.0 in cc))

tiled : (s : State) → Good s → TiledThroughout s
tiled s g = λ holder moment p o. (g.maps moment holder).tiled p o

module _ (exactly : (limits : Limits) (s : State) (m : Message) (answer : Answer) (t : State) → Step limits s m answer t
    → IsExact limits s m answer) where
  text_exact : (limits : Limits) (s : State) (text : List ℕ) (answer : Answer) (t : State) → AnswersText limits s text answer t
      → AnswersExactly limits s text answer t
  text_exact limits s text answer t (inl r) = inl r
  text_exact limits s text answer t (inr k) = inr (k.message, k.read, k.step, exactly limits s k.message answer t k.step)

  pub stays : (limits : Limits) (s : State) (texts : List (List ℕ)) (answers : List Answer) (t : State) → Good s
      → Run limits s texts answers t → StaysTiled limits s texts answers
  unfolding Run StaysTiled
  stays limits s [] [] t g r = tiled s g
  stays limits s [] (answer ∷ answers) t g r = absurd r
  stays limits s (text ∷ texts) [] t g r = absurd r
  stays limits s (text ∷ texts) (answer ∷ answers) t g r = (
    r.0,
    tiled s g,
    text_exact limits s text answer r.0 r.1,
    stays limits r.0 texts answers t (text_good limits s text answer r.0 g r.1) r.2,
  )
