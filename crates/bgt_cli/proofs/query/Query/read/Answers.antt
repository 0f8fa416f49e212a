use Rattle.std.proofs.Common.{⊎_elim, List, ℕ, [], Bor, rules}
use Rattle.bgt_cli.proofs.Asking.{too_few, state_found, history_found, point_found, export_found, asked_of_three, asked_of_five}
use Rattle.bgt_cli.proofs.query.Query.read.Goals as goal
use Rattle.bgt_cli.proofs.query.Query.read.Goals.{in_default-via-then-words-lt3, in_default-via-else-words-lt3+then-words-lt4+in_default}
use Rattle.bgt_cli.proofs.query.Query.read.Goals.{in_default-via-else-words-lt3+else-words-lt4+then-words-lt5}
use Rattle.bgt_cli.proofs.query.Query.read.Goals.{in_default-via-else-words-lt3+else-words-lt4+else-words-lt5+then-words-lt6+in_default}
use Rattle.bgt_cli.proofs.query.Query.read.Goals.{in_default-via-else-words-lt3+else-words-lt4+else-words-lt5+else-words-lt6}

-- where there is no word
abbrev none : Bor (List ℕ)
none = record { ref_ptr = (0, 0); now = [] }

pub returns-in-state : goal.returns-in-state
returns-in-state c =
    state_found c.args.words.now none c.read_state.result c.in-state.len_at_least c.in-state.len_below c.in-state.is-state
    c.read_state.ensures

pub returns-in-history : goal.returns-in-history
returns-in-history c =
    history_found c.args.words.now none c.read_history.result c.in-history.len_at_least c.in-history.len_below c.in-history.is-history
    c.read_history.ensures

pub returns-in-export : goal.returns-in-export
returns-in-export c =
    export_found c.args.words.now none c.read_export.result c.in-export.len_at_least c.in-export.len_below c.in-export.is-export
    c.read_export.ensures

pub returns-in-point : goal.returns-in-point
returns-in-point c =
    point_found c.args.words.now none c.read_point.result c.in-point.len_at_least c.in-point.len_below c.in-point.is-point
    c.read_point.ensures

pub returns-in_default : goal.returns-in_default
returns-in_default c =
    λ query asks. elim c.in_default.branch [
      | in_default-via-then-words-lt3 w ↦ too_few c.args.words.now query (search rules) asks
      | in_default-via-else-words-lt3+then-words-lt4+in_default w ↦
          let first = asked_of_three c.args.words.now none query (search rules) asks in
          ⊎_elim (λ state. search rules) (λ other. ⊎_elim (λ history. search rules) (λ export. search rules) other) first
      | in_default-via-else-words-lt3+else-words-lt4+then-words-lt5 w ↦
          let five = asked_of_five c.args.words.now none query (search rules) asks in absurd (search rules)
      | in_default-via-else-words-lt3+else-words-lt4+else-words-lt5+then-words-lt6+in_default w ↦
          let point = (asked_of_five c.args.words.now none query (search rules) asks).1 in search rules
      | in_default-via-else-words-lt3+else-words-lt4+else-words-lt5+else-words-lt6 w ↦
          let five = asked_of_five c.args.words.now none query (search rules) asks in absurd (search rules)
    ]
