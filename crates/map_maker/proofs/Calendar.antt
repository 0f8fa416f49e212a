-- The moments of the messages, as fields.
use Rattle.std.proofs.Common.{◌≡◌, ◌<◌, ◌+◌, ◌*◌, ◌/◌, ◌%◌, ◌++◌, ◌∷◌, [], ℕ, List, codes, refl, rules, arith, ◌∙◌, sym, ap, subst, pos, ◌+ℤ◌, ◌*ℤ◌, inl}
use Rattle.jiff_core.proofs.SignedLemmas.{signed_arith}
use Rattle.jiff_core.specs.Calendar.{days_from_civil, day_count, days_of_years, days_of_months}
use Rattle.std.proofs.Math.IntN.{pos-*ℤ-pos}
use Rattle.field_text.specs.Forms.{IsDay, IsMoment, padded, clock}
use Rattle.field_text.proofs.Days.{day_is_text, padded_digits, number_padded}
use Rattle.map_maker.specs.Made.{day, moment}

-- the day is 1 January 2024
pub new_year : IsDay (codes "2024-01-01") day
unfolding days_from_civil day_count days_of_years days_of_months
new_year = day_is_text (pos 19_723) 2024 1 1 (search rules, refl) (omega arith)

-- the field of a moment in the first hour of that day
abbrev pub moment_text : ℕ → List ℕ
moment_text seconds = codes "2024-01-01T00:" ++ (padded 2 (seconds / 60) ++ (58 ∷ padded 2 (seconds % 60)))

seconds_of : (seconds : ℕ)
    → pos (19_723 * 86_400_000 + 1_000 * seconds) ≡ pos 19_723 *ℤ pos 86_400_000 +ℤ pos (clock 0 (seconds / 60) (seconds % 60) 0)
seconds_of seconds = omega (arith, signed_arith, pos-*ℤ-pos 19_723 86_400_000)

pub is_moment : (seconds : ℕ) → seconds < 3600 → IsMoment (moment_text seconds) (moment seconds)
is_moment seconds h =
    let minute = number_padded 2 (seconds / 60) (omega arith) in
    let second = number_padded 2 (seconds % 60) (omega arith) in
    record {
      day = day;
      form = (omega arith, refl, padded_digits 2 0, refl, padded_digits 2 (seconds / 60), refl, padded_digits 2 (seconds % 60), inl refl);
      is_day = new_year;
      hour = omega arith;
      minute = omega (arith, minute);
      second = omega (arith, second);
      value = seconds_of seconds ∙ ap (λ (n : ℕ). pos 19_723 *ℤ pos 86_400_000 +ℤ pos n) (omega (arith, minute, second));
    }

-- what is pushed is the field of the moment
pub field_is_moment : (seconds : ℕ) (none date minutes colon all field : List ℕ) → seconds < 3600 → none ≡ [] → date ≡ none ++ codes "2024-01-01T00:"
    → minutes ≡ date ++ padded 2 (seconds / 60) → colon ≡ minutes ++ 58 ∷ [] → all ≡ colon ++ padded 2 (seconds % 60) → field ≡ all
    → IsMoment field (moment seconds)
field_is_moment seconds none date minutes colon all field h p q r s t u =
    let dated : date ≡ codes "2024-01-01T00:" = q ∙ ap (λ (l : List ℕ). l ++ codes "2024-01-01T00:") p in
    let timed : minutes ≡ codes "2024-01-01T00:" ++ padded 2 (seconds / 60) = r ∙ ap (λ (l : List ℕ). l ++ padded 2 (seconds / 60)) dated in
    let parted : colon ≡ codes "2024-01-01T00:" ++ (padded 2 (seconds / 60) ++ 58 ∷ []) = s ∙ ap (λ (l : List ℕ). l ++ 58 ∷ []) timed in
    let text : field ≡ moment_text seconds = u ∙ (t ∙ ap (λ (l : List ℕ). l ++ padded 2 (seconds % 60)) parted) in
    subst (λ (l : List ℕ). IsMoment l (moment seconds)) (sym text) (is_moment seconds h)
