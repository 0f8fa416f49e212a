use Rattle.std.proofs.Common.{List, ℕ, subst, sym, rules}
use Rattle.std.specs.List.{All}
use Rattle.std.specs.Char.{IsAsciiAlphanumeric}
use Rattle.imgeo_types.specs.Fields.{IsHolder}
use Rattle.imgeo_types.proofs.ident.is_ident.Goals as goal

pub returns-then-field-eq46 : goal.returns-then-field-eq46
returns-then-field-eq46 c =
    let front = c.split_at.ensures.front in
    let back = c.split_at-2.ensures.back in (
      λ yes. record {
        len = search rules;
        holder = subst (λ (f : List ℕ). IsHolder f) front (search rules);
        stop = search rules;
        behind = subst (λ (f : List ℕ). All IsAsciiAlphanumeric f) back (c.are_letters_or_digits.ensures.0 yes);
      },
      λ h. c.are_letters_or_digits.ensures.1 (subst (λ (f : List ℕ). All IsAsciiAlphanumeric f) (sym back) h.behind),
    )
