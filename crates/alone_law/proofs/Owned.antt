-- A change of a message of one holder leaves the object with its holder, so the kept version's holder is the message's.
use Rattle.std.proofs.Common.{◌≡◌, ◌+◌, ℕ, refl, ap, ◌∙◌, List, [], ◌∷◌, ◌++◌, length, map, sym}
use Rattle.std.specs.Prelude.{ℤ, true, false, Bool, not, Option, Some, None, option_map, unwrap_or}
use Rattle.std.specs.List.{flat_map}
use Rattle.std.specs.Str.{bytes_eq}
use Rattle.std.proofs.lemmas.Slice.Eq.{bytes_eq-Decides}
use Rattle.message_text.specs.declared.message.Message.{Message}
use Rattle.message_text.specs.declared.message.Mutation.{Mutation}
use Rattle.message_text.specs.declared.message.Mutation.TheVariants.{Add, Change, End}
use Rattle.version_history.specs.declared.version.Version.{Version}
use Rattle.version_history.specs.Versions.{current_of, last_of, new_version}
use Rattle.map_rules.specs.declared.refusal.Refusal.{Refusal}
use Rattle.map_rules.specs.After.{begun}
use Rattle.map_rules.specs.Rules.{header_of, MutationsRule, change_refusal, kind_refusal, mutation_refusal}
use Rattle.map_rules.proofs.Ruled.{when_none}
use Rattle.alone_law.specs.Handing.{begun_by, kept_holder}
use Rattle.alone_law.specs.Handing.Deed.{alone}

not_false : (b : Bool) → not b ≡ false → b ≡ true
not_false true e = refl
not_false false e = cc

-- the kept version is there, and the message's holder's
kept_own : (vs : List Version) (m : Message) (at : ℕ) (was : ℤ) (ident : List ℕ) (next : Version → Option Refusal)
    → change_refusal (header_of m) at was next (last_of ident vs) (current_of ident vs) ≡ None → kept_holder m.holder ident vs ≡ m.holder
kept_own vs m at was ident next e = by (current_of ident vs) e
  where
    by : (o : Option Version) → change_refusal (header_of m) at was next (last_of ident vs) o ≡ None
        → unwrap_or (option_map (λ (v : Version). v.holder) o) m.holder ≡ m.holder
    by None k = refl
    by (Some v) k = (bytes_eq-Decides v.holder m.holder).0 (not_false (bytes_eq v.holder m.holder) (when_none _ _ _ k).0)

begun_one : (vs : List Version) (m : Message) (at : ℕ) (x : Mutation) → mutation_refusal vs (header_of m) at x ≡ None
    → begun_by m.holder m.holder m.moment vs (alone x) ≡ begun m.holder m.moment x
begun_one vs m at (Add ident item) e = refl
begun_one vs m at (Change ident was item) e = ap (λ (o : List ℕ). new_version o ident item m.moment ∷ [])
    (kept_own vs m at was ident (kind_refusal (header_of m) at item) e)
begun_one vs m at (End ident was day) e = refl

pub begun_own : (vs : List Version) (m : Message) (before ms : List Mutation) → MutationsRule vs m before ms None
    → flat_map (begun_by m.holder m.holder m.moment vs) (map alone ms) ≡ flat_map (begun m.holder m.moment) ms
unfolding MutationsRule
begun_own vs m before [] h = refl
begun_own vs m before (x ∷ ms) h = ap (λ (l : List Version). l ++ flat_map (begun_by m.holder m.holder m.moment vs) (map alone ms))
    (begun_one vs m (length before + 1) x (sym h.1.0))
    ∙ ap (λ (l : List Version). begun m.holder m.moment x ++ l) (begun_own vs m (before ++ x ∷ []) ms h.1.1.1)
