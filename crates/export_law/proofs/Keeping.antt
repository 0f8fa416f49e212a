-- A message that is taken keeps what each state has, and so does each row of texts.
use Rattle.std.proofs.Common.{◌≡◌, ◌≢◌, ◌∙◌, ◌≤◌, ℕ, sym, ap, arith, inl, inr, List, [], ◌∷◌, length, map, subst}
use Rattle.std.specs.Prelude.{ℤ, ◌<ℤ◌, ◌≤ℤ◌, nat_le, ◌&&◌, Option, None, IfSome, is_none}
use Rattle.std.specs.List.{All, AllPairs, Contains, flat_map}
use Rattle.std.specs.Str.{bytes_eq}
use Rattle.std.proofs.lemmas.Bool.{cases_Bool, both_ways}
use Rattle.std.proofs.lemmas.Int.{by_lt_z}
use Rattle.std.proofs.lemmas.List.Elements.{All-append, All-contains}
use Rattle.std.proofs.lemmas.Slice.Eq.{bytes_eq-Decides}
use Rattle.rd_plane.specs.Rule.{when}
use Rattle.imgeo_types.specs.declared.item.Item.{Item}
use Rattle.imgeo_types.specs.Fields.{holder_of}
use Rattle.message_text.specs.declared.limits.Limits.{Limits}
use Rattle.message_text.specs.declared.message.Message.{Message}
use Rattle.version_history.specs.declared.version.Version.{Version}
use Rattle.map_rules.specs.declared.refusal.Answer.{Answer}
use Rattle.map_rules.specs.declared.refusal.Answer.TheVariants.{Taken, Refused}
use Rattle.map_rules.specs.declared.refusal.Refusal.TheVariants as refusal
use Rattle.map_rules.specs.declared.refusal.FullName.TheVariants.{Holders}
use Rattle.map_rules.specs.After.{after, begun, touched_by}
use Rattle.map_rules.specs.Good.{Follows, IsFine, IsSound}
use Rattle.map_rules.specs.Rules.{MutationsRule, day_of}
use Rattle.map_rules.specs.Runs.{AnswersText, Run}
use Rattle.map_rules.specs.State.{State, moment_of, opening, parts_at}
use Rattle.map_rules.specs.Steps.{Decision, Step}
use Rattle.map_rules.proofs.Begun.{begun_is}
use Rattle.map_rules.proofs.Dating.{moment_after}
use Rattle.map_rules.proofs.Items.{sound_after, sound_opening}
use Rattle.map_rules.proofs.Lists.{all_from, all_mapped}
use Rattle.map_rules.proofs.Objects.{parts_are_now, parts_before, parts_of_others}
use Rattle.map_rules.proofs.Ruled.{all_fine}
use Rattle.map_rules.proofs.Touching.{touched-holder, touched-ident, touched-item, touched-since}
use Rattle.export_law.specs.Kept.{BeganInTime, IsAtHome, IsKept}
use Rattle.export_law.proofs.Passing.{begins_at_home, begins_in_time, none_refused, room_left}

pub kept_opening : (limits : Limits) → IsKept limits opening
kept_opening limits = record {
  sound = sound_opening limits;
  home = λ k d l. absurd (omega (arith, l));
  began = λ k d l. absurd (omega (arith, l));
  few = λ t h. omega arith;
  few_holders = omega arith;
}

-- ---- a message that is taken
module _ (limits : Limits) (s : State) (m : Message) (k : IsKept limits s) (d : Decision limits s m None) where
  mutations : MutationsRule s.versions m [] m.mutations None
  unfolding Decision
  mutations = d.1.1.0

  room : None ≡ when (is_none (moment_of m.holder s.last) && nat_le limits.holders (length s.last)) (refusal.Full Holders) None
  unfolding Decision
  room = d.1.1.1.0

  fine : All (IsFine s.versions m.holder) m.mutations
  fine = all_fine s.versions m [] m.mutations mutations

  turns : AllPairs Follows s.versions
  turns = k.sound.good.in_turn

  sound_then : IsSound limits (after s m)
  sound_then = sound_after limits s m k.sound d

  abbrev Has : (Version → Type 0) → Type 0
  Has P = All P (after s m).versions

  -- what holds of the versions that were there, and of those that begin
  both : (P : Version → Type 0) → ((v : Version) → Contains s.versions v → P (touched_by m.moment m.mutations v))
      → ((v : Version) → Contains (flat_map (begun m.holder m.moment) m.mutations) v → P v) → Has P
  both P old new = All-append P (map (touched_by m.moment m.mutations) s.versions) (flat_map (begun m.holder m.moment) m.mutations)
      (all_mapped P (touched_by m.moment m.mutations) s.versions old) (all_from P (flat_map (begun m.holder m.moment) m.mutations) new)

  home_then : Has IsAtHome
  home_then = both IsAtHome
      (λ v c. ap holder_of (touched-ident m.moment m.mutations v) ∙ All-contains IsAtHome s.versions v k.home
      c ∙ sym (touched-holder m.moment m.mutations v))
      (λ v c.
      let b = begun_is m.holder m.moment m.mutations v c in
      let r = none_refused s.versions m [] m.mutations mutations b.by b.of in
      let f = All-contains (IsFine s.versions m.holder) m.mutations b.by fine b.of in
      begins_at_home s.versions m r.0 b.by v.ident v.item k.home f r.1 b.begins ∙ sym b.holder_is)

  began_then : Has BeganInTime
  began_then = both BeganInTime
      (λ v c. subst (λ (y : Item). y.begin ≤ℤ day_of (touched_by m.moment m.mutations v).since) (sym (touched-item m.moment m.mutations v))
      (subst (λ t. v.item.begin ≤ℤ day_of t) (sym (touched-since m.moment m.mutations v))
      (All-contains BeganInTime s.versions v k.began c)))
      (λ v c.
      let b = begun_is m.holder m.moment m.mutations v c in
      let r = none_refused s.versions m [] m.mutations mutations b.by b.of in
      subst (λ t. v.item.begin ≤ℤ day_of t) (sym b.since_is) (begins_in_time s.versions m r.0 b.by v.ident v.item r.1 b.begins))

  -- before the message a holder has what it had, and from then on its current objects
  module _ (t : ℤ) where
    earlier : t <ℤ m.moment → (h : List ℕ) → length (parts_at t h (after s m).versions) ≤ limits.objects
    earlier l h =
        let same = parts_before s.versions m.holder m.moment m.mutations turns fine t h l in
        subst (λ objects. length objects ≤ limits.objects) (sym same) (k.few t h)

    others : (h : List ℕ) → h ≢ m.holder → length (parts_at t h (after s m).versions) ≤ limits.objects
    others h d =
        let same = parts_of_others s.versions m.holder m.moment m.mutations turns fine t h d in
        subst (λ objects. length objects ≤ limits.objects) (sym same) (k.few t h)

    own : m.moment ≤ℤ t → length (parts_at t m.holder (after s m).versions) ≤ limits.objects
    own l =
        let last = moment_after m.holder m.moment s.last in
        let late : IfSome (moment_of m.holder (after s m).last) (λ u. u ≤ℤ t)
        = subst (λ (o : Option ℤ). IfSome o (λ u. u ≤ℤ t)) (sym last) l in
        let are_now = parts_are_now (after s m).last m.holder t late (after s m).versions sound_then.good.dated in
        subst (λ objects. length objects ≤ limits.objects) (sym are_now) (sound_then.few m.holder)

    few_then : (h : List ℕ) → length (parts_at t h (after s m).versions) ≤ limits.objects
    few_then h = by_lt_z t m.moment (λ l. earlier l h) (λ l. elim (cases_Bool (bytes_eq h m.holder)) [
      | inl e ↦ subst (λ (x : List ℕ). length (parts_at t x (after s m).versions) ≤ limits.objects)
          (sym ((bytes_eq-Decides h m.holder).0 e)) (own l)
      | inr e ↦ others h (λ q. both_ways (bytes_eq h m.holder) e ((bytes_eq-Decides h m.holder).1 q))
    ])

  pub kept_after : IsKept limits (after s m)
  kept_after = record {
    sound = sound_then;
    home = home_then;
    began = began_then;
    few = few_then;
    few_holders = room_left limits m s.last k.few_holders room;
  }

-- ---- texts one after another
text_kept : (limits : Limits) (s : State) (text : List ℕ) (answer : Answer) (t : State) → IsKept limits s
    → AnswersText limits s text answer t
    → IsKept limits t
text_kept limits s text answer t k (inl r) = subst (IsKept limits) (sym r.same) k
text_kept limits s text answer t k (inr r) = by answer r.step
  where
    by : (a : Answer) → Step limits s r.message a t → IsKept limits t
    by Taken d = subst (IsKept limits) (sym d.1) (kept_after limits s r.message k d.0)
    by (Refused w) d = subst (IsKept limits) (sym d.1) k

run_kept : (limits : Limits) (s : State) (texts : List (List ℕ)) (answers : List Answer) (t : State) → IsKept limits s
    → Run limits s texts answers t → IsKept limits t
unfolding Run
run_kept limits s [] [] t k r = subst (IsKept limits) (sym r) k
run_kept limits s [] (answer ∷ answers) t k r = absurd r
run_kept limits s (text ∷ texts) [] t k r = absurd r
run_kept limits s (text ∷ texts) (answer ∷ answers) t k r
    = run_kept limits r.0 texts answers t (text_kept limits s text answer r.0 k r.1) r.2

-- what texts lead to from the opening state
pub reached_kept : (limits : Limits) (texts : List (List ℕ)) (answers : List Answer) (s : State) → Run limits opening texts answers s
    → IsKept limits s
reached_kept limits texts answers s r = run_kept limits opening texts answers s (kept_opening limits) r
