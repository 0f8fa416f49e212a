-- All exported texts are taken, one after another, and what they leave is the map of the moment.
use Rattle.std.proofs.Common.{◌≡◌, ◌≢◌, ◌∙◌, ◌≤◌, ℕ, refl, sym, ap, arith, inl, inr, List, [], ◌∷◌, length, map, subst}
use Rattle.std.specs.Prelude.{ℤ, None, filter, is_none, replicate, true}
use Rattle.std.specs.List.{All, AllPairs, Contains}
use Rattle.std.proofs.lemmas.List.Elements.{All-contains, All-head, All-tail}
use Rattle.std.proofs.lemmas.List.Kept.{AllPairs-filter}
use Rattle.message_text.specs.declared.limits.Limits.{Limits}
use Rattle.message_text.specs.declared.message.Message.{Message}
use Rattle.message_text.specs.Reading.{passed_limit}
use Rattle.message_text.proofs.TextLaws.{reads_back}
use Rattle.version_history.specs.declared.version.Version.{Version}
use Rattle.version_history.specs.Moments.{has_lower, holds_at, rising, versions_at}
use Rattle.version_history.specs.Versions.{is_current}
use Rattle.area_book.specs.Areas.{area_of}
use Rattle.area_book.specs.Throughout.{HasEndedBy}
use Rattle.map_rules.specs.declared.refusal.Answer.{Answer}
use Rattle.map_rules.specs.declared.refusal.Answer.TheVariants.{Taken}
use Rattle.map_rules.specs.After.{after}
use Rattle.map_rules.specs.Good.{Follows}
use Rattle.map_rules.specs.Runs.{Run}
use Rattle.map_rules.specs.State.{State, area_at, opening}
use Rattle.map_rules.proofs.Lists.{pairs_tail}
use Rattle.moment_query.specs.Exports.{AreTexts, Named, export_of, holders_at, named}
use Rattle.export_law.specs.Kept.{IsKept}
use Rattle.export_law.specs.Loaded.{AreExported, IsMapThen, LoadsBack}
use Rattle.export_law.proofs.Building.{IsBuilt, built_opening, built_then, decided}
use Rattle.export_law.proofs.Holders.{holders_differ}
use Rattle.export_law.proofs.Members.{in_filter, in_map, out_filter, out_map, pairs_read, pairs_with}
use Rattle.export_law.proofs.Again.{exported_again}
use Rattle.export_law.proofs.AtMoment.{held_differ}
use Rattle.export_law.proofs.Keeping.{reached_kept}
use Rattle.export_law.proofs.Reordered.{from_order, into_order}
use Rattle.export_law.proofs.Rises.{Rises, one_rising, rising_rises}

-- ---- the run
module _ (limits : Limits) (s : State) (t : ℤ) (k : IsKept limits s) where
  -- the texts are taken, and then nothing is left to come
  abbrev Takes : List (List ℕ) → State → Type 0
  Takes texts new = (final : State) × Run limits new texts (replicate (length texts) Taken) final × IsBuilt limits s t [] final

  abbrev IsShort : List ℕ → Type 0
  IsShort text = length text ≤ limits.message_bytes

  abbrev IsWithin : Message → Type 0
  IsWithin m = passed_limit limits m ≡ None

  takes : (texts : List (List ℕ)) (rest : List (List ℕ)) (new : State) → IsBuilt limits s t rest new → AllPairs (λ x y. x ≢ y) rest
      → AreTexts texts (map (export_of s t) rest) → All IsShort texts → All IsWithin (map (export_of s t) rest) → Takes texts new
  unfolding Run AreTexts
  takes [] [] new b differ are short within = (new, refl, b)
  takes [] (h ∷ rest) new b differ are short within = absurd are
  takes (text ∷ texts) [] new b differ are short within = absurd are
  takes (text ∷ texts) (h ∷ rest) new b differ are short within =
      let m = export_of s t h in
      let later
      = takes texts rest (after new m) (built_then limits s t h rest new k b differ) (pairs_tail (λ x y. x ≢ y) h rest differ) are.1
      (All-tail IsShort text texts short) (All-tail IsWithin m (map (export_of s t) rest) within) in (
        later.0,
        (
          after new m,
          inr (record {
            message = m;
            read = (
              All-head IsShort text texts short,
              reads_back limits text m are.0 (All-head IsWithin m (map (export_of s t) rest) within),
            );
            step = (decided limits s t h rest new k b differ, refl);
          }),
          later.1,
        ),
        later.2,
      )

  -- ---- what is left
  module _ (new : State) (b : IsBuilt limits s t [] new) where
    abbrev ident : Version → List ℕ
    ident v = v.ident

    abbrev Differ : Version → Version → Type 0
    Differ v w = v.ident ≢ w.ident

    abbrev now : List Version
    now = rising ident (filter is_current new.versions)

    named_rises : (l : List Version) → Rises ident l → Rises (λ (n : Named). n.ident) (map named l)
    named_rises l p = pairs_read (λ (n o : Named). has_lower (λ (x : Named). x.ident) n o ≡ true) named l p

    current_differ : AllPairs Differ (filter is_current new.versions)
    current_differ
        = AllPairs-filter Differ is_current new.versions (pairs_with Follows Differ (λ (v : Version). v.until ≡ None) new.versions
        b.kept.sound.good.in_turn b.current (λ v w f u x e. subst (HasEndedBy w.since) u (f e)))

    to : (n : Named) → Contains (map named now) n → Contains (map named (versions_at t s.versions)) n
    to n c =
        let v = out_map named now n c in
        let w = b.from v.0
        (out_filter is_current new.versions v.0 (from_order (has_lower ident) (filter is_current new.versions) v.0 v.1)).0 in
        subst (Contains (map named (versions_at t s.versions))) (w.2 ∙ v.2) (in_map named (versions_at t s.versions) w.0 w.1)

    back : (n : Named) → Contains (map named (versions_at t s.versions)) n → Contains (map named now) n
    back n c =
        let w = out_map named (versions_at t s.versions) n c in
        elim (b.whole w.0 w.1) [
          | inl none ↦ absurd (omega (arith, none.1))
          | inr v ↦ subst (Contains (map named now)) (v.2 ∙ w.2)
              (in_map named now v.0 (into_order (has_lower ident) (filter is_current new.versions) v.0
              (in_filter is_current new.versions v.0 v.1
              (ap is_none (All-contains (λ (x : Version). x.until ≡ None) new.versions v.0 b.current v.1)))))
        ]

    objects_then : map named now ≡ map named (versions_at t s.versions)
    objects_then = one_rising (λ (n : Named). n.ident) (map named now) (map named (versions_at t s.versions))
        (named_rises now (rising_rises ident (filter is_current new.versions) current_differ))
        (named_rises (versions_at t s.versions)
        (rising_rises ident (filter (holds_at t) s.versions) (held_differ t s.versions k.sound.good.in_turn)))
        to back

    areas_then : (h : List ℕ) → area_of h new.areas ≡ area_at t h s.areas
    areas_then h = elim (b.areas h) [ inl c ↦ absurd (omega (arith, c.0.1)) | inr e ↦ e ]

    left : IsMapThen s t new
    left = record {
      objects = objects_then;
      areas = areas_then;
      again = exported_again limits s t new b k.sound.good objects_then areas_then;
    }

-- of a state that has what texts keep
pub kept_loads_back : (limits : Limits) (s : State) → IsKept limits s → (moment : ℤ) (texts : List (List ℕ))
    → AreExported limits s moment texts
    → LoadsBack limits s moment texts
kept_loads_back limits s k t texts e =
    let b = built_opening limits s t k in
    let f = takes limits s t k texts (holders_at s t) opening b (holders_differ s t k.sound.good) e.are e.short e.within in
    record { new = f.0; run = f.1; same = left limits s t k f.0 f.2 }

-- of a state that texts led to
pub loads_back : (limits : Limits) (before : List (List ℕ)) (answers : List Answer) (s : State) → Run limits opening before answers s
    → (moment : ℤ) (texts : List (List ℕ)) → AreExported limits s moment texts → LoadsBack limits s moment texts
loads_back limits before answers s run = kept_loads_back limits s (reached_kept limits before answers s run)

-- where texts have one run, each run of these is that one
pub each_load : ((limits : Limits) (old : State) (texts : List (List ℕ)) (answers others : List Answer) (x y : State)
    → Run limits old texts answers x → Run limits old texts others y → (answers ≡ others) × (x ≡ y))
    → (limits : Limits) (before : List (List ℕ)) (answers : List Answer) (s : State) → Run limits opening before answers s
    → (moment : ℤ) (texts : List (List ℕ)) → AreExported limits s moment texts → (told : List Answer) (new : State)
    → Run limits opening texts told new
    → (told ≡ replicate (length texts) Taken) × IsMapThen s moment new
each_load one limits before answers s run t texts e told new again =
    let l = loads_back limits before answers s run t texts e in
    let same = one limits opening texts told (replicate (length texts) Taken) new l.new again l.run in
    (same.0, subst (IsMapThen s t) (sym same.1) l.same)
