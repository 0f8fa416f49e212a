-- How each change keeps the log, the free list and the room.
use Rattle.std.proofs.Common.{◌≡◌, ◌≢◌, ◌⊎◌, ℕ, ◌+◌, ◌-◌, ◌<◌, ◌≤◌, cond, eqb, ltb, List, [], ◌∷◌, ◌++◌, length, get_or, set, take, Option, Some, None, refl, sym, ap, ap₂, subst, ◌∙◌, inl, inr, arith, add-zero, length-set, set-set, lt-ltb, le-ltb, eq-eqb, ne_eqb, IsSome, true≢false}
use Rattle.std.proofs.lemmas.Bool.{cases_eq, cases_lt}
use Rattle.std.proofs.lemmas.List.{set-get_or, get_or-set_same, get_or-set_other, get_or_past, get_or_append_left, get_or-append-add, length_push, take-append-le, take_all}
use Rattle.std.proofs.lemmas.Option.{slice_get_read, get_or_from_slice_get}
use Rattle.std.proofs.lemmas.List.Sums.{sum_by_push}
use Rattle.edge_arena.specs.Contents.{Contents, Changes}
use Rattle.edge_arena.specs.Undo.{undo, undo_all, live, times, IsExact, IsSoundArena, MayUndo, AreSound, IsNoted}
use Rattle.edge_arena.specs.declared.arena.Change.{Change}
use Rattle.edge_arena.specs.declared.arena.Change.TheVariants.{Began, Reused, Grown, Changed, Removed}

pub times-push : (t s : ℕ) (free : List ℕ) → times t (free ++ s ∷ []) ≡ times t free + cond (eqb s t) 1 0
times-push t s free = sum_by_push (λ f. cond (eqb f t) 1 0) free s

pub times-push_same : (s : ℕ) (free : List ℕ) → times s (free ++ s ∷ []) ≡ times s free + 1
times-push_same s free = times-push s s free ∙ ap (λ b. times s free + cond b 1 0) (eq-eqb s s refl)

pub times-push_other : (t s : ℕ) (free : List ℕ) → t ≢ s → times t (free ++ s ∷ []) ≡ times t free
times-push_other t s free d
    = times-push t s free ∙ ap (λ b. times t free + cond b 1 0) (ne_eqb s t (λ e. d (sym e))) ∙ add-zero (times t free)

pub take_push : {X : Type 0} (xs : List X) (x : X) → take (length (xs ++ x ∷ []) - 1) (xs ++ x ∷ []) ≡ xs
take_push xs x =
    let e : length (xs ++ x ∷ []) - 1 ≡ length xs = omega (arith, length_push xs x) in
    ap (λ n. take n (xs ++ x ∷ [])) e ∙ take-append-le (length xs) xs (x ∷ []) (omega arith) ∙ take_all _ xs (omega arith)

module _ {T : Type 0} where
  pub undo_all-push : (xs : List (Change T)) (x : Change T) (c : Contents T) → undo_all (xs ++ x ∷ []) c ≡ undo_all xs (undo x c)
  undo_all-push [] x c = refl
  undo_all-push (y ∷ xs) x c = ap (undo y) (undo_all-push xs x c)

  pub AreSound-push : (m n : ℕ) (xs : List (Change T)) (x : Change T) (c : Contents T) → IsSoundArena m n c → MayUndo x c
      → AreSound m n xs (undo x c) → AreSound m n (xs ++ x ∷ []) c
  AreSound-push m n [] x c s may h = (s, may, h)
  AreSound-push m n (y ∷ xs) x c s may h =
      let e = sym (undo_all-push xs x c) in
      (AreSound-push m n xs x c s may h.0, subst (MayUndo y) e h.1, subst (λ d. IsSoundArena m n (undo y d)) e h.2)

  pub AreSound-pop : (m n : ℕ) (xs : List (Change T)) (x : Change T) (c : Contents T) → AreSound m n (xs ++ x ∷ []) c
      → IsSoundArena m n c × MayUndo x c × AreSound m n xs (undo x c)
  AreSound-pop m n [] x c h = h
  AreSound-pop m n (y ∷ xs) x c h =
      let e = undo_all-push xs x c in
      let t = AreSound-pop m n xs x c h.0 in
      (t.0, t.1, (t.2, subst (MayUndo y) e h.1, subst (λ d. IsSoundArena m n (undo y d)) e h.2))

  -- what stands now is sound
  pub AreSound-now : (m n : ℕ) (xs : List (Change T)) (c : Contents T) → AreSound m n xs c → IsSoundArena m n c
  AreSound-now m n [] c h = h
  AreSound-now m n (x ∷ xs) c h = AreSound-now m n xs c h.0

  more_room : (m n v w : ℕ) (c : Contents T) → m ≤ v → n ≤ w → IsSoundArena m n c → IsSoundArena v w c
  more_room m n v w c a b h = record { exact = h.exact; slots_fit = omega (arith, h.slots_fit, a); free_fit = omega (arith, h.free_fit, b) }

  pub AreSound-more : (m n v w : ℕ) (xs : List (Change T)) (c : Contents T) → m ≤ v → n ≤ w → AreSound m n xs c → AreSound v w xs c
  AreSound-more m n v w [] c a b h = more_room m n v w c a b h
  AreSound-more m n v w (x ∷ xs) c a b h = (AreSound-more m n v w xs c a b h.0, h.1, more_room m n v w _ a b h.2)

  -- behind a log that takes all back any sound state may stand
  began_sound : (m n : ℕ) (init : List (Change T)) (old new : Contents T) → IsSoundArena m n new
      → AreSound m n (init ++ Began ∷ []) old → AreSound m n (init ++ Began ∷ []) new
  began_sound m n init old new s h = let t = AreSound-pop m n init Began old h in AreSound-push m n init Began new s t.1 t.2

  began_kept : (init : List (Change T)) (old new : Contents T)
      → undo_all (init ++ Began ∷ []) new ≡ undo_all (init ++ Began ∷ []) old
  began_kept init old new = undo_all-push init Began new ∙ sym (undo_all-push init Began old)

  pub step_sound : (m n : ℕ) (xs log : List (Change T)) (x : Change T) (old new : Contents T) → IsNoted xs x log → undo x new ≡ old
      → IsSoundArena m n new → MayUndo x new → AreSound m n xs old → AreSound m n log new
  step_sound m n xs log x old new (inl is) e s may h
      = subst (λ l. AreSound m n l new) (sym is) (AreSound-push m n xs x new s may (subst (AreSound m n xs) (sym e) h))
  step_sound m n xs log x old new (inr (same, (init, at))) e s may h =
      let before = subst (λ l. AreSound m n l old) at h in
      subst (λ l. AreSound m n l new) (sym (same ∙ at)) (began_sound m n init old new s before)

  pub step_kept : (xs log : List (Change T)) (x : Change T) (old new : Contents T) → IsNoted xs x log → undo x new ≡ old
      → undo_all log new ≡ undo_all xs old
  step_kept xs log x old new (inl is) e = ap (λ l. undo_all l new) is ∙ undo_all-push xs x new ∙ ap (undo_all xs) e
  step_kept xs log x old new (inr (same, (init, at))) e
      = ap (λ l. undo_all l new) (same ∙ at) ∙ began_kept init old new ∙ ap (λ l. undo_all l old) (sym at)

  -- a write that is written back
  pub set_back : (xs : List (Option T)) (s : ℕ) (a b : Option T) → get_or xs s None ≡ a → set (set xs s b) s a ≡ xs
  set_back xs s a b h = set-set xs s b a ∙ ap (λ v. set xs s v) (sym h) ∙ set-get_or xs s None

  pub Changes-set : (xs : List (Option T)) (free now : List ℕ) (s : ℕ) (o : Option T) → s < length xs
      → Changes (record { slots = xs; free = free }) (record { slots = set xs s o; free = now }) s o
  Changes-set xs free now s o h = record { there = get_or-set_same xs s o None h; elsewhere = λ t d. get_or-set_other xs s t o None d }

  pub Changes-push : (xs : List (Option T)) (free now : List ℕ) (o : Option T)
      → Changes (record { slots = xs; free = free }) (record { slots = xs ++ o ∷ []; free = now }) (length xs) o
  Changes-push xs free now o = record {
    there = ap (λ k. get_or (xs ++ o ∷ []) k None) (sym (add-zero (length xs))) ∙ get_or-append-add xs (o ∷ []) 0 None;
    elsewhere = λ t d. apart t d (cases_lt t (length xs));
  }
    where
      apart : (t : ℕ) → t ≢ length xs → (t < length xs) ⊎ (length xs ≤ t) → get_or (xs ++ o ∷ []) t None ≡ get_or xs t None
      apart t d (inl h) = get_or_append_left xs (o ∷ []) None t h
      apart t d (inr h) = get_or_past (xs ++ o ∷ []) t None (omega (arith, length_push xs o, nearer t d h)) ∙ sym (get_or_past xs t None h)
        where
          nearer : (t : ℕ) → t ≢ length xs → length xs ≤ t → length xs < t
          nearer t d h = elim (cases_lt (length xs) t) [ inl k ↦ k | inr k ↦ absurd (d (omega (arith, h, k))) ]

  -- a slot below the length is live or free
  pub exact_within : (xs : List (Option T)) (free : List ℕ) → IsExact xs free → (s : ℕ) → s < length xs
      → times s free + live (get_or xs s None) ≡ 1
  exact_within xs free h s k = h s ∙ ap (λ b. cond b 1 0) (lt-ltb s (length xs) k)

  pub exact_past : (xs : List (Option T)) (free : List ℕ) → IsExact xs free → (s : ℕ) → length xs ≤ s
      → times s free + live (get_or xs s None) ≡ 0
  exact_past xs free h s k = h s ∙ ap (λ b. cond b 1 0) (le-ltb s (length xs) k)

  -- the last of the free list is a slot, and not live
  pub free_within : (xs : List (Option T)) (free : List ℕ) (s : ℕ) → IsExact xs (free ++ s ∷ []) → s < length xs
  free_within xs free s h = elim (cases_lt s (length xs)) [
    | inl k ↦ k
    | inr k ↦ absurd (omega (arith, times-push_same s free, exact_past xs (free ++ s ∷ []) h s k))
  ]

  none_by : (o : Option T) → live o ≡ 0 → o ≡ None
  none_by None h = refl
  none_by (Some v) h = absurd (omega (arith, h))

  pub free_vacant : (xs : List (Option T)) (free : List ℕ) (s : ℕ) → IsExact xs (free ++ s ∷ []) → get_or xs s None ≡ None
  free_vacant xs free s h
      = none_by _ (omega (arith, times-push_same s free, exact_within xs (free ++ s ∷ []) h s (free_within xs free s h)))

  -- a write with a free list that follows it
  pub exact_set : (xs : List (Option T)) (free now : List ℕ) (s : ℕ) (o : Option T) → IsExact xs free → s < length xs
      → times s now + live o ≡ times s free + live (get_or xs s None) → ((t : ℕ) → t ≢ s → times t now ≡ times t free)
      → IsExact (set xs s o) now
  exact_set xs free now s o h k here there t = elim (cases_eq t s) [
    | inl e ↦ subst (λ t. times t now + live (get_or (set xs s o) t None) ≡ cond (ltb t (length (set xs s o))) 1 0) (sym e) (
        ap (λ v. times s now + live v) (get_or-set_same xs s o None k) ∙ here ∙ h s ∙ ap (λ n. cond (ltb s n) 1 0)
        (sym (length-set xs s o)))
    | inr d ↦ ap₂ (λ a v. a + live v) (there t d) (get_or-set_other xs s t o None d) ∙ h t ∙ ap (λ n. cond (ltb t n) 1 0)
        (sym (length-set xs s o))
  ]

  pub exact_push : (xs : List (Option T)) (v : T) → IsExact xs [] → IsExact (xs ++ Some v ∷ []) []
  exact_push xs v h t = by_cases (cases_lt t (length xs)) (cases_eq t (length xs))
    where
      longer : length (xs ++ Some v ∷ []) ≡ length xs + 1
      longer = length_push xs (Some v)

      by_cases : (t < length xs) ⊎ (length xs ≤ t) → (t ≡ length xs) ⊎ (t ≡ length xs → ⊥)
          → 0 + live (get_or (xs ++ Some v ∷ []) t None) ≡ cond (ltb t (length (xs ++ Some v ∷ []))) 1 0
      by_cases (inl k) _ =
          ap (λ o. 0 + live o) (get_or_append_left xs (Some v ∷ []) None t k) ∙ exact_within xs [] h t k
          ∙ ap (λ b. cond b 1 0) (sym (lt-ltb t (length (xs ++ Some v ∷ [])) (omega (arith, longer, k))))
      by_cases (inr k) (inl e) =
          ap (λ t. 0 + live (get_or (xs ++ Some v ∷ []) t None)) e ∙ ap (λ o. 0 + live o) (Changes-push xs [] [] (Some v)).there
          ∙ ap (λ b. cond b 1 0) (sym (lt-ltb t (length (xs ++ Some v ∷ [])) (omega (arith, longer, e))))
      by_cases (inr k) (inr d) =
          ap (λ o. 0 + live o) ((Changes-push xs [] [] (Some v)).elsewhere t d) ∙ exact_past xs [] h t k
          ∙ ap (λ b. cond b 1 0) (sym (le-ltb t (length (xs ++ Some v ∷ [])) (omega (arith, longer, k, beyond (cases_lt (length xs) t)))))
        where
          beyond : (length xs < t) ⊎ (t ≤ length xs) → length xs < t
          beyond (inl j) = j
          beyond (inr j) = absurd (d (omega (arith, j, k)))

  -- a value that a clause asks for
  pub live_within : (xs : List (Option T)) (s : ℕ) → IsSome (get_or xs s None) → s < length xs
  live_within xs s some
      = elim (cases_lt s (length xs)) [ inl k ↦ k | inr k ↦ absurd (true≢false (sym (subst IsSome (get_or_past xs s None k) some))) ]

  pub read_at : (xs : List (Option T)) (s : ℕ) (r o : Option T) → s < length xs → r ≡ get_or xs s r → r ≡ o → get_or xs s None ≡ o
  read_at xs s r o k read is = get_or_from_slice_get xs s r None (slice_get_read xs (length xs) s r refl k read) ∙ is

  value_within : (xs : List (Option T)) (s : ℕ) (v : T) → get_or xs s None ≡ Some v → s < length xs
  value_within xs s v found = live_within xs s (subst IsSome (sym found) refl)

  -- a live slot is not free
  live_apart : (xs : List (Option T)) (free : List ℕ) (s : ℕ) (v : T) → IsExact xs free → get_or xs s None ≡ Some v → times s free ≡ 0
  live_apart xs free s v h found = omega (arith, exact_within xs free h s (value_within xs s v found), ap live found)

  -- the four changes
  pub set_back_is : (xs : List (Option T)) (free : List ℕ) (s : ℕ) (v w : T) → get_or xs s None ≡ Some v
      → undo (Changed s v) (record { slots = set xs s (Some w); free = free }) ≡ record { slots = xs; free = free }
  set_back_is xs free s v w found
      = ap (λ (ys : List (Option T)). record { slots = ys; free = free }) (set_back xs s (Some v) (Some w) found)

  pub set_sound : (m n : ℕ) (log next : List (Change T)) (xs : List (Option T)) (free : List ℕ) (s : ℕ) (v w : T)
      → IsNoted log (Changed s v) next → get_or xs s None ≡ Some v → AreSound m n log (record { slots = xs; free = free })
      → AreSound m n next (record { slots = set xs s (Some w); free = free })
  set_sound m n log next xs free s v w noted found h =
      let now = AreSound-now m n log _ h in
      let k = value_within xs s v found in
      step_sound m n log next (Changed s v) (record { slots = xs; free = free }) (record { slots = set xs s (Some w); free = free }) noted
      (set_back_is xs free s v w found)
      (record {
        exact = exact_set xs free free s (Some w) now.exact k (ap (λ o. times s free + live o) (sym found)) (λ t d. refl);
        slots_fit = omega (arith, length-set xs s (Some w), now.slots_fit);
        free_fit = now.free_fit;
      })
      (omega (arith, length-set xs s (Some w), k)) h

  pub remove_back_is : (xs : List (Option T)) (free : List ℕ) (s : ℕ) (v : T) → get_or xs s None ≡ Some v
      → undo (Removed s v) (record { slots = set xs s None; free = free ++ s ∷ [] }) ≡ record { slots = xs; free = free }
  remove_back_is xs free s v found
      = ap₂ (λ (ys : List (Option T)) (f : List ℕ). record { slots = ys; free = f }) (set_back xs s (Some v) None found) (take_push free s)

  pub remove_sound : (m n : ℕ) (log next : List (Change T)) (xs : List (Option T)) (free : List ℕ) (s : ℕ) (v : T)
      → IsNoted log (Removed s v) next → get_or xs s None ≡ Some v → length free + 1 ≤ n
      → AreSound m n log (record { slots = xs; free = free })
      → AreSound m n next (record { slots = set xs s None; free = free ++ s ∷ [] })
  remove_sound m n log next xs free s v noted found room h =
      let now = AreSound-now m n log _ h in
      let k = value_within xs s v found in
      step_sound m n log next (Removed s v) (record { slots = xs; free = free }) (record { slots = set xs s None; free = free ++ s ∷ [] })
      noted (remove_back_is xs free s v found)
      (record {
        exact = exact_set xs free (free ++ s ∷ []) s None now.exact k (omega (arith, times-push_same s free, ap live found))
            (λ t d. times-push_other t s free d);
        slots_fit = omega (arith, length-set xs s None, now.slots_fit);
        free_fit = omega (arith, length_push free s, room);
      })
      (omega (arith, length-set xs s None, k)) h

  pub put_back_is : (xs : List (Option T)) (free : List ℕ) (s : ℕ) (w : T) → get_or xs s None ≡ None
      → undo (Reused s) (record { slots = set xs s (Some w); free = free }) ≡ record { slots = xs; free = free ++ s ∷ [] }
  put_back_is xs free s w vacant
      = ap (λ (ys : List (Option T)). record { slots = ys; free = free ++ s ∷ [] }) (set_back xs s None (Some w) vacant)

  pub put_sound : (m n : ℕ) (log next : List (Change T)) (xs : List (Option T)) (free : List ℕ) (s : ℕ) (w : T)
      → IsNoted log (Reused s) next → AreSound m n log (record { slots = xs; free = free ++ s ∷ [] })
      → AreSound m n next (record { slots = set xs s (Some w); free = free })
  put_sound m n log next xs free s w noted h =
      let now = AreSound-now m n log _ h in
      let k = free_within xs free s now.exact in
      let vacant = free_vacant xs free s now.exact in
      step_sound m n log next (Reused s) (record { slots = xs; free = free ++ s ∷ [] }) (record { slots = set xs s (Some w); free = free })
      noted (put_back_is xs free s w vacant)
      (record {
        exact = exact_set xs (free ++ s ∷ []) free s (Some w) now.exact k (omega (arith, times-push_same s free, ap live vacant))
            (λ t d. sym (times-push_other t s free d));
        slots_fit = omega (arith, length-set xs s (Some w), now.slots_fit);
        free_fit = omega (arith, length_push free s, now.free_fit);
      })
      (omega (arith, length-set xs s (Some w), k)) h

  pub grow_sound : (m n : ℕ) (log next : List (Change T)) (x : Change T) (xs : List (Option T)) (w : T) → IsNoted log x next
      → undo x (record { slots = xs ++ Some w ∷ []; free = [] }) ≡ record { slots = xs; free = [] }
      → MayUndo x (record { slots = xs ++ Some w ∷ []; free = [] }) → length xs + 1 ≤ m
      → AreSound m n log (record { slots = xs; free = [] }) → AreSound m n next (record { slots = xs ++ Some w ∷ []; free = [] })
  grow_sound m n log next x xs w noted back may room h =
      let now = AreSound-now m n log _ h in
      step_sound m n log next x (record { slots = xs; free = [] }) (record { slots = xs ++ Some w ∷ []; free = [] }) noted back
      (record { exact = exact_push xs w now.exact; slots_fit = omega (arith, length_push xs (Some w), room); free_fit = now.free_fit })
      may h

pub last_push : {X : Type 0} (xs : List X) (x d : X) → get_or (xs ++ x ∷ []) (length (xs ++ x ∷ []) - 1) d ≡ x
last_push xs x d =
    let e : length (xs ++ x ∷ []) - 1 ≡ length xs + 0 = omega (arith, length_push xs x) in
    ap (λ n. get_or (xs ++ x ∷ []) n d) e ∙ get_or-append-add xs (x ∷ []) 0 d

pub empty_by : {X : Type 0} (xs : List X) → length xs ≡ 0 → xs ≡ []
empty_by [] h = refl
empty_by (x ∷ xs) h = absurd (omega (arith, h))

pub with_free : {T : Type 0} (m n : ℕ) (log : List (Change T)) (xs : List (Option T)) (f e : List ℕ) → f ≡ e
    → AreSound m n log (record { slots = xs; free = f }) → AreSound m n log (record { slots = xs; free = e })
with_free m n log xs f e same h = subst (λ (d : List ℕ). AreSound m n log (record { slots = xs; free = d })) same h

pub kept_free : {T : Type 0} (log : List (Change T)) (xs : List (Option T)) (f e : List ℕ) → f ≡ e
    → undo_all log (record { slots = xs; free = e }) ≡ undo_all log (record { slots = xs; free = f })
kept_free log xs f e same = ap (λ (d : List ℕ). undo_all log (record { slots = xs; free = d })) (sym same)

pub undo_last : {T : Type 0} (m n : ℕ) (old log : List (Change T)) (x : Change T) (c : Contents T) → old ≡ log ++ x ∷ []
    → AreSound m n old c → MayUndo x c × AreSound m n log (undo x c) × IsSoundArena m n (undo x c)
undo_last m n old log x c e h =
    let t = AreSound-pop m n log x c (subst (λ xs. AreSound m n xs c) e h) in
    (t.1, t.2, AreSound-now m n log (undo x c) t.2)

pub undo_last_kept : {T : Type 0} (old log : List (Change T)) (x : Change T) (c : Contents T) → old ≡ log ++ x ∷ []
    → undo_all old c ≡ undo_all log (undo x c)
undo_last_kept old log x c e = ap (λ xs. undo_all xs c) e ∙ undo_all-push log x c
