-- The two synced writes of an append, and the moments of both.
use Rattle.std.proofs.Common.{◌≡◌, ℕ, ◌+◌, ◌^◌, ◌<◌, List, [], ◌∷◌, ◌++◌, length, sym, ◌∙◌, ap}
use Rattle.std.specs.Prelude.{option_map}
use Rattle.outside.specs.Crash.{At, LeavesOnly, IsTornFrom, IsDurable}
use Rattle.outside.specs.Outside.{Shown, written}
use Rattle.outside.proofs.Moments.{run_on, weaker}
use Rattle.gate_journal.specs.Journal.{frame}
use Rattle.gate_journal.specs.Settled.{IsSettled, IsSettledIfTold, IsBeforeOrAfter}
use Rattle.gate_journal.proofs.Crash.{torn_record, torn_gate, staged, settled, still_some}

module _ {O : Type 0} (shown : O → Shown) (leaves : O → List ℕ → Type 0) (clock : O → ℕ) (left : O → ℕ → List ℕ → List ℕ → Type 0)
    (old mid new : O) (gate : ℕ) (p bytes : List ℕ)
    (fits : length p < 2 ^ 64) (is : bytes ≡ frame p ++ 0 ∷ []) where
  -- while the record is written
  pub writing : (ps : List (List ℕ)) → IsSettled (shown old).disk (leaves old) gate ps
      → LeavesOnly clock left old mid (At (shown old).told (IsTornFrom (gate + 1) (length bytes) (leaves old)))
      → LeavesOnly clock left old mid (At (shown old).told (IsBeforeOrAfter ps p))
  writing ps s first = weaker clock left old mid (At (shown old).told (IsTornFrom (gate + 1) (length bytes) (leaves old)))
      (At (shown old).told (IsBeforeOrAfter ps p)) first
      (λ told image h. (h.0, torn_record gate ps p fits (length bytes) (shown old).disk (leaves old) s image h.1))

  module _ (wrote : shown mid ≡ record (shown old) { disk = option_map (written (gate + 1) bytes) (shown old).disk })
      (durable : IsDurable (shown mid).disk (leaves mid)) where
    -- and while the gate is opened
    pub opening : (ps : List (List ℕ)) → IsSettled (shown old).disk (leaves old) gate ps
        → LeavesOnly clock left old mid (At (shown old).told (IsTornFrom (gate + 1) (length bytes) (leaves old)))
        → LeavesOnly clock left mid new (At (shown mid).told (IsTornFrom gate 1 (leaves mid)))
        → LeavesOnly clock left old new (At (shown old).told (IsBeforeOrAfter ps p))
    opening ps s first second =
        let stage
        = staged gate ps p fits (shown old).disk (shown mid).disk (leaves old) (leaves mid) bytes is s
        (ap (λ (x : Shown). x.disk) wrote) durable in
        run_on clock left old mid new (At (shown old).told (IsBeforeOrAfter ps p)) (At (shown mid).told (IsTornFrom gate 1 (leaves mid)))
        (At (shown old).told (IsBeforeOrAfter ps p)) (writing ps s first) second (λ told image h. h)
        (λ told image h.
        (ap (λ (x : Shown). x.told) (sym wrote) ∙ h.0, torn_gate gate ps p fits (shown mid).disk (leaves mid) stage image h.1))

    module _ (opened : shown new ≡ record (shown mid) { disk = option_map (written gate (1 ∷ [])) (shown mid).disk })
        (kept : IsDurable (shown new).disk (leaves new)) where
      pub appended : (ps : List (List ℕ)) → IsSettled (shown old).disk (leaves old) gate ps
          → IsSettled (shown new).disk (leaves new) (gate + 9 + length p) (ps ++ p ∷ [])
      appended ps s =
          let stage
          = staged gate ps p fits (shown old).disk (shown mid).disk (leaves old) (leaves mid) bytes is s
          (ap (λ (x : Shown). x.disk) wrote) durable in
          settled gate ps p fits (shown mid).disk (shown new).disk (leaves mid) (leaves new) stage (ap (λ (x : Shown). x.disk) opened) kept

      pub ready : IsSettledIfTold (shown old).disk (leaves old) gate → IsSettledIfTold (shown new).disk (leaves new) (gate + 9 + length p)
      ready h
          = still_some (shown old).disk (shown new).disk ((ps : List (List ℕ)) × IsSettled (shown old).disk (leaves old) gate ps)
          ((ps : List (List ℕ)) × IsSettled (shown new).disk (leaves new) (gate + 9 + length p) ps) h
          (λ s. (s.0 ++ p ∷ [], appended s.0 s.1))
          (λ none. ap (λ (x : Shown). x.disk) opened ∙ ap (option_map (written gate (1 ∷ [])))
          (ap (λ (x : Shown). x.disk) wrote ∙ ap (option_map (written (gate + 1) bytes)) none))
