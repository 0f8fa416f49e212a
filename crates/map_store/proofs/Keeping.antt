-- What a store keeps once a message was appended, and at each moment of it.
use Rattle.std.proofs.Common.{◌≡◌, inl, List, [], ◌∷◌, ◌++◌, ℕ, Option, Some, None, Bool, refl, sym, subst}
use Rattle.std.specs.Prelude.{IfSome, Ok}
use Rattle.message_text.specs.Reading.{Reads}
use Rattle.message_text.specs.Texts.{IsCanonical}
use Rattle.map_rules.specs.Steps.{Decision}
use Rattle.outside.specs.Crash.{At, LeavesOnly}
use Rattle.outside.specs.Outside.{Shown}
use Rattle.outside.proofs.Moments.{started, weaker}
use Rattle.message_text.specs.declared.limits.Limits.{Limits}
use Rattle.message_text.specs.declared.message.Message.{Message}
use Rattle.map_rules.specs.State.{State, opening}
use Rattle.map_rules.specs.After.{after}
use Rattle.gate_journal.specs.Settled.{IsSettled, IsSettledIfTold, IsBeforeOrAfter}
use Rattle.gate_journal.proofs.Crash.{at_entry, still_some}
use Rattle.map_store.specs.Stands.{Holds, IsNextRecord}
use Rattle.map_store.specs.Store.{StoreView, IsKept, IsAtWork, IsBeforeOrWith}
use Rattle.map_store.proofs.Holding.{holds-push, stands_before_or_with}

-- where it is told, a file that is kept is settled
pub ready : (store : StoreView) (disk : Option (List ℕ)) (leaves : List ℕ → Type 0)
    → IfSome disk (λ _. (messages : List Message) × IsKept store disk leaves messages) → IsSettledIfTold disk leaves store.journal.gate
ready store None leaves h = tt
ready store (Some file) leaves h = (h.1.payloads, h.1.settled)

module _ {O : Type 0} (shown : O → Shown) (leaves : O → List ℕ → Type 0) (clock : O → ℕ) (left : O → ℕ → List ℕ → List ℕ → Type 0)
    (store : StoreView) (m : Message) where
  -- before a call of the disk each image has the messages from before
  pub untouched : (o : O) → ((told image : List ℕ) → left o (clock o) told image → At (shown o).told (leaves o) told image)
      → (messages : List Message) → IsKept store (shown o).disk (leaves o) messages
      → LeavesOnly clock left o o (At (shown o).told (IsBeforeOrWith store.limits messages store.state m))
  untouched o only messages k
      = started clock left o (At (shown o).told (IsBeforeOrWith store.limits messages store.state m)) (λ told image was.
      let now = only told image was in (
        now.0,
        inl (record {
          payloads = k.payloads;
          gates = at_entry store.journal.gate k.payloads (shown o).disk (leaves o) k.settled image now.1;
          holds = k.holds;
        }),
      ))

  -- while its record is appended
  pub appending : (old new : O) (p : List ℕ) → IsNextRecord store.limits store.state p m (after store.state m)
      → (messages : List Message) (k : IsKept store (shown old).disk (leaves old) messages)
      → LeavesOnly clock left old new (At (shown old).told (IsBeforeOrAfter k.payloads p))
      → LeavesOnly clock left old new (At (shown old).told (IsBeforeOrWith store.limits messages store.state m))
  appending old new p n messages k crash
      = weaker clock left old new (At (shown old).told (IsBeforeOrAfter k.payloads p))
      (At (shown old).told (IsBeforeOrWith store.limits messages store.state m)) crash
      (λ told image h.
      (h.0, stands_before_or_with store.limits store.state (after store.state m) k.payloads messages p m k.holds n image h.1))

-- once its record is appended
module _ (store new : StoreView) (m : Message) (p : List ℕ) (disk disk_new : Option (List ℕ)) (leaves leaves_new : List ℕ → Type 0)
    (n : IsNextRecord store.limits store.state p m (after store.state m)) (limits_is : new.limits ≡ store.limits)
    (state_is : new.state ≡ after store.state m)
    (grow : (ps : List (List ℕ)) → IsSettled disk leaves store.journal.gate ps
    → IsSettled disk_new leaves_new new.journal.gate (ps ++ p ∷ [])) where
  pub kept_with : (messages : List Message) → IsKept store disk leaves messages → IsKept new disk_new leaves_new (messages ++ m ∷ [])
  kept_with messages k = record {
    payloads = k.payloads ++ p ∷ [];
    settled = grow k.payloads k.settled;
    holds = subst (λ (l : Limits). Holds l opening (k.payloads ++ p ∷ []) (messages ++ m ∷ []) new.state) (sym limits_is)
        (subst (λ (s : State). Holds store.limits opening (k.payloads ++ p ∷ []) (messages ++ m ∷ []) s) (sym state_is)
        (holds-push store.limits opening store.state (after store.state m) k.payloads messages p m k.holds n));
  }

  pub at_work_with : IsAtWork store disk leaves → store.spent ≡ Bool.false → (disk ≡ None → disk_new ≡ None)
      → IsAtWork new disk_new leaves_new
  at_work_with h whole untold
      = λ still. still_some disk disk_new ((messages : List Message) × IsKept store disk leaves messages)
      ((messages : List Message) × IsKept new disk_new leaves_new messages) (h whole)
      (λ k. (k.0 ++ m ∷ [], kept_with k.0 k.1)) untold

-- the message that the register takes is the next one
pub next_of : (limits core_limits : Limits) (state : State) (p : List ℕ) (m : Message) → core_limits ≡ limits → IsCanonical p m
    → Reads limits p (Ok m) → Decision core_limits state m None → IsNextRecord limits state p m (after state m)
next_of limits core_limits state p m same canonical read taken = record {
  canonical = canonical;
  read = read;
  step = (subst (λ (l : Limits). Decision l state m None) same taken, refl);
}
