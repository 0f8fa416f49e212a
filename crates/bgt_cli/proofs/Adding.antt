-- Records that are added to those of a file, each with room.
use Rattle.std.proofs.Common.{◌≡◌, ◌+◌, ◌++◌, ◌∷◌, ◌∙◌, inl, inr, ℕ, List, [], length, Option, refl, sym, ap, subst, arith, append_assoc, append-nil, length-append}
use Rattle.message_text.specs.declared.limits.Limits.{Limits}
use Rattle.message_text.specs.declared.message.Message.{Message}
use Rattle.message_text.specs.Texts.{IsCanonical}
use Rattle.map_rules.specs.declared.refusal.Answer.{Answer}
use Rattle.map_rules.specs.declared.refusal.Answer.TheVariants.{Taken, Refused}
use Rattle.map_rules.specs.State.{State, opening}
use Rattle.gate_journal.specs.Journal.{mark, frame, records}
use Rattle.gate_journal.proofs.Gates.{length-frame, length-mark}
use Rattle.map_store.specs.Stands.{Holds}
use Rattle.map_store.specs.Store.{StoreView, HasRoomFor, IsKept}
use Rattle.bgt_cli.specs.Records.{AddedWithRoom, AreCanonical, HaveRoom, size_of}
use Rattle.bgt_cli.specs.Register.{RegisterView, HasRoomIn, IsKeptBy, taken_of}

pub length-records : (ps : List (List ℕ)) → length (records ps) ≡ size_of ps
length-records [] = refl
length-records (p ∷ ps) = omega (arith, length-append (1 ∷ frame p) (records ps), length-frame p, length-records ps)

pub holds_canonical : (limits : Limits) (a b : State) (ps : List (List ℕ)) (ms : List Message) → Holds limits a ps ms b → AreCanonical ps ms
unfolding Holds
holds_canonical limits a b [] [] h = tt
holds_canonical limits a b [] (m ∷ ms) h = absurd h
holds_canonical limits a b (p ∷ ps) [] h = absurd h
holds_canonical limits a b (p ∷ ps) (m ∷ ms) (mid, next, rest) = (next.canonical, holds_canonical limits mid b ps ms rest)

-- one record more
canonical_push : (ps : List (List ℕ)) (ms : List Message) (p : List ℕ) (m : Message) → AreCanonical ps ms → IsCanonical p m
    → AreCanonical (ps ++ p ∷ []) (ms ++ m ∷ [])
canonical_push [] [] p m h k = (k, tt)
canonical_push [] (n ∷ ms) p m h k = absurd h
canonical_push (q ∷ ps) [] p m h k = absurd h
canonical_push (q ∷ ps) (n ∷ ms) p m h k = (h.0, canonical_push ps ms p m h.1 k)

size-push : (ps : List (List ℕ)) (p : List ℕ) → size_of (ps ++ p ∷ []) ≡ size_of ps + 9 + length p
size-push [] p = omega arith
size-push (q ∷ ps) p = omega (arith, size-push ps p)

-- a message for which a store has room, after those that it keeps
pub kept_with_room : (s : StoreView) (disk : Option (List ℕ)) (leaves : List ℕ → Type 0) (ms : List Message) (m : Message)
    → IsKept s disk leaves ms
    → HasRoomFor s m → HaveRoom s.limits (ms ++ m ∷ [])
kept_with_room s disk leaves ms m k h = record {
  payloads = k.payloads ++ h.payload ∷ [];
  canonical = canonical_push k.payloads ms h.payload m (holds_canonical s.limits opening s.state k.payloads ms k.holds) h.canonical;
  within = omega (
    arith,
    h.within,
    size-push k.payloads h.payload,
    k.settled.ends.place,
    length-append mark (records k.payloads),
    length-mark,
    length-records k.payloads,
  );
}

-- what is taken of one message
pub taken_with_room : (limits : Limits) (r : RegisterView) (disk : Option (List ℕ)) (leaves : List ℕ → Type 0) (m : Message)
    (answer : Answer)
    → r.limits ≡ limits → (answer ≡ Taken → HasRoomIn r m) → (first : List Message) → IsKeptBy r disk leaves first
    → AddedWithRoom limits first (taken_of answer m)
taken_with_room limits r disk leaves m Taken same room first k =
    let here : HasRoomFor k.store m = room refl k.store (ap (λ (x : RegisterView). x.store) k.is) in
    inr (subst (λ (l : Limits). HaveRoom l (first ++ m ∷ [])) (sym (ap (λ (x : RegisterView). x.limits) k.is) ∙ same)
    (kept_with_room k.store disk leaves first m k.kept here))
taken_with_room limits r disk leaves m (Refused e) same room first k = inl refl

-- what is added next
pub room_on : (limits : Limits) (first k1 k2 : List Message) → AddedWithRoom limits first k1 → AddedWithRoom limits (first ++ k1) k2
    → AddedWithRoom limits first (k1 ++ k2)
room_on limits first k1 k2 h (inl none)
    = subst (AddedWithRoom limits first) (sym (ap (λ (l : List Message). k1 ++ l) none ∙ append-nil k1)) h
room_on limits first k1 k2 h (inr room) = inr (subst (HaveRoom limits) (append_assoc first k1 k2) room)
