-- While each object stays with the holder whose code it has, each message that is taken is local to each holder.
use Rattle.std.proofs.Common.{◌≡◌, ◌+◌, ◌∙◌, ℕ, refl, ap, sym, inl, inr, List, [], ◌∷◌, ◌++◌, length}
use Rattle.std.specs.Prelude.{true, false, Bool, not, cond, None}
use Rattle.std.specs.List.{All, Contains, list_any}
use Rattle.std.specs.Str.{bytes_eq}
use Rattle.std.proofs.lemmas.Bool.{cases_Bool}
use Rattle.std.proofs.lemmas.List.Elements.{All-cons, All-contains, All-nil}
use Rattle.std.proofs.lemmas.Slice.Eq.{bytes_eq-Decides}
use Rattle.imgeo_types.specs.Fields.{holder_of}
use Rattle.message_text.specs.declared.limits.Limits.{Limits}
use Rattle.message_text.specs.declared.message.Message.{Message}
use Rattle.message_text.specs.declared.message.Mutation.{Mutation}
use Rattle.message_text.specs.declared.message.Mutation.TheVariants.{Add, Change, End}
use Rattle.version_history.specs.declared.version.Version.{Version}
use Rattle.map_rules.specs.Rules.{header_of, MutationsRule, mutation_refusal}
use Rattle.map_rules.specs.Good.{IsFine}
use Rattle.map_rules.specs.After.{after}
use Rattle.map_rules.specs.State.{State}
use Rattle.map_rules.proofs.Ruled.{all_fine, when_none}
use Rattle.alone_law.specs.Agreeing.{AreAtHome, IsAtHome, IsLocal, begins_one, names_other}
use Rattle.alone_law.specs.Folding.{Replays}
use Rattle.alone_law.specs.Replaying.{IsReplay}
use Rattle.alone_law.proofs.Away.{IsCoded, home_after, none_any, own_code}

not_false : (b : Bool) → not b ≡ false → b ≡ true
not_false true e = refl
not_false false e = cc

-- what is begun has the code of the message's holder
abbrev HasPrefix : List ℕ → Mutation → Type 0
HasPrefix holder (Add ident item) = holder_of ident ≡ holder
HasPrefix holder (Change ident was item) = Unit {0}
HasPrefix holder (End ident was day) = Unit {0}

prefix_one : (vs : List Version) (m : Message) (at : ℕ) (x : Mutation) → mutation_refusal vs (header_of m) at x ≡ None
    → HasPrefix m.holder x
prefix_one vs m at (Add ident item) e
    = (bytes_eq-Decides (holder_of ident) m.holder).0 (not_false (bytes_eq (holder_of ident) m.holder) (when_none _ _ _ e).0)
prefix_one vs m at (Change ident was item) e = tt
prefix_one vs m at (End ident was day) e = tt

all_prefix : (vs : List Version) (m : Message) (before ms : List Mutation) → MutationsRule vs m before ms None → All (HasPrefix m.holder) ms
unfolding MutationsRule
all_prefix vs m before [] h = All-nil (HasPrefix m.holder)
all_prefix vs m before (x ∷ ms) h = All-cons (HasPrefix m.holder) x ms (prefix_one vs m (length before + 1) x (sym h.1.0))
    (all_prefix vs m (before ++ x ∷ []) ms h.1.1.1)

coded_one : (h : List ℕ) (vs : List Version) → All (IsAtHome h) vs → (holder : List ℕ) (x : Mutation) → HasPrefix holder x
    → IsFine vs holder x
    → IsCoded h holder x
coded_one h vs home holder (Add ident item) p f = ap (λ (i : List ℕ). bytes_eq i h) p
coded_one h vs home holder (Change ident was item) p f = own_code h vs home holder ident f.0
coded_one h vs home holder (End ident was day) p f = own_code h vs home holder ident f

begins_not : (h holder : List ℕ) (x : Mutation) → bytes_eq holder h ≡ false → IsCoded h holder x → begins_one h x ≡ false
begins_not h holder (Add ident item) n c = c ∙ n
begins_not h holder (Change ident was item) n c = refl
begins_not h holder (End ident was day) n c = refl

pub taken_local : (h : List ℕ) (vs : List Version) (m : Message) → All (IsAtHome h) vs → MutationsRule vs m [] m.mutations None
    → IsLocal h m
taken_local h vs m home r = elim (cases_Bool (bytes_eq m.holder h)) [
  | inl b ↦ ap (λ (t : Bool). cond t (list_any (names_other h) m.mutations) (list_any (begins_one h) m.mutations)) b ∙ none_any
      (names_other h) m.mutations (λ x c. ap not (coded x c ∙ b))
  | inr b ↦ ap (λ (t : Bool). cond t (list_any (names_other h) m.mutations) (list_any (begins_one h) m.mutations)) b ∙ none_any
      (begins_one h) m.mutations (λ x c. begins_not h m.holder x b (coded x c))
]
  where
    coded : (x : Mutation) → Contains m.mutations x → IsCoded h m.holder x
    coded x c = coded_one h vs home m.holder x (All-contains (HasPrefix m.holder) m.mutations x (all_prefix vs m [] m.mutations r) c)
        (All-contains (IsFine vs m.holder) m.mutations x (all_fine vs m [] m.mutations r) c)

pub all_local : (limits : Limits) (h : List ℕ) (ms : List Message) (s : State) → AreAtHome h s → IsReplay limits s ms → All (IsLocal h) ms
unfolding Replays
all_local limits h [] s home r = All-nil (IsLocal h)
all_local limits h (m ∷ ms) s home r =
    let here : IsLocal h m = taken_local h s.versions m home r.0.0.1.1 in
    All-cons (IsLocal h) m ms here (all_local limits h ms (after s m) (home_after h s m home here r.0.0.1.1) r.1)
