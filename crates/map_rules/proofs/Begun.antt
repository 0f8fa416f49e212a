-- The versions that mutations begin.
use Rattle.std.proofs.Common.{◌≡◌, ℕ, refl, sym, ◌∙◌, arith, inl, inr, List, [], ◌∷◌, subst}
use Rattle.std.specs.Prelude.{ℤ, ◌≢◌, None}
use Rattle.std.specs.List.{All, AllPairs, Contains, flat_map}
use Rattle.std.proofs.lemmas.List.Elements.{All-contains}
use Rattle.std.proofs.lemmas.List.Kept.{AllPairs-cons}
use Rattle.rd_plane.proofs.Members.{contains_head, contains_tail, contains_cases}
use Rattle.imgeo_types.specs.declared.item.Item.{Item}
use Rattle.message_text.specs.declared.message.Mutation.{Mutation}
use Rattle.message_text.specs.declared.message.Mutation.TheVariants.{Add, Change, End}
use Rattle.version_history.specs.declared.version.Version.{Version}
use Rattle.version_history.specs.Versions.{new_version}
use Rattle.map_rules.specs.After.{begun}
use Rattle.map_rules.specs.Rules.{ident_of}
use Rattle.map_rules.specs.Good.{Follows}
use Rattle.map_rules.proofs.Lists.{all_from, pairs_head, pairs_tail}

-- the mutation begins a version of this identification with this item
abbrev pub IsBeginning : Mutation → List ℕ → Item → Type 0
IsBeginning (Add i item) ident own = (i ≡ ident) × (item ≡ own)
IsBeginning (Change i was item) ident own = (i ≡ ident) × (item ≡ own)
IsBeginning (End i was day) ident own = ⊥

pub record IsBegun (holder : List ℕ) (moment : ℤ) (ms : List Mutation) (v : Version) : Type 0 where
  pub by : Mutation
  pub of : Contains ms by
  pub begins : IsBeginning by v.ident v.item
  pub holder_is : v.holder ≡ holder
  pub since_is : v.since ≡ moment
  pub current : v.until ≡ None

abbrev news : List ℕ → ℤ → List Mutation → List Version
news holder moment ms = flat_map (begun holder moment) ms

more : (holder : List ℕ) (moment : ℤ) (x : Mutation) (ms : List Mutation) (v : Version) → IsBegun holder moment ms v
    → IsBegun holder moment (x ∷ ms) v
more holder moment x ms v b = record {
  by = b.by;
  of = contains_tail x b.by ms b.of;
  begins = b.begins;
  holder_is = b.holder_is;
  since_is = b.since_is;
  current = b.current;
}

first : (holder : List ℕ) (moment : ℤ) (x : Mutation) (ms : List Mutation) (ident : List ℕ) (item : Item) → IsBeginning x ident item
    → IsBegun holder moment (x ∷ ms) (new_version holder ident item moment)
first holder moment x ms ident item b
    = record { by = x; of = contains_head x ms; begins = b; holder_is = refl; since_is = refl; current = refl }

pub begun_is : (holder : List ℕ) (moment : ℤ) (ms : List Mutation) (v : Version) → Contains (news holder moment ms) v
    → IsBegun holder moment ms v
begun_is holder moment [] v c = absurd (omega (arith, c.1))
begun_is holder moment (Add i item ∷ ms) v c = elim (contains_cases (new_version holder i item moment) v (news holder moment ms) c) [
  | inl q ↦ subst (IsBegun holder moment (Add i item ∷ ms)) q (first holder moment (Add i item) ms i item (refl, refl))
  | inr d ↦ more holder moment (Add i item) ms v (begun_is holder moment ms v d)
]
begun_is holder moment (Change i was item ∷ ms) v c = elim (contains_cases (new_version holder i item moment) v (news holder moment ms) c) [
  | inl q ↦ subst (IsBegun holder moment (Change i was item ∷ ms)) q (first holder moment (Change i was item) ms i item (refl, refl))
  | inr d ↦ more holder moment (Change i was item) ms v (begun_is holder moment ms v d)
]
begun_is holder moment (End i was day ∷ ms) v c = more holder moment (End i was day) ms v (begun_is holder moment ms v c)

pub named_by : (x : Mutation) (ident : List ℕ) (item : Item) → IsBeginning x ident item → ident_of x ≡ ident
named_by (Add i item) ident own b = b.0
named_by (Change i was item) ident own b = b.0
named_by (End i was day) ident own b = absurd b

-- no two of one identification begin
others : (holder : List ℕ) (moment : ℤ) (x : Mutation) (ms : List Mutation) (v : Version) → v.ident ≡ ident_of x
    → All (λ y. ident_of x ≢ ident_of y) ms → All (Follows v) (news holder moment ms)
others holder moment x ms v q a = all_from (Follows v) (news holder moment ms) (λ w c e. let b = begun_is holder moment ms w c in
    absurd (All-contains (λ y. ident_of x ≢ ident_of y) ms b.by a b.of (sym q ∙ e ∙ sym (named_by b.by w.ident w.item b.begins))))

pub begun_follow : (holder : List ℕ) (moment : ℤ) (ms : List Mutation) → AllPairs (λ x y. ident_of x ≢ ident_of y) ms
    → AllPairs Follows (news holder moment ms)
begun_follow holder moment [] p = λ i j d l m. absurd (omega (arith, m))
begun_follow holder moment (Add i item ∷ ms) p = AllPairs-cons Follows (new_version holder i item moment) (news holder moment ms)
    (others holder moment (Add i item) ms (new_version holder i item moment) refl
    (pairs_head (λ x y. ident_of x ≢ ident_of y) (Add i item) ms p))
    (begun_follow holder moment ms (pairs_tail (λ x y. ident_of x ≢ ident_of y) (Add i item) ms p))
begun_follow holder moment (Change i was item ∷ ms) p = AllPairs-cons Follows (new_version holder i item moment) (news holder moment ms)
    (others holder moment (Change i was item) ms (new_version holder i item moment) refl
    (pairs_head (λ x y. ident_of x ≢ ident_of y) (Change i was item) ms p))
    (begun_follow holder moment ms (pairs_tail (λ x y. ident_of x ≢ ident_of y) (Change i was item) ms p))
begun_follow holder moment (End i was day ∷ ms) p
    = begun_follow holder moment ms (pairs_tail (λ x y. ident_of x ≢ ident_of y) (End i was day) ms p)
