-- What a holder has, as a message, and the texts of such messages one after the other.
use Rattle.std.proofs.Common.{◌≡◌, ◌∙◌, ◌<◌, ◌≤◌, ◌+◌, ℕ, ℤ, Bool, true, false, cond, List, [], ◌∷◌, ◌++◌, length, take, get_or, map, filter, refl, sym, ap, subst, arith, append-nil, Some}
use Rattle.std.specs.Prelude.{find}
use Rattle.std.specs.List.{All, flat_map}
use Rattle.std.proofs.lemmas.List.{take_all, take_more, map-append}
use Rattle.std.proofs.lemmas.List.Concat.{flat_map-append}
use Rattle.std.proofs.lemmas.List.Elements.{All-cons, All-nil, All-tail}
use Rattle.rd_plane.specs.Plane.{Vertex}
use Rattle.message_text.specs.declared.message.Message.{Message}
use Rattle.message_text.specs.declared.message.Mutation.{Mutation}
use Rattle.message_text.specs.declared.message.Mutation.TheVariants.{Add}
use Rattle.message_text.specs.Printable.{IsPrintable, IsPrintableMutation, IsPrintableShape}
use Rattle.message_text.specs.Texts.{IsCanonical}
use Rattle.version_history.specs.declared.version.Version.{Version}
use Rattle.version_history.specs.Moments.{rising, versions_at}
use Rattle.area_book.specs.declared.version.AreaVersion.{AreaVersion}
use Rattle.map_rules.specs.State.{State}
use Rattle.moment_query.specs.Exports.{export_from, export_of, holders_at, is_own, is_own_area, own_addition, own_shapes, shapes_or_none, AreJoined, AreTexts, IsExportText, PushesMessage}
use Rattle.moment_query.specs.Printed.{IsPrintableArea, IsPrintableVersion}
use Rattle.moment_query.specs.Queries.{areas_at}
use Rattle.moment_query.proofs.Grouped.{kept_in_order}
use Rattle.moment_query.proofs.Searching.{first_of, found_first}

-- ---- what is told of a holder hangs on what is the holder's
pub same_shapes : (holder : List ℕ) (few all : List AreaVersion) → filter (is_own_area holder) few ≡ filter (is_own_area holder) all
    → own_shapes holder few ≡ own_shapes holder all
same_shapes holder few all e =
    ap shapes_or_none (found_first (is_own_area holder) few ∙ (ap first_of e ∙ sym (found_first (is_own_area holder) all)))

additions_are : (holder : List ℕ) (vs : List Version) → flat_map (own_addition holder) vs
    ≡ map (λ (v : Version). Add v.ident v.item) (filter (is_own holder) vs)
additions_are holder [] = refl
additions_are holder (v ∷ vs) = by_test (additions_are holder vs) (is_own holder v)
  where
    by_test : flat_map (own_addition holder) vs ≡ map (λ (w : Version). Add w.ident w.item) (filter (is_own holder) vs) → (t : Bool)
        → cond t (Add v.ident v.item ∷ []) [] ++ flat_map (own_addition holder) vs
        ≡ map (λ (w : Version). Add w.ident w.item) (cond t (v ∷ filter (is_own holder) vs) (filter (is_own holder) vs))
    by_test behind true = ap (λ (l : List Mutation). Add v.ident v.item ∷ l) behind
    by_test behind false = behind

pub same_additions : (holder : List ℕ) (few all : List Version) → filter (is_own holder) few ≡ filter (is_own holder) all
    → flat_map (own_addition holder) few ≡ flat_map (own_addition holder) all
same_additions holder few all e
    = additions_are holder few ∙ (ap (map (λ (v : Version). Add v.ident v.item)) e ∙ sym (additions_are holder all))

-- a message of new objects, with an area
abbrev told : List ℕ → ℤ → List (List (List Vertex)) → List Mutation → Message
told holder moment shapes mutations = record { holder = holder; moment = moment; area = Some shapes; mutations = mutations }

pub same_message : (holder : List ℕ) (moment : ℤ) {a b : List (List (List Vertex))} {l r : List Mutation} → a ≡ b → l ≡ r
    → told holder moment a l ≡ told holder moment b r
same_message holder moment {a} {b} {l} {r} p q
    = ap (λ (s : List (List (List Vertex))). told holder moment s l) p ∙ ap (told holder moment b) q

-- ---- printable
own_printable : (holder : List ℕ) (areas : List AreaVersion) → All IsPrintableArea areas → All IsPrintableShape (own_shapes holder areas)
own_printable holder [] all = All-nil IsPrintableShape
own_printable holder (a ∷ areas) all = by_test (own_printable holder areas (All-tail IsPrintableArea a areas all)) (is_own_area holder a)
  where
    by_test : All IsPrintableShape (own_shapes holder areas) → (t : Bool)
        → All IsPrintableShape (shapes_or_none (cond t (Some a) (find (is_own_area holder) areas)))
    by_test behind true = all 0 a (omega arith)
    by_test behind false = behind

additions_printable : (holder : List ℕ) (vs : List Version) → All IsPrintableVersion vs
    → All IsPrintableMutation (flat_map (own_addition holder) vs)
additions_printable holder [] all = All-nil IsPrintableMutation
additions_printable holder (v ∷ vs) all = by_test (additions_printable holder vs (All-tail IsPrintableVersion v vs all)) (is_own holder v)
  where
    by_test : All IsPrintableMutation (flat_map (own_addition holder) vs) → (t : Bool)
        → All IsPrintableMutation (cond t (Add v.ident v.item ∷ []) [] ++ flat_map (own_addition holder) vs)
    by_test behind true
        = All-cons IsPrintableMutation (Add v.ident v.item) (flat_map (own_addition holder) vs) (all 0 v (omega arith)) behind
    by_test behind false = behind

pub export_printable : (areas : List AreaVersion) (versions : List Version) (moment : ℤ) (holder : List ℕ) → All IsPrintableArea areas
    → All IsPrintableVersion versions
    → IsPrintable (export_from areas versions moment holder)
export_printable areas versions moment holder a v
    = record { area = own_printable holder areas a; mutations = additions_printable holder versions v }

-- ---- texts one after the other
texts_more : (texts : List (List ℕ)) (messages : List Message) (text : List ℕ) (m : Message) → AreTexts texts messages → IsCanonical text m
    → AreTexts (texts ++ text ∷ []) (messages ++ m ∷ [])
unfolding AreTexts
texts_more [] [] text m are is = (is, tt)
texts_more [] (n ∷ messages) text m are is = absurd are
texts_more (t ∷ texts) [] text m are is = absurd are
texts_more (t ∷ texts) (n ∷ messages) text m are is = (are.0, texts_more texts messages text m are.1 is)

pub none_joined : {bytes : List ℕ} → bytes ≡ [] → AreJoined [] bytes
unfolding AreTexts
none_joined e = record { texts = []; are = tt; joined = e }

pub pushes : {old new text : List ℕ} (made m : Message) → made ≡ m → IsCanonical text made → new ≡ old ++ text → PushesMessage m old new
pushes {text = text} made m e is pushed = record { text = text; is = subst (IsCanonical text) e is; pushed = pushed }

-- one more holder of a loop
pub more_joined : {old new : List ℕ} (f : List ℕ → Message) (holders : List (List ℕ)) (i : ℕ) (holder : List ℕ) → i < length holders
    → holder ≡ get_or holders i holder
    → AreJoined (map f (take i holders)) old → PushesMessage (f holder) old new → AreJoined (map f (take (i + 1) holders)) new
more_joined {old} {new} f holders i holder h is before push =
    let step : map f (take (i + 1) holders) ≡ map f (take i holders) ++ f holder ∷ [] =
    ap (map f) (take_more holders i holder h ∙ ap (λ (k : List ℕ). take i holders ++ k ∷ []) (sym is)) ∙ map-append f (take i holders)
    (holder ∷ []) in
    subst (λ (messages : List Message). AreJoined messages new) (sym step) record {
      texts = before.texts ++ push.text ∷ [];
      are = texts_more before.texts (map f (take i holders)) push.text (f holder) before.are push.is;
      joined = push.pushed ∙ (ap (λ (l : List ℕ). l ++ push.text) before.joined
          ∙ sym (flat_map-append (λ (t : List ℕ). t) before.texts (push.text ∷ [])
          ∙ ap (λ (l : List ℕ). flat_map (λ (t : List ℕ). t) before.texts ++ l) (append-nil push.text)));
    }

pub all_joined : {bytes : List ℕ} (f : List ℕ → Message) (holders : List (List ℕ)) (i : ℕ) → length holders ≤ i
    → AreJoined (map f (take i holders)) bytes → AreJoined (map f holders) bytes
all_joined {bytes} f holders i h joined = subst (λ (l : List (List ℕ)). AreJoined (map f l) bytes) (take_all i holders h) joined

map_agree : {A B : Type 0} (f g : A → B) → ((x : A) → f x ≡ g x) → (xs : List A) → map f xs ≡ map g xs
map_agree f g same [] = refl
map_agree {A} {B} f g same (x ∷ xs) = ap (λ (y : B). y ∷ map f xs) (same x) ∙ ap (λ (l : List B). g x ∷ l) (map_agree f g same xs)

-- the map at the moment, told of versions by rising holder
pub told_export : {bytes : List ℕ} (s : State) (moment : ℤ) (areas : List AreaVersion) (versions : List Version) (holders : List (List ℕ))
    → areas ≡ areas_at moment s.areas → versions ≡ rising (λ (v : Version). v.holder) (versions_at moment s.versions)
    → holders ≡ holders_at s moment
    → AreJoined (map (export_from areas versions moment) holders) bytes → IsExportText s moment bytes
told_export {bytes} s moment areas versions holders a v h joined =
    let each : (holder : List ℕ) → export_from areas versions moment holder ≡ export_of s moment holder =
    λ holder. same_message holder moment (ap (own_shapes holder) a)
    (same_additions holder versions (versions_at moment s.versions)
    (ap (filter (is_own holder)) v ∙ kept_in_order (λ (w : Version). w.holder) holder (versions_at moment s.versions))) in
    subst (λ (messages : List Message). AreJoined messages bytes)
    (map_agree (export_from areas versions moment) (export_of s moment) each holders ∙ ap (map (export_of s moment)) h) joined
