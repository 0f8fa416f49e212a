-- The maps that the register holds, one a holder.
use Rattle.std.specs.BTreeMap.{BTreeMap, get}
use Rattle.std.specs.Cmp.Lexicographic.{slice_cmp}
use Rattle.std.specs.Ordering.{nat_cmp}
use Rattle.std.specs.Prelude.{◌≡◌, ◌≢◌, ℕ, List, [], Option, Some, None, IfSome, IsSome, option_map, unwrap_or}
use Rattle.local_check.specs.Maps.{HolderParts, MapView}
use Rattle.map_rules.specs.declared.last.LastMessage.{LastMessage}
use Rattle.map_rules.specs.State.{State, map_now, moment_of}

-- the holder's map, where there is one
abbrev pub map_in : BTreeMap (List ℕ) MapView → List ℕ → Option MapView
map_in maps holder = get (slice_cmp nat_cmp) maps holder

-- neither area nor objects
abbrev pub no_map : HolderParts
no_map = record { area = []; parts = [] }

-- what the holder has now: nothing, where there is no map
abbrev pub now_in : BTreeMap (List ℕ) MapView → List ℕ → HolderParts
now_in maps holder = unwrap_or (option_map (λ (v : MapView). v.now) (map_in maps holder)) no_map

-- a map of which no change is tried
abbrev pub resting : HolderParts → MapView
resting now = record { now = now; tried = None }

-- a map, and the one that is tried of it
abbrev pub trying : HolderParts → HolderParts → MapView
trying now next = record { now = now; tried = Some next }

-- no change is tried of any
abbrev pub AreAtRest : BTreeMap (List ℕ) MapView → Type 0
AreAtRest maps = (holder : List ℕ) → IfSome (map_in maps holder) (λ v. v.tried ≡ None)

-- this map is tried of the holder, and all other maps stay
pub record IsTriedIn (old new : BTreeMap (List ℕ) MapView) (holder : List ℕ) (next : HolderParts) : Type 0 where
  pub here : map_in new holder ≡ Some (trying (now_in old holder) next)
  pub others : (other : List ℕ) → other ≢ holder → map_in new other ≡ map_in old other

-- the tried map of the holder is its map, and all other maps stay
pub record IsCommitted (old new : BTreeMap (List ℕ) MapView) (holder : List ℕ) : Type 0 where
  pub here : map_in new holder ≡ option_map (λ (v : MapView). resting (unwrap_or v.tried v.now)) (map_in old holder)
  pub others : (other : List ℕ) → other ≢ holder → map_in new other ≡ map_in old other

-- the tried map of the holder is given up, and all other maps stay
pub record IsGivenUp (old new : BTreeMap (List ℕ) MapView) (holder : List ℕ) : Type 0 where
  pub here : map_in new holder ≡ option_map (λ (v : MapView). resting v.now) (map_in old holder)
  pub others : (other : List ℕ) → other ≢ holder → map_in new other ≡ map_in old other

-- each holder with an accepted message has a map
abbrev pub HasMaps : List LastMessage → BTreeMap (List ℕ) MapView → Type 0
HasMaps last maps = (holder : List ℕ) → IsSome (moment_of holder last) → IsSome (map_in maps holder)

-- they are the current maps of the holders in the state
pub record AreMapsOf (s : State) (maps : BTreeMap (List ℕ) MapView) : Type 0 where
  pub now : (holder : List ℕ) → now_in maps holder ≡ map_now holder s
  pub there : HasMaps s.last maps

-- the holder's map in the next state is tried; the map of each other holder is the same in both states, and at rest
pub record AreTriedMaps (s next : State) (holder : List ℕ) (maps : BTreeMap (List ℕ) MapView) : Type 0 where
  pub here : map_in maps holder ≡ Some (trying (map_now holder s) (map_now holder next))
  pub others : (other : List ℕ) → other ≢ holder → IfSome (map_in maps other) (λ v. v.tried ≡ None)
  pub stay : (other : List ℕ) → other ≢ holder → (now_in maps other ≡ map_now other s) × (map_now other next ≡ map_now other s)
  pub there : HasMaps s.last maps × HasMaps next.last maps
