-- How a stream of bytes is cut into texts.
use Rattle.std.specs.Prelude.{◌≡◌, ◌⊎◌, ◌≤◌, ◌<◌, ℕ, List, [], ◌∷◌, ◌++◌, length, take, drop, codes, Option, Some, None}
use Rattle.line_feed.specs.declared.feed.Framed.{Framed}
use Rattle.line_feed.specs.declared.feed.Framed.TheVariants as framed

-- the last line is EINDE, with its line feed
abbrev pub EndsText : List ℕ → Type 0
EndsText text = (text ≡ codes "EINDE\n") ⊎ ((front : List ℕ) × (text ≡ front ++ codes "\nEINDE\n"))

-- no text ends within the first n bytes
abbrev pub HasNoText : List ℕ → ℕ → Type 0
HasNoText bytes n = (k : ℕ) → k ≤ n → ¬ EndsText (take k bytes)

-- the first n of these bytes are their first text
pub record IsFirstText (bytes : List ℕ) (n : ℕ) : Type 0 where
  pub within : n ≤ length bytes
  pub ends : EndsText (take n bytes)
  pub first : (k : ℕ) → k < n → ¬ EndsText (take k bytes)

-- the bytes are cut into these texts in order, and this tail, which has no text, follows the last of them
abbrev pub AreTexts : List ℕ → List (List ℕ) → List ℕ → Type 0
AreTexts bytes [] tail = HasNoText bytes (length bytes) × (tail ≡ bytes)
AreTexts bytes (text ∷ texts) tail
    = IsFirstText bytes (length text) × (text ≡ take (length text) bytes) × AreTexts (drop (length text) bytes) texts tail

-- a stream as its reader sees it: the most bytes that a text may have, and the bytes after the last text that was handed out
pub record FeedView : Type 0 where
  pub limit : ℕ
  pub left : List ℕ

-- the first n bytes that were left are a text, and what follows it is left
pub record HandsFirst (old new : FeedView) (n : ℕ) : Type 0 where
  pub first : IsFirstText old.left n
  pub behind : new.left ≡ drop n old.left

-- the first text of what was left is handed out, or told where it has more bytes than the limit, or there is none
abbrev pub Hands : FeedView → FeedView → Option Framed → Type 0
Hands old new None = HasNoText old.left (length old.left) × (new.left ≡ old.left)
Hands old new (Some (framed.Text text))
    = HandsFirst old new (length text) × (text ≡ take (length text) old.left) × (length text ≤ old.limit)
Hands old new (Some framed.TooLong) = (n : ℕ) × HandsFirst old new n × (old.limit < n)

-- a text may end here, and none ends before
pub record IsNextEnd (bytes : List ℕ) (seen n : ℕ) : Type 0 where
  pub behind : seen < n
  pub within : n ≤ length bytes
  pub before : (k : ℕ) → k < n → ¬ EndsText (take k bytes)
