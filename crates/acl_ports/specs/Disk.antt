-- What the calls of a disk do to the bytes that a read gives.
use Rattle.std.specs.Prelude.{◌≡◌, ℕ, ◌+◌, ◌<◌, ◌≤◌, max, List, ◌++◌, length, take, drop, get_or, Option, Some, IfSome}
use Rattle.acl_ports.specs.Crash.{IsClean}

-- what is known stays as it was
abbrev pub Stays : Option (List ℕ) → Option (List ℕ) → Type 0
Stays before after = IfSome before (λ held. after ≡ Some held)

-- this many bytes from that place on stand at the front of `into`
abbrev pub IsReadAt : List ℕ → ℕ → List ℕ → ℕ → Type 0
IsReadAt held at into count = (count ≤ length (drop at held)) × (take count into ≡ take count (drop at held))

-- the content with these bytes at that place, over what is there and past the end
abbrev pub content_after_write : List ℕ → ℕ → List ℕ → List ℕ
content_after_write held at bytes = take at held ++ bytes ++ drop (at + length bytes) held

-- The content differs within a range of this many bytes at most. It is no shorter, and no longer
-- than a write there would make it.
pub record HasChangedWithin (at count : ℕ) (before after : List ℕ) : Type 0 where
  pub front : take at after ≡ take at before
  pub rest : drop (at + count) after ≡ drop (at + count) before
  pub no_shorter : length before ≤ length after
  pub no_longer : length after ≤ max (length before) (at + count)

-- The content differs within these ranges at most, and is no shorter.
pub record HasChangedIn (dirty : List (ℕ × ℕ)) (before after : List ℕ) : Type 0 where
  pub no_shorter : length before ≤ length after
  pub rest : (place : ℕ) → place < length after → IsClean dirty place → (place < length before) × (get_or after place 0 ≡ get_or before place 0)
