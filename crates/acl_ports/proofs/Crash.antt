-- What follows of the images of a disk, call after call, and of their bytes.
use Rattle.std.proofs.Common.{◌≡◌, ◌⊎◌, inl, inr, ⊎_elim, ℕ, ◌+◌, ◌-◌, ◌<◌, ◌≤◌, List, [], ◌∷◌, length, get_or, max, ◌++◌, take, drop, length-append, Option, Some, refl, sym, ◌∙◌, ap, subst, arith, length-drop}
use Rattle.std.proofs.lemmas.List.{ext_get_or, get_or-drop, get_or-take, get_or_append_left, get_or-append_right, length-take}
use Rattle.std.proofs.lemmas.Bool.{cases_lt}
use Rattle.std.specs.List.{All}
use Rattle.acl_ports.specs.Disk.{HasChangedIn, content_after_write}
use Rattle.acl_ports.specs.Crash.{Elapses, IsClean, IsImage, IsImageSince, IsTorn, LeavesOnly, Pending, all_synced}

module _ {D : Type 0} (moment : D → ℕ) (pending : D → ℕ → Option Pending) where
  -- before the first call
  pub started : (old : D) (P : List ℕ → Type 0) → ((image : List ℕ) → IsImage (pending old (moment old)) image → P image) → LeavesOnly moment pending old old P
  started old P here = record {
    later = omega arith;
    kept = λ earlier before. refl;
    each = λ image since. here image (subst (λ (t : ℕ). IsImage (pending old t) image) (only since.moment since.from since.to) since.left);
  }
    where
      only : (t : ℕ) → moment old ≤ t → t ≤ moment old → t ≡ moment old
      only t from to = omega arith

  -- one call more, after which every image has P
  pub goes_on : (old mid new : D) (P : List ℕ → Type 0) (Step : Option Pending → Option Pending → Type 0) → LeavesOnly moment pending old mid P
      → Elapses (moment mid) (moment new) (pending mid) (pending new) Step → ((image : List ℕ) → IsImage (pending new (moment new)) image → P image) → LeavesOnly moment pending old new P
  goes_on old mid new P Step so_far time here = record {
    later = omega (arith, so_far.later, time.later);
    kept = λ earlier before. time.kept earlier (omega (arith, before, so_far.later)) ∙ so_far.kept earlier before;
    each = λ image since. at_moment image since.moment since.from since.to since.left (split since.moment since.to);
  }
    where
      split : (t : ℕ) → t ≤ moment new → (t ≤ moment mid) ⊎ (t ≡ moment new)
      split t to = ⊎_elim (λ after. inr (omega (arith, time.tick, to, after))) (λ before. inl before) (cases_lt (moment mid) t)

      at_moment : (image : List ℕ) (t : ℕ) → moment old ≤ t → t ≤ moment new → IsImage (pending new t) image → (t ≤ moment mid) ⊎ (t ≡ moment new) → P image
      at_moment image t from to left (inl before) = so_far.each image (record { moment = t; from = from; to = before; left = subst (λ (p : Option Pending). IsImage p image) (time.kept t before) left })
      at_moment image t from to left (inr now) = here image (subst (λ (m : ℕ). IsImage (pending new m) image) now left)

  -- two runs, one after the other
  pub joined : (old mid new : D) (P : List ℕ → Type 0) → LeavesOnly moment pending old mid P → LeavesOnly moment pending mid new P → LeavesOnly moment pending old new P
  joined old mid new P first second = record {
    later = omega (arith, first.later, second.later);
    kept = λ earlier before. second.kept earlier (omega (arith, before, first.later)) ∙ first.kept earlier before;
    each = λ image since. at_moment image since.moment since.from since.to since.left (cases_lt since.moment (moment mid));
  }
    where
      at_moment : (image : List ℕ) (t : ℕ) → moment old ≤ t → t ≤ moment new → IsImage (pending new t) image → (t < moment mid) ⊎ (moment mid ≤ t) → P image
      at_moment image t from to left (inl before) =
          first.each image (record { moment = t; from = from; to = omega (arith, before); left = subst (λ (p : Option Pending). IsImage p image) (second.kept t (omega (arith, before))) left })
      at_moment image t from to left (inr after) = second.each image (record { moment = t; from = after; to = to; left = left })

  pub weaker : (old new : D) (P Q : List ℕ → Type 0) → LeavesOnly moment pending old new P → ((image : List ℕ) → P image → Q image) → LeavesOnly moment pending old new Q
  weaker old new P Q so_far follows = record { later = so_far.later; kept = so_far.kept; each = λ image since. follows image (so_far.each image since) }

-- nothing is in doubt: a crash leaves what is synced
pub only_synced : (synced image : List ℕ) → IsTorn [] synced image → image ≡ synced
only_synced synced image torn =
    let longer : length image ≤ length synced = torn.no_longer (λ k d below. absurd (omega arith)) in
    ext_get_or 0 image synced (omega (arith, torn.no_shorter, longer)) (λ place below. torn.same place (omega (arith, longer, below)) (λ k d below. absurd (omega arith)))

-- below each range that is in doubt, an image is what is synced
pub front_stays : (dirty : List (ℕ × ℕ)) (synced image : List ℕ) (count : ℕ) → All (λ range. count ≤ range.0) dirty → count ≤ length synced → IsTorn dirty synced image → take count image ≡ take count synced
front_stays dirty synced image count above within torn =
    let shorter : length (take count image) ≡ length (take count synced) = omega (arith, length-take count image, length-take count synced, torn.no_shorter) in
    ext_get_or 0 (take count image) (take count synced) shorter (λ place below.
    let before : place < count = omega (arith, length-take count image, below) in
    get_or-take count image place 0 before
    ∙ torn.same place (omega (arith, before, within)) (λ k d is. inl (omega (arith, before, above k d is)))
    ∙ sym (get_or-take count synced place 0 before))

-- where all that is in doubt lies between two places below the synced end, an image is what is synced at both sides
pub sides_stay : (dirty : List (ℕ × ℕ)) (synced image : List ℕ) (from to : ℕ) → All (λ range. (from ≤ range.0) × (range.0 + range.1 ≤ to)) dirty → from ≤ to → to ≤ length synced → IsTorn dirty synced image
    → (take from image ≡ take from synced) × (drop to image ≡ drop to synced)
sides_stay dirty synced image from to between order within torn = (
  front_stays dirty synced image from (λ k d is. (between k d is).0) (omega (arith, order, within)) torn,
  ext_get_or 0 (drop to image) (drop to synced) (omega (arith, length-drop to image, length-drop to synced, same)) (λ place below.
      let inside : to + place < length synced = omega (arith, length-drop to image, below, same) in
      get_or-drop to image place 0
      ∙ torn.same (to + place) inside (λ k d is. inr (omega (arith, (between k d is).1)))
      ∙ sym (get_or-drop to synced place 0)),
)
  where
    same : length image ≡ length synced
    same =
        let longer : length image ≤ length synced = torn.no_longer (λ k d is. omega (arith, within, (between k d is).1)) in
        omega (arith, torn.no_shorter, longer)

-- what a sync that fails leaves of the content below each range that is in doubt
pub front_unchanged : (dirty : List (ℕ × ℕ)) (before after : List ℕ) (count : ℕ) → All (λ range. count ≤ range.0) dirty → count ≤ length before → HasChangedIn dirty before after → take count after ≡ take count before
front_unchanged dirty before after count above within changed =
    ext_get_or 0 (take count after) (take count before) (omega (arith, length-take count after, length-take count before, changed.no_shorter, within)) (λ place below.
    let first : place < count = omega (arith, length-take count after, below) in
    get_or-take count after place 0 first
    ∙ (changed.rest place (omega (arith, first, within, changed.no_shorter)) (λ k d is. inl (omega (arith, first, above k d is)))).1
    ∙ sym (get_or-take count before place 0 first))

-- and at both sides of all that is in doubt, where that lies below the end
pub sides_unchanged : (dirty : List (ℕ × ℕ)) (before after : List ℕ) (from to : ℕ) → All (λ range. (from ≤ range.0) × (range.0 + range.1 ≤ to)) dirty → from ≤ to → to ≤ length before → HasChangedIn dirty before after
    → (take from after ≡ take from before) × (drop to after ≡ drop to before)
sides_unchanged dirty before after from to between order within changed = (
  front_unchanged dirty before after from (λ k d is. (between k d is).0) (omega (arith, order, within)) changed,
  ext_get_or 0 (drop to after) (drop to before) (omega (arith, length-drop to after, length-drop to before, same)) (λ place below.
      let inside : to + place < length after = omega (arith, length-drop to after, below) in
      get_or-drop to after place 0
      ∙ (changed.rest (to + place) inside (clean (to + place) (omega arith))).1
      ∙ sym (get_or-drop to before place 0)),
)
  where
    clean : (place : ℕ) → to ≤ place → IsClean dirty place
    clean place behind = λ k d is. inr (omega (arith, behind, (between k d is).1))

    same : length after ≡ length before
    same = ⊎_elim
        (λ longer. absurd (omega (arith, (changed.rest (length before) longer (clean (length before) within)).0)))
        (λ shorter. omega (arith, shorter, changed.no_shorter))
        (cases_lt (length before) (length after))

-- what a write gives is one of the images that a crash may leave before the next sync
pub written_is_torn : (held bytes : List ℕ) (at : ℕ) → at ≤ length held → IsTorn ((at, length bytes) ∷ []) held (content_after_write held at bytes)
written_is_torn held bytes at inside = record {
  no_shorter = omega (arith, size);
  same = λ place below clean. ⊎_elim (front place) (back place) (clean 0 (0, 0) (omega arith));
  no_longer = λ within. let reach : at + length bytes ≤ length held = within 0 (0, 0) (omega arith) in omega (arith, size, reach);
}
  where
    front_size : length (take at held ++ bytes) ≡ at + length bytes
    front_size = omega (arith, length-append (take at held) bytes, length-take at held, inside)

    size : length (content_after_write held at bytes) ≡ max (length held) (at + length bytes)
    size = omega (arith, length-append (take at held ++ bytes) (drop (at + length bytes) held), front_size, length-drop (at + length bytes) held)

    front : (place : ℕ) → place < at → get_or (content_after_write held at bytes) place 0 ≡ get_or held place 0
    front place before =
        get_or_append_left (take at held ++ bytes) (drop (at + length bytes) held) 0 place (omega (arith, before, front_size))
        ∙ get_or_append_left (take at held) bytes 0 place (omega (arith, before, length-take at held, inside))
        ∙ get_or-take at held place 0 before

    back : (place : ℕ) → at + length bytes ≤ place → get_or (content_after_write held at bytes) place 0 ≡ get_or held place 0
    back place behind =
        let again : at + length bytes + (place - (at + length bytes)) ≡ place = omega (arith, behind) in
        get_or-append_right (take at held ++ bytes) (drop (at + length bytes) held) (at + length bytes) place 0 front_size behind
        ∙ get_or-drop (at + length bytes) held (place - (at + length bytes)) 0
        ∙ ap (λ (k : ℕ). get_or held k 0) again

-- less in doubt
pub synced_is_torn : (range : ℕ × ℕ) (held image : List ℕ) → IsTorn [] held image → IsTorn (range ∷ []) held image
synced_is_torn range held image torn = record {
  no_shorter = torn.no_shorter;
  same = λ place below clean. torn.same place below (λ k d is. absurd (omega arith));
  no_longer = λ within. torn.no_longer (λ k d is. absurd (omega arith));
}

-- an image since this moment is one of this moment
pub since_now : (pending : ℕ → Option Pending) (now : ℕ) (image : List ℕ) → IsImageSince pending now now image → IsImage (pending now) image
since_now pending now image since =
    let only : since.moment ≡ now = omega (arith, since.from, since.to) in
    subst (λ (t : ℕ). IsImage (pending t) image) only since.left

-- after a sync that succeeds an image is what a read gives
pub synced_now : (pending : ℕ → Option Pending) (now : ℕ) (held image : List ℕ) → pending now ≡ all_synced (Some held) → IsImageSince pending now now image → image ≡ held
synced_now pending now held image is since = only_synced held image (subst (λ (p : Option Pending). IsImage p image) is (since_now pending now image since))
