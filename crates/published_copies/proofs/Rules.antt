-- The steps on the two copies keep their rule.
use Rattle.std.proofs.Common.{◌≡◌, ℕ, ◌≢◌, List, set, refl, sym, ap, ◌∙◌, ⊎_elim, Option, Some, None}
use mathlib.Core.Option.{some}
use lib.ListN.{get_elem?}
use Rattle.left_right.specs.Register.{Admits, TurnsAt, Turns, Forks, Merges}
use Rattle.logbook.specs.Pages.{Book}
use Rattle.atomic_table.proofs.Lists.{at_set, at_snoc}
use Rattle.published_copies.specs.declared.copies.Content.{Content}
use Rattle.published_copies.specs.Copies.{book_of, IsTied, IsShared, Saw}

module _ {S E : Type 0} (content_of : S → Content E) where
  abbrev Seat : Type 0
  Seat = Option S

  abbrev book : S → Book
  book = book_of content_of

  pub admits : Admits (IsShared content_of) None
  admits x views h = record {
    tied = h.tied;
    same = λ seat y e. ⊎_elim (λ (t : get_elem? views seat ≡ some (Some y)). h.same seat y t) (λ (t : ◌≡◌ {A = Seat} None (Some y)). absurd (cc t)) (at_snoc views None (Some y) seat e);
  }

  -- one seat has another view, of the same publisher, and the value goes over to another one of it
  resat : (x z : S) (views : List Seat) (seat : ℕ) (w : Seat) → IsShared content_of x views → IsTied content_of z → book z ≡ book x
      → ((y : S) → w ≡ Some y → book y ≡ book x) → IsShared content_of z (set views seat w)
  resat x z views seat w h tied same own = record {
    tied = tied;
    same = λ j y e. ⊎_elim (λ (t : (j ≡ seat) × (w ≡ Some y)). own y t.1 ∙ sym same) (λ (t : (j ≢ seat) × (get_elem? views j ≡ some (Some y))). h.same j y t.1 ∙ sym same) (at_set views seat j w (Some y) e);
  }

  pub shows : (seat : ℕ) (v : Seat) (x y : S) → IsTied content_of y → book y ≡ book x → TurnsAt (IsShared content_of) seat v x y (λ before _ now after. Saw content_of before now after)
  shows seat v x y tied same views h at = (
    Some y,
    resat x y views seat (Some y) h tied same (λ z e. let is : y ≡ z = cc e in ap book (sym is) ∙ same),
    (refl, tied, λ z e. h.same seat z (at ∙ ap some e) ∙ sym same),
  )

  pub sees : (seat : ℕ) (v : Seat) → Turns (IsShared content_of) seat v (λ x. x) (λ before _ now after. Saw content_of before now after)
  sees seat v x views h at = shows seat v x x h.tied refl views h at

  pub forks : (seat : ℕ) (v : Seat) → Forks (IsShared content_of) seat v v v
  forks seat v x views h at =
      let own : (y : S) → v ≡ Some y → book y ≡ book x = λ y e. h.same seat y (at ∙ ap some e) in
      let kept = resat x x views seat v h h.tied refl own in record {
        tied = h.tied;
        same = λ j y e. ⊎_elim (λ (t : get_elem? (set views seat v) j ≡ some (Some y)). kept.same j y t) (λ (t : v ≡ Some y). own y t) (at_snoc (set views seat v) v (Some y) j e);
      }

  pub merges : (seat : ℕ) (v : Seat) (other : ℕ) (w : Seat) → Merges (IsShared content_of) seat v other w w None
  merges seat v other w x views h at apart there =
      let own : (y : S) → w ≡ Some y → book y ≡ book x
      = λ y e. ⊎_elim (λ (t : (other ≡ seat) × (w ≡ w)). absurd (apart t.0)) (λ (t : (other ≢ seat) × (get_elem? views other ≡ some w)). h.same other y (t.1 ∙ ap some e)) (at_set views seat other w w there) in
      resat x x (set views seat w) other None (resat x x views seat w h h.tied refl own) h.tied refl (λ y e. absurd (cc e))
