-- What a view has heard, and the list that goes on from all of it.
use Rattle.std.proofs.Common.{◌≡◌, ℕ, zero, suc, ◌+◌, ◌≤◌, List, [], ◌∷◌, get_or, sym, ap, ◌∙◌, subst, arith, cond, true, Option, Some}
use Rattle.std.specs.Prelude.{IsSomeAnd}
use Rattle.std.proofs.lemmas.List.Sums.{sum_by-append}
use mathlib.Core.List.{IsPrefix}
use Rattle.published_copies.specs.declared.stage.Stage.{Stage}
use Rattle.published_copies.specs.declared.stage.Notice.{Notice}
use Rattle.published_copies.specs.declared.history.Mark.{Mark}
use Rattle.published_copies.specs.declared.copies.Content.{Content}
use Rattle.published_copies.specs.Stages.{GoesOn, IsChain, last_of}
use Rattle.published_copies.specs.Views.{AllBefore, Answered, read_of, reads, was_read}
use Rattle.published_copies.proofs.Chains.{goes_self, goes_trans, chain_meet}

module _ {E : Type 0} where
  pub all_none : (s : Stage E) → AllBefore [] s
  all_none s k d h = absurd (omega arith)

  pub all_on : (heard : List (Notice E)) (s t : Stage E) → AllBefore heard s → GoesOn s t → AllBefore heard t
  all_on heard s t all on k d h = goes_trans (get_or heard k d).stage s t (all k d h) on

  pub all_more : (notice : Notice E) (heard : List (Notice E)) (s : Stage E) → GoesOn notice.stage s → AllBefore heard s → AllBefore (notice ∷ heard) s
  all_more notice heard s on all zero d h = on
  all_more notice heard s on all (suc k) d h = all k d (omega arith)

  -- a later mark of one history goes on from all that was heard
  pub heard_on : (heard : List (Notice E)) (early late : Mark E) (both : List (Stage E)) → IsPrefix early.seen.log both → IsPrefix late.seen.log both → IsChain both → early.turn ≤ late.turn
      → AllBefore heard (last_of early.seen.log) → AllBefore heard (last_of late.seen.log)
  heard_on heard early late both p q chain le all =
      all_on heard (last_of early.seen.log) (last_of late.seen.log) all (chain_meet early.seen.log late.seen.log both p q (omega (arith, early.counted, late.counted)) chain)

  -- and with what was read at that mark
  pub heard_read : (heard : List (Notice E)) (late : Mark E) → AllBefore heard (last_of late.seen.log) → AllBefore (read_of (last_of late.seen.log) ∷ heard) (last_of late.seen.log)
  heard_read heard late all = all_more (read_of (last_of late.seen.log)) heard (last_of late.seen.log) (goes_self (last_of late.seen.log)) all

-- behind an ended list there is nothing
pub whole_read : {E : Type 0} (notice : Notice E) (heard : List (Notice E)) (s : Stage E) → AllBefore (notice ∷ heard) s → notice.stage.ended ≡ true → s ≡ notice.stage
whole_read notice heard s all ended = (all zero notice (omega arith)).1 ended

pub inside_of : {R : Type 0} (o p : Option R) (r : R) (F : R → Type 0) → p ≡ o → p ≡ Some r → IsSomeAnd o F → F r
inside_of o p r F e is h = subst (λ q. IsSomeAnd q F) (sym e ∙ is) h

module _ {S E T : Type 0} (content_of : S → Content E) (Returns : S → T → Type 0) (turn : ℕ) (before after : Option S) where
  -- what was read stands at the end of its mark
  pub answered_stage : (answer : T) (mark : Mark E) (a : Answered content_of Returns turn before after answer mark) → last_of mark.seen.log ≡ (content_of a.shown).stage
  answered_stage answer mark a = ap (λ (m : Mark E). last_of m.seen.log) a.marked ∙ a.tied

  pub answered_late : (answer : T) (mark : Mark E) → Answered content_of Returns turn before after answer mark → turn ≤ mark.turn
  answered_late answer mark a = let e : mark.turn ≡ (content_of a.shown).mark.turn = ap (λ (m : Mark E). m.turn) a.marked in let l = a.late in omega (arith, e, l)

pub reads_one : {E : Type 0} (s : Stage E) (heard : List (Notice E)) → reads (read_of s ∷ heard) ≡ reads heard + 1
reads_one s heard = omega (arith, sum_by-append (λ (n : Notice _). cond (was_read n) 1 0) (read_of s ∷ []) heard)
