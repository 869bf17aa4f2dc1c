-- How far the comparison of a pattern with a text has come, and that each step keeps it.
use Rattle.std.proofs.Common.{◌≡◌, ◌≢◌, ℕ, ◌≤◌, Bool, true, false, ◌||◌, List, [], ◌∷◌, length, refl, sym, ◌∙◌, ap, subst, arith}
use borrow.Author.Tests.{ne_eqb}
use Rattle.std.specs.Prelude.{◌==◌, ◌&&◌}
use Rattle.account_match.specs.Like.{behind_any, behind_one, like, stands_for}
use Rattle.account_match.specs.Step.{Goes}

-- what stands behind a `%` that was passed fits at a place behind the one at which it was tried last
abbrev pub fits_later : Bool → List ℕ → List ℕ → Bool
fits_later false retry tried = false
fits_later true retry [] = false
fits_later true retry (character ∷ rest) = behind_any (like retry) rest

pub record IsReached (pattern text signs rest retry tried : List ℕ) (passed : Bool) : Type 0 where
  pub value : like pattern text ≡ (like signs rest || fits_later passed retry tried)
  pub ahead : fits_later passed retry tried ≡ true → behind_any (like signs) rest ≡ true
  pub signs_within : length signs ≤ length pattern
  pub retry_within : length retry ≤ length pattern
  pub behind : length rest ≤ length tried

or_false : (a : Bool) → a ≡ (a || false)
or_false true = refl
or_false false = refl

or_absorbs : (a b : Bool) → (b ≡ true → a ≡ true) → (a || b) ≡ a
or_absorbs true b implies = refl
or_absorbs false true implies = sym (implies refl)
or_absorbs false false implies = refl

or_second : (a b : Bool) → b ≡ true → (a || b) ≡ true
or_second true b is = refl
or_second false b is = is

or_either : (a b c : Bool) → (a ≡ true → c ≡ true) → (b ≡ true → c ≡ true) → (a || b) ≡ true → c ≡ true
or_either true b c first second is = first refl
or_either false b c first second is = second is

any_here : (test : List ℕ → Bool) (text : List ℕ) → test text ≡ true → behind_any test text ≡ true
any_here test [] is = is
any_here test (c ∷ rest) is = rw is refl

-- a text behind a text behind it stands behind it
any_any : (test : List ℕ → Bool) (text : List ℕ) → behind_any (behind_any test) text ≡ true → behind_any test text ≡ true
any_any test [] is = is
any_any test (c ∷ rest) is =
    or_either (behind_any test (c ∷ rest)) (behind_any (behind_any test) rest) (behind_any test (c ∷ rest)) (λ e. e)
    (λ e. or_second (test (c ∷ rest)) (behind_any test rest) (any_any test rest e)) is

and_second : (a b : Bool) → (a && b) ≡ true → b ≡ true
and_second true b is = is
and_second false b is = absurd (cc)

-- what fits behind a sign and its character fits one character later
any_one : (sign c : ℕ) (test : List ℕ → Bool) (rest : List ℕ) → behind_any (behind_one sign test) (c ∷ rest) ≡ true → behind_any test rest ≡ true
any_one sign c test [] is =
    or_either (stands_for sign c && test []) false (test []) (and_second (stands_for sign c) (test [])) (λ e. absurd (cc)) is
any_one sign c test (d ∷ rest) is =
    or_either (stands_for sign c && test (d ∷ rest)) (behind_any (behind_one sign test) (d ∷ rest)) (behind_any test (d ∷ rest))
    (λ e. any_here test (d ∷ rest) (and_second (stands_for sign c) (test (d ∷ rest)) e))
    (λ e. or_second (test (d ∷ rest)) (behind_any test rest) (any_one sign d test rest e)) is

-- here, or later
any_split : (retry text : List ℕ) → behind_any (like retry) text ≡ (like retry text || fits_later true retry text)
any_split retry [] = or_false (like retry [])
any_split retry (c ∷ rest) = refl

later_any : (retry text : List ℕ) → fits_later true retry text ≡ true → behind_any (like retry) text ≡ true
later_any retry text is = any_split retry text ∙ or_second (like retry text) (fits_later true retry text) is

pub reached_start : (pattern text : List ℕ) → IsReached pattern text pattern text pattern text false
reached_start pattern text = record {
  value = or_false (like pattern text);
  ahead = λ e. absurd (cc);
  signs_within = omega arith;
  retry_within = omega arith;
  behind = omega arith;
}

pub reached_any : (pattern text behind rest retry tried : List ℕ) (passed : Bool) →
    IsReached pattern text (37 ∷ behind) rest retry tried passed → IsReached pattern text behind rest behind rest true
reached_any pattern text behind rest retry tried passed so_far = record {
  value = so_far.value
      ∙ or_absorbs (behind_any (like behind) rest) (fits_later passed retry tried) (λ e. any_any (like behind) rest (so_far.ahead e))
      ∙ any_split behind rest;
  ahead = later_any behind rest;
  signs_within = let w = so_far.signs_within in omega arith;
  retry_within = let w = so_far.signs_within in omega arith;
  behind = omega arith;
}

like_one : (sign c : ℕ) (signs rest : List ℕ) → (sign == 37) ≡ false → stands_for sign c ≡ true → like (sign ∷ signs) (c ∷ rest) ≡ like signs rest
like_one sign c signs rest fixed stands = rw (fixed, stands) refl

fixed_like : (sign : ℕ) (signs text : List ℕ) → (sign == 37) ≡ false → behind_any (like (sign ∷ signs)) text ≡ behind_any (behind_one sign (like signs)) text
fixed_like sign signs text fixed = rw fixed refl

pub reached_over : (pattern text signs rest retry tried : List ℕ) (passed : Bool) (sign c : ℕ) → (sign == 37) ≡ false → stands_for sign c ≡ true →
    IsReached pattern text (sign ∷ signs) (c ∷ rest) retry tried passed → IsReached pattern text signs rest retry tried passed
reached_over pattern text signs rest retry tried passed sign c fixed stands so_far = record {
  value = so_far.value ∙ ap (λ b. b || fits_later passed retry tried) (like_one sign c signs rest fixed stands);
  ahead = λ e. any_one sign c (like signs) rest (sym (fixed_like sign signs (c ∷ rest) fixed) ∙ so_far.ahead e);
  signs_within = let w = so_far.signs_within in omega arith;
  retry_within = so_far.retry_within;
  behind = let w = so_far.behind in omega arith;
}

pub reached_later : (pattern text signs rest retry later : List ℕ) (c : ℕ) → like signs rest ≡ false →
    IsReached pattern text signs rest retry (c ∷ later) true → IsReached pattern text retry later retry later true
reached_later pattern text signs rest retry later c stuck so_far = record {
  value = so_far.value ∙ ap (λ b. b || behind_any (like retry) later) stuck ∙ any_split retry later;
  ahead = later_any retry later;
  signs_within = so_far.retry_within;
  retry_within = so_far.retry_within;
  behind = omega arith;
}

pub reached_end : (pattern text retry tried : List ℕ) (passed : Bool) → IsReached pattern text [] [] retry tried passed → like pattern text ≡ true
reached_end pattern text retry tried passed so_far = so_far.value

pub reached_none : (pattern text signs rest retry tried : List ℕ) → like signs rest ≡ false →
    IsReached pattern text signs rest retry tried false → like pattern text ≡ false
reached_none pattern text signs rest retry tried stuck so_far = so_far.value ∙ ap (λ b. b || false) stuck

pub reached_last : (pattern text signs rest retry : List ℕ) → like signs rest ≡ false →
    IsReached pattern text signs rest retry [] true → like pattern text ≡ false
reached_last pattern text signs rest retry stuck so_far = so_far.value ∙ ap (λ b. b || false) stuck

-- ---- where there is no step
pub stuck_at_end : (signs rest next_signs : List ℕ) (sign : ℕ) → signs ≡ sign ∷ next_signs → sign ≢ 37 → rest ≡ [] → like signs rest ≡ false
stuck_at_end signs rest next_signs sign signs_are fixed ends = rw (signs_are, ends, ne_eqb sign 37 fixed) refl

pub stuck_at_other : (signs rest next_signs next_rest : List ℕ) (sign c : ℕ) → signs ≡ sign ∷ next_signs → sign ≢ 37 → rest ≡ c ∷ next_rest →
    stands_for sign c ≡ false → like signs rest ≡ false
stuck_at_other signs rest next_signs next_rest sign c signs_are fixed rest_is other = rw (signs_are, rest_is, ne_eqb sign 37 fixed, other) refl

-- ---- the same from what the next step is
pub reached_behind : (pattern text signs behind rest retry tried : List ℕ) (passed : Bool) → signs ≡ 37 ∷ behind →
    IsReached pattern text signs rest retry tried passed → IsReached pattern text behind rest behind rest true
reached_behind pattern text signs behind rest retry tried passed is so_far =
    reached_any pattern text behind rest retry tried passed (subst (λ (s : List ℕ). IsReached pattern text s rest retry tried passed) is so_far)

pub reached_next : (pattern text signs rest next_signs next_rest retry tried : List ℕ) (passed : Bool) → Goes signs rest next_signs next_rest →
    IsReached pattern text signs rest retry tried passed → IsReached pattern text next_signs next_rest retry tried passed
reached_next pattern text signs rest next_signs next_rest retry tried passed goes so_far =
    reached_over pattern text next_signs next_rest retry tried passed goes.sign goes.character goes.fixed goes.sign_fits
    (subst (λ (s : List ℕ). IsReached pattern text s (goes.character ∷ next_rest) retry tried passed) goes.signs_are
    (subst (λ (t : List ℕ). IsReached pattern text signs t retry tried passed) goes.text_is so_far))

pub reached_both_ends : (pattern text signs rest retry tried : List ℕ) (passed : Bool) → (signs ≡ []) × (rest ≡ []) →
    IsReached pattern text signs rest retry tried passed → true ≡ like pattern text
reached_both_ends pattern text signs rest retry tried passed ends so_far =
    sym (reached_end pattern text retry tried passed
    (subst (λ (s : List ℕ). IsReached pattern text s [] retry tried passed) ends.0
    (subst (λ (t : List ℕ). IsReached pattern text signs t retry tried passed) ends.1 so_far)))

pub reached_no_percent : (pattern text signs rest retry tried : List ℕ) (passed : Bool) → passed ≡ false → like signs rest ≡ false →
    IsReached pattern text signs rest retry tried passed → false ≡ like pattern text
reached_no_percent pattern text signs rest retry tried passed none stuck so_far =
    sym (reached_none pattern text signs rest retry tried stuck (subst (λ (p : Bool). IsReached pattern text signs rest retry tried p) none so_far))

pub reached_no_place : (pattern text signs rest retry tried : List ℕ) (passed : Bool) → passed ≡ true → tried ≡ [] → like signs rest ≡ false →
    IsReached pattern text signs rest retry tried passed → false ≡ like pattern text
reached_no_place pattern text signs rest retry tried passed some none stuck so_far =
    sym (reached_last pattern text signs rest retry stuck
    (subst (λ (t : List ℕ). IsReached pattern text signs rest retry t true) none
    (subst (λ (p : Bool). IsReached pattern text signs rest retry tried p) some so_far)))

pub reached_place : (pattern text signs rest retry tried later : List ℕ) (passed : Bool) (c : ℕ) → passed ≡ true → tried ≡ c ∷ later → like signs rest ≡ false →
    IsReached pattern text signs rest retry tried passed → IsReached pattern text retry later retry later true
reached_place pattern text signs rest retry tried later passed c some is stuck so_far =
    reached_later pattern text signs rest retry later c stuck
    (subst (λ (t : List ℕ). IsReached pattern text signs rest retry t true) is
    (subst (λ (p : Bool). IsReached pattern text signs rest retry tried p) some so_far))
