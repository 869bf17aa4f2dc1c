-- What comes next in a pattern and a text.
use Rattle.std.specs.Prelude.{◌≡◌, ℕ, true, false, ◌==◌, List, [], ◌∷◌}
use Rattle.std.specs.Str.{chars}
use Rattle.account_match.specs.Like.{like, stands_for}
use Rattle.account_match.specs.declared.wildcards.Step.{Step}
use Rattle.account_match.specs.declared.wildcards.Step.TheVariants.{AnyText, Over, End, Stuck}

-- the first sign stands for the first character, and is no `%`
pub record Goes (signs text next_signs next_text : List ℕ) : Type 0 where
  pub sign : ℕ
  pub character : ℕ
  pub signs_are : signs ≡ sign ∷ next_signs
  pub text_is : text ≡ character ∷ next_text
  pub fixed : (sign == 37) ≡ false
  pub sign_fits : stands_for sign character ≡ true

abbrev pub IsStep : List ℕ → List ℕ → Step → Type 0
IsStep signs text (AnyText behind) = signs ≡ 37 ∷ chars behind.now
IsStep signs text (Over next_signs next_text) = Goes signs text (chars next_signs.now) (chars next_text.now)
IsStep signs text End = (signs ≡ []) × (text ≡ [])
IsStep signs text Stuck = like signs text ≡ false
