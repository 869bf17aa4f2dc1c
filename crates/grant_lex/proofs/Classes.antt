-- What the class of a byte tells of it.
use Rattle.std.proofs.Common.{◌≡◌, ◌⊎◌, ℕ, Bool, true, false, cond, eqb, ◌||◌, refl, ap, inl, inr}
use Rattle.std.proofs.lemmas.Bool.Decides.{Decides-eqb}
use Rattle.grant_lex.specs.Class.{class_of, is_quote}
use Rattle.grant_lex.specs.Inside.{HasEscapes}
use Rattle.grant_lex.specs.declared.class.Class.TheVariants.{Blank, Word, Mark, Quote, Backquote, Other}

-- past a test that did not give the value
peel : {A : Type 0} (test : Bool) (x y z : A) → cond test x y ≡ z → (x ≡ z → ⊥) → (test ≡ false) × (y ≡ z)
peel true x y z e others = absurd (others e)
peel false x y z e others = (refl, e)

-- the test that gave it
here : {A : Type 0} (test : Bool) (x y z : A) → cond test x y ≡ z → (y ≡ z → ⊥) → test ≡ true
here true x y z e others = refl
here false x y z e others = absurd (others e)

blank_backquote : Blank ≡ Backquote → ⊥
blank_backquote e = cc

word_backquote : Word ≡ Backquote → ⊥
word_backquote e = cc

mark_backquote : Mark ≡ Backquote → ⊥
mark_backquote e = cc

quote_backquote : Quote ≡ Backquote → ⊥
quote_backquote e = cc

other_backquote : Other ≡ Backquote → ⊥
other_backquote e = cc

blank_quote : Blank ≡ Quote → ⊥
blank_quote e = cc

word_quote : Word ≡ Quote → ⊥
word_quote e = cc

mark_quote : Mark ≡ Quote → ⊥
mark_quote e = cc

past_quote : (test : Bool) → cond test Backquote Other ≡ Quote → ⊥
past_quote true e = cc
past_quote false e = cc

pub backquote_is : (b : ℕ) → class_of b ≡ Backquote → b ≡ 96
backquote_is b e =
    let found : eqb b 96 ≡ true =
    here _ _ _ _ (peel _ _ _ _ (peel _ _ _ _ (peel _ _ _ _ (peel _ _ _ _ e blank_backquote).1 word_backquote).1 mark_backquote).1 quote_backquote).1 other_backquote in
    (Decides-eqb b 96).0 found

string_quote_is : (b : ℕ) → class_of b ≡ Quote → eqb b 39 || eqb b 34 ≡ true
string_quote_is b e = here _ _ _ _ (peel _ _ _ _ (peel _ _ _ _ (peel _ _ _ _ e blank_quote).1 word_quote).1 mark_quote).1 (past_quote (eqb b 96))

or_first : (x y : Bool) → x ≡ true → x || y ≡ true
or_first true y e = refl
or_first false y e = cc

pub sort_is_quote : (b : ℕ) → (class_of b ≡ Quote) ⊎ (class_of b ≡ Backquote) → is_quote b ≡ true
sort_is_quote b (inl sort) = or_first (eqb b 39 || eqb b 34) (eqb b 96) (string_quote_is b sort)
sort_is_quote b (inr sort) = ap is_quote (backquote_is b sort)

-- of the two classes of quotes, only that of strings has escapes
pub string_quote : (b : ℕ) → (class_of b ≡ Quote) ⊎ (class_of b ≡ Backquote) → HasEscapes b → class_of b ≡ Quote
string_quote b (inl sort) escapes = sort
string_quote b (inr sort) escapes = absurd (escapes (backquote_is b sort))
