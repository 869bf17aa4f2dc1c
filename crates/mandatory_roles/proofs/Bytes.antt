-- What a byte is, by its tests and by its class.
use Rattle.std.proofs.Common.{◌≡◌, ◌≢◌, ℕ, Bool, true, false, cond, eqb, List, [], ◌∷◌, ◌++◌, refl, ap, ◌∙◌, arith}
use Rattle.std.proofs.lemmas.Bool.Decides.{nat_tests}
use Rattle.std.specs.List.{AllByRecursion}
use Rattle.grant_lex.specs.Class.{class_of, is_blank, is_word_byte}
use Rattle.grant_lex.specs.Next.{IsOf}
use Rattle.mandatory_roles.specs.Runs.{past_run, run_of}

pub same_byte : (b : ℕ) → eqb b b ≡ true
same_byte b = grind (arith, nat_tests)

pub other_byte : (b c : ℕ) → b ≢ c → eqb b c ≡ false
other_byte b c differ = grind (arith, nat_tests)

pub is_byte : (b c : ℕ) → eqb b c ≡ true → b ≡ c
is_byte b c e = grind (arith, nat_tests)

pub not_byte : (b c : ℕ) → eqb b c ≡ false → b ≢ c
not_byte b c e = grind (arith, nat_tests)

-- past a test that did not give the value, and the test that gave it
peel : {A : Type 0} (test : Bool) (x y z : A) → cond test x y ≡ z → (x ≡ z → ⊥) → y ≡ z
peel true x y z e others = absurd (others e)
peel false x y z e others = e

here : {A : Type 0} (test : Bool) (x y z : A) → cond test x y ≡ z → (y ≡ z → ⊥) → test ≡ true
here true x y z e others = refl
here false x y z e others = absurd (others e)

word_not_blank : (b : ℕ) → is_word_byte b ≡ true → is_blank b ≡ false
word_not_blank b e = grind (arith, nat_tests)

-- 32, 97, 64, 39, 96 and 0 are bytes of the classes in their order, and 97 is one of words
tail_not_word : (m q k : Bool) → cond m (class_of 64) (cond q (class_of 39) (cond k (class_of 96) (class_of 0))) ≡ class_of 97 → ⊥
tail_not_word true q k e = cc
tail_not_word false true k e = cc
tail_not_word false false true e = cc
tail_not_word false false false e = cc

blank_word : class_of 32 ≡ class_of 97 → ⊥
blank_word e = cc

pub word_from_class : (b : ℕ) → IsOf (class_of 97) b → is_word_byte b ≡ true
word_from_class b e = here _ _ _ _ (peel _ _ _ _ e blank_word) (tail_not_word _ _ _)

second : {A : Type 0} (s t : Bool) (x y z : A) → s ≡ false → t ≡ true → cond s x (cond t y z) ≡ y
second false true x y z e f = refl
second true t x y z e f = cc
second false false x y z e f = cc

pub class_from_word : (b : ℕ) → is_word_byte b ≡ true → IsOf (class_of 97) b
class_from_word b e = second (is_blank b) (is_word_byte b) _ _ _ (word_not_blank b e) e

-- the same for all bytes of a text
pub each_from : {P Q : ℕ → Type 0} → ((b : ℕ) → P b → Q b) → (text : List ℕ) → AllByRecursion P text → AllByRecursion Q text
each_from f [] each = tt
each_from f (b ∷ bs) each = (f b each.0, each_from f bs each.1)

-- the text does not begin with a byte that passes
abbrev pub StopsAt : (ℕ → Bool) → List ℕ → Type 0
StopsAt p [] = Unit {0}
StopsAt p (b ∷ bs) = p b ≡ false

pub run_exact : (p : ℕ → Bool) (front rest : List ℕ) → AllByRecursion (λ b. p b ≡ true) front → StopsAt p rest → run_of p (front ++ rest) ≡ front
run_exact p [] [] each stops = refl
run_exact p [] (b ∷ bs) each stops = ap (λ t. cond t (b ∷ run_of p bs) []) stops
run_exact p (b ∷ front) rest each stops =
    ap (λ t. cond t (b ∷ run_of p (front ++ rest)) []) each.0 ∙ ap (λ l. b ∷ l) (run_exact p front rest each.1 stops)

pub past_exact : (p : ℕ → Bool) (front rest : List ℕ) → AllByRecursion (λ b. p b ≡ true) front → StopsAt p rest → past_run p (front ++ rest) ≡ rest
past_exact p [] [] each stops = refl
past_exact p [] (b ∷ bs) each stops = ap (λ t. cond t (past_run p bs) (b ∷ bs)) stops
past_exact p (b ∷ front) rest each stops =
    ap (λ t. cond t (past_run p (front ++ rest)) (b ∷ front ++ rest)) each.0 ∙ past_exact p front rest each.1 stops

-- a run and what follows it make up the text
run_test : (p : ℕ → Bool) (b : ℕ) (bs : List ℕ) (t : Bool) → bs ≡ run_of p bs ++ past_run p bs → b ∷ bs ≡ cond t (b ∷ run_of p bs) [] ++ cond t (past_run p bs) (b ∷ bs)
run_test p b bs true e = ap (λ l. b ∷ l) e
run_test p b bs false e = refl

pub run_whole : (p : ℕ → Bool) (text : List ℕ) → text ≡ run_of p text ++ past_run p text
run_whole p [] = refl
run_whole p (b ∷ bs) = run_test p b bs (p b) (run_whole p bs)

each_test : (p : ℕ → Bool) (b : ℕ) (bs : List ℕ) (t : Bool) → p b ≡ t → AllByRecursion (λ c. p c ≡ true) (run_of p bs) → AllByRecursion (λ c. p c ≡ true) (cond t (b ∷ run_of p bs) [])
each_test p b bs true e each = (e, each)
each_test p b bs false e each = tt

pub run_each : (p : ℕ → Bool) (text : List ℕ) → AllByRecursion (λ b. p b ≡ true) (run_of p text)
run_each p [] = tt
run_each p (b ∷ bs) = each_test p b bs (p b) refl (run_each p bs)
