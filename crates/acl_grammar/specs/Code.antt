-- What code that reads tokens answers, as a reading.
use Rattle.std.specs.Prelude.{◌≡◌, ◌⊎◌, List, Ok, Err, Result}
use mathlib.Core.Logic.{inl, inr}
use Rattle.acl_grammar.specs.Reader.{Reading}
use Rattle.acl_grammar.specs.declared.either.Either.{Either}
use Rattle.acl_grammar.specs.declared.either.Either.TheVariants.{First, Second}
use Rattle.acl_grammar.specs.declared.found.Found.{Found}
use Rattle.acl_grammar.specs.declared.refusal.Refusal.{Refusal}
use Rattle.acl_grammar.specs.declared.refusal.Refusal.TheVariants.{NoMemory, At}

-- the answer is this reading, its value seen by `view`, or want of memory
abbrev pub Gives : {T V A : Type 0} → (V → A) → Result (Found T V) (Refusal T) → Reading T A → Type 0
Gives view (Ok found) reading = reading ≡ Ok (view found.value, found.rest.now)
Gives view (Err NoMemory) reading = Unit {0}
Gives view (Err (At rest)) reading = reading ≡ Err rest.now

-- the same of a reading of the whole list
abbrev pub Answers : {T V A : Type 0} → (V → A) → Result V (Refusal T) → Result A (List T) → Type 0
Answers view (Ok value) reading = reading ≡ Ok (view value)
Answers view (Err NoMemory) reading = Unit {0}
Answers view (Err (At rest)) reading = reading ≡ Err rest.now

abbrev pub IsNoMemory : {T : Type 0} → Refusal T → Type 0
IsNoMemory NoMemory = Unit {0}
IsNoMemory (At _) = ⊥

-- the tokens from the refused one on are these, unless memory was wanting
abbrev pub RefusedAs : {T : Type 0} → (List T → Type 0) → Refusal T → Type 0
RefusedAs P NoMemory = Unit {0}
RefusedAs P (At rest) = P rest.now

-- a value of one of two rules, seen by the view of its rule
abbrev pub either_view : {V W A B : Type 0} → (V → A) → (W → B) → Either V W → A ⊎ B
either_view v w (First x) = inl (v x)
either_view v w (Second y) = inr (w y)
