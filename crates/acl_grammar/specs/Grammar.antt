-- Grammars as data: the rules of a language over tokens of a type `T`, each with the type of what it means.
use Rattle.std.specs.Prelude.{Bool, List}

pub data Grammar (T : Type 0) : Type 0 → Type 1 where
  -- one token of a class, which means a value
  token : {A : Type 0} → (T → Bool) → (T → A) → Grammar T A
  -- a token of a class, as a keyword or a mark, before more
  after : {A : Type 0} → (T → Bool) → Grammar T A → Grammar T A
  -- nothing, which means this value
  empty : {A : Type 0} → A → Grammar T A
  -- one rule, and behind it another
  both : {A B : Type 0} → Grammar T A → Grammar T B → Grammar T (A × B)
  -- the same tokens, which mean something else
  to : {A B : Type 0} → (A → B) → Grammar T A → Grammar T B
  -- either of two rules
  choice : {A : Type 0} → Grammar T A → Grammar T A → Grammar T A
  -- one or more of a rule, with a token of a class between each two
  list : {A : Type 0} → (T → Bool) → Grammar T A → Grammar T (List A)
  -- any number of a rule, none among them, one behind the other
  many : {A : Type 0} → Grammar T A → Grammar T (List A)
