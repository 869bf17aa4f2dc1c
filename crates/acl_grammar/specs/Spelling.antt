-- What a grammar means: which whole lists of tokens spell which values, and where a list is to be refused.
use Rattle.std.specs.Prelude.{◌≡◌, ◌⊎◌, Bool, IsTrue, List, [], ◌∷◌, ◌++◌}
use mathlib.Core.Logic.{inl, inr}
use Rattle.acl_grammar.specs.Grammar.{Grammar}
use Rattle.acl_grammar.specs.Grammar.Grammar.{token, after, empty, both, to, choice, list, many}

-- `ts` is cut into a part for each value, and each part spells its value
abbrev pub repeated : {T A : Type 0} → (List T → A → Type 0) → List T → List A → Type 0
repeated P ts [] = ts ≡ []
repeated {T = T} P ts (v ∷ vs) =
    (us ws : List T) × (ts ≡ us ++ ws) × P us v × repeated P ws vs

-- the same of at least one value, with a token of the class between each two parts
abbrev pub separated : {T A : Type 0} → (T → Bool) → (List T → A → Type 0) → List T → List A → Type 0
separated is P ts [] = ⊥
separated is P ts (v ∷ []) = P ts v
separated {T = T} is P ts (v ∷ w ∷ vs) =
    (us : List T) × (t : T) × (ws : List T) × (ts ≡ us ++ t ∷ ws) × IsTrue (is t) × P us v
    × separated is P ws (w ∷ vs)

-- the whole list `ts` spells the value
abbrev pub spells : {T A : Type 0} → Grammar T A → List T → A → Type 0
spells {T = T} (token is value) ts v = (t : T) × IsTrue (is t) × (ts ≡ t ∷ []) × (v ≡ value t)
spells {T = T} (after is g) ts v = (t : T) × (us : List T) × IsTrue (is t) × (ts ≡ t ∷ us) × spells g us v
spells (empty a) ts v = (ts ≡ []) × (v ≡ a)
spells {T = T} (both g h) ts v =
    (us ws : List T) × (ts ≡ us ++ ws) × spells g us v.0 × spells h ws v.1
spells (to {A = A} f g) ts v = (a : A) × spells g ts a × (v ≡ f a)
spells (choice g h) ts v = spells g ts v ⊎ spells h ts v
spells (list is g) ts vs = separated is (spells g) ts vs
spells (many g) ts vs = repeated (spells g) ts vs

-- some list that begins with `front` spells something
pub record Viable {T A : Type 0} (P : List T → A → Type 0) (front : List T) : Type 0 where
  pub more : List T
  pub value : A
  pub spelled : P (front ++ more) value

-- no spelling goes on with what follows `front`: with its first token, or by ending where nothing follows
abbrev pub IsStuck : {T A : Type 0} → (List T → A → Type 0) → List T → List T → Type 0
IsStuck {A = A} P front [] = (v : A) → P front v → ⊥
IsStuck P front (t ∷ _) = Viable P (front ++ t ∷ []) → ⊥

-- `ts` spells nothing, and `bad` is what is left of it from the first token that no spelling has there
pub record Refused {T A : Type 0} (P : List T → A → Type 0) (ts bad : List T) : Type 0 where
  pub front : List T
  pub whole : ts ≡ front ++ bad
  pub viable : Viable P front
  pub stuck : IsStuck P front bad

-- either of two grammars with values of their own
abbrev pub one_of : {T A B : Type 0} → Grammar T A → Grammar T B → Grammar T (A ⊎ B)
one_of g h = choice (to inl g) (to inr h)

-- no list is spelled by both
abbrev pub Disjoint : {T A B : Type 0} → Grammar T A → Grammar T B → Type 0
Disjoint {T = T} {A = A} {B = B} g h = (ts : List T) (v : A) (w : B) → spells g ts v → spells h ts w → ⊥
